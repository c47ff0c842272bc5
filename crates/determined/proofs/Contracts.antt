-- Promise 2: "Any two answers that a function's contract allows coincide": of each public function, from its own contract. Written by
-- `tools/contracts write`, which leaves out what `Rest` says.
use Rattle.facts.proofs.ChoiceLaws.{coincide}
use Rattle.facts.proofs.both.Reads as facts_both
use Rattle.facts.proofs.either.Reads as facts_either
use Rattle.facts.proofs.saturating_sub.Reads as facts_saturating_sub
use Rattle.banking.proofs.or_one.Reads as banking_or_one
use Rattle.banking.proofs.rom_place.Reads as banking_rom_place
use Rattle.banking.proofs.ram_place.Reads as banking_ram_place
use Rattle.banking.proofs.banked_place.Reads as banking_banked_place
use Rattle.clock_registers.proofs.Registers.new.Reads as clock_registers_registers_new
use Rattle.clock_registers.proofs.Registers.fit.Reads as clock_registers_registers_fit
use Rattle.clock_registers.proofs.Registers.forward.Reads as clock_registers_registers_forward
use Rattle.clock_registers.proofs.Registers.get.Reads as clock_registers_registers_get
use Rattle.clock_registers.proofs.Registers.set.Reads as clock_registers_registers_set
use Rattle.image.proofs.byte_at.Reads as image_byte_at
use Rattle.image.proofs.padded_len.Reads as image_padded_len
use Rattle.image.proofs.logo_at.Reads as image_logo_at
use Rattle.image.proofs.is_multicart.Reads as image_is_multicart
use Rattle.image.proofs.checksum.Reads as image_checksum
use Rattle.image.proofs.is_colour.Reads as image_is_colour
use Rattle.types.proofs.find.Reads as types_find
use Rattle.types.proofs.is_supported.Reads as types_is_supported
use Rattle.types.proofs.is_beyond.Reads as types_is_beyond
use Rattle.utf8.proofs.is_utf8.Reads as utf8_is_utf8
use Rattle.clock.proofs.AdvanceRefusal.number.Reads as clock_advancerefusal_number
use Rattle.clock.proofs.Clock.new.Reads as clock_clock_new
use Rattle.clock.proofs.Clock.fit.Reads as clock_clock_fit
use Rattle.clock.proofs.Clock.tick.Reads as clock_clock_tick
use Rattle.clock.proofs.Clock.advance.Reads as clock_clock_advance
use Rattle.clock.proofs.Clock.read.Reads as clock_clock_read
use Rattle.clock.proofs.Clock.write.Reads as clock_clock_write
use Rattle.clock.proofs.Clock.latch.Reads as clock_clock_latch
use Rattle.mbc1.proofs.Mbc1.new.Reads as mbc1_mbc1_new
use Rattle.mbc1.proofs.Mbc1.write_register.Reads as mbc1_mbc1_write_register
use Rattle.mbc1.proofs.Mbc1.bank_0.Reads as mbc1_mbc1_bank_0
use Rattle.mbc1.proofs.Mbc1.bank_x.Reads as mbc1_mbc1_bank_x
use Rattle.mbc1.proofs.Mbc1.ram_at.Reads as mbc1_mbc1_ram_at
use Rattle.mbc1.proofs.Mbc1.fit.Reads as mbc1_mbc1_fit
use Rattle.mbc2.proofs.Mbc2.new.Reads as mbc2_mbc2_new
use Rattle.mbc2.proofs.Mbc2.write_register.Reads as mbc2_mbc2_write_register
use Rattle.mbc2.proofs.Mbc2.bank_0.Reads as mbc2_mbc2_bank_0
use Rattle.mbc2.proofs.Mbc2.bank_x.Reads as mbc2_mbc2_bank_x
use Rattle.mbc2.proofs.Mbc2.read_half.Reads as mbc2_mbc2_read_half
use Rattle.mbc2.proofs.Mbc2.write_half.Reads as mbc2_mbc2_write_half
use Rattle.mbc2.proofs.Mbc2.fit.Reads as mbc2_mbc2_fit
use Rattle.mbc5.proofs.Mbc5.new.Reads as mbc5_mbc5_new
use Rattle.mbc5.proofs.Mbc5.write_register.Reads as mbc5_mbc5_write_register
use Rattle.mbc5.proofs.Mbc5.bank_0.Reads as mbc5_mbc5_bank_0
use Rattle.mbc5.proofs.Mbc5.bank_x.Reads as mbc5_mbc5_bank_x
use Rattle.mbc5.proofs.Mbc5.ram_at.Reads as mbc5_mbc5_ram_at
use Rattle.mbc5.proofs.Mbc5.fit.Reads as mbc5_mbc5_fit
use Rattle.no_mapper.proofs.NoMapper.new.Reads as no_mapper_nomapper_new
use Rattle.no_mapper.proofs.NoMapper.write_register.Reads as no_mapper_nomapper_write_register
use Rattle.no_mapper.proofs.NoMapper.bank_0.Reads as no_mapper_nomapper_bank_0
use Rattle.no_mapper.proofs.NoMapper.bank_x.Reads as no_mapper_nomapper_bank_x
use Rattle.no_mapper.proofs.NoMapper.ram_at.Reads as no_mapper_nomapper_ram_at
use Rattle.no_mapper.proofs.NoMapper.fit.Reads as no_mapper_nomapper_fit
use Rattle.trace.proofs.TraceRefusal.number.Reads as trace_tracerefusal_number
use Rattle.trace.proofs.TraceRefusal.place.Reads as trace_tracerefusal_place
use Rattle.trace.proofs.Reader.new.Reads as trace_reader_new
use Rattle.trace.proofs.Reader.moved.Reads as trace_reader_moved
use Rattle.trace.proofs.Reader.next.Reads as trace_reader_next
use Rattle.trace.proofs.next_record.Reads as trace_next_record
use Rattle.clock_block.proofs.BlockRefusal.number.Reads as clock_block_blockrefusal_number
use Rattle.clock_block.proofs.Block.new.Reads as clock_block_block_new
use Rattle.clock_block.proofs.Block.read.Reads as clock_block_block_read
use Rattle.clock_block.proofs.Block.write.Reads as clock_block_block_write
use Rattle.clock_block.proofs.Block.wake.Reads as clock_block_block_wake
use Rattle.header.proofs.HeaderRefusal.number.Reads as header_headerrefusal_number
use Rattle.header.proofs.check.Reads as header_check
use Rattle.mbc3.proofs.selects.Reads as mbc3_selects
use Rattle.mbc3.proofs.bad_selection.Reads as mbc3_bad_selection
use Rattle.mbc3.proofs.Mbc3.new.Reads as mbc3_mbc3_new
use Rattle.mbc3.proofs.Mbc3.write_register.Reads as mbc3_mbc3_write_register
use Rattle.mbc3.proofs.Mbc3.bank_0.Reads as mbc3_mbc3_bank_0
use Rattle.mbc3.proofs.Mbc3.bank_x.Reads as mbc3_mbc3_bank_x
use Rattle.mbc3.proofs.Mbc3.ram_at.Reads as mbc3_mbc3_ram_at
use Rattle.mbc3.proofs.Mbc3.fit.Reads as mbc3_mbc3_fit
use Rattle.state_fields.proofs.put_flag.Reads as state_fields_put_flag
use Rattle.state_fields.proofs.flag_at.Reads as state_fields_flag_at
use Rattle.state_fields.proofs.is_flag.Reads as state_fields_is_flag
use Rattle.state_fields.proofs.put_clock.Reads as state_fields_put_clock
use Rattle.state_fields.proofs.clock_in.Reads as state_fields_clock_in
use Rattle.state_fields.proofs.are_clock_flags.Reads as state_fields_are_clock_flags
use Rattle.state_fields.proofs.fit_clock_registers.Reads as state_fields_fit_clock_registers
use Rattle.timer.proofs.on_clock.Reads as timer_on_clock
use Rattle.timer.proofs.read.Reads as timer_read
use Rattle.timer.proofs.write.Reads as timer_write
use Rattle.timer.proofs.advance.Reads as timer_advance
use Rattle.mapper.proofs.Mapper.holds.Reads as mapper_mapper_holds
use Rattle.mapper.proofs.Mapper.fit.Reads as mapper_mapper_fit
use Rattle.mapper.proofs.Mapper.area.Reads as mapper_mapper_area
use Rattle.mapper.proofs.Mapper.is_area.Reads as mapper_mapper_is_area
use Rattle.mapper.proofs.Mapper.bank_at.Reads as mapper_mapper_bank_at
use Rattle.mapper.proofs.Mapper.write_register.Reads as mapper_mapper_write_register
use Rattle.mapper.proofs.Mapper.bad_selection.Reads as mapper_mapper_bad_selection
use Rattle.mapper.proofs.Mapper.advance.Reads as mapper_mapper_advance
use Rattle.window.proofs.way_of.Reads as window_way_of
use Rattle.window.proofs.load.Reads as window_load
use Rattle.window.proofs.read.Reads as window_read
use Rattle.window.proofs.write.Reads as window_write
use Rattle.battery.proofs.clock_in.Reads as battery_clock_in
use Rattle.battery.proofs.save_battery_size.Reads as battery_save_battery_size
use Rattle.battery.proofs.save_battery.Reads as battery_save_battery
use Rattle.battery.proofs.load_battery.Reads as battery_load_battery
use Rattle.cartridge.proofs.is_bank_count.Reads as cartridge_is_bank_count
use Rattle.cartridge.proofs.is_ram_size.Reads as cartridge_is_ram_size
use Rattle.cartridge.proofs.fills.Reads as cartridge_fills
use Rattle.cartridge.proofs.Cartridge.fit_board.Reads as cartridge_cartridge_fit_board
use Rattle.cartridge.proofs.Cartridge.fit.Reads as cartridge_cartridge_fit
use Rattle.cartridge.proofs.Cartridge.is_area.Reads as cartridge_cartridge_is_area
use Rattle.access.proofs.BusRefusal.number.Reads as access_busrefusal_number
use Rattle.access.proofs.decide.Reads as access_decide
use Rattle.access.proofs.judge.Reads as access_judge
use Rattle.mount.proofs.MountRefusal.number.Reads as mount_mountrefusal_number
use Rattle.mount.proofs.start.Reads as mount_start
use Rattle.mount.proofs.area_of.Reads as mount_area_of
use Rattle.mount.proofs.ask_area.Reads as mount_ask_area
use Rattle.mount.proofs.mount.Reads as mount_mount
use Rattle.bus.proofs.read.Reads as bus_read
use Rattle.bus.proofs.write.Reads as bus_write
use Rattle.bus.proofs.advance.Reads as bus_advance
use Rattle.states.proofs.encode.Reads as states_encode
use Rattle.states.proofs.are_flags.Reads as states_are_flags
use Rattle.states.proofs.mbc1_in.Reads as states_mbc1_in
use Rattle.states.proofs.mbc2_in.Reads as states_mbc2_in
use Rattle.states.proofs.untimed_in.Reads as states_untimed_in
use Rattle.states.proofs.timed_in.Reads as states_timed_in
use Rattle.states.proofs.mbc5_in.Reads as states_mbc5_in
use Rattle.states.proofs.mapper_in.Reads as states_mapper_in
use Rattle.states.proofs.decode.Reads as states_decode
use Rattle.windows.proofs.bytes_at.Reads as windows_bytes_at
use Rattle.windows.proofs.halves_at.Reads as windows_halves_at
use Rattle.windows.proofs.asks.Reads as windows_asks
use Rattle.windows.proofs.rom_at.Reads as windows_rom_at
use Rattle.windows.proofs.of.Reads as windows_of
use Rattle.windows.proofs.rom_byte.Reads as windows_rom_byte
use Rattle.windows.proofs.read.Reads as windows_read
use Rattle.windows.proofs.write.Reads as windows_write
use Rattle.save_file.proofs.SaveRefusal.number.Reads as save_file_saverefusal_number
use Rattle.save_file.proofs.ask_room.Reads as save_file_ask_room
use Rattle.save_file.proofs.save.Reads as save_file_save
use Rattle.save_file.proofs.load.Reads as save_file_load
use Rattle.flat.proofs.fit.Reads as flat_fit
use Rattle.flat.proofs.is_area.Reads as flat_is_area
use Rattle.flat.proofs.bank_0.Reads as flat_bank_0
use Rattle.flat.proofs.bank_x.Reads as flat_bank_x
use Rattle.flat.proofs.read.Reads as flat_read
use Rattle.flat_write.proofs.write.Reads as flat_write_write
use Rattle.flat_write.proofs.advance.Reads as flat_write_advance
use Rattle.flat_windows.proofs.of.Reads as flat_windows_of
use Rattle.replay_program.proofs.write.Reads as replay_program_write
use Rattle.player.proofs.imf_header.Reads as player_imf_header
use Rattle.player.proofs.imf_mount.Reads as player_imf_mount
use Rattle.player.proofs.imf_read.Reads as player_imf_read
use Rattle.player.proofs.imf_write.Reads as player_imf_write
use Rattle.player.proofs.imf_advance.Reads as player_imf_advance
use Rattle.player.proofs.imf_save_size.Reads as player_imf_save_size
use Rattle.player.proofs.imf_save_out.Reads as player_imf_save_out
use Rattle.player.proofs.imf_save_in.Reads as player_imf_save_in
use Rattle.player.proofs.imf_windows.Reads as player_imf_windows
use Rattle.player.proofs.imf_window_read.Reads as player_imf_window_read
use Rattle.player.proofs.imf_window_write.Reads as player_imf_window_write
use Rattle.determined.specs.Determined.{Answers, Leaves}

pub facts_both_answer : Answers facts_both.Learnt
facts_both_answer k a x y s t p q = coincide p q

pub facts_either_answer : Answers facts_either.Learnt
facts_either_answer k a x y s t p q = coincide p q

pub facts_saturating_sub_answer : Answers facts_saturating_sub.Learnt
facts_saturating_sub_answer k a x y s t p q = coincide p q

pub banking_or_one_answer : Answers banking_or_one.Learnt
banking_or_one_answer k a x y s t p q = coincide p q

pub banking_rom_place_answer : Answers banking_rom_place.Learnt
banking_rom_place_answer k a x y s t p q = coincide p q

pub banking_ram_place_answer : Answers banking_ram_place.Learnt
banking_ram_place_answer k a x y s t p q = coincide p q

pub banking_banked_place_answer : Answers banking_banked_place.Learnt
banking_banked_place_answer k a x y s t p q = coincide p q

pub clock_registers_registers_new_answer : Answers clock_registers_registers_new.Learnt
clock_registers_registers_new_answer k a x y s t p q = coincide p q

pub clock_registers_registers_fit_answer : Answers clock_registers_registers_fit.Learnt
clock_registers_registers_fit_answer k a x y s t p q = coincide p q

pub clock_registers_registers_forward_answer : Answers clock_registers_registers_forward.Learnt
clock_registers_registers_forward_answer k a x y s t p q = coincide p q

pub clock_registers_registers_get_answer : Answers clock_registers_registers_get.Learnt
clock_registers_registers_get_answer k a x y s t p q = coincide p q

pub clock_registers_registers_set_answer : Answers clock_registers_registers_set.Learnt
clock_registers_registers_set_answer k a x y s t p q = coincide p q

pub image_byte_at_answer : Answers image_byte_at.Learnt
image_byte_at_answer k a x y s t p q = coincide p q

pub image_padded_len_answer : Answers image_padded_len.Learnt
image_padded_len_answer k a x y s t p q = coincide p q

pub image_logo_at_answer : Answers image_logo_at.Learnt
image_logo_at_answer k a x y s t p q = coincide p q

pub image_is_multicart_answer : Answers image_is_multicart.Learnt
image_is_multicart_answer k a x y s t p q = coincide p q

pub image_checksum_answer : Answers image_checksum.Learnt
image_checksum_answer k a x y s t p q = coincide p q

pub image_is_colour_answer : Answers image_is_colour.Learnt
image_is_colour_answer k a x y s t p q = coincide p q

pub types_find_answer : Answers types_find.Learnt
types_find_answer k a x y s t p q = coincide p q

pub types_is_supported_answer : Answers types_is_supported.Learnt
types_is_supported_answer k a x y s t p q = coincide p q

pub types_is_beyond_answer : Answers types_is_beyond.Learnt
types_is_beyond_answer k a x y s t p q = coincide p q

pub utf8_is_utf8_answer : Answers utf8_is_utf8.Learnt
utf8_is_utf8_answer k a x y s t p q = coincide p q

pub clock_advancerefusal_number_answer : Answers clock_advancerefusal_number.Learnt
clock_advancerefusal_number_answer k a x y s t p q = coincide p q

pub clock_clock_new_answer : Answers clock_clock_new.Learnt
clock_clock_new_answer k a x y s t p q = coincide p q

pub clock_clock_fit_answer : Answers clock_clock_fit.Learnt
clock_clock_fit_answer k a x y s t p q = coincide p q

pub clock_clock_tick_answer : Answers clock_clock_tick.Learnt
clock_clock_tick_answer k a x y s t p q = coincide p q

pub clock_clock_advance_answer : Answers clock_clock_advance.Learnt
clock_clock_advance_answer k a x y s t p q = coincide p q

pub clock_clock_read_answer : Answers clock_clock_read.Learnt
clock_clock_read_answer k a x y s t p q = coincide p q

pub clock_clock_write_answer : Answers clock_clock_write.Learnt
clock_clock_write_answer k a x y s t p q = coincide p q

pub clock_clock_latch_answer : Answers clock_clock_latch.Learnt
clock_clock_latch_answer k a x y s t p q = coincide p q

pub mbc1_mbc1_new_answer : Answers mbc1_mbc1_new.Learnt
mbc1_mbc1_new_answer k a x y s t p q = coincide p q

pub mbc1_mbc1_write_register_answer : Answers mbc1_mbc1_write_register.Learnt
mbc1_mbc1_write_register_answer k a x y s t p q = coincide p q

pub mbc1_mbc1_bank_0_answer : Answers mbc1_mbc1_bank_0.Learnt
mbc1_mbc1_bank_0_answer k a x y s t p q = coincide p q

pub mbc1_mbc1_bank_x_answer : Answers mbc1_mbc1_bank_x.Learnt
mbc1_mbc1_bank_x_answer k a x y s t p q = coincide p q

pub mbc1_mbc1_ram_at_answer : Answers mbc1_mbc1_ram_at.Learnt
mbc1_mbc1_ram_at_answer k a x y s t p q = coincide p q

pub mbc1_mbc1_fit_answer : Answers mbc1_mbc1_fit.Learnt
mbc1_mbc1_fit_answer k a x y s t p q = coincide p q

pub mbc2_mbc2_new_answer : Answers mbc2_mbc2_new.Learnt
mbc2_mbc2_new_answer k a x y s t p q = coincide p q

pub mbc2_mbc2_write_register_answer : Answers mbc2_mbc2_write_register.Learnt
mbc2_mbc2_write_register_answer k a x y s t p q = coincide p q

pub mbc2_mbc2_bank_0_answer : Answers mbc2_mbc2_bank_0.Learnt
mbc2_mbc2_bank_0_answer k a x y s t p q = coincide p q

pub mbc2_mbc2_bank_x_answer : Answers mbc2_mbc2_bank_x.Learnt
mbc2_mbc2_bank_x_answer k a x y s t p q = coincide p q

pub mbc2_mbc2_read_half_answer : Answers mbc2_mbc2_read_half.Learnt
mbc2_mbc2_read_half_answer k a x y s t p q = coincide p q

pub mbc2_mbc2_write_half_half : Leaves mbc2_mbc2_write_half.Learnt (λ k s. s.1.0.now)
mbc2_mbc2_write_half_half k a x y s t p q = coincide p q

pub mbc2_mbc2_fit_answer : Answers mbc2_mbc2_fit.Learnt
mbc2_mbc2_fit_answer k a x y s t p q = coincide p q

pub mbc5_mbc5_new_answer : Answers mbc5_mbc5_new.Learnt
mbc5_mbc5_new_answer k a x y s t p q = coincide p q

pub mbc5_mbc5_write_register_answer : Answers mbc5_mbc5_write_register.Learnt
mbc5_mbc5_write_register_answer k a x y s t p q = coincide p q

pub mbc5_mbc5_bank_0_answer : Answers mbc5_mbc5_bank_0.Learnt
mbc5_mbc5_bank_0_answer k a x y s t p q = coincide p q

pub mbc5_mbc5_bank_x_answer : Answers mbc5_mbc5_bank_x.Learnt
mbc5_mbc5_bank_x_answer k a x y s t p q = coincide p q

pub mbc5_mbc5_ram_at_answer : Answers mbc5_mbc5_ram_at.Learnt
mbc5_mbc5_ram_at_answer k a x y s t p q = coincide p q

pub mbc5_mbc5_fit_answer : Answers mbc5_mbc5_fit.Learnt
mbc5_mbc5_fit_answer k a x y s t p q = coincide p q

pub no_mapper_nomapper_new_answer : Answers no_mapper_nomapper_new.Learnt
no_mapper_nomapper_new_answer k a x y s t p q = coincide p q

pub no_mapper_nomapper_write_register_answer : Answers no_mapper_nomapper_write_register.Learnt
no_mapper_nomapper_write_register_answer k a x y s t p q = coincide p q

pub no_mapper_nomapper_bank_0_answer : Answers no_mapper_nomapper_bank_0.Learnt
no_mapper_nomapper_bank_0_answer k a x y s t p q = coincide p q

pub no_mapper_nomapper_bank_x_answer : Answers no_mapper_nomapper_bank_x.Learnt
no_mapper_nomapper_bank_x_answer k a x y s t p q = coincide p q

pub no_mapper_nomapper_ram_at_answer : Answers no_mapper_nomapper_ram_at.Learnt
no_mapper_nomapper_ram_at_answer k a x y s t p q = coincide p q

pub no_mapper_nomapper_fit_answer : Answers no_mapper_nomapper_fit.Learnt
no_mapper_nomapper_fit_answer k a x y s t p q = coincide p q

pub trace_tracerefusal_number_answer : Answers trace_tracerefusal_number.Learnt
trace_tracerefusal_number_answer k a x y s t p q = coincide p q

pub trace_tracerefusal_place_answer : Answers trace_tracerefusal_place.Learnt
trace_tracerefusal_place_answer k a x y s t p q = coincide p q

pub trace_reader_new_answer : Answers trace_reader_new.Learnt
trace_reader_new_answer k a x y s t p q = coincide p q

pub trace_reader_moved_answer : Answers trace_reader_moved.Learnt
trace_reader_moved_answer k a x y s t p q = coincide p q

pub trace_reader_next_answer : Answers trace_reader_next.Learnt
trace_reader_next_answer k a x y s t p q = coincide p q

pub trace_next_record_answer : Answers trace_next_record.Learnt
trace_next_record_answer k a x y s t p q = coincide p q

pub clock_block_blockrefusal_number_answer : Answers clock_block_blockrefusal_number.Learnt
clock_block_blockrefusal_number_answer k a x y s t p q = coincide p q

pub clock_block_block_new_answer : Answers clock_block_block_new.Learnt
clock_block_block_new_answer k a x y s t p q = coincide p q

pub clock_block_block_read_answer : Answers clock_block_block_read.Learnt
clock_block_block_read_answer k a x y s t p q = coincide p q

pub clock_block_block_write_room : Leaves clock_block_block_write.Learnt (λ k s. s.1.0.now)
clock_block_block_write_room k a x y s t p q = coincide p q

pub clock_block_block_wake_answer : Answers clock_block_block_wake.Learnt
clock_block_block_wake_answer k a x y s t p q = coincide p q

pub header_headerrefusal_number_answer : Answers header_headerrefusal_number.Learnt
header_headerrefusal_number_answer k a x y s t p q = coincide p q

pub header_check_answer : Answers header_check.Learnt
header_check_answer k a x y s t p q = coincide p q

pub mbc3_selects_answer : Answers mbc3_selects.Learnt
mbc3_selects_answer k a x y s t p q = coincide p q

pub mbc3_bad_selection_answer : Answers mbc3_bad_selection.Learnt
mbc3_bad_selection_answer k a x y s t p q = coincide p q

pub mbc3_mbc3_new_answer : Answers mbc3_mbc3_new.Learnt
mbc3_mbc3_new_answer k a x y s t p q = coincide p q

pub mbc3_mbc3_write_register_answer : Answers mbc3_mbc3_write_register.Learnt
mbc3_mbc3_write_register_answer k a x y s t p q = coincide p q

pub mbc3_mbc3_bank_0_answer : Answers mbc3_mbc3_bank_0.Learnt
mbc3_mbc3_bank_0_answer k a x y s t p q = coincide p q

pub mbc3_mbc3_bank_x_answer : Answers mbc3_mbc3_bank_x.Learnt
mbc3_mbc3_bank_x_answer k a x y s t p q = coincide p q

pub mbc3_mbc3_ram_at_answer : Answers mbc3_mbc3_ram_at.Learnt
mbc3_mbc3_ram_at_answer k a x y s t p q = coincide p q

pub mbc3_mbc3_fit_answer : Answers mbc3_mbc3_fit.Learnt
mbc3_mbc3_fit_answer k a x y s t p q = coincide p q

pub state_fields_put_flag_s : Leaves state_fields_put_flag.Learnt (λ k s. s.0.now)
state_fields_put_flag_s k a x y s t p q = coincide p q

pub state_fields_flag_at_answer : Answers state_fields_flag_at.Learnt
state_fields_flag_at_answer k a x y s t p q = coincide p q

pub state_fields_is_flag_answer : Answers state_fields_is_flag.Learnt
state_fields_is_flag_answer k a x y s t p q = coincide p q

pub state_fields_put_clock_s : Leaves state_fields_put_clock.Learnt (λ k s. s.0.now)
state_fields_put_clock_s k a x y s t p q = coincide p q

pub state_fields_clock_in_answer : Answers state_fields_clock_in.Learnt
state_fields_clock_in_answer k a x y s t p q = coincide p q

pub state_fields_are_clock_flags_answer : Answers state_fields_are_clock_flags.Learnt
state_fields_are_clock_flags_answer k a x y s t p q = coincide p q

pub state_fields_fit_clock_registers_answer : Answers state_fields_fit_clock_registers.Learnt
state_fields_fit_clock_registers_answer k a x y s t p q = coincide p q

pub timer_on_clock_answer : Answers timer_on_clock.Learnt
timer_on_clock_answer k a x y s t p q = coincide p q

pub timer_read_answer : Answers timer_read.Learnt
timer_read_answer k a x y s t p q = coincide p q

pub timer_write_answer : Answers timer_write.Learnt
timer_write_answer k a x y s t p q = coincide p q

pub timer_advance_answer : Answers timer_advance.Learnt
timer_advance_answer k a x y s t p q = coincide p q

pub mapper_mapper_holds_answer : Answers mapper_mapper_holds.Learnt
mapper_mapper_holds_answer k a x y s t p q = coincide p q

pub mapper_mapper_fit_answer : Answers mapper_mapper_fit.Learnt
mapper_mapper_fit_answer k a x y s t p q = coincide p q

pub mapper_mapper_area_answer : Answers mapper_mapper_area.Learnt
mapper_mapper_area_answer k a x y s t p q = coincide p q

pub mapper_mapper_is_area_answer : Answers mapper_mapper_is_area.Learnt
mapper_mapper_is_area_answer k a x y s t p q = coincide p q

pub mapper_mapper_bank_at_answer : Answers mapper_mapper_bank_at.Learnt
mapper_mapper_bank_at_answer k a x y s t p q = coincide p q

pub mapper_mapper_write_register_answer : Answers mapper_mapper_write_register.Learnt
mapper_mapper_write_register_answer k a x y s t p q = coincide p q

pub mapper_mapper_bad_selection_answer : Answers mapper_mapper_bad_selection.Learnt
mapper_mapper_bad_selection_answer k a x y s t p q = coincide p q

pub mapper_mapper_advance_answer : Answers mapper_mapper_advance.Learnt
mapper_mapper_advance_answer k a x y s t p q = coincide p q

pub window_way_of_answer : Answers window_way_of.Learnt
window_way_of_answer k a x y s t p q = coincide p q

pub window_load_answer : Answers window_load.Learnt
window_load_answer k a x y s t p q = coincide p q

pub window_read_answer : Answers window_read.Learnt
window_read_answer k a x y s t p q = coincide p q

pub window_write_answer : Answers window_write.Learnt
window_write_answer k a x y s t p q = coincide p.0 q.0

pub window_write_ram : Leaves window_write.Learnt (λ k s. s.1.1.0.now)
window_write_ram k a x y s t p q = coincide p.1 q.1

pub battery_clock_in_answer : Answers battery_clock_in.Learnt
battery_clock_in_answer k a x y s t p q = coincide p q

pub battery_save_battery_size_answer : Answers battery_save_battery_size.Learnt
battery_save_battery_size_answer k a x y s t p q = coincide p q

pub battery_save_battery_room : Leaves battery_save_battery.Learnt (λ k s. s.1.1.0.now)
battery_save_battery_room k a x y s t p q = coincide p q

pub battery_load_battery_answer : Answers battery_load_battery.Learnt
battery_load_battery_answer k a x y s t p q = coincide p q

pub cartridge_is_bank_count_answer : Answers cartridge_is_bank_count.Learnt
cartridge_is_bank_count_answer k a x y s t p q = coincide p q

pub cartridge_is_ram_size_answer : Answers cartridge_is_ram_size.Learnt
cartridge_is_ram_size_answer k a x y s t p q = coincide p q

pub cartridge_fills_answer : Answers cartridge_fills.Learnt
cartridge_fills_answer k a x y s t p q = coincide p q

pub cartridge_cartridge_fit_board_answer : Answers cartridge_cartridge_fit_board.Learnt
cartridge_cartridge_fit_board_answer k a x y s t p q = coincide p q

pub cartridge_cartridge_fit_answer : Answers cartridge_cartridge_fit.Learnt
cartridge_cartridge_fit_answer k a x y s t p q = coincide p q

pub cartridge_cartridge_is_area_answer : Answers cartridge_cartridge_is_area.Learnt
cartridge_cartridge_is_area_answer k a x y s t p q = coincide p q

pub access_busrefusal_number_answer : Answers access_busrefusal_number.Learnt
access_busrefusal_number_answer k a x y s t p q = coincide p q

pub access_decide_answer : Answers access_decide.Learnt
access_decide_answer k a x y s t p q = coincide p q

pub access_judge_answer : Answers access_judge.Learnt
access_judge_answer k a x y s t p q = coincide p q

pub mount_mountrefusal_number_answer : Answers mount_mountrefusal_number.Learnt
mount_mountrefusal_number_answer k a x y s t p q = coincide p q

pub mount_start_answer : Answers mount_start.Learnt
mount_start_answer k a x y s t p q = coincide p q

pub mount_area_of_answer : Answers mount_area_of.Learnt
mount_area_of_answer k a x y s t p q = coincide p q

pub mount_ask_area_answer : Answers mount_ask_area.Learnt
mount_ask_area_answer k a x y s t p q = coincide p q

pub mount_mount_answer : Answers mount_mount.Learnt
mount_mount_answer k a x y s t p q = coincide p.0 q.0

pub mount_mount_ram : Leaves mount_mount.Learnt (λ k s. s.1.0.now)
mount_mount_ram k a x y s t p q = coincide p.1 q.1

pub bus_read_answer : Answers bus_read.Learnt
bus_read_answer k a x y s t p q = coincide p q

pub bus_write_answer : Answers bus_write.Learnt
bus_write_answer k a x y s t p q = coincide p.0 q.0

pub bus_write_ram : Leaves bus_write.Learnt (λ k s. s.1.0.now)
bus_write_ram k a x y s t p q = coincide p.1 q.1

pub bus_advance_answer : Answers bus_advance.Learnt
bus_advance_answer k a x y s t p q = coincide p q

pub states_encode_s : Leaves states_encode.Learnt (λ k s. s.1.0.now)
states_encode_s k a x y s t p q = coincide p q

pub states_are_flags_answer : Answers states_are_flags.Learnt
states_are_flags_answer k a x y s t p q = coincide p q

pub states_mbc1_in_answer : Answers states_mbc1_in.Learnt
states_mbc1_in_answer k a x y s t p q = coincide p q

pub states_mbc2_in_answer : Answers states_mbc2_in.Learnt
states_mbc2_in_answer k a x y s t p q = coincide p q

pub states_untimed_in_answer : Answers states_untimed_in.Learnt
states_untimed_in_answer k a x y s t p q = coincide p q

pub states_timed_in_answer : Answers states_timed_in.Learnt
states_timed_in_answer k a x y s t p q = coincide p q

pub states_mbc5_in_answer : Answers states_mbc5_in.Learnt
states_mbc5_in_answer k a x y s t p q = coincide p q

pub states_mapper_in_answer : Answers states_mapper_in.Learnt
states_mapper_in_answer k a x y s t p q = coincide p q

pub states_decode_answer : Answers states_decode.Learnt
states_decode_answer k a x y s t p q = coincide p q

pub windows_bytes_at_answer : Answers windows_bytes_at.Learnt
windows_bytes_at_answer k a x y s t p q = coincide p q

pub windows_halves_at_answer : Answers windows_halves_at.Learnt
windows_halves_at_answer k a x y s t p q = coincide p q

pub windows_asks_answer : Answers windows_asks.Learnt
windows_asks_answer k a x y s t p q = coincide p q

pub windows_rom_at_answer : Answers windows_rom_at.Learnt
windows_rom_at_answer k a x y s t p q = coincide p q

pub windows_of_answer : Answers windows_of.Learnt
windows_of_answer k a x y s t p q = coincide p q

pub windows_rom_byte_answer : Answers windows_rom_byte.Learnt
windows_rom_byte_answer k a x y s t p q = coincide p q

pub windows_read_answer : Answers windows_read.Learnt
windows_read_answer k a x y s t p q = coincide p q

pub windows_write_answer : Answers windows_write.Learnt
windows_write_answer k a x y s t p q = coincide p.0 q.0

pub windows_write_ram : Leaves windows_write.Learnt (λ k s. s.1.0.now)
windows_write_ram k a x y s t p q = coincide p.1 q.1

pub save_file_saverefusal_number_answer : Answers save_file_saverefusal_number.Learnt
save_file_saverefusal_number_answer k a x y s t p q = coincide p q

pub save_file_ask_room_answer : Answers save_file_ask_room.Learnt
save_file_ask_room_answer k a x y s t p q = coincide p q

pub save_file_save_answer : Answers save_file_save.Learnt
save_file_save_answer k a x y s t p q = coincide p.0 q.0

pub save_file_save_room : Leaves save_file_save.Learnt (λ k s. s.1.1.0.now)
save_file_save_room k a x y s t p q = coincide p.1 q.1

pub save_file_load_answer : Answers save_file_load.Learnt
save_file_load_answer k a x y s t p q = coincide p.0 q.0

pub save_file_load_ram : Leaves save_file_load.Learnt (λ k s. s.1.0.now)
save_file_load_ram k a x y s t p q = coincide p.1 q.1

pub flat_fit_answer : Answers flat_fit.Learnt
flat_fit_answer k a x y s t p q = coincide p q

pub flat_is_area_answer : Answers flat_is_area.Learnt
flat_is_area_answer k a x y s t p q = coincide p q

pub flat_bank_0_answer : Answers flat_bank_0.Learnt
flat_bank_0_answer k a x y s t p q = coincide p q

pub flat_bank_x_answer : Answers flat_bank_x.Learnt
flat_bank_x_answer k a x y s t p q = coincide p q

pub flat_read_answer : Answers flat_read.Learnt
flat_read_answer k a x y s t p q = coincide p q

pub flat_write_write_answer : Answers flat_write_write.Learnt
flat_write_write_answer k a x y s t p q = coincide p.0 q.0

pub flat_write_write_s : Leaves flat_write_write.Learnt (λ k s. s.0.now)
flat_write_write_s k a x y s t p q = coincide p.1.0 q.1.0

pub flat_write_write_ram : Leaves flat_write_write.Learnt (λ k s. s.1.0.now)
flat_write_write_ram k a x y s t p q = coincide p.1.1 q.1.1

pub flat_write_advance_answer : Answers flat_write_advance.Learnt
flat_write_advance_answer k a x y s t p q = coincide p.0 q.0

pub flat_write_advance_s : Leaves flat_write_advance.Learnt (λ k s. s.0.now)
flat_write_advance_s k a x y s t p q = coincide p.1 q.1

pub flat_windows_of_answer : Answers flat_windows_of.Learnt
flat_windows_of_answer k a x y s t p q = coincide p q

pub replay_program_write_answer : Answers replay_program_write.Learnt
replay_program_write_answer k a x y s t p q = coincide p.0 q.0

pub replay_program_write_room : Leaves replay_program_write.Learnt (λ k s. s.1.1.1.0.now)
replay_program_write_room k a x y s t p q = coincide p.1.0 q.1.0

pub replay_program_write_ram : Leaves replay_program_write.Learnt (λ k s. s.1.1.0.now)
replay_program_write_ram k a x y s t p q = coincide p.1.1 q.1.1

pub player_imf_header_answer : Answers player_imf_header.Learnt
player_imf_header_answer k a x y s t p q = coincide p.0 q.0

pub player_imf_header_facts : Leaves player_imf_header.Learnt (λ k s. s.1.0.now)
player_imf_header_facts k a x y s t p q = coincide p.1 q.1

pub player_imf_mount_answer : Answers player_imf_mount.Learnt
player_imf_mount_answer k a x y s t p q = coincide p.0 q.0

pub player_imf_mount_state : Leaves player_imf_mount.Learnt (λ k s. s.0.now)
player_imf_mount_state k a x y s t p q = coincide p.1.0 q.1.0

pub player_imf_mount_ram : Leaves player_imf_mount.Learnt (λ k s. s.1.1.0.now)
player_imf_mount_ram k a x y s t p q = coincide p.1.1 q.1.1

pub player_imf_read_answer : Answers player_imf_read.Learnt
player_imf_read_answer k a x y s t p q = coincide p q

pub player_imf_write_answer : Answers player_imf_write.Learnt
player_imf_write_answer k a x y s t p q = coincide p.0 q.0

pub player_imf_write_state : Leaves player_imf_write.Learnt (λ k s. s.0.now)
player_imf_write_state k a x y s t p q = coincide p.1.0 q.1.0

pub player_imf_write_ram : Leaves player_imf_write.Learnt (λ k s. s.1.0.now)
player_imf_write_ram k a x y s t p q = coincide p.1.1 q.1.1

pub player_imf_advance_answer : Answers player_imf_advance.Learnt
player_imf_advance_answer k a x y s t p q = coincide p.0 q.0

pub player_imf_advance_state : Leaves player_imf_advance.Learnt (λ k s. s.0.now)
player_imf_advance_state k a x y s t p q = coincide p.1 q.1

pub player_imf_save_size_answer : Answers player_imf_save_size.Learnt
player_imf_save_size_answer k a x y s t p q = coincide p.0 q.0

pub player_imf_save_size_size : Leaves player_imf_save_size.Learnt (λ k s. s.1.0.now)
player_imf_save_size_size k a x y s t p q = coincide p.1 q.1

pub player_imf_save_out_answer : Answers player_imf_save_out.Learnt
player_imf_save_out_answer k a x y s t p q = coincide p.0 q.0

pub player_imf_save_out_room : Leaves player_imf_save_out.Learnt (λ k s. s.1.1.0.now)
player_imf_save_out_room k a x y s t p q = coincide p.1.0 q.1.0

pub player_imf_save_out_size : Leaves player_imf_save_out.Learnt (λ k s. s.1.1.1.1.0.now)
player_imf_save_out_size k a x y s t p q = coincide p.1.1 q.1.1

pub player_imf_save_in_answer : Answers player_imf_save_in.Learnt
player_imf_save_in_answer k a x y s t p q = coincide p.0 q.0

pub player_imf_save_in_state : Leaves player_imf_save_in.Learnt (λ k s. s.0.now)
player_imf_save_in_state k a x y s t p q = coincide p.1.0 q.1.0

pub player_imf_save_in_ram : Leaves player_imf_save_in.Learnt (λ k s. s.1.0.now)
player_imf_save_in_ram k a x y s t p q = coincide p.1.1.0 q.1.1.0

pub player_imf_save_in_clock : Leaves player_imf_save_in.Learnt (λ k s. s.1.1.1.1.0.now)
player_imf_save_in_clock k a x y s t p q = coincide p.1.1.1 q.1.1.1

pub player_imf_windows_answer : Answers player_imf_windows.Learnt
player_imf_windows_answer k a x y s t p q = coincide p.0 q.0

pub player_imf_windows_windows : Leaves player_imf_windows.Learnt (λ k s. s.1.0.now)
player_imf_windows_windows k a x y s t p q = coincide p.1 q.1

pub player_imf_window_read_answer : Answers player_imf_window_read.Learnt
player_imf_window_read_answer k a x y s t p q = coincide p q

pub player_imf_window_write_answer : Answers player_imf_window_write.Learnt
player_imf_window_write_answer k a x y s t p q = coincide p.0 q.0

pub player_imf_window_write_ram : Leaves player_imf_window_write.Learnt (λ k s. s.1.0.now)
player_imf_window_write_ram k a x y s t p q = coincide p.1 q.1
