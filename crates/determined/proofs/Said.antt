-- What the contracts of a player's calls, of the clock, of the image, of a state's bytes, of the trace and of the replay say, as the
-- definitions that the demands' theorems speak of: a contract that cites another definition, or none, is refused here.
use Rattle.std.specs.Prelude.{option_copied}
use lib.ListN.{length}
use Rattle.bytes_le.specs.Little.{field_at, put_at}
use Rattle.bytes_le.proofs.U8Field.read.Reads as u8-read
use Rattle.bytes_le.proofs.U8Field.write.Reads as u8-write
use Rattle.bytes_le.proofs.U16Field.read.Reads as u16-read
use Rattle.bytes_le.proofs.U16Field.write.Reads as u16-write
use Rattle.bytes_le.proofs.U32Field.read.Reads as u32-read
use Rattle.bytes_le.proofs.U32Field.write.Reads as u32-write
use Rattle.bytes_le.proofs.U64Field.read.Reads as u64-read
use Rattle.bytes_le.proofs.U64Field.write.Reads as u64-write
use Rattle.utf8.specs.Utf8.{is_utf8}
use Rattle.utf8.proofs.is_utf8.Reads as is-utf8
use Rattle.image.specs.Image as image
use Rattle.image.proofs.byte_at.Reads as byte_at
use Rattle.image.proofs.padded_len.Reads as padded-len
use Rattle.image.proofs.checksum.Reads as image-checksum
use Rattle.clock_registers.specs.Seconds.{forward_of}
use Rattle.clock_registers.proofs.Registers.forward.Reads as registers-forward
use Rattle.clock.specs.Access as access
use Rattle.clock.specs.Fit.{fit_clock}
use Rattle.clock.specs.Ticking as ticking
use Rattle.clock.proofs.Clock.new.Reads as clock-new
use Rattle.clock.proofs.Clock.fit.Reads as clock-fit
use Rattle.clock.proofs.Clock.advance.Reads as clock-advance
use Rattle.clock.proofs.Clock.tick.Reads as clock-tick
use Rattle.clock.proofs.Clock.read.Reads as clock-read
use Rattle.clock.proofs.Clock.write.Reads as clock-write
use Rattle.clock.proofs.Clock.latch.Reads as clock-latch
use Rattle.clock_block.specs.Waking as waking
use Rattle.clock_block.proofs.Block.wake.Reads as block-wake
use Rattle.header.specs.Check as header
use Rattle.header.proofs.check.Reads as header-check
use Rattle.cartridge.specs.Fit.{fit_cart}
use Rattle.cartridge.proofs.Cartridge.fit.Reads as cartridge-fit
use Rattle.states.specs.Layout.{encode_of}
use Rattle.states.specs.Reading.{decode_of}
use Rattle.states.proofs.encode.Reads as states-encode
use Rattle.states.proofs.decode.Reads as states-decode
use Rattle.mount.specs.Mount as mount
use Rattle.mount.proofs.ask_area.Reads as ask-area
use Rattle.mount.proofs.mount.Reads as mount-mount
use Rattle.bus.specs.Advance as advance
use Rattle.bus.specs.Bus as bus
use Rattle.bus.proofs.read.Reads as bus-read
use Rattle.bus.proofs.write.Reads as bus-write
use Rattle.bus.proofs.advance.Reads as bus-advance
use Rattle.save_file.specs.Save as save
use Rattle.save_file.specs.Load as load
use Rattle.save_file.proofs.ask_room.Reads as ask-room
use Rattle.save_file.proofs.save.Reads as save-save
use Rattle.save_file.proofs.load.Reads as save-load
use Rattle.trace.specs.Trace as trace
use Rattle.trace.proofs.next_record.Reads as next-record
use Rattle.replay_program.specs.Written as program
use Rattle.replay_program.proofs.write.Reads as program-write
use Rattle.determined.specs.Determined.{Says, SaysLeft}

-- `bytes_le::Field` at each type: the trait alone fixes neither the width nor the number
pub u8_read_says : Says u8-read.Learnt (λ k a. field_at 1 a.0.now a.1.0)
u8_read_says k a x s p = p

pub u8_write_says : SaysLeft u8-write.Learnt (λ k s. s.0.now) (λ k a. put_at 1 a.0.now a.1.0 a.1.1.0)
u8_write_says k a x s p = p

pub u16_read_says : Says u16-read.Learnt (λ k a. field_at 2 a.0.now a.1.0)
u16_read_says k a x s p = p

pub u16_write_says : SaysLeft u16-write.Learnt (λ k s. s.0.now) (λ k a. put_at 2 a.0.now a.1.0 a.1.1.0)
u16_write_says k a x s p = p

pub u32_read_says : Says u32-read.Learnt (λ k a. field_at 4 a.0.now a.1.0)
u32_read_says k a x s p = p

pub u32_write_says : SaysLeft u32-write.Learnt (λ k s. s.0.now) (λ k a. put_at 4 a.0.now a.1.0 a.1.1.0)
u32_write_says k a x s p = p

pub u64_read_says : Says u64-read.Learnt (λ k a. field_at 8 a.0.now a.1.0)
u64_read_says k a x s p = p

pub u64_write_says : SaysLeft u64-write.Learnt (λ k s. s.0.now) (λ k a. put_at 8 a.0.now a.1.0 a.1.1.0)
u64_write_says k a x s p = p

-- `image::byte_at`, `padded_len` and `checksum`; `utf8::is_utf8`
pub byte_at_says : Says byte_at.Learnt (λ k a. image.byte_at a.0.now a.1.0)
byte_at_says k a x s p = p

pub padded_len_says : Says padded-len.Learnt (λ k a. image.padded_length (length a.0.now))
padded_len_says k a x s p = p

pub checksum_says : Says image-checksum.Learnt (λ k a. image.checksum_of a.0.now)
checksum_says k a x s p = p

pub is_utf8_says : Says is-utf8.Learnt (λ k a. is_utf8 a.0.now)
is_utf8_says k a x s p = p

-- `header::check`, `mount::ask_area`
pub check_says : Says header-check.Learnt (λ k a. header.check_of a.0.now)
check_says k a x s p = p

pub ask_area_says : Says ask-area.Learnt (λ k a. mount.area_for a.0.now)
ask_area_says k a x s p = p

-- `mount::mount`, of an image, a RAM area and a wall time: the answer, and the area
pub mount_says : Says mount-mount.Learnt (λ k a. mount.mount_of a.0.now a.1.0.now a.1.1.0)
mount_says k a x s p = p.0

pub mount_says_area : SaysLeft mount-mount.Learnt (λ k s. s.1.0.now)
    (λ k a. mount.area_after a.0.now a.1.0.now a.1.1.0)
mount_says_area k a x s p = p.1

-- `bus::read`, of a cartridge, an image, a RAM area and an address
pub read_says : Says bus-read.Learnt (λ k a. bus.read_of a.0 a.1.0.now a.1.1.0.now a.1.1.1.0)
read_says k a x s p = p

-- `bus::write`, of a cartridge, a RAM area, an address and a byte: the answer, and the area
pub write_says : Says bus-write.Learnt (λ k a. bus.write_of a.0 a.1.0.now a.1.1.0 a.1.1.1.0)
write_says k a x s p = p.0

pub write_says_area : SaysLeft bus-write.Learnt (λ k s. s.1.0.now)
    (λ k a. bus.area_after a.0 a.1.0.now a.1.1.0 a.1.1.1.0)
write_says_area k a x s p = p.1

-- `bus::advance`, `Clock::advance` and `tick`
pub advance_says : Says bus-advance.Learnt (λ k a. advance.advance_of a.0 a.1.0)
advance_says k a x s p = p

pub clock_advance_says : Says clock-advance.Learnt (λ k a. ticking.advance_of a.0 a.1.0)
clock_advance_says k a x s p = p

pub clock_tick_says : Says clock-tick.Learnt (λ k a. ticking.advance_of a.0 1)
clock_tick_says k a x s p = p

-- `Clock::new`, `fit`, `read`, `write` and `latch`; `Registers::forward`
pub clock_new_says : Says clock-new.Learnt (λ k a. access.start_at a.0)
clock_new_says k a x s p = p

pub clock_fit_says : Says clock-fit.Learnt (λ k a. fit_clock a.0)
clock_fit_says k a x s p = p

pub clock_read_says : Says clock-read.Learnt (λ k a. access.shown_of a.0 a.1.0)
clock_read_says k a x s p = p

pub clock_write_says : Says clock-write.Learnt (λ k a. access.written_of a.0 a.1.0 a.1.1.0)
clock_write_says k a x s p = p

pub clock_latch_says : Says clock-latch.Learnt (λ k a. access.latched_of a.0 a.1.0)
clock_latch_says k a x s p = p

pub forward_says : Says registers-forward.Learnt (λ k a. forward_of a.0 a.1.0)
forward_says k a x s p = p

-- `Cartridge::fit`; `states::encode` and `decode`, of the 64 bytes
pub cartridge_fit_says : Says cartridge-fit.Learnt (λ k a. fit_cart a.0)
cartridge_fit_says k a x s p = p

pub encode_says_state : SaysLeft states-encode.Learnt (λ k s. s.1.0.now) (λ k a. encode_of a.0)
encode_says_state k a x s p = p

pub decode_says : Says states-decode.Learnt (λ k a. decode_of a.0.now)
decode_says k a x s p = p

-- `save_file::ask_room`, `save` and `load`: the answers, the room and the area; `Block::wake`
pub ask_room_says : Says ask-room.Learnt (λ k a. save.room_for a.0)
ask_room_says k a x s p = p

pub save_says : Says save-save.Learnt (λ k a. save.save_of a.0 a.1.0.now (length a.1.1.0.now) a.1.1.1.0)
save_says k a x s p = p.0

pub save_says_room : SaysLeft save-save.Learnt (λ k s. s.1.1.0.now)
    (λ k a. save.room_after a.0 a.1.0.now a.1.1.0.now a.1.1.1.0)
save_says_room k a x s p = p.1

pub load_says : Says save-load.Learnt (λ k a. load.load_of a.0 (length a.1.0.now) a.1.1.0.now a.1.1.1.0)
load_says k a x s p = p.0

pub load_says_area : SaysLeft save-load.Learnt (λ k s. s.1.0.now)
    (λ k a. load.area_after a.0 a.1.0.now a.1.1.0.now a.1.1.1.0)
load_says_area k a x s p = p.1

pub wake_says : Says block-wake.Learnt (λ k a. waking.wake_of a.0 a.1.0)
wake_says k a x s p = p

-- `trace::next_record`
pub next_record_says : Says next-record.Learnt (λ k a. trace.record_at a.0.now a.1.0)
next_record_says k a x s p = p

-- `replay_program::write`, of an image and a trace, where each is there: how long the text is, the room with it, and the room for RAM
pub program_says : Says program-write.Learnt
    (λ k a. length (program.written_of (option_copied a.0) (option_copied a.1.0)))
program_says k a x s p = p.0

pub program_says_room : SaysLeft program-write.Learnt (λ k s. s.1.1.1.0.now)
    (λ k a. program.room_after (option_copied a.0) (option_copied a.1.0) a.1.1.1.0.now)
program_says_room k a x s p = p.1.0

pub program_says_ram : SaysLeft program-write.Learnt (λ k s. s.1.1.0.now)
    (λ k a. program.ram_after (option_copied a.0) (option_copied a.1.0) a.1.1.0.now)
program_says_ram k a x s p = p.1.1
