-- `header::check_sizes` meets its contract: the tests 5 to 8, and then the rest.
use native.Mathlib.Omega.{arith}
use lib.ListN.{length}
use Rattle.image.proofs.ImageLaws.{padded_le}
use Rattle.header.proofs.CheckLaws.{no_5, no_6, no_7, no_8, on_to_9}
use mathlib.Core.Bool.{not}
use mathlib.Core.Path.{ap}
use Rattle.header.proofs.check_sizes.Goals as goal

pub overflow_cast-len : goal.overflow_cast-len
overflow_cast-len c =
    omega (arith, c.padded_len-len.ensures, padded_le (length c.args.image.now) c.requires)

pub returns-then-rom-gt8 : goal.returns-then-rom-gt8
returns-then-rom-gt8 c =
    no_5 _ c.args.row c.padded_len-len.ensures c.byte_at-rom.ensures c.if-rom-gt8.true

pub rom_fits-requires : goal.rom_fits-requires
rom_fits-requires c =
    omega (arith, c.padded_len-len.ensures, padded_le (length c.args.image.now) c.requires)

pub returns-then-not-rom_fits : goal.returns-then-not-rom_fits
returns-then-not-rom_fits c =
    no_6 _ c.args.row c.padded_len-len.ensures c.byte_at-rom.ensures c.if-rom-gt8.false c.rom_fits.ensures (ap not c.if-not-rom_fits.true)

pub returns-then-code-gt5 : goal.returns-then-code-gt5
returns-then-code-gt5 c =
    no_7 _ c.args.row c.padded_len-len.ensures c.byte_at-rom.ensures c.if-rom-gt8.false c.rom_fits.ensures (ap not c.if-not-rom_fits.false) c.byte_at-code.ensures c.if-code-gt5.true

pub returns-then-both : goal.returns-then-both
returns-then-both c =
    no_8 _ c.args.row c.padded_len-len.ensures c.byte_at-rom.ensures c.if-rom-gt8.false c.rom_fits.ensures (ap not c.if-not-rom_fits.false) c.byte_at-code.ensures c.if-code-gt5.false c.ram_size-size.ensures c.both.ensures c.if-both.true

pub check_mapper-requires : goal.check_mapper-requires
check_mapper-requires c =
    (c.padded_len-len.ensures, omega (arith, c.padded_len-len.ensures, padded_le (length c.args.image.now) c.requires), cc)

pub returns : goal.returns
returns c =
    on_to_9 _ c.args.row c.padded_len-len.ensures c.byte_at-rom.ensures c.if-rom-gt8.false c.rom_fits.ensures (ap not c.if-not-rom_fits.false) c.byte_at-code.ensures c.if-code-gt5.false c.ram_size-size.ensures c.both.ensures c.if-both.false c.check_mapper.ensures
