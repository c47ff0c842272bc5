-- `header::rom_fits` meets its contract: equal, shorter, no multiple, or as the quotient mends.
use borrow.Author.Rules.{rules}
use Rattle.header.proofs.SizeLaws.{exact, positive, fits_equal, fits_less, fits_rest, fits_mend}
use Rattle.header.proofs.rom_fits.Goals as goal

pub returns-then-size-len : goal.returns-then-size-len
returns-then-size-len c =
    let a = c.args in
    fits_equal a.len a.code _ (exact a.code (search rules)) c.if-size-len.true

pub returns-then-len-size : goal.returns-then-len-size
returns-then-len-size c =
    let a = c.args in
    fits_less a.len a.code _ (exact a.code (search rules)) c.if-len-size.true

pub nonzero_rem-len : goal.nonzero_rem-len
nonzero_rem-len c =
    positive c.args.code (search rules)

pub returns-then-len-size-ne0 : goal.returns-then-len-size-ne0
returns-then-len-size-ne0 c =
    let a = c.args in
    fits_rest a.len a.code _ (exact a.code (search rules)) c.if-size-len.false c.if-len-size.false c.if-len-size-ne0.true

pub nonzero_div-q : goal.nonzero_div-q
nonzero_div-q c =
    positive c.args.code (search rules)

pub returns : goal.returns
returns c =
    let a = c.args in
    fits_mend a.len a.code _ (exact a.code (search rules)) c.if-size-len.false c.if-len-size.false c.if-len-size-ne0.false c.both.ensures
