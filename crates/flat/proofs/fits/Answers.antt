-- `flat::fits` meets its contract: the flags, the limits, and what is asked.
use Rattle.flat.proofs.Laws.{limits_tested}
use Rattle.flat.proofs.fits.Goals as goal

pub returns : goal.returns
returns c =
    let a = c.args in
    limits_tested a.s.now a.kind a.limits a.rest c.are_flags.ensures c.read-banks.ensures c.read-size.ensures
    c.is_beyond.ensures c.both-held.ensures c.both.ensures
