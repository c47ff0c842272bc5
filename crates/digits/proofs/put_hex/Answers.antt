-- `digits::put_hex` meets its contract: digits in base sixteen.
use Rattle.digits.specs.Digits.{hex_of}
use Rattle.digits.proofs.put_hex.Goals as goal

pub returns : goal.returns
unfolding hex_of
returns c =
    c.put_digits.ensures
