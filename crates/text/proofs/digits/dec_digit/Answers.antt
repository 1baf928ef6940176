use native.Mathlib.Omega.{arith}
use Rattle.std.proofs.Common.{inl, inr}
use Rattle.text.proofs.Reading.{dec_is, dec_none}
use Rattle.text.proofs.digits.dec_digit.Goals as goal

pub returns-in-48-to-57 : goal.returns-in-48-to-57
returns-in-48-to-57 c = dec_is _ (omega arith) (omega arith)

pub returns-in_default : goal.returns-in_default
returns-in_default c = dec_none _ (inl (omega arith))

pub returns-in_default-2 : goal.returns-in_default-2
returns-in_default-2 c = dec_none _ (inr (omega arith))
