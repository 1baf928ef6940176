use native.Mathlib.Omega.{arith}
use Rattle.text.proofs.Reading.{letter_is, letter_not}
use Rattle.text.proofs.digits.letter.Goals as goal

pub returns-in-len1 : goal.returns-in-len1
returns-in-len1 c = letter_is _ (omega arith)

pub returns-in_default : goal.returns-in_default
returns-in_default c = letter_not _ (λ e. omega arith)

pub returns-in_default-2 : goal.returns-in_default-2
returns-in_default-2 c = letter_not _ (λ e. omega arith)
