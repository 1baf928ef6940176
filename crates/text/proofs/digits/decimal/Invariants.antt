-- What is read so far, and the rest of the text, tell what the whole text holds.
use mathlib.Core.Path.{◌≡◌}
use Prim.Native.Nat.{◌≤◌}
use lib.ListN.{drop}
use Rattle.text.specs.Digits.{value_from, decimal_of, dec_digit, at_most}
use Rattle.text.proofs.digits.decimal.Given as goal

abbrev pub invariant-loop-x : goal.invariant-loop-x
invariant-loop-x l = (l.v ≤ l.max) × (decimal_of l.max l.t ≡ at_most l.max (value_from 10 dec_digit l.v (drop l.x-index l.t)))
