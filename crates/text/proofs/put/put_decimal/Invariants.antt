-- The digits before place i are left to put: those of the rest.
use Prim.Native.Nat.{◌≤◌, ◌-◌}
use Rattle.text.specs.Digits.{digits, dec_char, decimal}
use Rattle.text.proofs.Putting.{Left}
use Rattle.text.proofs.put.put_decimal.Given as goal

abbrev pub invariant-loop-i : goal.invariant-loop-i
invariant-loop-i l = (l.at ≤ l.i) × Left l.initial.s l.at (decimal l.v) l.s l.at (digits 10 dec_char (l.i - l.at) l.rest)
