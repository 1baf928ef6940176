-- As long as all bytes belong to the field, it ends where the field at the next byte does.
use Prim.Native.Nat.{◌+◌}
use mathlib.Core.Path.{◌≡◌}
use mathlib.Core.Bool.{true}
use lib.ListN.{length}
use Rattle.text.specs.Fields.{field_at}
use Rattle.text.proofs.field.past.Given as goal

abbrev pub invariant-loop-x : goal.invariant-loop-x
invariant-loop-x l =
    l.inside ≡ true → l.from + l.x-index + length (field_at l.s (l.from + l.x-index)) ≡ l.from + length (field_at l.s l.from)
