-- Going up, the count is that of the seats looked at so far.
use Prim.Native.Nat.{ℕ}
use mathlib.Core.Path.{◌≡◌}
use mathlib.Core.Bool.{Bool}
use Rattle.seats.specs.Seats.{count}
use Rattle.acks.specs.declared.AckRow.{AckRow}
use Rattle.acks.specs.declared.Acks.{Acks}
use Rattle.acks.specs.Acks.{row_of, shares}
use Rattle.acks.proofs.Acks.alike.Given as goal

abbrev pub on : Acks → AckRow → ℕ → Bool
on t a k = shares (row_of t k) a

abbrev pub invariant-loop-k : goal.invariant-loop-k
invariant-loop-k l = l.count ≡ count (on l.self l.a) l.k
