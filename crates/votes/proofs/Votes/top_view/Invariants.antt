use Prim.Native.Nat.{ℕ}
use mathlib.Core.Path.{◌≡◌}
use mathlib.Core.Bool.{cond}
use lib.ListN.{get_or}
use Rattle.seats.specs.Seats.{highest}
use Rattle.seats.specs.Mask.{bit}
use Rattle.votes.specs.declared.Votes.{Votes}
use Rattle.votes.proofs.Votes.top_view.Given as goal

-- The view of a row of the mask, 0 of any other.
abbrev pub view : ℕ → Votes → ℕ → ℕ
view rows t k = cond (bit rows k) (get_or t.views k 0) 0

abbrev pub invariant-loop-k : goal.invariant-loop-k
invariant-loop-k l = l.w ≡ highest (view l.rows l.self) l.k
