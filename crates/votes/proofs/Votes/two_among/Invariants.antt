use Prim.Native.Nat.{ℕ, ◌<◌}
use mathlib.Core.Path.{◌≡◌}
use mathlib.Core.Bool.{false}
use lib.Dec.{T}
use Rattle.entry.specs.Table.{entry_at}
use Rattle.seats.specs.Mask.{bit}
use Rattle.votes.proofs.Votes.two_among.Given as goal

abbrev pub invariant-loop-j : goal.invariant-loop-j
invariant-loop-j l = (l.differ ≡ false) × ((k : ℕ) → k < l.j → l.i < k → T (bit l.rows k) → entry_at l.self.entries l.i ≡ entry_at l.self.entries k)

abbrev pub invariant-search : goal.invariant-search
invariant-search l = (l.differ ≡ false) × ((k : ℕ) → k < l.i → bit l.rows k ≡ false)
