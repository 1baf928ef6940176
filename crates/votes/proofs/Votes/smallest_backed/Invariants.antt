use Prim.Native.Nat.{ℕ}
use mathlib.Core.Path.{◌≡◌}
use mathlib.Core.Bool.{Bool, ◌&&◌}
use lib.Dec.{leb}
use Rattle.entry.specs.declared.Entry.{Entry}
use Rattle.entry.specs.Entry.{same}
use Rattle.entry.specs.Table.{entry_at}
use Rattle.seats.specs.Mask.{bit, mask, rows_of, seats_in}
use Rattle.votes.specs.declared.Votes.{Votes}
use Rattle.votes.specs.Selection.{smallest}
use Rattle.votes.proofs.Votes.smallest_backed.Given as goal

-- How many rows of the mask are for an entry.
abbrev pub rows_for : ℕ → Votes → ℕ → Entry → ℕ
rows_for rows t n e = seats_in (mask (λ k. bit rows k && same (entry_at t.entries k) e) n)

abbrev pub backed : ℕ → Votes → ℕ → ℕ → ℕ → Bool
backed rows t n need k = bit rows k && leb need (rows_for rows t n (entry_at t.entries k))

abbrev pub invariant-loop-k : goal.invariant-loop-k
invariant-loop-k l = l.b ≡ smallest (backed l.rows l.self (rows_of l.n) l.need) (entry_at l.self.entries) l.k
