-- 01, "The selection": its five steps, "Over valid rows, one per seat": seat k has a row, and this is its vote.
use Rattle.std.specs.Prelude.{ℕ, zero, suc, ◌*◌, Bool, not, ◌&&◌, cond, eqb, leb, ltb}
use Rattle.std.specs.Prelude.{Option, None, Some}
use Rattle.entry.specs.declared.Entry.{Entry}
use Rattle.entry.specs.Entry.{same, less}
use Rattle.seats.specs.Seats.{leader, count, some_seat, highest}
use Rattle.seats.specs.Sizes.{quorum}
use Rattle.votes.specs.declared.Vote.{Vote}
use Rattle.votes.specs.declared.Choice.{Choice}

-- The smaller of an entry and the smallest so far, bytes compared left to right, unsigned.
abbrev pub smaller : Entry → Option Entry → Entry
smaller e None = e
smaller e (Some b) = cond (less b e) b e

-- The smallest entry of the seats below n that pass.
unfoldable pub smallest : (ℕ → Bool) → (ℕ → Entry) → ℕ → Option Entry
smallest p entry zero = None
smallest p entry (suc n) = cond (p n) (Some (smaller (entry n) (smallest p entry n))) (smallest p entry n)

abbrev pub forced_to : Option Entry → Choice
forced_to None = Choice.Free
forced_to (Some x) = Choice.Forced x

-- "at least 2f rows"
abbrev pub support : ℕ → ℕ
support f = 2 * f

module _ (n f : ℕ) (has : ℕ → Bool) (vote : ℕ → Vote) where
  abbrev pub entry_of : ℕ → Entry
  entry_of k = (vote k).entry

  -- A row that is not nil.
  abbrev pub is_cast : ℕ → Bool
  is_cast k = has k && (vote k).cast

  -- "the highest view"
  unfoldable pub top_view : ℕ
  top_view = highest (λ k. cond (is_cast k) (vote k).view.0 0) n

  -- A row at w.
  abbrev pub is_at : ℕ → ℕ → Bool
  is_at w k = is_cast k && eqb (vote k).view.0 w

  -- Two rows at w have different entries.
  unfoldable pub two_at : ℕ → Bool
  two_at w = some_seat (λ j. some_seat (λ k. (is_at w j && is_at w k) && not (same (entry_of j) (entry_of k))) n) n

  -- "rows from seats other than q", the leader of w
  abbrev pub is_other : ℕ → ℕ → Bool
  is_other w k = has k && not (eqb k (leader w n))

  abbrev pub other_at : ℕ → ℕ → Bool
  other_at w k = is_at w k && not (eqb k (leader w n))

  -- How many of them at w are for y.
  unfoldable pub rows_for : ℕ → Entry → ℕ
  rows_for w y = count (λ k. other_at w k && same (entry_of k) y) n

  -- Steps 4 and 5, at the highest view w, whose leader "proposed twice".
  unfoldable pub after_two : ℕ → Choice
  after_two w =
      cond (ltb (count (is_other w) n) (quorum n f)) Choice.Wait
      (forced_to (smallest (λ k. other_at w k && leb (support f) (rows_for w (entry_of k))) entry_of n))

  -- Step 3, at the highest view w: "One entry only at w: forced to it."
  unfoldable pub at_top : ℕ → Choice
  at_top w = cond (two_at w) (after_two w) (forced_to (smallest (is_at w) entry_of n))

  -- 1. "Fewer than n − f rows: wait." 2. "All nil: free."
  unfoldable pub selection : Choice
  selection =
      cond (ltb (count has n) (quorum n f)) Choice.Wait
      (cond (eqb (count is_cast n) 0) Choice.Free
      (at_top top_view))
