-- What a table tells at a seat after rows were written into it, and that rows which share a view and entry are one row.
use Rattle.std.specs.Prelude.{ℕ, ◌<◌, ◌≤◌, ◌≡◌, refl, Bool, true, false, cond, List, T, eqb, ltb, length, get_or, set, replicate}
use Rattle.std.proofs.Common.{ap₂, eqb→eq, ltb-true}
use Rattle.std.proofs.Math.Dec.{eqb_refl}
use Rattle.std.proofs.lemmas.List.{get_or-replicate, set-get_or}
use Rattle.base.specs.Tests.{and_l, and_r, and_i}
use Rattle.entry.specs.declared.Entry.{Entry}
use Rattle.entry.specs.Entry.{same}
use Rattle.entry.specs.Laws.{same_eq, same_refl}
use Rattle.entry.specs.Table.{table_words}
use Rattle.entry.specs.TableLaws.{at_same, at_other, at_past, at_zero, with_past, with_length, with_own}
use Rattle.seats.specs.Table.{value_at, with_value}
use Rattle.seats.specs.TableLaws.{value_same, value_other, value_past, written_past, written_length}
use Rattle.acks.specs.declared.AckRow.{AckRow}
use Rattle.acks.specs.declared.Acks.{Acks}
use Rattle.acks.specs.Acks.{no_acks, acks_of, empty_row, row_of, with_row, shares}

-- ---- the views
view_own : (vs : List ℕ) (k : ℕ) → with_value vs k (value_at vs k 0) ≡ vs
unfolding value_at with_value
view_own vs k = go (ltb k 64)
  where
    go : (c : Bool) → cond c (set vs k (cond c (get_or vs k 0) 0)) vs ≡ vs
    go true = set-get_or vs k 0
    go false = refl

view_zero : (k : ℕ) → value_at {A = ℕ} (replicate 64 0) k 0 ≡ 0
unfolding value_at
view_zero k = go (ltb k 64) refl
  where
    go : (c : Bool) → ltb k 64 ≡ c → ◌≡◌ {A = ℕ} (cond c (get_or (replicate 64 0) k 0) 0) 0
    go true e = get_or-replicate 64 k 0 0 (ltb-true k 64 e)
    go false e = refl

-- ---- the rows
abbrev made : ℕ → Entry → AckRow
made v e = record { view = record { 0 = v }; entry = e }

-- The row that was written is the row that is read.
pub row_same : (t : Acks) (k : ℕ) (r : AckRow) → k < 64 → length t.entries ≡ table_words → length t.views ≡ 64 → row_of (with_row t k r) k ≡ r
unfolding row_of with_row
row_same t k r h n m = ap₂ made (value_same t.views k r.view.0 0 h m) (at_same t.entries k r.entry h n)

-- No other row changes.
pub row_other : (t : Acks) (j k : ℕ) (r : AckRow) → (j ≡ k → ⊥) → row_of (with_row t k r) j ≡ row_of t j
unfolding row_of with_row
row_other t j k r h = ap₂ made (value_other t.views j k r.view.0 0 h) (at_other t.entries j k r.entry h)

-- Past the 64th the row read is empty, and nothing is written.
pub row_past : (t : Acks) (k : ℕ) → 64 ≤ k → row_of t k ≡ empty_row
unfolding row_of
row_past t k h = ap₂ made (value_past t.views k 0 h) (at_past t.entries k h)

pub with_row_past : (t : Acks) (k : ℕ) (r : AckRow) → 64 ≤ k → with_row t k r ≡ t
unfolding with_row
with_row_past t k r h = ap₂ acks_of (with_past t.entries k r.entry h) (written_past t.views k r.view.0 h)

-- A row put back where it stood changes nothing.
pub row_own : (t : Acks) (k : ℕ) → with_row t k (row_of t k) ≡ t
unfolding row_of with_row
row_own t k = ap₂ acks_of (with_own t.entries k) (view_own t.views k)

-- The table keeps its size.
pub row_sizes : (t : Acks) (k : ℕ) (r : AckRow)
    → (length (with_row t k r).entries ≡ length t.entries) × (length (with_row t k r).views ≡ length t.views)
unfolding with_row
row_sizes t k r = (with_length t.entries k r.entry, written_length t.views k r.view.0)

-- The zero table's rows are empty.
pub row_zero : (k : ℕ) → row_of no_acks k ≡ empty_row
unfolding row_of
row_zero k = ap₂ made (view_zero k) (at_zero k)

-- ---- rows compared
-- `shares` is equality.
pub shares_eq : (a b : AckRow) → T (shares a b) → a ≡ b
unfolding shares
shares_eq a b t =
    let v = eqb a.view.0 b.view.0 in
    let e = same a.entry b.entry in
    ap₂ made (eqb→eq a.view.0 b.view.0 (and_l v e t)) (same_eq a.entry b.entry (and_r v e t))

pub shares_refl : (a : AckRow) → T (shares a a)
unfolding shares
shares_refl a = and_i (eqb a.view.0 a.view.0) (same a.entry a.entry) (eqb_refl a.view.0) (same_refl a.entry)
