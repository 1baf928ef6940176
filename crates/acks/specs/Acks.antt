-- 01: "one acknowledgement row per seat", who shares one, and the margin.
use Rattle.std.specs.Prelude.{ℕ, Bool, not, ◌&&◌, cond, List, eqb, replicate, ℤ, pos, ◌-ℤ◌}
use Rattle.entry.specs.Entry.{same, zero_entry}
use Rattle.entry.specs.Table.{table_seats, table_words, entry_at, with_entry}
use Rattle.seats.specs.Seats.{count, highest}
use Rattle.seats.specs.Sizes.{quorum}
use Rattle.seats.specs.Mask.{mask}
use Rattle.seats.specs.Table.{value_at, with_value}
use Rattle.acks.specs.declared.AckRow.{AckRow}
use Rattle.acks.specs.declared.Acks.{Acks}

-- The table that two arrays make: the entries, and the views.
abbrev pub acks_of : List ℕ → List ℕ → Acks
acks_of es vs = record { entries = es; views = vs }

-- The table whose rows are all empty.
abbrev pub no_acks : Acks
no_acks = acks_of (replicate table_words 0) (replicate table_seats 0)

abbrev pub empty_row : AckRow
empty_row = record { view = record { 0 = 0 }; entry = zero_entry }

-- Seat k's row; past the 64th the empty one.
unfoldable pub row_of : Acks → ℕ → AckRow
row_of t k = record { view = record { 0 = value_at t.views k 0 }; entry = entry_at t.entries k }

-- The table with seat k's row written; past the 64th nothing changes.
unfoldable pub with_row : Acks → ℕ → AckRow → Acks
with_row t k r = acks_of (with_entry t.entries k r.entry) (with_value t.views k r.view.0)

abbrev pub is_filled : AckRow → Bool
is_filled r = not (eqb r.view.0 0)

-- "share this view and entry"
unfoldable pub shares : AckRow → AckRow → Bool
shares a b = eqb a.view.0 b.view.0 && same a.entry b.entry

-- Seat k's row is filled and shares this view and entry.
abbrev pub is_sharer : (ℕ → AckRow) → AckRow → ℕ → Bool
is_sharer row a k = is_filled (row k) && shares (row k) a

module _ (n : ℕ) (row : ℕ → AckRow) where
  -- Which seats below n share this view and entry, as a mask.
  abbrev pub sharers : AckRow → ℕ
  sharers a = mask (is_sharer row a) n

  -- How many they are.
  unfoldable pub sharing : AckRow → ℕ
  sharing a = count (is_sharer row a) n

  -- "the most acknowledgement rows that share one view and entry (0 if none are filled)"
  unfoldable pub most : ℕ
  most = highest (λ k. cond (is_filled (row k)) (sharing (row k)) 0) n

-- ".., minus (n − f)"
unfoldable pub margin : ℕ → ℕ → (ℕ → AckRow) → ℤ
margin n f row = pos (most n row) -ℤ pos (quorum n f)
