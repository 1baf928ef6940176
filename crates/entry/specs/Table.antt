-- A table of entries, one a seat, kept as words one after the other: two a seat.
use Rattle.std.specs.Prelude.{ℕ, ◌*◌, ◌+◌, cond, List, ltb, get_or, set}
use Rattle.entry.specs.declared.Entry.{Entry}
use Rattle.entry.specs.Entry.{of_words, zero_entry}

abbrev pub table_seats : ℕ
table_seats = 64

abbrev pub table_words : ℕ
table_words = 2 * table_seats

-- Entry k; past the table the zero entry.
unfoldable pub entry_at : List ℕ → ℕ → Entry
entry_at t k = cond (ltb k table_seats) (of_words (get_or t (2 * k) 0) (get_or t (2 * k + 1) 0)) zero_entry

-- The table with e as entry k; past the table nothing changes.
unfoldable pub with_entry : List ℕ → ℕ → Entry → List ℕ
with_entry t k e = cond (ltb k table_seats) (set (set t (2 * k) e.hi) (2 * k + 1) e.lo) t
