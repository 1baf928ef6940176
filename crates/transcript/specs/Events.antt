-- 01, "The program trace": the events of an input's lines, and the rows of each Q.
use Rattle.std.specs.Prelude.{ℕ, zero, suc, List, [], ◌∷◌, Option, Some, None}
use Rattle.votes.specs.declared.Row.{Row}
use Rattle.messages.specs.declared.Message.{Message}
use Rattle.messages.specs.declared.Message.TheVariants.{Start, Enter, Propose, Acknowledge, Cast, Ask, Confirm}
use Rattle.messages.specs.Reader.{read_line}

-- A message with its rows, which only a Q has; none where the line gets 19.
abbrev pub Happening : Type 0
Happening = Option (Message × List Row)

-- A V line is a row.
abbrev pub as_row : Option Message → Option Row
as_row (Some (Cast r)) = Some r
as_row (Some Start) = None
as_row (Some (Enter v)) = None
as_row (Some (Propose p)) = None
as_row (Some (Acknowledge a)) = None
as_row (Some (Ask q)) = None
as_row (Some (Confirm c)) = None
as_row None = None

abbrev pub before : Option Row → Option (List Row) → Option (List Row)
before (Some r) (Some rs) = Some (r ∷ rs)
before (Some r) None = None
before None rs = None

-- "The rows of a Q are the next count lines, fewer if input ends; if one is missing or is not a V line, the Q gets 19".
unfoldable pub rows_at : ℕ → List (List ℕ) → Option (List Row)
rows_at zero ls = Some []
rows_at (suc k) [] = None
rows_at (suc k) (l ∷ ls) = before (as_row (read_line l)) (rows_at k ls)

abbrev pub beside : Message → Option (List Row) → Happening
beside m None = None
beside m (Some rows) = Some (m, rows)

-- What a line is, beside the lines behind it.
abbrev pub happening : Option Message → List (List ℕ) → Happening
happening (Some (Ask q)) ls = beside (Ask q) (rows_at q.count ls)
happening (Some Start) ls = Some (Start, [])
happening (Some (Enter v)) ls = Some (Enter v, [])
happening (Some (Propose p)) ls = Some (Propose p, [])
happening (Some (Acknowledge a)) ls = Some (Acknowledge a, [])
happening (Some (Cast r)) ls = Some (Cast r, [])
happening (Some (Confirm c)) ls = Some (Confirm c, [])
happening None ls = None

-- ".. and all those lines are used up. A malformed Q uses no rows."
abbrev pub rows_used : Option Message → ℕ
rows_used (Some (Ask q)) = q.count
rows_used (Some Start) = 0
rows_used (Some (Enter v)) = 0
rows_used (Some (Propose p)) = 0
rows_used (Some (Acknowledge a)) = 0
rows_used (Some (Cast r)) = 0
rows_used (Some (Confirm c)) = 0
rows_used None = 0

-- The events of some lines, behind k lines that are used up.
unfoldable pub happenings : ℕ → List (List ℕ) → List Happening
happenings k [] = []
happenings zero (l ∷ ls) = happening (read_line l) ls ∷ happenings (rows_used (read_line l)) ls
happenings (suc k) (l ∷ ls) = happenings k ls
