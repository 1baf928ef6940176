-- What the exported functions answer.
use Rattle.std.specs.Prelude.{ℕ, List, [], ◌∷◌, Option, Some, None, Result, Ok, Err}
use Rattle.base.specs.declared.refusal.Refusal.{Refusal}
use Rattle.votes.specs.declared.Choice.{Choice}
use Rattle.votes.specs.declared.Row.{Row}
use Rattle.votes.specs.Rows.{selected}
use Rattle.messages.specs.declared.Message.TheVariants.{Start, Enter, Propose, Acknowledge, Cast, Ask, Confirm}
use Rattle.messages.specs.Reader.{read_line}
use Rattle.replica.specs.declared.Replica.{Replica}
use Rattle.replica.specs.declared.Step.{Step}
use Rattle.replica.specs.Steps.{setup_step}
use Rattle.transcript.specs.Texts.{lines_of}
use Rattle.transcript.specs.Feeding.{Ran, ran, resumed}
use Rattle.station.specs.Words.{entry_of}
use Rattle.messages.specs.declared.Message.{Message}

-- ---- luscarembo_setup
abbrev pub setup_by : ℕ → ℕ → ℕ → ℕ → ℕ → Step
setup_by n f seat hi lo = setup_step n f (record { 0 = seat }) (entry_of hi lo)

-- ---- luscarembo_events

-- "The events of a text: whole lines as `trace` takes them", as far as out has room.
abbrev pub ran_by : Replica → List ℕ → ℕ → Ran
ran_by r text room = ran (resumed r) (lines_of text) room

-- ---- luscarembo_select

-- "rows given as V lines; a line that is none ends them"
abbrev pub row_then : Option Message → List Row → List Row
row_then (Some (Cast r)) rows = r ∷ rows
row_then (Some Start) rows = []
row_then (Some (Enter v)) rows = []
row_then (Some (Propose p)) rows = []
row_then (Some (Acknowledge a)) rows = []
row_then (Some (Ask q)) rows = []
row_then (Some (Confirm c)) rows = []
row_then None rows = []

abbrev pub rows_of : List (List ℕ) → List Row
rows_of [] = []
rows_of (l ∷ ls) = row_then (read_line l) (rows_of ls)

unfoldable pub selected_by : ℕ → ℕ → ℕ → List ℕ → Result Choice Refusal
selected_by n f view text = selected n f (record { 0 = view }) (rows_of (lines_of text))

-- "0 to wait, 1 for free, 2 for forced to the entry"
abbrev pub choice_words : Choice → List ℕ
choice_words Choice.Wait = 0 ∷ 0 ∷ 0 ∷ []
choice_words Choice.Free = 1 ∷ 0 ∷ 0 ∷ []
choice_words (Choice.Forced e) = 2 ∷ e.hi ∷ e.lo ∷ []

-- Nothing is chosen where the selection answers with a number.
abbrev pub selected_words : Result Choice Refusal → List ℕ
selected_words (Err why) = 0 ∷ 0 ∷ 0 ∷ []
selected_words (Ok c) = choice_words c
