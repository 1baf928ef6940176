-- The rows behind a Q that goes out, as the code asks for them.
use Rattle.std.specs.Prelude.{◌≡◌, refl, cond, List, [], Option, Some, None}
use Rattle.votes.specs.declared.Row.{Row}
use Rattle.messages.specs.declared.Message.TheVariants.{Start, Enter, Propose, Acknowledge, Cast, Ask, Confirm}
use Rattle.transcript.specs.Printed.{row_lines, rows_behind, sends_ask}
use Rattle.messages.specs.declared.Message.{Message}

pub rows_behind_lem : (x : Option Message) (rows : List Row) → rows_behind x rows ≡ cond (sends_ask x) (row_lines rows) []
rows_behind_lem None rows = refl
rows_behind_lem (Some Start) rows = refl
rows_behind_lem (Some (Enter v)) rows = refl
rows_behind_lem (Some (Propose p)) rows = refl
rows_behind_lem (Some (Acknowledge a)) rows = refl
rows_behind_lem (Some (Cast r)) rows = refl
rows_behind_lem (Some (Ask q)) rows = refl
rows_behind_lem (Some (Confirm c)) rows = refl
