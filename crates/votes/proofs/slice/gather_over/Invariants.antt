-- The rows so far are gathered.
use Rattle.std.proofs.Common.{◌≡◌, take}
use Rattle.votes.specs.Rows.{no_rows, gathered}
use Rattle.votes.proofs.slice.gather_over.Given as goal

abbrev pub invariant-loop-row : goal.invariant-loop-row
invariant-loop-row l = l.t ≡ gathered (no_rows l.n l.f l.fn.v) (take l.row-index l.rows)
