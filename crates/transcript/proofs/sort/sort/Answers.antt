use mathlib.Core.Path.{sym, ◌∙◌}
use borrow.Author.Tests.{lt-ltb, le-ltb}
use Rattle.transcript.specs.Feeding.{sorted}
use Rattle.transcript.proofs.sort.sort.Goals as goal

pub returns-then-left-gt0 : goal.returns-then-left-gt0
unfolding sorted
returns-then-left-gt0 c = c.sort_row.ensures ∙ sym (simp (lt-ltb 0 c.args.left c.if-left-gt0.true))

pub returns-else-left-gt0 : goal.returns-else-left-gt0
unfolding sorted
returns-else-left-gt0 c = c.sort_line.ensures ∙ sym (simp (le-ltb 0 c.args.left c.if-left-gt0.false))
