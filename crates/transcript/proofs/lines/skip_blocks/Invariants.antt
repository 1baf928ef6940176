use Rattle.std.proofs.Common.{◌≡◌, ◌≤◌, length}
use Rattle.transcript.specs.LineEnds.{behind_line}
use Rattle.transcript.proofs.lines.skip_blocks.Given as goal

abbrev pub invariant-loop-i : goal.invariant-loop-i
invariant-loop-i l = (behind_line l.s l.i ≡ behind_line l.s l.from) × (l.i ≤ length l.s)
