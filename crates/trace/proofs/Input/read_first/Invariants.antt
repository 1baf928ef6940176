-- No line is whole in what was read.
use Rattle.std.proofs.Common.{◌≡◌, take, None}
use Rattle.transcript.specs.LineEnds.{behind_line}
use Rattle.trace.proofs.Input.read_first.Given as goal

abbrev pub invariant-loop : goal.invariant-loop
invariant-loop g l = (l.self.at ≡ 0) × (behind_line (take l.self.end l.self.buf) 0 ≡ None)
