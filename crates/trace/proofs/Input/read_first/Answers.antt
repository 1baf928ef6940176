use Rattle.std.proofs.Common.{take, length-take, sym, arith}
use Rattle.transcript.specs.TextLaws.{line_over}
use Rattle.trace.proofs.Windows.{line_inside}
use Rattle.trace.proofs.Input.read_first.Goals as goal

pub loop-init : goal.loop-init
loop-init g c =
    let a = c.args.self.now in
    (c.requires.0, sym (line_over (take a.end a.buf) 0 (omega (arith, length-take a.end a.buf))))

pub invariant_of-self : goal.invariant_of-self
invariant_of-self g c =
    let more = c.read_more.new.self in
    let line = line_inside (take more.end more.buf) _ _ c.end_of_line-line.ensures c.unwrap_or-self.ensures in
    record { inside = (omega (arith, line, length-take more.end more.buf), more.inside.1); sized = more.sized }
