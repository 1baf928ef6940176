use Rattle.std.proofs.Common.{◌≡◌, ◌+◌, ◌∙◌, ap, length, sym, arith}
use Rattle.transcript.specs.LineEnds.{behind_line}
use Rattle.transcript.specs.TextLaws.{line_passes}
use Rattle.transcript.proofs.lines.skip_blocks.Goals as goal

pub loop-i-preserved : goal.loop-i-preserved
loop-i-preserved c =
    (line_passes c.args.s.now c.loop-i.i 16 (omega arith) (sym c.block_has.ensures ∙ c.if-block_has.false) ∙ c.loop-i.invariant.0, omega arith)

pub returns-else-block_has : goal.returns-else-block_has
returns-else-block_has c =
    let s = c.args.s.now in
    let all : length s ≡ c.loop-i.i + 16 = omega arith in
    (ap (behind_line s) all ∙ line_passes s c.loop-i.i 16 (omega arith) (sym c.block_has.ensures ∙ c.if-block_has.false) ∙ c.loop-i.invariant.0, omega arith)
