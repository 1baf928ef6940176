use Prim.Native.Nat.{◌≤◌}
use lib.ListN.{length}
use native.Mathlib.Omega.{arith}
use Rattle.transcript.specs.TextLaws.{line_over}
use Rattle.transcript.proofs.lines.end_of_line.Goals as goal

pub returns-then-s-from : goal.returns-then-s-from
returns-then-s-from c =
    let s = c.args.s.now in
    let past : length s ≤ c.args.from = omega arith in
    line_over s c.args.from past
