use Prim.Native.Nat.{◌+◌, ◌≤◌}
use mathlib.Core.Path.{◌≡◌}
use native.Mathlib.Omega.{arith}
use lib.ListN.{length}
use Rattle.messages.specs.Lines.{line}
use Rattle.transcript.proofs.Printing.{message_size, message_put}
use Rattle.transcript.proofs.Lengths.{line_short}
use Rattle.transcript.proofs.print.put_message.Goals as goal
use Rattle.transcript.proofs.print.put_message.Goals.{After-unwrap_or, Start}

-- The line has room.
fits : (c : Start) → c.args.at + length (line c.args.m) ≤ length c.args.s.now
fits c = omega (arith, line_short c.args.m)

-- The writer answers its length.
size : (c : After-unwrap_or) → c.unwrap_or.result ≡ length (line c.args.m)
size c =
    message_size c.args.s.now c.args.at c.args.m _ _ c.requires.0 (fits (goal.at.After-unwrap_or c).Start) c.write_line.ensures.0 c.unwrap_or.ensures

pub overflow_add-result : goal.overflow_add-result
overflow_add-result c = omega (arith, size (goal.at.overflow_add-result c).After-unwrap_or, line_short c.args.m)

pub returns : goal.returns
returns c =
    let a = c.args in
    let e = c.write_line.ensures in
    (message_put a.s.now a.at a.m _ _ c.requires.0 (fits (goal.at.returns c).Start) e.0 c.unwrap_or.ensures _ e.1, omega (arith, size (goal.at.returns c).After-unwrap_or, line_short a.m))
