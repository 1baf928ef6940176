use native.Mathlib.Omega.{arith}
use mathlib.Core.List.{[]}
use Rattle.text.specs.DecimalLaws.{width_le}
use Rattle.messages.specs.Lengths.{head_takes}
use Rattle.messages.proofs.write.head_length.Goals as goal

pub returns : goal.returns
returns c =
    let h = c.args.h in
    let s = c.width.ensures in
    let v = c.width-2.ensures in
    (omega (arith, head_takes h []), omega (arith, width_le h.seat.0, width_le h.view.0))
