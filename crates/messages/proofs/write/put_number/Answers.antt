use native.Mathlib.Omega.{arith}
use Rattle.text.specs.DecimalLaws.{decimal_length, width_le}
use Rattle.messages.proofs.Writing.{field_put}
use Rattle.messages.proofs.write.put_number.Goals as goal

pub returns : goal.returns
returns c =
    let a = c.args in
    let w = c.put_decimal-k.ensures in (
      field_put _ _ _ _ _ _ c.put_byte.ensures w.1 (omega (arith, w.0, decimal_length a.x)),
      omega (arith, w.0, width_le a.x),
    )
