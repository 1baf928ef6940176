use native.Mathlib.Omega.{arith}
use Rattle.text.specs.HexLaws.{hex_length}
use Rattle.messages.proofs.Writing.{field_put}
use borrow.Author.Rules.{rules}
use Rattle.messages.proofs.write.put_mask.Goals as goal

pub returns : goal.returns
returns c =
    let a = c.args in
    (field_put _ _ _ _ _ _ c.put_byte.ensures c.put_hex.ensures (omega (arith, hex_length a.w)), search rules)
