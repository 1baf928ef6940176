use native.Mathlib.Omega.{arith}
use Rattle.entry.specs.HexLaws.{text_length}
use Rattle.messages.proofs.Writing.{field_put}
use borrow.Author.Rules.{rules}
use Rattle.messages.proofs.write.put_entry.Goals as goal

pub returns : goal.returns
returns c =
    let a = c.args in
    (field_put _ _ _ _ _ _ c.put_byte.ensures c.put_text.ensures (omega (arith, text_length a.e)), search rules)
