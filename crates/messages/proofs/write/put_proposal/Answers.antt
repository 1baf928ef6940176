use mathlib.Core.List.{[], ◌∷◌}
use Rattle.entry.specs.Hex.{entry_text}
use Rattle.text.specs.Digits.{hex}
use Rattle.messages.specs.Lines.{head}
use Rattle.text.specs.PutLaws.{tabs}
use borrow.Author.Rules.{rules}
use Rattle.messages.proofs.write.put_proposal.Goals as goal

pub returns : goal.returns
returns c =
    let a = c.args in
    let x = a.x in
    let t = entry_text x.entry in
    let two = tabs _ _ (head x.head []) _ _ (t ∷ []) _ _ c.put_head-a.ensures.0 c.put_entry-b.ensures.0 in
    (tabs _ _ (head x.head (t ∷ [])) _ _ (hex x.mask ∷ []) _ _ two c.put_mask.ensures.0, search rules)
