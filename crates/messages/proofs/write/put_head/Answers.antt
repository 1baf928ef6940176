use mathlib.Core.List.{[], ◌∷◌}
use Rattle.messages.specs.Lines.{seat, mark, view}
use Rattle.text.specs.PutLaws.{tabs}
use borrow.Author.Rules.{rules}
use Rattle.messages.proofs.write.put_head.Goals as goal

pub returns : goal.returns
returns c =
    let a = c.args in
    let h = a.h in
    let one = seat h.seat in
    let sign = mark h.verified in
    let two = tabs _ _ (one ∷ []) _ _ (sign ∷ []) _ _ c.put_number-a.ensures.0 c.put_mark-b.ensures.0 in
    (tabs _ _ (one ∷ sign ∷ []) _ _ (view h.view ∷ []) _ _ two c.put_number.ensures.0, search rules)
