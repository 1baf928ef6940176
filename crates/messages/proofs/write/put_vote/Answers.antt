use mathlib.Core.Path.{◌≡◌, sym, ap}
use mathlib.Core.List.{[], ◌∷◌}
use mathlib.Core.Bool.{Bool, true}
use borrow.Author.Tests.{not-false}
use Rattle.entry.specs.Hex.{entry_text}
use Rattle.text.specs.Fields.{tabbed}
use Rattle.text.specs.Digits.{hex}
use Rattle.messages.specs.Lines.{mark, view, vote}
use Rattle.text.specs.PutLaws.{become, tabs}
use borrow.Author.Rules.{rules}
use Rattle.messages.proofs.write.put_vote.Goals as goal

pub returns : goal.returns
returns c =
    let a = c.args in
    let x = a.x in
    let cast : x.cast ≡ true = not-false x.cast c.if-not-x.false in
    let u = view x.view in
    let t = entry_text x.entry in
    let w = hex x.mask in
    let two = tabs _ _ (u ∷ []) _ _ (t ∷ []) _ _ c.put_number-a.ensures.0 c.put_entry-b.ensures.0 in
    let three = tabs _ _ (u ∷ t ∷ []) _ _ (w ∷ []) _ _ two c.put_mask-c.ensures.0 in
    let four = tabs _ _ (u ∷ t ∷ w ∷ []) _ _ (mark x.verified ∷ []) _ _ three c.put_mark-2.ensures.0 in
    (become _ _ _ _ _ _ (ap (λ (b : Bool). tabbed (vote b x)) (sym cast)) four, search rules)
