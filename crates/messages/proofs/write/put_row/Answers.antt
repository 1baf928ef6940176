use mathlib.Core.Path.{ap}
use mathlib.Core.List.{[]}
use Rattle.text.specs.Fields.{tabbed}
use Rattle.messages.specs.declared.Head.{Head}
use Rattle.messages.specs.Lines.{head, vote, row_head}
use Rattle.text.specs.PutLaws.{become, tabs}
use borrow.Author.Rules.{rules}
use Rattle.messages.proofs.write.put_row.Goals as goal

pub returns : goal.returns
returns c =
    let a = c.args in
    let x = a.x in
    let one = become _ _ _ _ _ _ (ap (λ (y : Head). tabbed (head y [])) c.of.ensures) c.put_head-a.ensures.0 in
    (tabs _ _ (head (row_head x) []) _ _ (vote x.vote.cast x.vote) _ _ one c.put_vote.ensures.0, search rules)
