use mathlib.Core.Path.{◌≡◌, sym, ap, ◌∙◌}
use Rattle.base.specs.Refusal as Refusals
use Rattle.votes.specs.Rows.{number_of}
use Rattle.station.specs.Calls.{selected_by, selected_words}
use Rattle.station.proofs.Gathering.{selected_is}
use Rattle.station.proofs.calls.luscarembo_select.Goals as goal
use Rattle.station.proofs.calls.luscarembo_select.Goals.{After-select}

-- What the selection answers.
answer : (c : After-select)
    → let a = c.args in
    c.select.result ≡ selected_by a.n a.f a.view a.text.now
answer c = selected_is _ _ _ _ _ _ _ c.none.ensures c.gather-rows.ensures c.select.ensures

pub returns-in-Err : goal.returns-in-Err
unfolding Refusals.number_of
returns-in-Err c =
    let e = sym c.in-Err.is ∙ answer (goal.at.returns-in-Err c).After-select in
    (c.number_of.ensures ∙ ap number_of e, ap selected_words e)

pub returns-in-Ok : goal.returns-in-Ok
returns-in-Ok c =
    let e = sym c.in-Ok.is ∙ answer (goal.at.returns-in-Ok c).After-select in
    (ap number_of e, c.choice_words.ensures ∙ ap selected_words e)
