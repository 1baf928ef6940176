use mathlib.Core.Bool.{Bool, not, ◌||◌}
use mathlib.Core.List.{[], ◌∷◌}
use mathlib.Core.Path.{◌≡◌, sym, ◌∙◌}
use lib.Dec.{eqb}
use Rattle.std.proofs.lemmas.Result.{err_from_is_err_and}
use Rattle.base.specs.Refusal.{judged}
use Rattle.base.specs.RefusalLaws.{judged_ok, judged_err}
use Rattle.votes.specs.Rows.{number_of, selected_from}
use Rattle.votes.specs.RowLaws.{refused_number}
use Rattle.votes.specs.Request.{gathered_for, too_few, allowed, gathered_refusals}
use Rattle.votes.proofs.Held.{filled_counted}
use borrow.Author.Rules.{rules}
use Rattle.votes.proofs.Rows.check_request.Goals as goal
use Rattle.votes.proofs.Rows.check_request.Goals.{After-refuse_if, Start}

-- The two tests.
abbrev unfit : Start → Bool
unfit s = let a = s.args in not (gathered_for a.self a.n a.f a.v) || (too_few a.self || not (eqb (number_of (selected_from a.self)) 0))

abbrev other : Start → Bool
other s = let a = s.args in not (allowed (selected_from a.self) a.e)

first : (c : After-refuse_if) → c.refuse_if.result ≡ judged ((15, unfit (goal.at.After-refuse_if c).Start) ∷ [])
first c =
    let self = c.args.self in
    simp (
      c.refuse_if.ensures,
      c.eq.ensures,
      c.is_err.ensures.value,
      c.select-c.ensures,
      refused_number (selected_from self),
      c.quorum.ensures,
      c.seats_in.ensures,
      filled_counted self.n c.below.result self.table.filled (search rules) c.below.ensures,
    )

pub returns-in_err-refuse_if : goal.returns-in_err-refuse_if
unfolding gathered_refusals
returns-in_err-refuse_if c =
    let at = goal.at.returns-in_err-refuse_if c in
    let p = err_from_is_err_and c.from_residual.result c.from_residual.ensures.1 in
    rw (p.1, p.2) (sym (judged_err ((15, unfit at.Start) ∷ []) ((16, other at.Start) ∷ []) _ (sym (first at.After-refuse_if) ∙ c.in_err-refuse_if.was)))

pub returns : goal.returns
unfolding gathered_refusals
returns c =
    let at = goal.at.returns c in
    simp (c.refuse_if-2.ensures, c.allowed.ensures, c.select-c.ensures)
    (sym (judged_ok ((15, unfit at.Start) ∷ []) ((16, other at.Start) ∷ []) (sym (first at.After-refuse_if) ∙ c.in_ok-refuse_if.was)))
