use mathlib.Core.Path.{◌≡◌, refl, sym, ap, ◌∙◌}
use mathlib.Core.List.{[], ◌∷◌}
use native.Mathlib.Omega.{arith}
use lib.Bits.{bit_and}
use Rattle.std.specs.Prelude.{Result, Ok}
use Rattle.std.proofs.lemmas.Result.{err_from_is_err_and}
use Rattle.base.specs.declared.refusal.Refusal.{Refusal}
use Rattle.base.specs.Refusal.{judged}
use Rattle.base.specs.RefusalLaws.{judged_ok, judged_err}
use Rattle.seats.specs.Mask.{bit}
use Rattle.seats.specs.SizeLaws.{Allowed}
use Rattle.seats.specs.Marks.{Marks, marks_below}
use Rattle.votes.specs.Selection.{selection}
use Rattle.votes.specs.SelectionExt.{selection_ext}
use Rattle.votes.specs.Rows.{vote_at, call_refusals, rows_refusals, selected_from}
use Rattle.votes.specs.RowLaws.{call_ok}
use Rattle.votes.proofs.Judged.{refuses, goes_on}
use Rattle.votes.proofs.Rows.select.Goals as goal
use Rattle.votes.proofs.Rows.select.Goals.{After-below, In_ok-check_call, Start}

called : (c : In_ok-check_call) → let t = c.args.self in judged (call_refusals t.n t.f t.view) ≡ Ok tt
called c = sym c.check_call.ensures ∙ c.in_ok-check_call.was

allowed : (c : In_ok-check_call) → let t = c.args.self in Allowed t.n t.f
allowed c = let t = c.args.self in call_ok t.n t.f t.view (called c)

-- The rows of seats below n.
inside : (c : After-below) →
    let t = c.args.self in
    Marks t.n (bit_and c.below.result t.table.filled) (bit t.table.filled)
inside c =
    let t = c.args.self in
    marks_below t.n c.below.result t.table.filled (allowed (goal.at.After-below c).In_ok-check_call).most c.below.ensures

-- 15 behind the others.
table : (c : In_ok-check_call) {r : Result (Unit {0}) Refusal} → let t = c.args.self in
    judged ((15, t.broken) ∷ []) ≡ r → judged (rows_refusals t.n t.f t.view t.broken) ≡ r
table c h = let t = c.args.self in judged_ok (call_refusals t.n t.f t.view) ((15, t.broken) ∷ []) (called c) ∙ h

pub returns-in_err-check_call : goal.returns-in_err-check_call
unfolding selected_from
returns-in_err-check_call c =
    let p = err_from_is_err_and c.from_residual.result c.from_residual.ensures.1 in
    let t = c.args.self in
    rw (p.1, p.2) (refuses _ (judged_err (call_refusals t.n t.f t.view) ((15, t.broken) ∷ []) _ (sym c.check_call.ensures ∙ c.in_err-check_call.was)))

pub returns-in_err-refuse_if : goal.returns-in_err-refuse_if
unfolding selected_from
returns-in_err-refuse_if c =
    let p = err_from_is_err_and c.from_residual-in_err-refuse_if.result c.from_residual-in_err-refuse_if.ensures.1 in
    rw (p.1, p.2) (refuses _ (table (goal.at.returns-in_err-refuse_if c).In_ok-check_call (sym c.refuse_if.ensures ∙ c.in_err-refuse_if.was)))

pub five_steps-requires : goal.five_steps-requires
five_steps-requires c =
    let a = allowed (goal.at.five_steps-requires c).In_ok-check_call in
    (omega (arith, a.least), a.most, (inside (goal.at.five_steps-requires c).After-below).below)

pub returns : goal.returns
unfolding selected_from
returns c =
    let t = c.args.self in
    ap Ok
    (c.five_steps.ensures
    ∙ selection_ext t.n t.f (bit (bit_and c.below.result t.table.filled)) (bit t.table.filled) (vote_at t.table.votes) (vote_at t.table.votes)
    (inside (goal.at.returns c).After-below).at (λ k l u. record { cast = refl; view = λ x. refl; entry = λ x. refl }))
    ∙ goes_on (Ok (selection t.n t.f (bit t.table.filled) (vote_at t.table.votes)))
    (table (goal.at.returns c).In_ok-check_call (sym c.refuse_if.ensures ∙ c.in_ok-refuse_if.was))
