use Prim.Native.Nat.{ℕ, ◌<◌, ◌-◌}
use mathlib.Core.Bool.{Bool}
use mathlib.Core.Path.{◌≡◌, refl, sym, ap, ◌∙◌}
use native.Mathlib.Omega.{arith}
use lib.Bits.{bit_and}
use Rattle.std.specs.Prelude.{Ok}
use Rattle.std.proofs.lemmas.Result.{err_from_is_err_and}
use Rattle.base.specs.Refusal.{judged}
use Rattle.base.specs.Tests.{and_l}
use Rattle.seats.specs.Mask.{bit, mask, seats_in}
use Rattle.seats.specs.SizeLaws.{Allowed}
use Rattle.seats.specs.Marks.{Marks, rows_is, marks_of, marks_below}
use Rattle.votes.specs.declared.Vote.{Vote}
use Rattle.votes.specs.Selection.{selection}
use Rattle.votes.specs.SelectionExt.{selection_ext}
use Rattle.votes.specs.Rows.{vote_at, has_row, call_refusals, chosen}
use Rattle.votes.specs.RowLaws.{call_ok}
use Rattle.votes.proofs.Masked.{waits_few}
use Rattle.votes.proofs.Judged.{refuses, goes_on}
use Rattle.votes.proofs.VoteRows.choose_among.Goals as goal
use Rattle.votes.proofs.VoteRows.choose_among.Goals.{After-present-rows, In_ok-check_call, Start}

-- The rows and the votes of the table.
abbrev has : Start → ℕ → Bool
has s = has_row s.args.n s.args.f s.args.v s.args.self.now

abbrev vote : Start → ℕ → Vote
vote s = vote_at s.args.self.now.votes

called : (c : In_ok-check_call) → let a = c.args in judged (call_refusals a.n a.f a.v) ≡ Ok tt
called c = sym c.check_call.ensures ∙ c.in_ok-check_call.was

allowed : (c : In_ok-check_call) → let a = c.args in Allowed a.n a.f
allowed c = let a = c.args in call_ok a.n a.f a.v (called c)

pub returns-in_err-check_call : goal.returns-in_err-check_call
unfolding chosen
returns-in_err-check_call c =
    let p = err_from_is_err_and c.from_residual.result c.from_residual.ensures.1 in
    rw (p.1, p.2) (refuses _ (sym c.check_call.ensures ∙ c.in_err-check_call.was))

pub returns-then-seats_in-quorum : goal.returns-then-seats_in-quorum
unfolding chosen has_row
returns-then-seats_in-quorum c =
    let a = c.args in
    let at = goal.at.returns-then-seats_in-quorum c in
    let m = bit_and c.below.result a.self.now.filled in
    let few : seats_in m < a.n - a.f = omega (arith, c.quorum.ensures, c.seats_in.ensures, c.if-seats_in-quorum.true) in
    let most = (allowed at.In_ok-check_call).most in
    ap Ok
    (waits_few a.n a.f (has at.Start) (vote at.Start) most m (bit a.self.now.filled)
    (marks_below a.n c.below.result a.self.now.filled most c.below.ensures) (λ k t. and_l (bit a.self.now.filled k) _ t) few)
    ∙ goes_on (Ok (selection a.n a.f (has at.Start) (vote at.Start))) (called at.In_ok-check_call)

-- The rows that count, as marks.
marked : (c : After-present-rows) → let at = goal.at.After-present-rows c in Marks c.args.n c.present-rows.result (has at.Start)
marked c =
    let at = goal.at.After-present-rows c in
    marks_of c.args.n c.present-rows.result (has at.Start)
    (c.present-rows.ensures ∙ ap (mask (has at.Start)) (rows_is c.args.n (allowed at.In_ok-check_call).most))

pub five_steps-requires : goal.five_steps-requires
five_steps-requires c =
    let a = allowed (goal.at.five_steps-requires c).In_ok-check_call in
    (omega (arith, a.least), a.most, (marked (goal.at.five_steps-requires c).After-present-rows).below)

pub returns : goal.returns
unfolding chosen
returns c =
    let a = c.args in
    let at = goal.at.returns c in
    let rows = marked at.After-present-rows in
    ap Ok
    (c.five_steps.ensures
    ∙ selection_ext a.n a.f (bit c.present-rows.result) (has at.Start) (vote at.Start) (vote at.Start) rows.at
    (λ k l t. record { cast = refl; view = λ x. refl; entry = λ x. refl }))
    ∙ goes_on (Ok (selection a.n a.f (has at.Start) (vote at.Start))) (called at.In_ok-check_call)
