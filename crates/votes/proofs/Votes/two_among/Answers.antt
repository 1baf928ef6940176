use mathlib.Core.Path.{◌≡◌, sym, ap, ap₂, ◌∙◌}
use mathlib.Core.Bool.{not, ◌&&◌}
use native.Mathlib.Omega.{arith}
use Rattle.base.specs.Tests.{is_true, is_false, true_is, true≢false, but_not}
use Rattle.entry.specs.Entry.{same}
use Rattle.entry.specs.Table.{entry_at}
use Rattle.entry.specs.Derived.{derived_same}
use Rattle.seats.specs.Mask.{bit, rows_of}
use Rattle.votes.proofs.Pairs.{two_yes, two_no, two_one}
use Rattle.votes.proofs.Votes.two_among.Goals as goal
use Rattle.votes.proofs.Votes.two_among.Goals.{After-ne}

-- Whether the later row is there and differs.
tests : (c : After-ne) → let es = c.args.self.now.entries in
    (c.has-in-loop-j.result && c.ne.result) ≡ (c.has-in-loop-j.result && not (same (entry_at es c.search.i) (entry_at es c.loop-j.j)))
tests c =
    ap (λ x. c.has-in-loop-j.result && x)
    (c.ne.ensures ∙ ap not (derived_same _ _) ∙ ap₂ (λ x y. not (same x y)) c.entry_at-a.ensures c.entry_at.ensures)

pub returns-after-search : goal.returns-after-search
returns-after-search c =
    let a = c.args in
    c.search.invariant.0
    ∙ two_no (rows_of a.n) (bit a.rows) (entry_at a.self.now.entries) (λ i j hi hj bi bj. true≢false (sym (true_is _ bi) ∙ c.search.invariant.1 i (omega (arith, c.rows_of-end.ensures))))

pub returns-then-has-ne : goal.returns-then-has-ne
returns-then-has-ne c =
    let a = c.args in
    let t = but_not c.has-in-loop-j.result _ (sym (tests (goal.at.returns-then-has-ne c).After-ne) ∙ c.if-has-ne.true) in
    two_yes (rows_of a.n) (bit a.rows) (entry_at a.self.now.entries) c.search.i c.loop-j.j (omega (arith, c.rows_of-end.ensures)) (omega (arith, c.rows_of-end.ensures))
    (is_true _ (sym c.has.ensures ∙ c.if-has.true)) (is_true _ (sym c.has-in-loop-j.ensures ∙ t.0)) (is_false _ t.1)

pub returns-after-loop-j : goal.returns-after-loop-j
returns-after-loop-j c =
    let a = c.args in
    c.loop-j.invariant.0
    ∙ two_one (rows_of a.n) (bit a.rows) (entry_at a.self.now.entries) c.search.i c.search.invariant.1 (λ k h l b. c.loop-j.invariant.1 k (omega (arith, c.rows_of-end.ensures)) l b)
