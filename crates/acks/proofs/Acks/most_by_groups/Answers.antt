use mathlib.Core.Path.{◌≡◌, refl, sym, ap, ◌∙◌, subst, subst₂}
use Prim.Native.Nat.{ℕ, ◌<◌}
use lib.Count.{ones, count_trailing_zeros}
use Rattle.seats.specs.Mask.{rows_of}
use Rattle.seats.specs.Marks.{rows_le}
use Rattle.acks.specs.declared.AckRow.{AckRow}
use Rattle.acks.specs.declared.Acks.{Acks}
use Rattle.acks.specs.Acks.{row_of, sharers}
use Rattle.acks.specs.MostLaws.{sharers_rows, most_rows}
use Rattle.acks.proofs.Tally.{Tallied, tally_begin, tally_end, tally_less, tally_step}
use Rattle.acks.proofs.Acks.most_by_groups.Goals as goal
use Rattle.acks.proofs.Acks.most_by_groups.Goals.{After-sharers-group}

-- The group that the code counts is the lowest seat's, over the rows of the table.
of_rows : (n : ℕ) (t : Acks) (m : ℕ) (a b : AckRow) → m ≡ sharers n (row_of t) a → a ≡ b → m ≡ sharers (rows_of n) (row_of t) b
of_rows n t m a b p q = p ∙ sym (sharers_rows n t a) ∙ ap (sharers (rows_of n) (row_of t)) q

group_is : (c : After-sharers-group) →
    let a = c.args in
    let t = a.self.now in
    c.sharers-group.result ≡ sharers (rows_of a.n) (row_of t) (row_of t (count_trailing_zeros 64 c.loop-best.left))
group_is c =
    let a = c.args in
    let r = c.row_of-row in
    of_rows a.n a.self.now c.sharers-group.result r.result _ c.sharers-group.ensures r.ensures

pub loop-best-init : goal.loop-best-init
unfolding row_of
loop-best-init c =
    let a = c.args in
    tally_begin (rows_of a.n) (row_of a.self.now) (rows_le a.n) c.filled-left.result c.filled-left.ensures

pub loop-best-smaller : goal.loop-best-smaller
loop-best-smaller c =
    let l = c.loop-best in
    let a = c.args in
    subst (λ m. ones m < ones l.left) (sym c.without-left.ensures)
    (tally_less (rows_of a.n) (row_of a.self.now) (rows_le a.n) l.left l.best l.invariant c.loop-best-test.true
    (count_trailing_zeros 64 l.left) c.sharers-group.result refl (group_is (goal.at.loop-best-smaller c).After-sharers-group))

pub loop-best-preserved : goal.loop-best-preserved
loop-best-preserved c =
    let l = c.loop-best in
    let a = c.args in
    let row = row_of a.self.now in
    subst₂ (Tallied (rows_of a.n) row) (sym c.without-left.ensures) (sym c.larger-best.ensures)
    (tally_step (rows_of a.n) row (rows_le a.n) l.left l.best l.invariant c.loop-best-test.true
    (count_trailing_zeros 64 l.left) c.sharers-group.result refl (group_is (goal.at.loop-best-preserved c).After-sharers-group))

pub returns : goal.returns
returns c =
    let l = c.loop-best in
    let a = c.args in
    let t = a.self.now in
    tally_end (rows_of a.n) (row_of t) (rows_le a.n) l.left l.best l.invariant c.loop-best-test.false ∙ most_rows a.n t
