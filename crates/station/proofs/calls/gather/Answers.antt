use Rattle.std.proofs.Common.{Some, None}
use Rattle.std.proofs.Common.{◌≡◌}
use Rattle.transcript.specs.LineEnds.{behind_line}
use native.Mathlib.Omega.{arith}
use mathlib.Core.Path.{refl, sym, ap, ◌∙◌}
use Rattle.transcript.specs.TextLaws.{LineAt}
use Rattle.station.proofs.Gathering.{over, found, more, ended, other_row}
use borrow.Author.Rules.{rules}
use Rattle.station.proofs.calls.gather.Goals as goal
use Rattle.station.proofs.calls.gather.Goals.{In-Some}

is_line : (c : In-Some) → Some c.in-Some.end ≡ behind_line c.args.text.now c.loop-end.at
is_line c = sym c.in-Some.is ∙ c.end_of_line.ensures

-- The line at hand.
at_line : (c : In-Some) → LineAt c.args.text.now c.loop-end.at c.in-Some.end
at_line c = found _ _ _ _ c.loop-end.invariant _ (is_line c)

pub slice_bounds-read_line-count : goal.slice_bounds-read_line-count
slice_bounds-read_line-count c = omega (arith, (at_line (goal.at.slice_bounds-read_line-count c).In-Some).some)

pub slice_bounds-read_line-start : goal.slice_bounds-read_line-start
slice_bounds-read_line-start c = let l = at_line (goal.at.slice_bounds-read_line-start c).In-Some in search rules

pub slice_bounds-read_line-end : goal.slice_bounds-read_line-end
slice_bounds-read_line-end c = let l = at_line (goal.at.slice_bounds-read_line-end c).In-Some in search rules

pub returns-in-None : goal.returns-in-None
returns-in-None c =
    ended _ _ _ _ c.loop-end.invariant _ (sym c.in-Some.is ∙ c.end_of_line.ensures) None (sym c.read_line.ensures ∙ c.in-None.is) refl

pub returns-in_default-m : goal.returns-in_default-m
returns-in_default-m c =
    ended _ _ _ _ c.loop-end.invariant _ (sym c.in-Some.is ∙ c.end_of_line.ensures) _ (sym c.read_line.ensures ∙ c.in-Some-read_line.is)
    (other_row c.in-Some-read_line.m _ c.in_default-m.not-Cast)

pub loop-end-smaller : goal.loop-end-smaller
loop-end-smaller c =
    let l = at_line (goal.at.loop-end-smaller c).In-Some in omega (arith, l.some, l.fits)

pub loop-end-preserved : goal.loop-end-preserved
loop-end-preserved c =
    more _ _ _ _ c.loop-end.invariant _ (sym c.in-Some.is ∙ c.end_of_line.ensures) _ c.in-Cast.r c.add-t.ensures
    (sym c.read_line.ensures ∙ c.in-Some-read_line.is ∙ ap Some c.in-Cast.is)

pub returns : goal.returns
returns c = over _ _ _ _ c.loop-end.invariant (sym c.end_of_line.ensures ∙ c.in_default.is)
