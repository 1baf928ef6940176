use mathlib.Core.Path.{◌≡◌, sym, ap, ◌∙◌}
use Prim.Native.Nat.{◌+◌, ◌*◌}
use native.Mathlib.Omega.{arith}
use lib.ListN.{drop}
use Rattle.text.specs.DecimalLaws.{dec_only}
use Rattle.text.specs.Digits.{value_from, decimal_of, dec_digit, at_most}
use Rattle.text.proofs.Reading.{value_more, value_over, decimal_empty, decimal_led, decimal_start}
use borrow.Author.Tests.{eqb-true, eqb-false}
use Rattle.text.proofs.digits.decimal.Goals as goal
use Rattle.text.proofs.digits.decimal.Goals.{In_ok-v}

pub returns-then-is_empty : goal.returns-then-is_empty
returns-then-is_empty c = sym (decimal_empty c.args.max c.args.t.now (eqb-true _ _ (sym c.if-is_empty.ensures)))

pub returns-then-t : goal.returns-then-t
returns-then-t c = sym (decimal_led c.args.max c.args.t.now (eqb-false _ _ (sym c.if-is_empty.ensures)) c.if-t.true)

pub loop-x-init : goal.loop-x-init
loop-x-init c = (omega arith, decimal_start c.args.max c.args.t.now (eqb-false _ _ (sym c.if-is_empty.ensures)) c.if-t.false)

pub overflow_add-v : goal.overflow_add-v
overflow_add-v c =
    let digit = dec_only _ c.in_ok-v.field-0 (sym c.in_ok-v.ensures) in
    omega (arith, digit.0, c.loop-x.invariant.0, c.ranges.max)

-- The byte is a digit: one more is read.
read : (c : In_ok-v) →
    let a = c.args in
    decimal_of a.max a.t.now
    ≡ at_most a.max (value_from 10 dec_digit (10 * c.loop-x.v + c.in_ok-v.field-0) (drop (c.loop-x.x-index + 1) a.t.now))
read c =
    let a = c.args in
    let l = c.loop-x in
    l.invariant.1
    ∙ ap (at_most a.max) (value_more 10 dec_digit l.v a.t.now l.x-index c.loop-x-test.true c.in_ok-v.field-0 (sym c.in_ok-v.ensures))

pub returns-then-max-v : goal.returns-then-max-v
returns-then-max-v c =
    let over = value_over c.args.max _ (drop (c.loop-x.x-index + 1) c.args.t.now) c.if-max-v.true in
    sym (read (goal.at.returns-then-max-v c).In_ok-v ∙ over)
