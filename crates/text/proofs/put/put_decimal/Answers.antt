use Prim.Native.Nat.{ℕ, ◌-◌, ◌+◌}
use mathlib.Core.Path.{◌≡◌, sym, ap, ◌∙◌}
use native.Mathlib.Omega.{arith}
use Rattle.text.specs.Digits.{digits, dec_char, decimal, width}
use Rattle.text.specs.DecimalLaws.{decimal_length}
use Rattle.text.proofs.Putting.{Left, left_all, left_out, left_same, decimal_last}
use Rattle.std.proofs.Common.{not}
use Rattle.text.proofs.put.put_decimal.Goals as goal
use Rattle.text.proofs.put.put_decimal.Goals.{Else-not-has_room}

pub returns-then-not-has_room : goal.returns-then-not-has_room
returns-then-not-has_room c =
    let a = c.args in
    let k = c.width-k in
    let r = c.has_room in
    let long = decimal_length a.v ∙ sym k.ensures in
    (k.ensures, left_out a.s.now a.at (decimal a.v) k.result r.result long r.ensures (ap not c.if-not-has_room.true))

-- There is room, and all digits are left to put.
all_left : (c : Else-not-has_room) →
    let a = c.args in
    Left a.s.now a.at (decimal a.v) a.s.now a.at (decimal a.v)
all_left c =
    let a = c.args in
    let k = c.width-k in
    let r = c.has_room in
    let long = decimal_length a.v ∙ sym k.ensures in
    left_all a.s.now a.at (decimal a.v) k.result r.result long r.ensures (ap not c.if-not-has_room.false)

pub loop-i-init : goal.loop-i-init
unfolding decimal
loop-i-init c =
    let a = c.args in
    let k = c.width-k in
    let n : width a.v ≡ a.at + k.result - a.at = omega (arith, k.ensures) in
    let is = ap (λ (k : ℕ). digits 10 dec_char k a.v) n in
    (omega arith, left_same a.s.now a.at (decimal a.v) a.s.now a.at (decimal a.v) _ is (all_left (goal.at.loop-i-init c).Else-not-has_room))

pub loop-i-preserved : goal.loop-i-preserved
loop-i-preserved c =
    let a = c.args in
    let l = c.loop-i in
    (omega arith, decimal_last a.s.now a.at (decimal a.v) l.s l.i l.rest c.loop-i-test.true l.invariant.1)
