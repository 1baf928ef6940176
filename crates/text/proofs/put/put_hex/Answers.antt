use Prim.Native.Nat.{ℕ, ◌-◌, ◌+◌}
use mathlib.Core.Path.{◌≡◌, sym, ap, subst}
use mathlib.Core.List.{◌∷◌}
use native.Mathlib.Omega.{arith}
use native.Mathlib.Nat.{add-zero}
use lib.ListN.{set}
use Rattle.text.specs.Digits.{digits, hex_char, hex}
use Rattle.text.specs.HexLaws.{hex_length}
use Rattle.text.proofs.Putting.{Left, left_all, left_out, left_same, left_first, hex_first}
use Rattle.std.proofs.Common.{not}
use Rattle.text.proofs.put.put_hex.Goals as goal

pub returns-then-not-has_room : goal.returns-then-not-has_room
returns-then-not-has_room c =
    let a = c.args in
    let r = c.has_room in
    left_out a.s.now a.at (hex a.w) 16 r.result (hex_length a.w) r.ensures (ap not c.if-not-has_room.true)

pub loop-k-init : goal.loop-k-init
unfolding hex
loop-k-init c =
    let a = c.args in
    let r = c.has_room in
    let all = left_all a.s.now a.at (hex a.w) 16 r.result (hex_length a.w) r.ensures (ap not c.if-not-has_room.false) in
    subst (λ (i : ℕ). Left a.s.now a.at (hex a.w) a.s.now i (hex a.w)) (sym (add-zero a.at)) all

pub loop-k-preserved : goal.loop-k-preserved
loop-k-preserved c =
    let a = c.args in
    let l = c.loop-k in
    let d = c.listed_char in
    let x = digits 16 hex_char (16 - l.k) a.w in
    let y = digits 16 hex_char (16 - (l.k + 1)) a.w in
    let is = hex_first l.k a.w d.result c.loop-k-test.true d.ensures in
    let left = left_same a.s.now a.at (hex a.w) l.s (a.at + l.k) x (d.result ∷ y) is l.invariant in
    let next : a.at + l.k + 1 ≡ a.at + (l.k + 1) = omega arith in
    subst (λ (i : ℕ). Left a.s.now a.at (hex a.w) (set l.s (a.at + l.k) d.result) i y) next (left_first a.s.now a.at (hex a.w) l.s (a.at + l.k) d.result y left)
