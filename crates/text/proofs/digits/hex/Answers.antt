use mathlib.Core.Path.{sym, ◌∙◌}
use Prim.Native.Nat.{ℕ, ◌<◌, ◌+◌, ◌*◌, ◌^◌}
use native.Mathlib.Omega.{arith}
use lib.Dec.{lit<}
use Rattle.text.proofs.Reading.{hex_room, hex_long, hex_short, hex_step}
use borrow.Author.Rules.{rules}
use Rattle.text.proofs.digits.hex.Goals as goal
use Rattle.text.proofs.digits.hex.Goals.{After-hex_char}

pub returns-then-t-ne-WORD : goal.returns-then-t-ne-WORD
returns-then-t-ne-WORD c = sym (hex_short c.args.t.now c.if-t-ne-WORD.true)

pub loop-i-init : goal.loop-i-init
loop-i-init c = (lit< tt, hex_long c.args.t.now c.if-t-ne-WORD.false)

-- A value with one digit more is as small as its digits are few.
room : (c : After-hex_char) (d : ℕ) → d < 16 →
    let l = c.loop-i in
    (16 * l.v + d < 16 ^ (l.i + 1)) × (16 * l.v + d < 2 ^ 64)
room c d low = let l = c.loop-i in hex_room l.v d l.i l.invariant.0 low (omega arith)

pub overflow_mul-v : goal.overflow_mul-v
overflow_mul-v c = omega (arith, (room (goal.at.overflow_mul-v c).After-hex_char 0 (lit< tt)).1)

pub overflow_add-v : goal.overflow_add-v
overflow_add-v c = omega (arith, (room (goal.at.overflow_add-v c).After-hex_char c.nibble-d.result c.nibble-d.ensures.0).1)

pub loop-i-preserved : goal.loop-i-preserved
loop-i-preserved c =
    let l = c.loop-i in
    let d = c.nibble-d in
    let t = c.args.t.now in
    let step = hex_step l.good l.v t l.i (search rules) d.result d.ensures in (
      (room (goal.at.loop-i-preserved c).After-hex_char d.result d.ensures.0).0,
      rw c.hex_char.ensures (l.invariant.1 ∙ step),
    )
