use Prim.Native.Nat.{◌+◌}
use mathlib.Core.Bool.{Bool, ◌||◌}
use mathlib.Core.Path.{refl, sym, ap, ◌∙◌}
use native.Mathlib.Numerals.{add-one}
use native.Mathlib.Omega.{arith}
use lib.ListN.{get_or}
use lib.Dec.{eqb}
use Rattle.text.specs.Fields.{lf}
use Rattle.transcript.specs.LineEnds.{has_lf}
use Rattle.transcript.proofs.lines.block_has.Goals as goal

pub loop-i-init : goal.loop-i-init
unfolding has_lf
loop-i-init c = (omega arith, refl)

pub loop-i-preserved : goal.loop-i-preserved
unfolding has_lf
loop-i-preserved c =
    let l = c.loop-i in
    let a = c.args in
    let found = eqb (get_or a.s.now (a.at + l.i) 0) lf in
    (omega arith, ap (λ (b : Bool). b || found) l.invariant.1 ∙ ap (has_lf a.s.now a.at) (sym (add-one l.i)))
