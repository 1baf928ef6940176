use Prim.Native.Nat.{ℕ, ◌+◌}
use mathlib.Core.List.{List, [], ◌∷◌, ◌++◌}
use mathlib.Core.Path.{◌∙◌, refl, ap}
use Rattle.text.specs.Digits.{decimal}
use Rattle.messages.specs.Lines.{dash}
use native.Mathlib.Omega.{arith}
use Rattle.text.specs.PutLaws.{puts_placed, become, put_then}
use Rattle.text.specs.Fields.{tab}
use Rattle.transcript.proofs.Signs.{below_zero, no_sign}
use Rattle.transcript.proofs.print.put_signed.Goals as goal

pub returns-then-m-lt0 : goal.returns-then-m-lt0
returns-then-m-lt0 c =
    let sign = puts_placed _ _ _ (c.args.at + 1) _ c.put_byte.ensures refl in
    let both = put_then _ _ _ _ _ _ _ _ sign c.put_number.ensures.0 in
    let text = ap (λ (k : ℕ). dash ∷ decimal k ++ (tab ∷ [])) (c.from.ensures ∙ c.unsigned_abs.ensures.value)
    ∙ ap (λ (t : List ℕ). t ++ (tab ∷ [])) (below_zero c.args.m c.ranges.m c.if-m-lt0.true) in
    (become _ _ _ _ _ _ text both, omega arith)

pub returns : goal.returns
returns c =
    let text = ap (λ (t : List ℕ). t ++ (tab ∷ [])) (no_sign c.args.m c.ranges.m c.if-m-lt0.false) in
    (become _ _ _ _ _ _ text c.put_number-2.ensures.0, omega arith)
