use Rattle.text.specs.FieldEnds.{end_le, up_take}
use Rattle.text.specs.Fields.{field_at}
use Prim.Native.Nat.{ℕ, ◌≤◌, ◌-◌}
use mathlib.Core.Path.{◌≡◌, sym, ap, ◌∙◌, subst}
use lib.ListN.{length, drop, take}
use native.Mathlib.Omega.{arith}
use Rattle.text.proofs.field.field_of.Goals as goal

pub slice_bounds-result-end-2 : goal.slice_bounds-result-end-2
slice_bounds-result-end-2 c =
    let a = c.args in
    let end = c.field_end-end.ensures ∙ c.past.ensures in
    subst (λ (x : ℕ). x ≤ length a.s.now) (sym end) (end_le a.s.now a.from (omega arith))

pub returns : goal.returns
returns c =
    let a = c.args in
    let e = c.field_end-end in
    let wide : e.result - a.from ≡ length (field_at a.s.now a.from) =
    omega (arith, e.ensures ∙ c.past.ensures) in
    ap (λ (x : ℕ). take x (drop a.from a.s.now)) wide ∙ up_take (drop a.from a.s.now)
