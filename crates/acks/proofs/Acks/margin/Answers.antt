-- Both counts fit, so their difference does.
use mathlib.Core.Path.{sym, subst, ap₂, ◌∙◌}
use Prim.Native.Nat.{ℕ, ◌<◌, ◌≤◌, ◌^◌}
use native.Mathlib.Omega.{arith}
use lib.IntN.{pos, ◌-ℤ◌}
use lib.Signed.{mag}
use mir.Facts.{to_z-of_z}
use Rattle.acks.specs.Acks.{margin}
use Rattle.acks.specs.MostLaws.{most_rows_le}
use Rattle.acks.proofs.Signs.{sub_small, sub_fits}
use Rattle.acks.proofs.Acks.margin.Goals as goal
use Rattle.acks.proofs.Acks.margin.Goals.{After-most, After-quorum}

-- Both counts are small.
few : (c : After-most) → c.most.result ≤ 255
few c =
    let a = c.args in
    omega (arith, c.most.ensures, most_rows_le a.n a.self.now)

wanted : (c : After-quorum) → c.quorum.result ≤ 255
wanted c = omega (arith, c.quorum.ensures, c.ranges.n)

pub overflow_cast-result : goal.overflow_cast-result
overflow_cast-result c = omega (arith, few (goal.at.overflow_cast-result c).After-most)

pub overflow_sub-result : goal.overflow_sub-result
overflow_sub-result c =
    let m = c.most.result in
    let q = c.quorum.result in
    record { sfits = subst (λ z. mag z < 2 ^ 31) (sym (sub_small m q (few (goal.at.overflow_sub-result c).After-most) (wanted (goal.at.overflow_sub-result c).After-quorum))) (sub_fits m q (few (goal.at.overflow_sub-result c).After-most) (wanted (goal.at.overflow_sub-result c).After-quorum)) }

pub returns : goal.returns
unfolding margin
returns c =
    to_z-of_z (overflow_sub-result c) ∙ sub_small c.most.result c.quorum.result (few (goal.at.returns c).After-most) (wanted (goal.at.returns c).After-quorum)
    ∙ ap₂ (λ (m q : ℕ). pos m -ℤ pos q) c.most.ensures c.quorum.ensures
