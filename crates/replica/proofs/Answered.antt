-- How every event's step is put together: its number, then what is taken or the replica as it came.
use Prim.Native.Nat.{ℕ}
use mathlib.Core.Path.{◌≡◌, refl, ap, ◌∙◌}
use mathlib.Core.Bool.{Bool, true, false, cond}
use mathlib.Core.List.{◌++◌}
use lib.Dec.{T, eqb}
use Rattle.std.specs.Prelude.{Result}
use Rattle.base.specs.declared.refusal.Refusal.{Refusal}
use Rattle.base.specs.Refusal.{Refusals, number_of, judged}
use Rattle.base.specs.RefusalLaws.{named, number_judged}
use Rattle.replica.specs.declared.Replica.{Replica}
use Rattle.replica.specs.declared.Stage.{Stage}
use Rattle.replica.specs.declared.Step.{Step}
use Rattle.replica.specs.Replica.{own_refusals, number_for}
use Rattle.replica.specs.Steps.{refused, answered}

-- The number of what is told of setup's table and, behind it, the event's. The event's has numbers of 01 only.
pub number_is : (s : Replica) (rs : Refusals) → T (named rs) → {told : Result (Unit {0}) Refusal} {k : ℕ} → told ≡ judged (own_refusals s ++ rs)
    → k ≡ number_of told → k ≡ number_for s rs
unfolding number_for
number_is s rs t p q = q ∙ ap number_of p ∙ number_judged (own_refusals s ++ rs) t

-- A stage kept or changed.
pub staged : (b : Bool) (k : ℕ) (stage : Stage) → cond b (record { 0 = k }) stage ≡ record { 0 = cond b k stage.0 }
staged true k stage = refl
staged false k stage = refl

-- A step that is the one taken where the number is 0, and else the refusal, is the answer.
pub answered_is : (s : Replica) (rs : Refusals) (taken r : Step) (k : ℕ) → k ≡ number_for s rs
    → (eqb k 0 ≡ true → r ≡ taken) → (eqb k 0 ≡ false → r ≡ refused k s) → r ≡ answered s rs taken
unfolding answered
answered_is s rs taken r k e t f = go (eqb k 0) refl ∙ ap (λ (i : ℕ). cond (eqb i 0) taken (refused i s)) e
  where
    go : (b : Bool) → eqb k 0 ≡ b → r ≡ cond b taken (refused k s)
    go true p = t p
    go false p = f p
