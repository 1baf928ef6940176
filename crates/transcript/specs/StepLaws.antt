-- The margin that a trace keeps is the replica's: an A that is taken has it counted again.
use Rattle.std.specs.Prelude.{ℕ, ◌≡◌, refl, Bool, true, false, cond, eqb, ℤ, pos}
use Rattle.std.proofs.Common.{sym, ap, eqb-true, eq-eqb}
use Rattle.base.specs.Refusal.{Refusals, first}
use Rattle.base.specs.RefusalLaws.{front_none}
use Rattle.acks.specs.Acks.{row_of, margin}
use Rattle.messages.specs.declared.Assent.{Assent}
use Rattle.replica.specs.declared.Replica.{Replica}
use Rattle.replica.specs.declared.Step.{Step}
use Rattle.replica.specs.Refusals.{acknowledge_refusals}
use Rattle.replica.specs.Replica.{own_refusals, number_for, margin_of, standing}
use Rattle.replica.specs.Steps.{refused, answered, quiet, rowed, decides, decided_by, acknowledged, acknowledge_step}

-- The margin is counted again where the step is taken.
abbrev Counted : Replica → Step → Type 0
Counted s t = cond (eqb t.number 0) (margin t.next.n t.next.f (row_of t.next.acks)) (margin_of s) ≡ margin_of t.next

-- Setup takes a replica that takes an event.
own_taken : (s : Replica) (rs : Refusals) → number_for s rs ≡ 0 → eqb (first (own_refusals s)) 0 ≡ true
unfolding number_for
own_taken s rs e = eq-eqb (first (own_refusals s)) 0 (front_none (own_refusals s) rs tt e)

taken_counted : (s : Replica) (a : Assent) → eqb (first (own_refusals s)) 0 ≡ true → Counted s (acknowledged (rowed s a) a)
unfolding acknowledged margin_of
taken_counted s a own = go (decides (rowed s a) a)
  where
    counted : ℤ
    counted = margin s.n s.f (row_of (rowed s a).acks)

    go : (b : Bool) → Counted s (cond b (decided_by (rowed s a) a.entry) (quiet (rowed s a)))
    go true = sym (ap (λ (b : Bool). cond b counted (pos 0)) own)
    go false = sym (ap (λ (b : Bool). cond b counted (pos 0)) own)

pub acknowledge_counts : (s : Replica) (a : Assent) → Counted s (acknowledge_step s a)
unfolding acknowledge_step answered
acknowledge_counts s a = go (eqb number 0) refl
  where
    rs : Refusals
    rs = acknowledge_refusals (standing s) (row_of s.acks a.head.seat.0).view a

    number : ℕ
    number = number_for s rs

    go : (b : Bool) → eqb number 0 ≡ b → Counted s (cond b (acknowledged (rowed s a) a) (refused number s))
    go true e = taken_counted s a (own_taken s rs (eqb-true number 0 e))
    go false e = ap (λ (b : Bool). cond b (margin s.n s.f (row_of s.acks)) (margin_of s)) e
