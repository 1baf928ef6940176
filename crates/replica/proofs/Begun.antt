-- What setup makes of its number, and what a step's answer is made of.
use Prim.Native.Nat.{ℕ}
use mathlib.Core.Path.{◌≡◌, sym, ap, ap₂, ◌∙◌}
use mathlib.Core.Bool.{cond}
use lib.Dec.{eqb}
use lib.IntN.{ℤ, pos}
use borrow.Author.Tests.{ne_eqb}
use Rattle.std.specs.Prelude.{Result}
use Rattle.base.specs.declared.refusal.Refusal.{Refusal}
use Rattle.base.specs.Refusal.{first, number_of, judged}
use Rattle.base.specs.RefusalLaws.{number_judged}
use Rattle.entry.specs.declared.Entry.{Entry}
use Rattle.seats.specs.declared.Seat.{Seat}
use Rattle.acks.specs.Acks.{row_of, margin}
use Rattle.replica.specs.declared.Replica.{Replica}
use Rattle.replica.specs.declared.Step.{Step}
use Rattle.replica.specs.declared.Answer.{Answer}
use Rattle.replica.specs.Refusals.{setup_refusals}
use Rattle.replica.specs.Replica.{fresh, blank, own_refusals}
use Rattle.replica.specs.Steps.{quiet, refused, setup_step, answer_of}
use Rattle.replica.specs.MarginLaws.{margin_told}

-- Setup's number, of what is told of its table.
pub setup_number_is : (n f : ℕ) (s : Seat) (own : Entry) {told : Result (Unit {0}) Refusal} {k : ℕ} → told ≡ judged (setup_refusals n f s own)
    → k ≡ number_of told → k ≡ first (setup_refusals n f s own)
setup_number_is n f s own p q = q ∙ ap number_of p ∙ number_judged (setup_refusals n f s own) tt

module _ (n f : ℕ) (s : Seat) (own : Entry) (k : ℕ) (e : k ≡ first (setup_refusals n f s own)) where
  abbrev begun : ℕ → Step
  begun i = cond (eqb i 0) (quiet (fresh n f s own)) (refused i blank)

  pub setup_taken : {next : Replica} → next ≡ fresh n f s own → k ≡ 0 → refused k next ≡ setup_step n f s own
  unfolding setup_step
  setup_taken p z = ap₂ refused z p ∙ ap begun (sym z ∙ e)

  pub setup_refused : {next : Replica} → next ≡ blank → (k ≡ 0 → ⊥) → refused k next ≡ setup_step n f s own
  unfolding setup_step
  setup_refused p some = ap (refused k) p ∙ sym (ap (λ b. cond b (quiet (fresh n f s own)) (refused k blank)) (ne_eqb k 0 some)) ∙ ap begun e

-- The margin that is answered, as it was passed on, is that of the replica handed back.
abbrev reported : Step → ℤ → Answer
reported t k = record { next = t.next; reply = record { number = t.number; decided = t.decided; sent = t.sent; margin = k } }

module _ (t : Step) {setup : ℕ} {passed m : ℤ} (p : setup ≡ number_of (judged (own_refusals t.next))) where
  pub answer_is : passed ≡ m → m ≡ cond (eqb setup 0) (margin t.next.n t.next.f (row_of t.next.acks)) (pos 0) → reported t passed ≡ answer_of t
  answer_is same q =
      ap (reported t) (same ∙ q ∙ ap (λ (k : ℕ). cond (eqb k 0) (margin t.next.n t.next.f (row_of t.next.acks)) (pos 0)) p ∙ sym (margin_told t.next))
