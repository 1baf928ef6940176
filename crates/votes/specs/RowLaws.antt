-- Laws of the rows of votes.
use Rattle.std.specs.Prelude.{ℕ, Bool, true, false, not, cond, [], ◌∷◌, ◌≡◌, refl, eqb, Result, Ok, Err, is_err}
use Rattle.std.proofs.Common.{sym, ap, ◌∙◌, arith, eqb-true, eq-eqb, ne_eqb}
use Rattle.std.proofs.lemmas.Bool.{eqb-false}
use Rattle.std.proofs.Math.Dec.{T}
use Rattle.base.specs.declared.refusal.Refusal.{Refusal}
use Rattle.base.specs.Refusal.{Refusals, first, number, refusal, judged, number_of as refusal_number_of}
use Rattle.base.specs.RefusalLaws.{refusal_number, first_behind, named, number_judged}
use Rattle.seats.specs.declared.View.{View}
use Rattle.seats.specs.Sizes.{size_refusals, size_number}
use Rattle.seats.specs.SizeLaws.{Allowed, sizes_taken}
use Rattle.votes.specs.declared.Choice.{Choice}
use Rattle.votes.specs.Rows.{call_refusals, call_number, rows_number, answered, number_of}

-- 5 is looked at behind 1 and 2.
pub call_after_sizes : (n f : ℕ) (v : View) → call_number n f v ≡ cond (eqb (size_number n f) 0) (cond (eqb v.0 0) 5 0) (size_number n f)
unfolding size_number
call_after_sizes n f v = first_behind 0 (size_refusals n f) ((5, eqb v.0 0) ∷ []) tt

-- A call that is not refused has n and f as setup takes them, and a view.
pub call_taken : (n f : ℕ) (v : View) → call_number n f v ≡ 0 → Allowed n f × (v.0 ≡ 0 → ⊥)
call_taken n f v e = go (eqb (size_number n f) 0) refl (eqb v.0 0) refl (sym (call_after_sizes n f v) ∙ e)
  where
    go : (a : Bool) → eqb (size_number n f) 0 ≡ a → (b : Bool) → eqb v.0 0 ≡ b → cond a (cond b 5 0) (size_number n f) ≡ 0 → Allowed n f × (v.0 ≡ 0 → ⊥)
    go true p true q z = absurd (omega arith)
    go true p false q z = (sizes_taken n f (eqb-true _ _ p), eqb-false v.0 0 q)
    go false p b q z = absurd (eqb-false _ _ p z)

pub call_ok : (n f : ℕ) (v : View) → judged (call_refusals n f v) ≡ Ok tt → Allowed n f
unfolding refusal_number_of
call_ok n f v e = (call_taken n f v (sym (number_judged (call_refusals n f v) tt) ∙ ap refusal_number_of e)).0

-- 15 is looked at behind the others.
rows_after_call : (n f : ℕ) (v : View) (d : Bool) → rows_number n f v d ≡ cond (eqb (call_number n f v) 0) (cond d 15 0) (call_number n f v)
rows_after_call n f v d = first_behind 0 (call_refusals n f v) ((15, d) ∷ []) tt

pub rows_refused : (n f : ℕ) (v : View) (d : Bool) → (call_number n f v ≡ 0 → ⊥) → rows_number n f v d ≡ call_number n f v
rows_refused n f v d h = rows_after_call n f v d ∙ ap (λ b. cond b (cond d 15 0) (call_number n f v)) (ne_eqb _ _ h)

pub rows_taken : (n f : ℕ) (v : View) (d : Bool) → call_number n f v ≡ 0 → rows_number n f v d ≡ cond d 15 0
rows_taken n f v d h = rows_after_call n f v d ∙ ap (λ b. cond b (cond d 15 0) (call_number n f v)) (eq-eqb _ _ h)

-- What is answered behind a check, whatever it answers: its refusal, or what comes behind it.
pub answered_refused : (r : Result (Unit {0}) Refusal) (s : Result Choice Refusal) (why : Refusal) → r ≡ Err why → Err why ≡ answered r s
answered_refused r s why e = sym (ap (λ x. answered x s) e)

pub answered_taken : (r : Result (Unit {0}) Refusal) (s : Result Choice Refusal) → r ≡ Ok tt → s ≡ answered r s
answered_taken r s e = sym (ap (λ x. answered x s) e)

-- The number of an answer is that of the check.
pub answered_number : (r : Result (Unit {0}) Refusal) (c : Choice) → number_of (answered r (Ok c)) ≡ refusal_number_of r
unfolding refusal_number_of
answered_number (Ok x) c = refl
answered_number (Err why) c = refl

-- So behind a table it is the number that the table gives.
pub answered_first : (rs : Refusals) (c : Choice) → T (named rs) → number_of (answered (judged rs) (Ok c)) ≡ first rs
answered_first rs c t = answered_number (judged rs) c ∙ number_judged rs t

-- A refusal has a number.
pub refused_number : (s : Result Choice Refusal) → is_err s ≡ not (eqb (number_of s) 0)
refused_number (Ok c) = refl
refused_number (Err why) = ap not (sym (ne_eqb (number why) 0 (λ z.
    let one : ◌≡◌ {A = ℕ} 1 (number why) = ap number (sym (ap refusal z) ∙ refusal_number why) in omega arith)))
