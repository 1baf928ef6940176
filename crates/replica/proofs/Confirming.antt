-- C: the confirmations that count, as a mask, and the step.
use Prim.Native.Nat.{ℕ, zero, suc, ◌+◌, ◌*◌, ◌/◌, ◌%◌, ◌^◌, ◌<◌}
use mathlib.Core.Path.{◌≡◌, refl, sym, ap, ap₂, ◌∙◌}
use mathlib.Core.Bool.{Bool, true, false, ◌&&◌, cond}
use native.Mathlib.Omega.{arith}
use native.Mathlib.Nat.{pow-suc}
use lib.Dec.{eqb, leb}
use lib.Bits.{bit_and}
use mir.Val.{bool_byte}
use borrow.Author.Tests.{eqb-true}
use Rattle.std.specs.Prelude.{None, Some}
use Rattle.std.specs.Bool.{then_some}
use Rattle.base.specs.Refusal.{Refusals}
use Rattle.seats.specs.declared.Seat.{Seat}
use Rattle.seats.specs.Seats.{b2n, count}
use Rattle.seats.specs.Mask.{bit, mask, packed, rows_of, seats_in, with_seat}
use Rattle.seats.specs.Bits.{bit_half, bit_low, with_past}
use Rattle.seats.specs.Marks.{Marks, marks_below, marks_seats}
use Rattle.seats.specs.Certificate.{signers}
use Rattle.messages.specs.declared.Assent.{Assent}
use Rattle.replica.specs.declared.Replica.{Replica}
use Rattle.replica.specs.declared.Step.{Step}
use Rattle.replica.specs.Refusals.{proposed, confirm_refusals}
use Rattle.replica.specs.Replica.{standing, number_for, with_stage, with_lead}
use Rattle.replica.specs.Steps.{step_of, refused, proposal_of, confirmed_by, certified, confirm_step}
use Rattle.replica.proofs.Answered.{answered_is}
use Rattle.replica.proofs.Taken.{number_allowed}

-- ---- a mask is known by its bits
b2n_byte : (b : Bool) → b2n b ≡ bool_byte b
b2n_byte true = refl
b2n_byte false = refl

packed_known : (p : ℕ → Bool) (d m k : ℕ) → m < 2 ^ d → ((j : ℕ) → j < d → bit m j ≡ p (k + j)) → m ≡ packed p k d
unfolding packed
packed_known p zero m k h at = omega arith
packed_known p (suc d) m k h at =
    let q : 2 ^ suc d ≡ 2 ^ d * 2 = pow-suc 2 d in
    let low : m % 2 ≡ bool_byte (p k) = bit_low m ∙ b2n_byte (bit m 0) ∙ ap bool_byte (at 0 (omega arith) ∙ ap p (let z : k + 0 ≡ k = omega arith in z)) in
    let high : m / 2 ≡ packed p (suc k) d =
    packed_known p d (m / 2) (suc k) (omega arith)
    (λ j l. sym (bit_half m j) ∙ at (suc j) (omega arith) ∙ ap p (let z : k + suc j ≡ suc k + j = omega arith in z)) in
    omega arith

mask_known : {n m : ℕ} {p : ℕ → Bool} → Marks n m p → m ≡ mask p n
mask_known {n} {m} {p} a = packed_known p n m 0 a.below (λ j l. a.at j l ∙ ap p (let z : j ≡ 0 + j = omega arith in z))

-- ---- the step
module _ (s : Replica) (c : Assent) where
  abbrev pub refusals : Refusals
  refusals = confirm_refusals (standing s) s.confirmed s.chosen c

  -- The step in the code's own shape, of the seats that confirmed, those that count, and whether they are enough.
  abbrev made : ℕ → ℕ → ℕ → Bool → Step
  made number m counted enough =
      step_of number (with_stage (with_lead s s.votes s.chosen m) (cond enough proposed s.stage.0)) None
      (then_some enough (proposal_of s s.view s.chosen counted))

  abbrev joined : ℕ
  joined = with_seat s.confirmed c.head.seat.0

  module _ (number : ℕ) (place : Seat) (below : ℕ) (en : number ≡ number_for s refusals) (ep : place ≡ cond (eqb number 0) c.head.seat (record { 0 = 64 }))
      (eb : below ≡ mask (λ k. true) (rows_of s.n)) where
    abbrev written : ℕ
    written = with_seat s.confirmed place.0

    abbrev counted : ℕ
    counted = bit_and below written

    abbrev enough : Bool
    enough = eqb number 0 && leb (signers s.f) (seats_in counted)

    taken : eqb number 0 ≡ true → made number written counted enough ≡ certified (confirmed_by s c)
    unfolding certified
    taken t =
        let z : number ≡ 0 = eqb-true number 0 t in
        let w : written ≡ joined = ap (λ (x : Seat). with_seat s.confirmed x.0) (ep ∙ ap (λ b. cond b c.head.seat (record { 0 = 64 })) t) in
        let few = (number_allowed s refusals (sym en ∙ z)).most in
        let marks = marks_below s.n below joined few eb in
        let mk : counted ≡ mask (bit joined) s.n = ap (bit_and below) w ∙ mask_known marks in
        let ct : seats_in counted ≡ count (bit joined) s.n = ap (λ m. seats_in (bit_and below m)) w ∙ marks_seats few marks in
        let eg : enough ≡ leb (signers s.f) (count (bit joined) s.n) = ap₂ (λ b q. b && leb (signers s.f) q) t ct in
        ap₂ (λ k m. made k m counted enough) z w
        ∙ ap₂ (made 0 joined) mk eg
        ∙ go (leb (signers s.f) (count (bit joined) s.n))
      where
        go : (b : Bool) → made 0 joined (mask (bit joined) s.n) b
            ≡ cond b (step_of 0 (with_stage (confirmed_by s c) proposed) None (Some (proposal_of s s.view s.chosen (mask (bit joined) s.n))))
            (step_of 0 (confirmed_by s c) None None)
        go true = refl
        go false = refl

    kept : eqb number 0 ≡ false → made number written counted enough ≡ refused number s
    kept t =
        ap₂ (λ m b. made number m counted (b && leb (signers s.f) (seats_in counted)))
        (ap (λ (x : Seat). with_seat s.confirmed x.0) (ep ∙ ap (λ b. cond b c.head.seat (record { 0 = 64 })) t) ∙ with_past s.confirmed 64 (omega arith)) t

    pub made_is : made number written counted enough ≡ confirm_step s c
    unfolding confirm_step
    made_is = answered_is s refusals (certified (confirmed_by s c)) (made number written counted enough) number en taken kept
