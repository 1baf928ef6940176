-- Two of the rows of a mask that have different entries.
use Prim.Native.Nat.{ℕ, ◌+◌, ◌<◌}
use mathlib.Core.Bool.{Bool, true, false, not, ◌&&◌}
use mathlib.Core.Logic.{inl, inr}
use mathlib.Core.Path.{◌≡◌, sym, ap, ◌∙◌, subst}
use native.Mathlib.Omega.{arith}
use native.Mathlib.Decide.{ℕ_discrete, dec_lt}
use lib.Dec.{T, T_not, not_T}
use Rattle.base.specs.Tests.{and_l, and_r, and_i, T-dec, is_true, true_is, false_is, true≢false}
use Rattle.entry.specs.declared.Entry.{Entry}
use Rattle.entry.specs.Entry.{same}
use Rattle.entry.specs.Laws.{same_eq, same_refl}
use Rattle.seats.specs.Seats.{some_seat}
use Rattle.seats.specs.Count.{some_seat_lem, seat_that}

module _ (n : ℕ) (p : ℕ → Bool) (e : ℕ → Entry) where
  abbrev pub differ : ℕ → ℕ → Bool
  differ j k = (p j && p k) && not (same (e j) (e k))

  abbrev pub two : Bool
  two = some_seat (λ j. some_seat (differ j) n) n

  pub two_yes : (i j : ℕ) → i < n → j < n → T (p i) → T (p j) → T (not (same (e i) (e j))) → true ≡ two
  two_yes i j hi hj pi pj d =
      let one = some_seat_lem (differ i) n j hj (and_i (p i && p j) _ (and_i (p i) (p j) pi pj) d) in
      sym (true_is two (some_seat_lem (λ j. some_seat (differ j) n) n i hi one))

  -- Where the answer is that no two differ, none do.
  pub two_alike : T (not two) → (i j : ℕ) → i < n → j < n → T (p i) → T (p j) → e i ≡ e j
  two_alike t i j hi hj pi pj = elim (T-dec (same (e i) (e j))) [
    | inl s ↦ same_eq (e i) (e j) s
    | inr s ↦ absurd (T_not two t (is_true two (sym (two_yes i j hi hj pi pj s))))
  ]

  pub two_no : ((i j : ℕ) → i < n → j < n → T (p i) → T (p j) → e i ≡ e j) → false ≡ two
  two_no h = sym (false_is two (not_T two (λ t.
      let j = seat_that (λ j. some_seat (differ j) n) n t in
      let k = seat_that (differ j.0) n j.2 in
      let both = and_l (p j.0 && p k.0) (not (same (e j.0) (e k.0))) k.2 in
      T_not (same (e j.0) (e k.0)) (and_r (p j.0 && p k.0) (not (same (e j.0) (e k.0))) k.2)
      (subst (λ x. T (same (e j.0) x)) (h j.0 k.0 j.1 k.1 (and_l (p j.0) (p k.0) both) (and_r (p j.0) (p k.0) both)) (same_refl (e j.0))))))

  -- The first row of them, and none behind it with another entry.
  pub two_one : (i : ℕ) → ((k : ℕ) → k < i → p k ≡ false) → ((k : ℕ) → k < n → i < k → T (p k) → e i ≡ e k) → false ≡ two
  two_one i below above = two_no (λ j k hj hk pj pk. sym (as_first j hj pj) ∙ as_first k hk pk)
    where
      as_first : (k : ℕ) → k < n → T (p k) → e i ≡ e k
      as_first k h t = elim (dec_lt k i) [
        | yes l ↦ true≢false (sym (true_is (p k) t) ∙ below k l)
        | no l ↦ elim (ℕ_discrete i k) [ yes q ↦ ap e q | no q ↦ above k h (omega arith) t ]
      ]

-- One seat more.
pub below_next : (q : ℕ → Type 0) (i : ℕ) → ((k : ℕ) → k < i → q k) → q i → (k : ℕ) → k < i + 1 → q k
below_next q i h z k l = elim (ℕ_discrete k i) [ yes e ↦ subst q (sym e) z | no e ↦ h k (omega arith) ]
