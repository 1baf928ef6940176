-- Laws of n and f: the largest f is what its name says, and what setup's numbers tell.
use Rattle.std.specs.Prelude.{ℕ, zero, suc, ◌+◌, ◌/◌, ◌%◌, ◌≤◌, ◌<◌, Bool, true, false, not, ◌||◌, cond, [], ◌∷◌, ◌≡◌, refl, T, eqb, leb, ltb}
use Rattle.std.proofs.Common.{sym, ap, ◌∙◌, subst, arith, mod-lt, leb→le, le→leb, eqb-true, leb-false, leb-true, ltb-false, le-leb, le-ltb, ne_eqb}
use Rattle.std.proofs.Math.Decide.{ℕ_discrete, dec_lt}
use Rattle.std.proofs.lemmas.Bool.{eqb-false, lt-leb}
use Rattle.base.specs.Refusal.{number_of, judged}
use Rattle.base.specs.RefusalLaws.{first_behind, number_judged}
use Rattle.base.specs.Tests.{is_true, true_is, true≢false, and_true, or_false}
use Rattle.seats.specs.declared.Seat.{Seat}
use Rattle.seats.specs.Seats.{leader}
use Rattle.seats.specs.Sizes.{size_allowed, fewest, size_refusals, seat_refusals, bears, largest, most_faulty, size_number, seat_number}

largest_passes : (p : ℕ → Bool) (b : ℕ) → T (p 0) → T (p (largest p b))
largest_passes p zero z = z
largest_passes p (suc b) z = go (p (suc b)) refl (largest_passes p b z)
  where
    go : (t : Bool) → p (suc b) ≡ t → T (p (largest p b)) → T (p (cond t (suc b) (largest p b)))
    go true e r = is_true (p (suc b)) e
    go false e r = r

largest_most : (p : ℕ → Bool) (b f : ℕ) → f ≤ b → T (p f) → f ≤ largest p b
largest_most p zero f l t = omega arith
largest_most p (suc b) f l t = go (p (suc b)) refl (λ m. largest_most p b f m t)
  where
    go : (s : Bool) → p (suc b) ≡ s → (f ≤ b → f ≤ largest p b) → f ≤ cond s (suc b) (largest p b)
    go true e rec = l
    go false e rec = elim (ℕ_discrete f (suc b)) [ yes q ↦ true≢false (sym (true_is (p f) t) ∙ ap p q ∙ e) | no q ↦ rec (omega arith) ]

most_is : (n : ℕ) → 4 ≤ n → n ≤ 64 → most_faulty n ≡ largest (bears n) n
unfolding most_faulty
most_is n l h = simp (le-leb 4 n l, le-leb n 64 h)

-- The largest f fits, and every f that fits is at most as large.
pub most_bears : (n : ℕ) → 4 ≤ n → n ≤ 64 → T (bears n (most_faulty n))
most_bears n l h = subst (λ f. T (bears n f)) (sym (most_is n l h)) (largest_passes (bears n) n (le→leb 0 n (omega arith)))

pub most_largest : (n f : ℕ) → 4 ≤ n → n ≤ 64 → T (bears n f) → f ≤ most_faulty n
most_largest n f l h t =
    let b = leb→le (fewest f) n t in
    subst (λ m. f ≤ m) (sym (most_is n l h)) (largest_most (bears n) n f (omega arith) t)

-- 02, Four: "(n + 1) divided by 5, rounded down"
abbrev pub quotient : ℕ → ℕ
quotient n = (n + 1) / 5

-- Of every n it is the largest f that fits.
largest_quotient : (n : ℕ) → largest (bears n) n ≡ quotient n
largest_quotient n =
    let a = leb→le (fewest (largest (bears n) n)) n (largest_passes (bears n) n (le→leb 0 n (omega arith))) in
    let b = largest_most (bears n) n (quotient n) (omega arith) (le→leb (fewest (quotient n)) n (omega arith)) in
    omega arith

-- So where n is 4 to 64, and else 0.
pub most_quotient : (n : ℕ) → most_faulty n ≡ cond (size_allowed n) (quotient n) 0
unfolding most_faulty
most_quotient n = ap (λ f. cond (size_allowed n) f 0) (largest_quotient n)

-- How the code counts it: below 4 the quotient is 0 by itself.
pub few_seats : (n : ℕ) → n ≤ 64 → (n + 1) / 5 ≡ most_faulty n
few_seats n h = elim (dec_lt n 4) [
  | yes few ↦ simp (most_quotient n, lt-leb 4 n few) (omega arith)
  | no enough ↦ simp (most_quotient n, le-leb 4 n (omega arith), le-leb n 64 h)
]

pub many_seats : (n : ℕ) → 64 < n → 0 ≡ most_faulty n
many_seats n h = simp (most_quotient n, le-leb 4 n (omega arith), lt-leb n 64 h)

-- The leader is one of the seats.
pub leader_lt : (w n : ℕ) → 0 < n → leader w n < n
leader_lt w n h = subst (λ b. cond b 0 (w % n) < n) (sym (ne_eqb n 0 (λ e. omega arith))) (mod-lt w h)

-- ---- what setup takes
pub record Allowed (n f : ℕ) : Type 0 where
  pub least : 4 ≤ n
  pub most : n ≤ 64
  pub some : 1 ≤ f
  pub fits : T (bears n f)

pub sizes_taken : (n f : ℕ) → size_number n f ≡ 0 → Allowed n f
unfolding size_number
sizes_taken n f e = go (size_allowed n) refl (eqb f 0 || ltb (most_faulty n) f) refl e
  where
    go : (a : Bool) → size_allowed n ≡ a → (b : Bool) → (eqb f 0 || ltb (most_faulty n) f) ≡ b → ◌≡◌ {A = ℕ} (cond (not a) 1 (cond b 2 0)) 0 → Allowed n f
    go false p b q z = absurd (omega arith)
    go true p true q z = absurd (omega arith)
    go true p false q z =
        let s = and_true (leb 4 n) (leb n 64) p in
        let l = leb-true 4 n s.0 in
        let h = leb-true n 64 s.1 in
        let o = or_false (eqb f 0) (ltb (most_faulty n) f) q in
        let ne = eqb-false f 0 o.0 in
        let m = ltb-false (most_faulty n) f o.1 in
        let b = leb→le (fewest (most_faulty n)) n (most_bears n l h) in
        record { least = l; most = h; some = omega arith; fits = le→leb (fewest f) n (omega arith) }

pub sizes_take : (n f : ℕ) → Allowed n f → size_number n f ≡ 0
unfolding size_number
sizes_take n f a =
    simp (le-leb 4 n a.least, le-leb n 64 a.most, ne_eqb f 0 (λ e. omega (arith, a.some)), le-ltb (most_faulty n) f (most_largest n f a.least a.most a.fits))

-- Setup's third number is looked at behind the first two.
pub seat_after_sizes : (n f : ℕ) (s : Seat) → seat_number n f s ≡ cond (eqb (size_number n f) 0) (cond (leb n s.0) 3 0) (size_number n f)
unfolding size_number seat_number
seat_after_sizes n f s = first_behind 0 (size_refusals n f) ((3, leb n s.0) ∷ []) tt

-- A seat that setup takes is below n.
pub seat_taken : (n f : ℕ) (s : Seat) → seat_number n f s ≡ 0 → Allowed n f × (s.0 < n)
seat_taken n f s e = go (eqb (size_number n f) 0) refl (leb n s.0) refl (sym (seat_after_sizes n f s) ∙ e)
  where
    go : (a : Bool) → eqb (size_number n f) 0 ≡ a → (b : Bool) → leb n s.0 ≡ b → cond a (cond b 3 0) (size_number n f) ≡ 0 → Allowed n f × (s.0 < n)
    go true p true q z = absurd (omega arith)
    go true p false q z = (sizes_taken n f (eqb-true _ _ p), leb-false n s.0 q)
    go false p b q z = absurd (eqb-false _ _ p z)

-- ---- by name: what is checked has these numbers
pub sizes_numbered : (n f : ℕ) → number_of (judged (size_refusals n f)) ≡ size_number n f
unfolding size_number
sizes_numbered n f = number_judged (size_refusals n f) tt

pub seat_numbered : (n f : ℕ) (s : Seat) → number_of (judged (seat_refusals n f s)) ≡ seat_number n f s
unfolding seat_number
seat_numbered n f s = number_judged (seat_refusals n f s) tt
