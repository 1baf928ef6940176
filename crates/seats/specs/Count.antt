-- Laws of counting the seats below n that pass a test.
use Rattle.std.specs.Prelude.{◌≡◌, refl, Bool, true, false, not, ◌&&◌, ◌||◌, cond, ◌⊎◌, ℕ, zero, suc, ◌+◌, ◌≤◌, ◌<◌, T, eqb, ltb}
use Rattle.std.proofs.Common.{sym, ap, ap₂, subst, inl, inr, arith, add-one, ltb→lt, lt→ltb}
use Rattle.std.proofs.Math.Decide.{ℕ_discrete}
use Rattle.std.proofs.Math.Dec.{eqb_refl}
use Rattle.base.specs.Choosing.{larger, larger_bounds}
use Rattle.base.specs.Tests.{and_l, and_r, and_i}
use Rattle.seats.specs.Seats.{b2n, count, some_seat, highest}

b2n_le : (a : Bool) → b2n a ≤ 1
b2n_le true = omega arith
b2n_le false = omega arith

b2n_on : (a : Bool) → T a → b2n a ≡ 1
b2n_on true t = refl
b2n_on false t = absurd t

pub count_le : (p : ℕ → Bool) (n : ℕ) → count p n ≤ n
unfolding count
count_le p zero = omega arith
count_le p (suc n) = omega (arith, b2n_le (p n), count_le p n)

pub count_ext : (p q : ℕ → Bool) (n : ℕ) → ((k : ℕ) → k < n → p k ≡ q k) → count p n ≡ count q n
unfolding count
count_ext p q zero h = refl
count_ext p q (suc n) h = ap₂ (λ x y. b2n x + y) (h n (omega arith)) (count_ext p q n (λ k l. h k (omega arith)))

-- One that passes makes the count positive, and a positive count has one that passes.
pub count_pos : (p : ℕ → Bool) (n k : ℕ) → k < n → T (p k) → 0 < count p n
unfolding count
count_pos p zero k h t = absurd (omega arith)
count_pos p (suc n) k h t = elim (ℕ_discrete k n) [
  | yes e ↦ omega (arith, b2n_on (p n) (subst (λ x. T (p x)) e t))
  | no e ↦ omega (arith, count_pos p n k (omega arith) t)
]

pub count_some : (p : ℕ → Bool) (n : ℕ) → 0 < count p n → (k : ℕ) × (k < n) × T (p k)
unfolding count
count_some p zero h = absurd (omega arith)
count_some p (suc n) h = go (p n) refl (λ l. count_some p n l)
  where
    go : (b : Bool) → p n ≡ b → (0 < count p n → (k : ℕ) × (k < n) × T (p k)) → (k : ℕ) × (k < suc n) × T (p k)
    go true e rec = (n, omega arith, subst T (sym e) tt)
    go false e rec =
        let z : b2n (p n) ≡ 0 = ap b2n e in
        let r = rec (omega arith) in
        (r.0, omega arith, r.2)

-- Some seat passes just when there is one that does.
pub some_seat_lem : (p : ℕ → Bool) (n k : ℕ) → k < n → T (p k) → T (some_seat p n)
some_seat_lem p n k h t = lt→ltb 0 (count p n) (count_pos p n k h t)

pub seat_that : (p : ℕ → Bool) (n : ℕ) → T (some_seat p n) → (k : ℕ) × (k < n) × T (p k)
seat_that p n t = count_some p n (ltb→lt 0 (count p n) t)

cover1 : (a b c : Bool) → (T a → T (b || c)) → b2n a ≤ b2n b + b2n c
cover1 false b c h = omega arith
cover1 true true c h = omega arith
cover1 true false true h = omega arith
cover1 true false false h = absurd (h tt)

-- What passes p passes q or r.
pub count_cover : (p q r : ℕ → Bool) (n : ℕ) → ((k : ℕ) → k < n → T (p k) → T (q k || r k)) → count p n ≤ count q n + count r n
unfolding count
count_cover p q r zero h = omega arith
count_cover p q r (suc n) h =
    omega (arith, cover1 (p n) (q n) (r n) (h n (omega arith)), count_cover p q r n (λ k l. h k (omega arith)))

count_never : (n : ℕ) → count (λ k. false) n ≡ 0
unfolding count
count_never zero = refl
count_never (suc n) = omega (arith, count_never n)

or_l : (a : Bool) → T a → T (a || false)
or_l true t = tt
or_l false t = absurd t

pub count_mono : (p q : ℕ → Bool) (n : ℕ) → ((k : ℕ) → k < n → T (p k) → T (q k)) → count p n ≤ count q n
count_mono p q n h = omega (arith, count_cover p q (λ k. false) n (λ k l t. or_l (q k) (h k l t)), count_never n)

split1 : (a b : Bool) → b2n a ≡ b2n (a && not b) + b2n (a && b)
split1 true true = refl
split1 true false = refl
split1 false b = refl

-- Those of p that fail r, and those that pass it.
pub count_split : (p r : ℕ → Bool) (n : ℕ) → count p n ≡ count (λ k. p k && not (r k)) n + count (λ k. p k && r k) n
unfolding count
count_split p r zero = refl
count_split p r (suc n) = omega (arith, split1 (p n) (r n), count_split p r n)

-- What is left of p without r.
pub count_minus : (p r : ℕ → Bool) (n : ℕ) → count p n ≤ count (λ k. p k && not (r k)) n + count r n
count_minus p r n = omega (arith, count_split p r n, count_mono (λ k. p k && r k) r n (λ k l. and_r (p k) (r k)))

-- One taken out.
pub count_drop : (p : ℕ → Bool) (q n : ℕ) → q < n → T (p q) → suc (count (λ k. p k && not (eqb k q)) n) ≤ count p n
count_drop p q n l t =
    omega (arith, count_split p (λ k. eqb k q) n, count_pos (λ k. p k && eqb k q) n q l (and_i (p q) (eqb q q) t (eqb_refl q)))

union1 : (a b : Bool) → b2n a + b2n b ≡ b2n (a || b) + b2n (a && b)
union1 true true = refl
union1 true false = refl
union1 false true = refl
union1 false false = refl

-- Inclusion and exclusion.
pub count_union : (p q : ℕ → Bool) (n : ℕ) → count p n + count q n ≡ count (λ k. p k || q k) n + count (λ k. p k && q k) n
unfolding count
count_union p q zero = refl
count_union p q (suc n) = omega (arith, union1 (p n) (q n), count_union p q n)

-- Two sets too big to meet only in r.
pub meet : (p q r : ℕ → Bool) (n : ℕ) → n + count r n < count p n + count q n → (k : ℕ) × (k < n) × T (p k) × T (q k) × T (not (r k))
meet p q r n h =
    let u = count_union p q n in
    let l = count_le (λ k. p k || q k) n in
    let m = count_minus (λ k. p k && q k) r n in
    let s = count_some (λ k. (p k && q k) && not (r k)) n (omega arith) in
    let k = s.0 in
    let pq = and_l (p k && q k) (not (r k)) s.2 in
    (k, s.1, and_l (p k) (q k) pq, and_r (p k) (q k) pq, and_r (p k && q k) (not (r k)) s.2)

-- Counted from below: seat 0, and the rest.
pub count_first : (p : ℕ → Bool) (n : ℕ) → count p (suc n) ≡ b2n (p 0) + count (λ k. p (suc k)) n
unfolding count
count_first p zero = refl
count_first p (suc n) = omega (arith, count_first p n)

-- ---- the highest of the seats' numbers
pub highest_none : (g : ℕ → ℕ) → highest g 0 ≡ 0
unfolding highest
highest_none g = refl

pub highest_more : (g : ℕ → ℕ) (i : ℕ) → highest g (i + 1) ≡ larger (g i) (highest g i)
unfolding highest
highest_more g i = ap (highest g) (add-one i)

pub highest_ext : (g h : ℕ → ℕ) (n : ℕ) → ((k : ℕ) → k < n → g k ≡ h k) → highest g n ≡ highest h n
unfolding highest
highest_ext g h zero e = refl
highest_ext g h (suc n) e = ap₂ larger (e n (omega arith)) (highest_ext g h n (λ k l. e k (omega arith)))

pub highest_le : (g : ℕ → ℕ) (n b : ℕ) → ((k : ℕ) → k < n → g k ≤ b) → highest g n ≤ b
unfolding highest
highest_le g zero b h = omega arith
highest_le g (suc n) b h = (larger_bounds (g n) (highest g n)).2 b (h n (omega arith)) (highest_le g n b (λ k l. h k (omega arith)))

pub le_highest : (g : ℕ → ℕ) (n k : ℕ) → k < n → g k ≤ highest g n
unfolding highest
le_highest g zero k h = absurd (omega arith)
le_highest g (suc n) k h =
    let b = larger_bounds (g n) (highest g n) in
    elim (ℕ_discrete k n) [
      | yes e ↦ let z : g k ≡ g n = ap g e in omega arith
      | no e ↦ omega (arith, le_highest g n k (omega arith))
    ]

-- It is 0, or the number of some seat.
pub highest_reached : (g : ℕ → ℕ) (n : ℕ) → (highest g n ≡ 0) ⊎ ((k : ℕ) × (k < n) × (g k ≡ highest g n))
unfolding highest
highest_reached g zero = inl refl
highest_reached g (suc n) = go (ltb (g n) (highest g n)) (highest_reached g n)
  where
    go : (b : Bool) → (highest g n ≡ 0) ⊎ ((k : ℕ) × (k < n) × (g k ≡ highest g n))
        → (cond b (highest g n) (g n) ≡ 0) ⊎ ((k : ℕ) × (k < suc n) × (g k ≡ cond b (highest g n) (g n)))
    go true (inl e) = inl e
    go true (inr r) = inr (r.0, omega (arith, r.1), r.2)
    go false r = inr (n, omega arith, refl)
