-- Laws of a mask made from a test: its bits, how many it has, and what the operators make of two such masks.
use Prim.Native.Nat.{ℕ, zero, suc, ◌+◌, ◌*◌, ◌-◌, ◌/◌, ◌%◌, ◌^◌, ◌<◌, ◌≤◌}
use Rattle.std.specs.Prelude.{Bool, true, false, not, ◌&&◌, ◌||◌, cond, ◌≡◌, refl, T, eqb, leb, ltb}
use Rattle.std.proofs.Math.Path.{sym, ap}
use Rattle.std.proofs.Common.{ap₂, ◌∙◌, subst, pow-suc, lt_of_lt_of_le, lt_of_le_of_lt, zero-lt-suc, le-div_iff_mul-le, one-mul, div-le_self, T_not, eqb→eq, ltb→lt, nltb→le, lit<, lit≤, pow_mono, pow_pos, shr-shr, le-leb, leb-true, ltb-true, ltb-false, lt-ltb, inl, inr}
use native.Mathlib.Omega.{arith}
use Rattle.std.proofs.Math.Dec.{not_T}
use Rattle.std.proofs.Math.Pow.{pow-lt}
use Rattle.std.specs.Int.Bits.{bit_and, bit_or}
use Rattle.std.proofs.lemmas.Nat.{and_le_l, or_lt, xor_lt}
use Rattle.std.specs.Int.Count.{ones, count_trailing_zeros, under}
use mir.Val.{bool_byte, Fits}
use mir.Syntax.{w64}
use Rattle.base.specs.Tests.{and_l, and_r, and_i, T-dec, is_true, true≢false}
use Rattle.seats.specs.Seats.{b2n, count}
use Rattle.seats.specs.Count.{count_ext, count_mono, count_drop}
use Rattle.seats.specs.Mask.{bit, within, seats_in, with_seat, without, rows_of, packed, mask}
use Rattle.seats.specs.Bits.{bit_half, bit_low, bit_past, bit_zero, ones_count, seats_below, and_at, without_at, with_at}

byte_le : (b : Bool) → bool_byte b ≤ 1
byte_le true = omega arith
byte_le false = omega arith

pub packed_lt : (p : ℕ → Bool) (k d : ℕ) → packed p k d < 2 ^ d
unfolding packed
packed_lt p k zero = zero-lt-suc zero
packed_lt p k (suc d) =
    let ih = packed_lt p (suc k) d in
    let q : 2 ^ suc d ≡ 2 ^ d * 2 = pow-suc 2 d in
    omega (arith, byte_le (p k))

-- ---- a loop that goes down: m = 2 * m + u64::from(test(i))
module _ (p : ℕ → Bool) (n : ℕ) where
  pub packed_none : (i : ℕ) → i ≡ n → 0 ≡ packed p i (n - i)
  unfolding packed
  packed_none i e = let z : n - i ≡ 0 = omega arith in sym (ap (packed p i) z)

  packed_more : (i m : ℕ) → 0 < i → i ≤ n → m ≡ packed p i (n - i) → 2 * m + bool_byte (p (i - 1)) ≡ packed p (i - 1) (n - (i - 1))
  unfolding packed
  packed_more i m h l e =
      let a : n - (i - 1) ≡ suc (n - i) = omega arith in
      let b : suc (i - 1) ≡ i = omega arith in
      let c : packed p (i - 1) (n - (i - 1)) ≡ bool_byte (p (i - 1)) + 2 * packed p (suc (i - 1)) (n - i) = ap (packed p (i - 1)) a in
      let d : packed p (suc (i - 1)) (n - i) ≡ packed p i (n - i) = ap (λ x. packed p x (n - i)) b in
      omega arith

  -- One seat more, of the flag that the code has, and it still fits.
  pub packed_step : (i m : ℕ) → 0 < i → i ≤ n → n ≤ 64 → m ≡ packed p i (n - i) → (b : Bool) → b ≡ p (i - 1)
      → (2 * m + bool_byte b ≡ packed p (i - 1) (n - (i - 1))) × (2 * m + bool_byte b < 2 ^ 64)
  packed_step i m h l q e b eb =
      let more : 2 * m + bool_byte b ≡ packed p (i - 1) (n - (i - 1)) = ap (λ x. 2 * m + bool_byte x) eb ∙ packed_more i m h l e in
      let few : n - (i - 1) ≤ 64 = omega arith in
      (more, subst (λ x. x < 2 ^ 64) (sym more) (lt_of_lt_of_le (packed_lt p (i - 1) (n - (i - 1))) (pow_mono few)))

  pub packed_all : (i m : ℕ) → i ≤ 0 → m ≡ packed p i (n - i) → m ≡ mask p n
  packed_all i m h e = let z : i ≡ 0 = omega arith in let w : n - 0 ≡ n = omega arith in e ∙ ap (λ x. packed p x (n - x)) z ∙ ap (packed p 0) w

-- The same whatever the test tells of a seat.
abbrev pub Tells : (ℕ → Bool → Type 0) → (ℕ → Bool) → ℕ → Type 0
Tells told p n = (k : ℕ) (b : Bool) → k < n → told k b → b ≡ p k

module _ (told : ℕ → Bool → Type 0) (n : ℕ) where
  -- The seats from i to n are in the mask.
  pub record Packing (i m : ℕ) : Type 0 where
    pub within : i ≤ n
    pub small : m < 2 ^ (n - i)
    pub is : (p : ℕ → Bool) → Tells told p n → m ≡ packed p i (n - i)

  pub packing_begin : (i : ℕ) → i ≡ n → Packing i 0
  packing_begin i e = record { within = omega arith; small = pow_pos (n - i); is = λ p t. packed_none p n i e }

  -- One seat more, of the flag that the test gives, and it still fits.
  module _ (i m : ℕ) (h : 0 < i) (le : n ≤ 64) (k : Packing i m) where
    next : (b : Bool) → 2 * m + bool_byte b < 2 ^ (n - (i - 1))
    next b =
        let l = k.within in
        let s = k.small in
        let a : n - (i - 1) ≡ suc (n - i) = omega arith in
        let q : 2 ^ suc (n - i) ≡ 2 ^ (n - i) * 2 = pow-suc 2 (n - i) in
        let r : 2 ^ (n - (i - 1)) ≡ 2 ^ suc (n - i) = ap (λ x. 2 ^ x) a in
        omega (arith, byte_le b)

    next_fits : (b : Bool) → 2 * m + bool_byte b < 2 ^ 64
    next_fits b = let few : n - (i - 1) ≤ 64 = omega arith in lt_of_lt_of_le (next b) (pow_mono few)

    pub packing_doubles : Fits w64 (2 * m)
    packing_doubles = omega (arith, next_fits false)

    module _ (b : Bool) (x : ℕ) (e : x ≡ bool_byte b) where
      pub packing_fits : Fits w64 (2 * m + x)
      packing_fits = omega (arith, next_fits b)

      pub packing_next : told (i - 1) b → Packing (i - 1) (2 * m + x)
      packing_next s =
          let l = k.within in
          record {
            within = omega arith;
            small = subst (λ y. 2 * m + y < 2 ^ (n - (i - 1))) (sym e) (next b);
            is = λ p t.
                let here : b ≡ p (i - 1) = t (i - 1) b (omega arith) s in
                ap (λ y. 2 * m + y) e ∙ (packed_step p n i m h l le (k.is p t) b here).0;
          }

  pub packing_end : (i m : ℕ) → i ≤ 0 → Packing i m → (p : ℕ → Bool) → Tells told p n → m ≡ mask p n
  packing_end i m h k p t = packed_all p n i m h (k.is p t)

-- ---- its bits
half_is : (b : Bool) (x : ℕ) → (bool_byte b + 2 * x) / 2 ≡ x
half_is true x = omega arith
half_is false x = omega arith

low_is : (b : Bool) (x : ℕ) → bit (bool_byte b + 2 * x) 0 ≡ b
low_is b x = go b (bit (bool_byte b + 2 * x) 0) (bit_low (bool_byte b + 2 * x))
  where
    go : (b c : Bool) → (bool_byte b + 2 * x) % 2 ≡ b2n c → c ≡ b
    go true true h = refl
    go true false h = absurd (omega arith)
    go false true h = absurd (omega arith)
    go false false h = refl

packed_at : (p : ℕ → Bool) (k d j : ℕ) → j < d → bit (packed p k d) j ≡ p (k + j)
unfolding packed
packed_at p k zero j h = absurd (omega arith)
packed_at p k (suc d) zero h = low_is (p k) (packed p (suc k) d) ∙ ap p (let z : k ≡ k + 0 = omega arith in z)
packed_at p k (suc d) (suc j) h =
    bit_half (bool_byte (p k) + 2 * packed p (suc k) d) j
    ∙ ap (λ x. bit x j) (half_is (p k) (packed p (suc k) d))
    ∙ packed_at p (suc k) d j (omega arith)
    ∙ ap p (let z : suc k + j ≡ k + suc j = omega arith in z)

pub mask_at : (p : ℕ → Bool) (n k : ℕ) → k < n → bit (mask p n) k ≡ p k
mask_at p n k h = packed_at p 0 n k h ∙ ap p (let z : 0 + k ≡ k = omega arith in z)

-- ---- a mask that marks just the seats below n which pass
pub record Marks (n m : ℕ) (p : ℕ → Bool) : Type 0 where
  pub below : m < 2 ^ n
  pub at : (k : ℕ) → k < n → bit m k ≡ p k

pub marks_mask : (n : ℕ) (p : ℕ → Bool) → Marks n (mask p n) p
marks_mask n p = record { below = packed_lt p 0 n; at = λ k h. mask_at p n k h }

pub marks_of : (n m : ℕ) (p : ℕ → Bool) → m ≡ mask p n → Marks n m p
marks_of n m p e = subst (λ x. Marks n x p) (sym e) (marks_mask n p)

pub marks_ext : {n m : ℕ} {p : ℕ → Bool} (q : ℕ → Bool) → Marks n m p → ((k : ℕ) → k < n → p k ≡ q k) → Marks n m q
marks_ext q a h = record { below = a.below; at = λ k l. a.at k l ∙ h k l }

-- Its count of ones is the number of seats that pass: every quorum is counted by this law.
pub marks_count : {n m : ℕ} {p : ℕ → Bool} → Marks n m p → ones m ≡ count p n
marks_count {n} {m} {p} a = ones_count n m a.below ∙ count_ext (bit m) p n a.at

pub marks_seats : {n m : ℕ} {p : ℕ → Bool} → n ≤ 64 → Marks n m p → seats_in m ≡ count p n
marks_seats {n} {m} {p} l a = seats_below n m l a.below ∙ count_ext (bit m) p n a.at

pub seats_none : seats_in 0 ≡ 0
unfolding count
seats_none = seats_below 0 0 (lit≤ tt) (lit< tt)

pub marks_and : (n a b : ℕ) (p q : ℕ → Bool) → Marks n a p → ((k : ℕ) → k < n → bit b k ≡ q k) → Marks n (bit_and a b) (λ k. p k && q k)
marks_and n a b p q x y = record {
  below = lt_of_le_of_lt (and_le_l a b) x.below;
  at = λ k h. and_at a b k ∙ ap₂ ◌&&◌ (x.at k h) (y k h);
}

pub without_lt : (a b d : ℕ) → a < 2 ^ d → b < 2 ^ d → without a b < 2 ^ d
without_lt a b d h l = xor_lt d (bit_or a b) b (or_lt d a b h l) l

pub marks_without : (n a b c : ℕ) (p q : ℕ → Bool) → Marks n a p → b < 2 ^ n → ((k : ℕ) → k < n → bit b k ≡ q k) → c ≡ without a b → Marks n c (λ k. p k && not (q k))
marks_without n a b c p q x l y e = subst (λ z. Marks n z (λ k. p k && not (q k))) (sym e) (record {
  below = without_lt a b n x.below l;
  at = λ k h. without_at a b k ∙ ap₂ (λ s t. s && not t) (x.at k h) (y k h);
})

-- One seat alone.
pub marks_seat : (n k : ℕ) → k < n → n ≤ 64 → Marks n (with_seat 0 k) (λ j. eqb j k)
unfolding with_seat
marks_seat n k l h =
    let one : with_seat 0 k ≡ bit_or 0 (2 ^ k) = ap (λ c. cond c (bit_or 0 (2 ^ k)) 0) (lt-ltb k 64 (omega arith)) in
    record {
      below = subst (λ x. x < 2 ^ n) (sym one) (or_lt n 0 (2 ^ k) (pow_pos n) (pow-lt l));
      at = λ j i. with_at 0 k j (omega arith) ∙ ap (λ x. x || eqb j k) (bit_zero j);
    }

-- Taking away a set that meets it leaves fewer.
pub without_less : (a b k : ℕ) → a < 2 ^ 64 → b < 2 ^ 64 → k < 64 → bit a k ≡ true → bit b k ≡ true → ones (without a b) < ones a
without_less a b k ha hb hk ea eb =
    let p = ones_count 64 a ha in
    let q = ones_count 64 (without a b) (without_lt a b 64 ha hb) in
    let d = count_drop (bit a) k 64 hk (is_true (bit a k) ea) in
    let m = count_mono (bit (without a b)) (λ j. bit a j && not (eqb j k)) 64 (λ j l t. kept j (subst T (without_at a b j) t)) in
    omega arith
  where
    kept : (j : ℕ) → T (bit a j && not (bit b j)) → T (bit a j && not (eqb j k))
    kept j t = and_i (bit a j) (not (eqb j k)) (and_l (bit a j) (not (bit b j)) t)
        (not_T (eqb j k) (λ e. T_not (bit b j) (and_r (bit a j) (not (bit b j)) t) (subst (λ x. T (bit b x)) (sym (eqb→eq j k e)) (is_true (bit b k) eb))))

-- ---- the lowest seat of a mask
odd : (m d : ℕ) → m % 2 ≡ suc d → bit m 0 ≡ true
odd m d e = go (bit m 0) (sym e ∙ bit_low m)
  where
    go : (b : Bool) → suc d ≡ b2n b → b ≡ true
    go true h = refl
    go false h = absurd (omega arith)

pub lowest : (d m : ℕ) → 0 < m → m < 2 ^ d → (count_trailing_zeros d m < d) × (bit m (count_trailing_zeros d m) ≡ true)
unfolding count_trailing_zeros
lowest zero m h l = absurd (omega arith)
lowest (suc d) m h l = go (m % 2) refl (λ a b. lowest d (m / 2) a b)
  where
    go : (x : ℕ) → m % 2 ≡ x → (0 < m / 2 → m / 2 < 2 ^ d → (count_trailing_zeros d (m / 2) < d) × (bit (m / 2) (count_trailing_zeros d (m / 2)) ≡ true))
        → (under x (count_trailing_zeros d (m / 2)) < suc d) × (bit m (under x (count_trailing_zeros d (m / 2))) ≡ true)
    go (suc x) e rec = (omega arith, odd m x e)
    go zero e rec =
        let q : 2 ^ suc d ≡ 2 ^ d * 2 = pow-suc 2 d in
        let r = rec (omega arith) (omega arith) in
        (omega (arith, r.0), bit_half m (count_trailing_zeros d (m / 2)) ∙ r.1)

-- A mask that is not 0 has a seat, and its lowest passes.
pub marks_lowest : (n m : ℕ) (p : ℕ → Bool) → n ≤ 64 → Marks n m p → 0 < m → (count_trailing_zeros 64 m < n) × (p (count_trailing_zeros 64 m) ≡ true)
marks_lowest n m p le x h =
    let r = lowest 64 m h (lt_of_lt_of_le x.below (pow_mono le)) in
    let b : count_trailing_zeros 64 m < n = go (ltb (count_trailing_zeros 64 m) n) refl r.1 in
    (b, sym (x.at (count_trailing_zeros 64 m) b) ∙ r.1)
  where
    go : (t : Bool) → ltb (count_trailing_zeros 64 m) n ≡ t → bit m (count_trailing_zeros 64 m) ≡ true → count_trailing_zeros 64 m < n
    go true e r = ltb-true _ _ e
    go false e r = true≢false (sym r ∙ bit_past n m (count_trailing_zeros 64 m) x.below (ltb-false _ _ e))

-- Where some seat passes, the mask is not 0.
pub marks_pos : (n m k : ℕ) (p : ℕ → Bool) → Marks n m p → k < n → p k ≡ true → 0 < m
marks_pos n m k p x h e = go m refl
  where
    go : (z : ℕ) → m ≡ z → 0 < z
    go zero q = true≢false (sym e ∙ sym (x.at k h) ∙ ap (λ y. bit y k) q ∙ bit_zero k)
    go (suc z) q = omega arith

-- ---- all seats below n, and the rows of a table
pub full_is : (k n : ℕ) → packed (λ j. true) k n + 1 ≡ 2 ^ n
unfolding packed
full_is k zero = refl
full_is k (suc n) = let ih = full_is (suc k) n in let q : 2 ^ suc n ≡ 2 ^ n * 2 = pow-suc 2 n in omega arith

pub rows_le : (n : ℕ) → rows_of n ≤ 64
rows_le n = go (leb n 64) refl
  where
    go : (b : Bool) → leb n 64 ≡ b → rows_of n ≤ 64
    go true e = rw e (leb-true n 64 e)
    go false e = rw e (omega arith)

pub rows_is : (n : ℕ) → n ≤ 64 → rows_of n ≡ n
rows_is n h = simp (le-leb n 64 h)

-- What a mask has below n.
pub marks_below : (n a m : ℕ) → n ≤ 64 → a ≡ mask (λ k. true) (rows_of n) → Marks n (bit_and a m) (bit m)
marks_below n a m h e = marks_and n a m (λ k. true) (bit m) (marks_of n a (λ k. true) (e ∙ ap (mask (λ k. true)) (rows_is n h))) (λ k l. refl)

pub rows_past : (n : ℕ) → 64 ≤ n → rows_of n ≡ 64
rows_past n h = go (leb n 64) refl
  where
    go : (b : Bool) → leb n 64 ≡ b → rows_of n ≡ 64
    go true e = rw e (omega (arith, leb-true n 64 e))
    go false e = rw e refl

-- ---- "no bit at or above n is set", in both directions
shifted : (m n k : ℕ) → bit (m / 2 ^ n) k ≡ bit m (n + k)
unfolding bit
shifted m n k = ap (λ x. eqb (x % 2) 1) (shr-shr m n k)

pub within_none : (m n k : ℕ) → T (within m n) → n ≤ k → bit m k ≡ false
within_none m n k t l = bit_past n m k (ltb→lt m (2 ^ n) t) l

pub none_within : (m n : ℕ) → m < 2 ^ 64 → ((k : ℕ) → n ≤ k → bit m k ≡ false) → T (within m n)
none_within m n h none = elim (T-dec (within m n)) [
  | inl t ↦ t
  | inr t ↦
      let past = nltb→le m (2 ^ n) t in
      let r = lowest 64 (m / 2 ^ n) ((le-div_iff_mul-le (pow_pos n)).1 (rw one-mul past)) (lt_of_le_of_lt (div-le_self m (2 ^ n)) h) in
      let k = count_trailing_zeros 64 (m / 2 ^ n) in
      true≢false (sym r.1 ∙ shifted m n k ∙ none (n + k) (omega arith))
]
