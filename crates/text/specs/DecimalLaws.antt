-- A decimal is written in as many digits as it needs, and only they read as it.
use Rattle.std.specs.Prelude.{ℕ, zero, suc, ◌+◌, ◌-◌, ◌/◌, ◌%◌, ◌^◌, ◌<◌, ◌≤◌, ◌≡◌, refl, Bool, true, false, cond, List, [], ◌∷◌, ltb, leb, length, Option, Some, None, IfSome}
use Rattle.std.proofs.Common.{sym, ap, ◌∙◌, arith, mod-eq_of_lt, div-lt_iff_lt-mul, lt_of_lt_of_le, le_trans, lit<, ltb-false, leb-true, leb-false, ne_eqb, le-ltb, le-leb}
use Rattle.std.proofs.Math.Nat.{pow-succ', pow-le-pow_right, div-eq_of_lt}
use mir.Val.{bool_byte}
use Rattle.std.proofs.lemmas.Bool.{lt-leb}
use Rattle.std.proofs.lemmas.Option.{same_Some, none-some}
use Rattle.std.specs.Bool.{then_some}
use Rattle.base.specs.Tests.{true≢false}
use Rattle.text.specs.Digits.{digits, value_from, dec_char, dec_digit, reached, width, decimal, plain, at_most, decimal_of}
use Rattle.text.specs.DigitLaws.{digits_read, read_digits, digits_length, below, Begins, digits_begin}

-- A digit's byte reads as the digit.
dec_back : (d : ℕ) → d < 10 → dec_digit (dec_char d) ≡ Some d
unfolding dec_digit
dec_back d h = simp (le-ltb (48 + d) 48 (omega arith), le-ltb 57 (48 + d) (omega arith)) (ap Some (omega arith))

-- A byte that reads as a digit is that digit's.
pub dec_only : (x d : ℕ) → dec_digit x ≡ Some d → (d < 10) × (dec_char d ≡ x)
unfolding dec_digit
dec_only x d h = go (ltb x 48) refl (ltb 57 x) refl h
  where
    go : (p : Bool) → ltb x 48 ≡ p → (q : Bool) → ltb 57 x ≡ q → cond p None (cond q None (Some (x - 48))) ≡ Some d
        → (d < 10) × (48 + d ≡ x)
    go true e q f h = absurd (none-some d h)
    go false e true f h = absurd (none-some d h)
    go false e false f h =
        let a = ltb-false x 48 e in
        let b = ltb-false 57 x f in
        let is = same_Some (x - 48) d h in
        (omega arith, omega arith)

-- ---- how many digits

-- v has more than k digits: the first of k + 1 is no zero unless it is the only one.
abbrev pub Lead : ℕ → ℕ → Type 0
Lead zero v = 0 ≤ v
Lead (suc k) v = 10 ^ suc k ≤ v

-- Powers of ten grow.
ten_up : (i j : ℕ) → i ≤ j → 10 ^ i ≤ 10 ^ j
ten_up i j h = pow-le-pow_right (lit< tt) h

pub ten_pos : (k : ℕ) → 0 < 10 ^ k
ten_pos k = ten_up 0 k (omega arith)

-- All powers up to one that is reached are.
reached_full : (j v : ℕ) → Lead j v → reached j v ≡ j
reached_full zero v h = refl
reached_full (suc j) v h = simp (reached_full j v (lower j h), le-leb (10 ^ suc j) v h) (omega arith)
  where
    lower : (j : ℕ) → 10 ^ suc j ≤ v → Lead j v
    lower zero h = omega arith
    lower (suc j) h = le_trans (ten_up (suc j) (suc (suc j)) (omega arith)) h

-- None is from one on that is not.
reached_stop : (i j v : ℕ) → v < 10 ^ suc i → i ≤ j → reached j v ≡ reached i v
reached_stop i zero v h le = let z : i ≡ 0 = omega arith in ap (λ (k : ℕ). reached k v) (sym z)
reached_stop i (suc j) v h le = go (leb i j) refl (reached_stop i j v h)
  where
    go : (t : Bool) → leb i j ≡ t → (i ≤ j → reached j v ≡ reached i v)
        → reached j v + bool_byte (leb (10 ^ suc j) v) ≡ reached i v
    go true e ih =
        let l = leb-true i j e in
        let far : v < 10 ^ suc j = lt_of_lt_of_le h (ten_up (suc i) (suc j) (omega arith)) in
        simp (lt-leb (10 ^ suc j) v far) (omega (arith, ih l))
    go false e ih = let l = leb-false i j e in let z : i ≡ suc j = omega arith in ap (λ (k : ℕ). reached k v) (sym z)

reached_le : (k v : ℕ) → reached k v ≤ k
reached_le zero v = omega arith
reached_le (suc k) v = go (leb (10 ^ suc k) v) (reached_le k v)
  where
    go : (t : Bool) → reached k v ≤ k → reached k v + bool_byte t ≤ suc k
    go true ih = omega arith
    go false ih = omega arith

pub width_is : (k v : ℕ) → Lead k v → v < 10 ^ suc k → k ≤ 19 → width v ≡ suc k
unfolding width
width_is k v l h le = ap (λ (x : ℕ). 1 + x) (reached_stop k 19 v h le ∙ reached_full k v l) ∙ omega arith

pub width_le : (v : ℕ) → width v ≤ 20
unfolding width
width_le v = omega (arith, reached_le 19 v)

-- A number below a power of ten is short.
pub decimal_short : (k v : ℕ) → v < 10 ^ suc k → k ≤ 19 → width v ≤ suc k
unfolding width
decimal_short k v h le = omega (arith, reached_stop k 19 v h le, reached_le k v)

pub decimal_length : (v : ℕ) → length (decimal v) ≡ width v
unfolding decimal
decimal_length v = digits_length 10 dec_char (width v) v

-- v has k + 1 digits, of the twenty there are.
record Wide (v : ℕ) : Type 0 where
  pub k : ℕ
  pub small : k ≤ 19
  pub lead : Lead k v
  pub above : v < 10 ^ suc k

widest : (j v : ℕ) → v < 10 ^ suc j → j ≤ 19 → Wide v
widest zero v h le = record { k = 0; small = omega arith; lead = omega arith; above = h }
widest (suc j) v h le = go (leb (10 ^ suc j) v) refl (λ (q : v < 10 ^ suc j). widest j v q (omega arith))
  where
    go : (t : Bool) → leb (10 ^ suc j) v ≡ t → (v < 10 ^ suc j → Wide v) → Wide v
    go true e ih = record { k = suc j; small = le; lead = leb-true (10 ^ suc j) v e; above = h }
    go false e ih = ih (leb-false (10 ^ suc j) v e)

-- A number of more than k digits below 10 ^ 20 has at most twenty.
pub few : (k v : ℕ) → Lead k v → v < 10 ^ 20 → k ≤ 19
few zero v l h = omega arith
few (suc k) v l h = go (leb (suc k) 19) refl
  where
    go : (t : Bool) → leb (suc k) 19 ≡ t → suc k ≤ 19
    go true e = leb-true (suc k) 19 e
    go false e = absurd (omega (arith, ten_up 20 (suc k) (leb-false (suc k) 19 e)))

-- ---- the first digit

-- The first digit of a number is no zero.
first : (k v : ℕ) → 10 ^ k ≤ v → v < 10 ^ suc k → v / 10 ^ k % 10 ≡ 0 → ⊥
first k v lo hi e =
    let q : v / 10 ^ k < 10 = (div-lt_iff_lt-mul (ten_pos k)).1 (rw (pow-succ' 10 k) at hi) in
    let z : v / 10 ^ k ≡ 0 = sym (mod-eq_of_lt q) ∙ e in
    omega (arith, below v (10 ^ k) (ten_pos k) z)

-- What is written has no leading zero.
digits_plain : (k v : ℕ) → Lead k v → v < 10 ^ suc k → plain (digits 10 dec_char (suc k) v) ≡ true
unfolding plain
digits_plain zero v l h = refl
digits_plain (suc k) v l h = simp (ne_eqb (48 + v / 10 ^ suc k % 10) 48 (λ e. first (suc k) v l h (omega arith)))

-- Digits without a leading zero are those of a number that has so many.
plain_lead : (k v : ℕ) (f : List ℕ) → f ≡ digits 10 dec_char (suc k) v → plain f ≡ true → Lead k v
unfolding plain
plain_lead zero v f e p = omega arith
plain_lead (suc k) v f e p = go (leb (10 ^ suc k) v) refl
  where
    go : (t : Bool) → leb (10 ^ suc k) v ≡ t → 10 ^ suc k ≤ v
    go true h = leb-true (10 ^ suc k) v h
    go false h =
        let z : v / 10 ^ suc k ≡ 0 = div-eq_of_lt (leb-false (10 ^ suc k) v h) in
        let q : plain (digits 10 dec_char (suc (suc k)) v) ≡ false = simp z in
        true≢false (sym p ∙ ap plain e ∙ q)

pub decimal_some : (v : ℕ) → Begins (decimal v)
unfolding decimal width
decimal_some v = digits_begin 10 dec_char (λ d. omega arith) (width v) v (omega arith)

-- ---- both ways

-- What is written of a number reads as the number.
pub decimal_reads : (max v : ℕ) → v ≤ max → max < 2 ^ 64 → decimal_of max (decimal v) ≡ Some v
unfolding decimal_of decimal
decimal_reads max v h m =
    let top : 2 ^ 64 < 10 ^ 20 = lit< tt in
    let w = widest 19 v (omega arith) (omega arith) in
    let is = width_is w.k v w.lead w.above w.small in
    let val : value_from 10 dec_digit 0 (digits 10 dec_char (suc w.k) v) ≡ Some v =
    ap (λ (x : ℕ). value_from 10 dec_digit x (digits 10 dec_char (suc w.k) v)) (sym (div-eq_of_lt w.above))
    ∙ digits_read 10 (lit< tt) dec_char dec_digit dec_back dec_only (suc w.k) v in
    rw (is, digits_plain w.k v w.lead w.above, val, le-leb v max h)

-- Digits without a leading zero that read as v are those written of v.
plain_exact : (v : ℕ) → v < 2 ^ 64 → (f : List ℕ) → plain f ≡ true → value_from 10 dec_digit 0 f ≡ Some v → f ≡ decimal v
unfolding decimal plain
plain_exact v top [] p e = true≢false (sym p)
plain_exact v top (x ∷ xs) p e =
    let r = read_digits 10 (lit< tt) dec_char dec_digit dec_back dec_only (x ∷ xs) 0 v e in
    let l = plain_lead (length xs) v (x ∷ xs) r.1 p in
    let above = below v (10 ^ suc (length xs)) (ten_pos (suc (length xs))) r.0 in
    let ends : 2 ^ 64 < 10 ^ 20 = lit< tt in
    let w = width_is (length xs) v l above (few (length xs) v l (omega arith)) in
    r.1 ∙ ap (λ (k : ℕ). digits 10 dec_char k v) (sym w)

-- A number that is at most max is the one that was read.
most : (max v : ℕ) (n : Option ℕ) → at_most max n ≡ Some v → (n ≡ Some v) × (v ≤ max)
most max v None h = absurd (none-some v h)
most max v (Some x) h = go (leb x max) refl h
  where
    go : (t : Bool) → leb x max ≡ t → then_some t x ≡ Some v → (Some x ≡ Some v) × (v ≤ max)
    go true e h = let l = leb-true x max e in (h, omega (arith, same_Some x v h))
    go false e h = absurd (none-some v h)

-- What reads as a number is what is written of it.
pub decimal_exact : (max : ℕ) → max < 2 ^ 64 → (f : List ℕ) (v : ℕ) → decimal_of max f ≡ Some v → (f ≡ decimal v) × (v ≤ max)
unfolding decimal_of
decimal_exact max m f v h = go (plain f) refl h
  where
    go : (p : Bool) → plain f ≡ p → cond p (at_most max (value_from 10 dec_digit 0 f)) None ≡ Some v → (f ≡ decimal v) × (v ≤ max)
    go false e h = absurd (none-some v h)
    go true e h = let n = most max v (value_from 10 dec_digit 0 f) h in (plain_exact v (omega (arith, n.1)) f e n.0, n.1)

-- What a field holds is at most what it may be.
pub decimal_below : (max : ℕ) (f : List ℕ) → IfSome (decimal_of max f) (λ v. v ≤ max)
unfolding decimal_of
decimal_below max f = go (plain f) (value_from 10 dec_digit 0 f)
  where
    in_max : (v : ℕ) (t : Bool) → leb v max ≡ t → IfSome (then_some t v) (λ v. v ≤ max)
    in_max v true e = leb-true v max e
    in_max v false e = tt

    go : (p : Bool) (n : Option ℕ) → IfSome (cond p (at_most max n) None) (λ v. v ≤ max)
    go false n = tt
    go true None = tt
    go true (Some v) = in_max v (leb v max) refl
