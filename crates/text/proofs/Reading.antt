-- Steps of the loops that read numbers.
use Prim.Native.Nat.{ℕ, ◌+◌, ◌*◌, ◌-◌, ◌/◌, ◌%◌, ◌^◌, ◌≤◌, ◌<◌}
use mathlib.Core.Path.{◌≡◌, refl, sym, ap, ◌∙◌}
use mathlib.Core.Bool.{Bool, true, false, not, ◌&&◌, cond}
use mathlib.Core.List.{List, [], ◌∷◌}
use native.Mathlib.Omega.{arith}
use native.Mathlib.Numerals.{add-one}
use native.Mathlib.Nat.{pow-suc, pow-le-pow_right, lt_of_lt_of_le, mod-lt}
use lib.Dec.{eqb, ltb, leb, lit<}
use lib.ListN.{length, drop, get_or, drop_of_length-le}
use lib.Seq.{drop-cons}
use mir.Val.{bool_byte}
use borrow.Author.Tests.{ltb-false, leb-true, eq-eqb, ne_eqb, le-leb, lt-leb, le-ltb, lt-ltb}
use Rattle.std.specs.Prelude.{Option, Some, None, option_and_then, ◌⊎◌}
use Rattle.std.proofs.Common.{inl, inr}
use Rattle.std.proofs.lemmas.Option.{same_Some, none-some}
use Rattle.text.specs.Digits.{value_from, dec_digit, hex_char, hex_digit, plain, at_most, decimal_of}
use Rattle.text.specs.Digits.{word_digits, hex_of, letter_of}
use Rattle.text.specs.HexLaws.{hex_back, hex_only}

-- ---- digits of any base

module _ (b : ℕ) (digit : ℕ → Option ℕ) (v : ℕ) (t : List ℕ) (i : ℕ) (h : i < length t) where
  -- One byte more is read.
  pub value_step : value_from b digit v (drop i t)
      ≡ option_and_then (λ d. value_from b digit (b * v + d) (drop (i + 1) t)) (digit (get_or t i 0))
  value_step = rw (drop-cons t i 0 h, add-one)

  -- It is no digit.
  pub value_bad : digit (get_or t i 0) ≡ None → value_from b digit v (drop i t) ≡ None
  value_bad e = value_step ∙ simp e

  -- It is one.
  pub value_more : (d : ℕ) → digit (get_or t i 0) ≡ Some d → value_from b digit v (drop i t) ≡ value_from b digit (b * v + d) (drop (i + 1) t)
  value_more d e = value_step ∙ simp e

-- All bytes are read.
pub value_end : (b : ℕ) (digit : ℕ → Option ℕ) (v : ℕ) (t : List ℕ) (i : ℕ) → length t ≤ i → value_from b digit v (drop i t) ≡ Some v
value_end b digit v t i h = ap (value_from b digit v) (drop_of_length-le t {i = i} h)

-- ---- decimals

pub dec_is : (x : ℕ) → 48 ≤ x → x ≤ 57 → Some (x - 48) ≡ dec_digit x
unfolding dec_digit
dec_is x lo hi = simp (le-ltb x 48 lo, le-ltb 57 x hi)

pub dec_none : (x : ℕ) → (x < 48) ⊎ (57 < x) → None ≡ dec_digit x
unfolding dec_digit
dec_none x (inl lo) = simp (lt-ltb x 48 lo)
dec_none x (inr hi) = simp (le-ltb x 48 (omega arith), lt-ltb 57 x hi)

-- More digits do not bring a number back to its most.
pub value_over : (max a : ℕ) (s : List ℕ) → max < a → at_most max (value_from 10 dec_digit a s) ≡ None
value_over max a [] h = simp (lt-leb a max h)
value_over max a (x ∷ xs) h = go (dec_digit x) (λ d. value_over max (10 * a + d) xs (omega arith))
  where
    rest : ℕ → Option ℕ
    rest d = value_from 10 dec_digit (10 * a + d) xs

    go : (o : Option ℕ) → ((d : ℕ) → at_most max (rest d) ≡ None) → at_most max (option_and_then rest o) ≡ None
    go None later = refl
    go (Some d) later = later d

pub decimal_empty : (max : ℕ) (t : List ℕ) → length t ≡ 0 → decimal_of max t ≡ None
unfolding decimal_of plain
decimal_empty max [] h = refl
decimal_empty max (x ∷ xs) h = absurd (omega arith)

-- What the code asks of the first byte is what `plain` asks.
first_byte : (t : List ℕ) → (length t ≡ 0 → ⊥) → plain t ≡ not (eqb (get_or t 0 0) 48 && not (eqb (length t) 1))
unfolding plain
first_byte [] ne = absurd (ne refl)
first_byte (b ∷ []) ne = go (eqb b 48)
  where
    go : (t : Bool) → true ≡ not (t && false)
    go true = refl
    go false = refl
first_byte (b ∷ c ∷ cs) ne = simp (ne_eqb (length (b ∷ c ∷ cs)) 1 (λ e. omega arith)) (go (eqb b 48))
  where
    go : (t : Bool) → not t ≡ not (t && true)
    go true = refl
    go false = refl

module _ (max : ℕ) (t : List ℕ) (ne : length t ≡ 0 → ⊥) where
  -- There is a leading zero.
  pub decimal_led : (eqb (get_or t 0 0) 48 && not (eqb (length t) 1)) ≡ true → decimal_of max t ≡ None
  unfolding decimal_of
  decimal_led e = simp (first_byte t ne, e)

  -- There is none.
  pub decimal_start : (eqb (get_or t 0 0) 48 && not (eqb (length t) 1)) ≡ false
      → decimal_of max t ≡ at_most max (value_from 10 dec_digit 0 t)
  unfolding decimal_of
  decimal_start e = simp (first_byte t ne, e)

pub most_some : (max v : ℕ) → v ≤ max → at_most max (Some v) ≡ Some v
most_some max v h = simp (le-leb v max h)

-- ---- hex

-- i digits are below 16 ^ i, and sixteen fit a word.
pub hex_room : (v d i : ℕ) → v < 16 ^ i → d < 16 → i < word_digits → (16 * v + d < 16 ^ (i + 1)) × (16 * v + d < 2 ^ 64)
hex_room v d i h low le =
    let one : 16 * v + d < 16 ^ (i + 1) = rw (add-one i, pow-suc 16 i) (omega arith) in
    (one, lt_of_lt_of_le one (pow-le-pow_right (lit< tt) {i = i + 1} {j = word_digits} (omega arith)))

pub hex_long : (t : List ℕ) → length t ≡ word_digits → hex_of t ≡ value_from 16 hex_digit 0 t
unfolding hex_of
hex_long t e = simp (eq-eqb (length t) word_digits e)

pub hex_short : (t : List ℕ) → (length t ≡ word_digits → ⊥) → hex_of t ≡ None
unfolding hex_of
hex_short t ne = simp (ne_eqb (length t) word_digits ne)

-- What is known of the number that the code reads from a byte.
abbrev pub Nibble : ℕ → ℕ → Type 0
Nibble x d = (d < 16) × ((e : ℕ) → hex_digit x ≡ Some e → d ≡ e)

-- The flag keeps whether every byte was a digit; a byte is one where the number read from it is written as that byte.
pub hex_step : (good : Bool) (v : ℕ) (t : List ℕ) (i : ℕ) → i < length t → (d : ℕ) → Nibble (get_or t i 0) d
    → cond good (value_from 16 hex_digit v (drop i t)) None
    ≡ cond (good && eqb (get_or t i 0) (hex_char d)) (value_from 16 hex_digit (16 * v + d) (drop (i + 1) t)) None
hex_step false v t i h d p = refl
hex_step true v t i h d p = value_step 16 hex_digit v t i h ∙ go (hex_digit (get_or t i 0)) refl
  where
    x : ℕ
    x = get_or t i 0

    rest : ℕ → Option ℕ
    rest e = value_from 16 hex_digit (16 * v + e) (drop (i + 1) t)

    go : (o : Option ℕ) → hex_digit x ≡ o → option_and_then rest o ≡ cond (eqb x (hex_char d)) (rest d) None
    go None n = simp (ne_eqb x (hex_char d) (λ (q : x ≡ hex_char d). none-some d (sym n ∙ ap hex_digit q ∙ hex_back d p.0)))
    go (Some e) n =
        let is : d ≡ e = p.1 e n in
        simp (eq-eqb x (hex_char d) (sym (ap hex_char is ∙ (hex_only x e n).1))) (ap rest (sym is))

pub bit_le : (b : Bool) → bool_byte b ≤ 1
bit_le true = omega arith
bit_le false = omega arith

-- A letter's number is nine more than its low half, a decimal digit's is its low half.
pub nibble_is : (x : ℕ) → Nibble x ((x % 16 + 9 * (x / 64 % 2)) % 16)
unfolding hex_digit
nibble_is x = (mod-lt _ (lit< tt), λ d. go d (ltb x 48) refl (leb x 57) refl (ltb x 97) refl (leb x 102) refl)
  where
    go : (d : ℕ) (p : Bool) → ltb x 48 ≡ p → (q : Bool) → leb x 57 ≡ q → (r : Bool) → ltb x 97 ≡ r → (s : Bool) → leb x 102 ≡ s
        → cond p None (cond q (Some (x - 48)) (cond r None (cond s (Some (x - 97 + 10)) None))) ≡ Some d
        → (x % 16 + 9 * (x / 64 % 2)) % 16 ≡ d
    go d true e q f r g s i z = absurd (none-some d z)
    go d false e true f r g s i z =
        let a = ltb-false x 48 e in
        let b = leb-true x 57 f in
        let letter : x / 64 % 2 ≡ 0 = omega arith in
        let low : x % 16 ≡ x - 48 = omega arith in
        rw (letter, low) (omega (arith, same_Some (x - 48) d z))
    go d false e false f true g s i z = absurd (none-some d z)
    go d false e false f false g true i z =
        let a = ltb-false x 97 g in
        let b = leb-true x 102 i in
        let letter : x / 64 % 2 ≡ 1 = omega arith in
        let low : x % 16 ≡ x - 96 = omega arith in
        rw (letter, low) (omega (arith, same_Some (x - 97 + 10) d z))
    go d false e false f false g false i z = absurd (none-some d z)

-- ---- one byte

pub letter_is : (t : List ℕ) → length t ≡ 1 → Some (get_or t 0 0) ≡ letter_of t
unfolding letter_of
letter_is [] h = absurd (omega arith)
letter_is (b ∷ []) h = refl
letter_is (b ∷ c ∷ cs) h = absurd (omega arith)

pub letter_not : (t : List ℕ) → (length t ≡ 1 → ⊥) → None ≡ letter_of t
unfolding letter_of
letter_not [] h = refl
letter_not (b ∷ []) h = absurd (h refl)
letter_not (b ∷ c ∷ cs) h = refl
