-- A word is written in sixteen hex digits, and only they read as it.
use Rattle.std.specs.Prelude.{ℕ, ◌+◌, ◌-◌, ◌/◌, ◌^◌, ◌<◌, ◌≤◌, ◌≡◌, refl, Bool, true, false, cond, List, eqb, ltb, leb, length, Some, None}
use Rattle.std.proofs.Common.{sym, ap, ◌∙◌, arith, lit<, ltb-true, ltb-false, leb-true, eqb-true, lt-ltb, le-ltb, le-leb}
use Rattle.std.proofs.Math.Nat.{div-eq_of_lt}
use Rattle.std.proofs.lemmas.Bool.{lt-leb}
use Rattle.std.proofs.lemmas.Option.{same_Some, none-some}
use Rattle.text.specs.Digits.{digits, value_from, hex_char, hex_digit, word_digits, hex, hex_of}
use Rattle.text.specs.DigitLaws.{digits_read, read_digits, digits_length, below, Begins, digits_begin}

-- 0 to 9
low_digit : (x : ℕ) → 48 ≤ x → x ≤ 57 → hex_digit x ≡ Some (x - 48)
unfolding hex_digit
low_digit x lo hi = simp (le-ltb x 48 lo, le-leb x 57 hi)

-- a to f
high_digit : (x : ℕ) → 97 ≤ x → x ≤ 102 → hex_digit x ≡ Some (x - 97 + 10)
unfolding hex_digit
high_digit x lo hi = simp (le-ltb x 48 (omega arith), lt-leb x 57 (omega arith), le-ltb x 97 lo, le-leb x 102 hi)

-- A digit's byte reads as the digit.
pub hex_back : (d : ℕ) → d < 16 → hex_digit (hex_char d) ≡ Some d
unfolding hex_char
hex_back d h = go (ltb d 10) refl
  where
    go : (t : Bool) → ltb d 10 ≡ t → hex_digit (cond t (48 + d) (97 + (d - 10))) ≡ Some d
    go true e = let b = ltb-true d 10 e in low_digit (48 + d) (omega arith) (omega arith) ∙ ap Some (omega arith)
    go false e = let b = ltb-false d 10 e in high_digit (97 + (d - 10)) (omega arith) (omega arith) ∙ ap Some (omega arith)

-- A byte that reads as a digit is that digit's.
pub hex_only : (x d : ℕ) → hex_digit x ≡ Some d → (d < 16) × (hex_char d ≡ x)
unfolding hex_digit hex_char
hex_only x d h = go (ltb x 48) refl (leb x 57) refl (ltb x 97) refl (leb x 102) refl h
  where
    go : (p : Bool) → ltb x 48 ≡ p → (q : Bool) → leb x 57 ≡ q → (r : Bool) → ltb x 97 ≡ r → (s : Bool) → leb x 102 ≡ s
        → cond p None (cond q (Some (x - 48)) (cond r None (cond s (Some (x - 97 + 10)) None))) ≡ Some d
        → (d < 16) × (cond (ltb d 10) (48 + d) (97 + (d - 10)) ≡ x)
    go true e q f r g s i h = absurd (none-some d h)
    go false e true f r g s i h =
        let a = ltb-false x 48 e in
        let b = leb-true x 57 f in
        let is = same_Some (x - 48) d h in
        (omega arith, simp (lt-ltb d 10 (omega arith)) (omega arith))
    go false e false f true g s i h = absurd (none-some d h)
    go false e false f false g true i h =
        let a = ltb-false x 97 g in
        let b = leb-true x 102 i in
        let is = same_Some (x - 97 + 10) d h in
        (omega arith, simp (le-ltb d 10 (omega arith)) (omega arith))
    go false e false f false g false i h = absurd (none-some d h)

pub hex_length : (w : ℕ) → length (hex w) ≡ word_digits
unfolding hex
hex_length w = digits_length 16 hex_char word_digits w

-- What is written of a word reads as the word.
pub hex_reads : (w : ℕ) → w < 2 ^ 64 → hex_of (hex w) ≡ Some w
unfolding hex_of hex
hex_reads w h =
    simp (digits_length 16 hex_char word_digits w)
    (ap (λ (x : ℕ). value_from 16 hex_digit x (digits 16 hex_char word_digits w)) (sym (div-eq_of_lt h))
    ∙ digits_read 16 (lit< tt) hex_char hex_digit hex_back hex_only word_digits w)

-- What reads as a word is what is written of it.
pub hex_exact : (f : List ℕ) (w : ℕ) → hex_of f ≡ Some w → (f ≡ hex w) × (w < 2 ^ 64)
unfolding hex_of hex
hex_exact f w h = go (eqb (length f) word_digits) refl h
  where
    go : (t : Bool) → eqb (length f) word_digits ≡ t → cond t (value_from 16 hex_digit 0 f) None ≡ Some w
        → (f ≡ digits 16 hex_char word_digits w) × (w < 2 ^ 64)
    go false e h = absurd (none-some w h)
    go true e h =
        let len = eqb-true (length f) word_digits e in
        let r = read_digits 16 (lit< tt) hex_char hex_digit hex_back hex_only f 0 w h in (
          r.1 ∙ ap (λ (k : ℕ). digits 16 hex_char k w) len,
          below w (2 ^ 64) (lit< tt) (ap (λ (k : ℕ). w / 16 ^ k) (sym len) ∙ r.0),
        )

-- Every hex digit's byte is 48 or more.
pub hex_from : (d : ℕ) → 48 ≤ hex_char d
unfolding hex_char
hex_from d = go (ltb d 10)
  where
    go : (t : Bool) → 48 ≤ cond t (48 + d) (97 + (d - 10))
    go true = omega arith
    go false = omega arith

pub hex_some : (w : ℕ) → Begins (hex w)
unfolding hex
hex_some w = digits_begin 16 hex_char hex_from word_digits w (lit< tt)
