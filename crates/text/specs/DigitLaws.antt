-- Digits written and read back, in any base and both ways.
use Rattle.std.specs.Prelude.{ℕ, zero, suc, ◌+◌, ◌*◌, ◌/◌, ◌%◌, ◌^◌, ◌<◌, ◌≤◌, ◌≡◌, refl, List, [], ◌∷◌, length, Option, Some}
use Rattle.std.proofs.Common.{sym, ap, ap₂, ◌∙◌, arith, pow-suc, div-one, mod-lt, div-lt_iff_lt-mul, one-mul, mul_comm}
use Rattle.std.proofs.Math.Nat.{pow-zero, div-div-eq-div-mul, div-add-mod}
use Rattle.std.proofs.Math.Arith.{digits_div, digits_mod}
use Rattle.std.proofs.lemmas.Option.{option_and_then_some, same_Some, none-some}
use Rattle.text.specs.Digits.{digits, value_from, letter_of}

-- A number without none of its last digits, and without one more of them.
pub none_off : (b v : ℕ) → v / b ^ 0 ≡ v
none_off b v = ap (λ (x : ℕ). v / x) (pow-zero b) ∙ div-one v

pub more_off : (b k v : ℕ) → v / b ^ suc k ≡ v / b ^ k / b
more_off b k v = ap (λ (x : ℕ). v / x) (pow-suc b k) ∙ sym (div-div-eq-div-mul v (b ^ k) b)

-- In base b, where `digit` reads back what `char` writes, and nothing else.
module _ (b : ℕ) (pos : 0 < b) (char : ℕ → ℕ) (digit : ℕ → Option ℕ)
    (back : (d : ℕ) → d < b → digit (char d) ≡ Some d)
    (only : (x d : ℕ) → digit x ≡ Some d → (d < b) × (char d ≡ x)) where
  -- What is written reads as the number, behind the digits above it.
  pub digits_read : (k v : ℕ) → value_from b digit (v / b ^ k) (digits b char k v) ≡ Some v
  digits_read zero v = ap Some (none_off b v)
  digits_read (suc k) v =
      let q = v / b ^ k in
      let small : q % b < b = mod-lt q pos in
      let is : digit (char (q % b)) ≡ Some (q % b) = back (q % b) small in
      let all : b * (v / b ^ suc k) + q % b ≡ q = ap (λ (x : ℕ). b * x + q % b) (more_off b k v) ∙ div-add-mod q b in
      simp (is, all) (digits_read k v)

  -- What reads as a number is what is written of it.
  pub read_digits : (f : List ℕ) (a v : ℕ) → value_from b digit a f ≡ Some v
      → (v / b ^ length f ≡ a) × (f ≡ digits b char (length f) v)
  read_digits [] a v h = (none_off b v ∙ sym (same_Some a v h), refl)
  read_digits (x ∷ xs) a v h =
      option_and_then_some _ (digit x) v h λ d is rest.
      let o = only x d is in
      let later = read_digits xs (b * a + d) v rest in
      let q : v / b ^ length xs ≡ a * b + d = later.0 ∙ omega (arith, mul_comm b a) in (
        more_off b (length xs) v ∙ ap (λ (y : ℕ). y / b) q ∙ digits_div a o.0,
        ap₂ ◌∷◌ (sym (ap (λ (y : ℕ). char (y % b)) q ∙ ap char (digits_mod a o.0) ∙ o.1)) later.1,
      )

pub digits_length : (b : ℕ) (char : ℕ → ℕ) (k v : ℕ) → length (digits b char k v) ≡ k
digits_length b char zero v = refl
digits_length b char (suc k) v = ap suc (digits_length b char k v)

-- A number that m does not go into is below m.
pub below : (v m : ℕ) → 0 < m → v / m ≡ 0 → v < m
below v m p e = let q : v / m < 1 = omega arith in simp one-mul at ((div-lt_iff_lt-mul p).0 q)

-- A text that has a first byte, and that byte is a digit or stands behind the digits.
pub record Begins (f : List ℕ) : Type 0 where
  pub byte : ℕ
  pub rest : List ℕ
  pub is : f ≡ byte ∷ rest
  pub digit : 48 ≤ byte

-- Digits of bytes from 48 on begin so, if there are any.
pub digits_begin : (b : ℕ) (char : ℕ → ℕ) → ((d : ℕ) → 48 ≤ char d) → (k v : ℕ) → 0 < k → Begins (digits b char k v)
digits_begin b char from zero v h = absurd (omega arith)
digits_begin b char from (suc k) v h =
    record { byte = char (v / b ^ k % b); rest = digits b char k v; is = refl; digit = from (v / b ^ k % b) }

-- A letter is the field's only byte.
pub letter_one : (f : List ℕ) (k : ℕ) → letter_of f ≡ Some k → f ≡ k ∷ []
unfolding letter_of
letter_one [] k e = absurd (none-some k e)
letter_one (x ∷ []) k e = ap (λ (y : ℕ). y ∷ []) (same_Some x k e)
letter_one (x ∷ y ∷ ys) k e = absurd (none-some k e)
