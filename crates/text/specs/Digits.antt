-- 01, "Lines": decimals "have no sign and no leading zero"; entries and masks are "lowercase hex digits".
use Rattle.std.specs.Prelude.{ℕ, zero, suc, ◌+◌, ◌*◌, ◌-◌, ◌/◌, ◌%◌, ◌^◌, Bool, true, false, not, cond, List, [], ◌∷◌, eqb, ltb, leb, length, Option, Some, None, option_and_then}
use mir.Val.{bool_byte}
use Rattle.std.specs.Bool.{then_some}

-- ---- written

-- The k lowest digits of v in base b, the highest of them first; `char` writes a digit.
abbrev pub digits : ℕ → (ℕ → ℕ) → ℕ → ℕ → List ℕ
digits b char zero v = []
digits b char (suc k) v = char (v / b ^ k % b) ∷ digits b char k v

-- 0 to 9
abbrev pub dec_char : ℕ → ℕ
dec_char d = 48 + d

-- 0 to 9, a to f
unfoldable pub hex_char : ℕ → ℕ
hex_char d = cond (ltb d 10) (48 + d) (97 + (d - 10))

-- How many of the powers of ten from the first to the k-th v reaches.
abbrev pub reached : ℕ → ℕ → ℕ
reached zero v = 0
reached (suc k) v = reached k v + bool_byte (leb (10 ^ suc k) v)

-- How many digits a decimal has: one, and one more for each power of ten that it reaches. A 64-bit number reaches 19 at most.
unfoldable pub width : ℕ → ℕ
width v = 1 + reached 19 v

-- "no sign and no leading zero"
unfoldable pub decimal : ℕ → List ℕ
decimal v = digits 10 dec_char (width v) v

-- A word: sixteen hex digits, its highest bit first.
abbrev pub word_digits : ℕ
word_digits = 16

unfoldable pub hex : ℕ → List ℕ
hex w = digits 16 hex_char word_digits w

-- ---- read

-- What the next step makes of what was read, where something was; `do` writes a chain of such steps.
infixl 10 ◌>>=◌
abbrev pub ◌>>=◌ : {A B : Type 0} → Option A → (A → Option B) → Option B
o >>= f = option_and_then f o

-- A digit's number, if the byte is one.
unfoldable pub dec_digit : ℕ → Option ℕ
dec_digit x = cond (ltb x 48) None (cond (ltb 57 x) None (Some (x - 48)))

unfoldable pub hex_digit : ℕ → Option ℕ
hex_digit x = cond (ltb x 48) None (cond (leb x 57) (Some (x - 48)) (cond (ltb x 97) None (cond (leb x 102) (Some (x - 97 + 10)) None)))

-- The number whose digits are those of a, then the bytes given, if all of them are digits; `digit` reads a byte.
abbrev pub value_from : ℕ → (ℕ → Option ℕ) → ℕ → List ℕ → Option ℕ
value_from b digit a [] = Some a
value_from b digit a (x ∷ xs) = do
  d ← digit x
  value_from b digit (b * a + d) xs

-- There is a digit, and the first is no zero unless it is the only one.
unfoldable pub plain : List ℕ → Bool
plain [] = false
plain (x ∷ []) = true
plain (x ∷ y ∷ ys) = not (eqb x 48)

abbrev pub at_most : ℕ → Option ℕ → Option ℕ
at_most max n = do
  v ← n
  then_some (leb v max) v

-- The decimal that a field holds, if it is at most max.
unfoldable pub decimal_of : ℕ → List ℕ → Option ℕ
decimal_of max f = cond (plain f) (at_most max (value_from 10 dec_digit 0 f)) None

-- The word that a field holds.
unfoldable pub hex_of : List ℕ → Option ℕ
hex_of f = cond (eqb (length f) word_digits) (value_from 16 hex_digit 0 f) None

-- The only byte of a field of one byte.
unfoldable pub letter_of : List ℕ → Option ℕ
letter_of [] = None
letter_of (x ∷ []) = Some x
letter_of (x ∷ y ∷ ys) = None
