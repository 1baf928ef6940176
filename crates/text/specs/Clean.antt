-- Texts in which nothing parts fields or ends a line: what a field may hold.
use Rattle.std.specs.Prelude.{ℕ, zero, suc, ◌/◌, ◌%◌, ◌^◌, ◌≤◌, ◌≡◌, false, List, [], ◌∷◌, ◌++◌}
use Rattle.std.proofs.Common.{arith}
use Rattle.text.specs.Digits.{digits, dec_char, hex_char, width, decimal, word_digits, hex}
use Rattle.text.specs.FieldEnds.{clean_byte}
use Rattle.text.specs.Fields.{stopper}
use Rattle.text.specs.HexLaws.{hex_from}

abbrev pub Clean : List ℕ → Type 0
Clean [] = Unit
Clean (b ∷ bs) = (stopper b ≡ false) × Clean bs

pub clean_append : (f g : List ℕ) → Clean f → Clean g → Clean (f ++ g)
clean_append [] g c d = d
clean_append (b ∷ bs) g c d = (c.0, clean_append bs g c.1 d)

digits_clean : (b : ℕ) (char : ℕ → ℕ) → ((d : ℕ) → 48 ≤ char d) → (k v : ℕ) → Clean (digits b char k v)
digits_clean b char from zero v = tt
digits_clean b char from (suc k) v = (clean_byte (char (v / b ^ k % b)) (from (v / b ^ k % b)), digits_clean b char from k v)

pub decimal_clean : (v : ℕ) → Clean (decimal v)
unfolding decimal
decimal_clean v = digits_clean 10 dec_char (λ d. omega arith) (width v) v

pub hex_clean : (w : ℕ) → Clean (hex w)
unfolding hex
hex_clean w = digits_clean 16 hex_char hex_from word_digits w
