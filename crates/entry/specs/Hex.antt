-- 01, "Lines": "Entries are 32 .. lowercase hex digits".
use Rattle.std.specs.Prelude.{ℕ, ◌*◌, ◌/◌, ◌%◌, ◌^◌, ◌<◌, List, [], ◌∷◌, take, drop, Option, Some}
use Rattle.text.specs.Digits.{hex_char, ◌>>=◌, hex_of, word_digits}
use Rattle.entry.specs.declared.Entry.{Entry}
use Rattle.entry.specs.Entry.{bytes_of, of_words}

-- Two digits a byte, the higher half first.
abbrev pub bytes_text : List ℕ → List ℕ
bytes_text [] = []
bytes_text (b ∷ bs) = hex_char (b / 16) ∷ hex_char (b % 16) ∷ bytes_text bs

-- Byte 0 first.
unfoldable pub entry_text : Entry → List ℕ
entry_text e = bytes_text (bytes_of e)

-- "32 .. lowercase hex digits": two for each of the 16 bytes.
abbrev pub entry_digits : ℕ
entry_digits = 2 * 16

-- The entry that a field holds: the two words that its digits make, where all of them are digits and there are just enough.
unfoldable pub entry_field : List ℕ → Option Entry
entry_field f = do
  h ← hex_of (take word_digits f)
  l ← hex_of (drop word_digits f)
  Some (of_words h l)

-- The entries there are: a word is a number of 64 bits.
pub record IsEntry (e : Entry) : Type 0 where
  pub hi : e.hi < 2 ^ 64
  pub lo : e.lo < 2 ^ 64
