-- An entry's text as two words of digits: how the code reads and puts it.
use Prim.Native.Nat.{ℕ, ◌+◌, ◌^◌, ◌<◌}
use mathlib.Core.Path.{◌≡◌, sym, ap, ◌∙◌}
use mathlib.Core.Bool.{true, false}
use mathlib.Core.List.{List, ◌++◌}
use native.Mathlib.Omega.{arith}
use lib.ListN.{length, take, length-take}
use borrow.Author.Tests.{leb-true, leb-false, ne_eqb}
use Rattle.std.specs.Prelude.{None}
use Rattle.text.specs.Digits.{hex, hex_of, word_digits}
use Rattle.text.specs.HexLaws.{hex_length}
use Rattle.text.specs.Put.{room, placed}
use Rattle.text.specs.PutLaws.{placed_room, placed_none, puts_placed, put_then}
use Rattle.entry.specs.declared.Entry.{Entry}
use Rattle.entry.specs.Hex.{entry_text, entry_digits, entry_field, IsEntry}
use Rattle.entry.specs.HexLaws.{text_words, text_length}

-- A field of less than a word holds no entry.
pub short_field : (f : List ℕ) → length f < word_digits → None ≡ entry_field f
unfolding entry_field hex_of
short_field f h =
    sym (simp (ne_eqb (length (take word_digits f)) word_digits (λ e. omega (arith, length-take word_digits f))))

module _ (s : List ℕ) (p : ℕ) (e : Entry) where
  -- Where there is no room nothing is put.
  pub no_room : room s p entry_digits ≡ false → s ≡ placed s p (entry_text e)
  no_room h = sym (placed_none s p (entry_text e) (omega (arith, leb-false (p + entry_digits) (length s) h, text_length e)))

  -- Where there is, one word after the other.
  pub put_words : (x y : List ℕ) → e.hi < 2 ^ 64 → e.lo < 2 ^ 64 → room s p entry_digits ≡ true
      → x ≡ placed s p (hex e.hi) → y ≡ placed x (p + word_digits) (hex e.lo) → y ≡ placed s p (entry_text e)
  put_words x y high low h a b =
      let i : IsEntry e = record { hi = high; lo = low } in
      let one = puts_placed s p (hex e.hi) (p + word_digits) x a (omega (arith, hex_length e.hi)) in
      let two = puts_placed x (p + word_digits) (hex e.lo) (p + entry_digits) y b (omega (arith, hex_length e.lo)) in
      let both = put_then s p (hex e.hi) (p + word_digits) x (hex e.lo) (p + entry_digits) y one two in
      let fits = leb-true (p + entry_digits) (length s) h in
      let words = hex e.hi ++ hex e.lo in
      let long : length words ≡ entry_digits = ap length (sym (text_words e i)) ∙ text_length e in
      both.bytes (omega arith) ∙ sym (placed_room s p words (omega arith)) ∙ ap (placed s p) (sym (text_words e i))
