-- The text of an entry: two words of hex digits, written and read back, both ways.
use Rattle.std.specs.Prelude.{ℕ, zero, suc, ◌/◌, ◌%◌, ◌^◌, ◌<◌, ◌≡◌, refl, List, [], ◌∷◌, ◌++◌, length, take, drop, Some}
use Rattle.std.proofs.Common.{sym, ap, ap₂, ◌∙◌, arith, div-lt_iff_lt-mul, mod-eq_of_lt, lit<, take-append-drop, take_at, drop_at, subst}
use Rattle.std.proofs.lemmas.Option.{option_and_then_some, same_Some}
use Rattle.text.specs.Clean.{Clean, clean_append, hex_clean}
use Rattle.text.specs.Digits.{digits, hex_char, hex, hex_of, word_digits}
use Rattle.text.specs.DigitLaws.{more_off}
use Rattle.text.specs.HexLaws.{hex_length, hex_reads, hex_exact}
use Rattle.entry.specs.declared.Entry.{Entry}
use Rattle.entry.specs.Entry.{low_bytes, word_bytes, of_words, zero_entry}
use Rattle.entry.specs.Hex.{bytes_text, entry_text, entry_digits, entry_field, IsEntry}

pub zero_is_entry : IsEntry zero_entry
zero_is_entry = record { hi = lit< tt; lo = lit< tt }

-- ---- two digits a byte are the digits of the word

-- How many digits k bytes have.
abbrev pairs : ℕ → ℕ
pairs zero = zero
pairs (suc k) = suc (suc (pairs k))

-- What stands above k bytes stands above their digits.
above_pairs : (w k : ℕ) → w / 256 ^ k ≡ w / 16 ^ pairs k
above_pairs w zero = refl
above_pairs w (suc k) =
    let q : w / 256 ^ k ≡ w / 16 ^ pairs k = above_pairs w k in
    rw (more_off 256 k w, more_off 16 (suc (pairs k)) w, more_off 16 (pairs k) w, q) (omega arith)

-- The digits of the k lowest bytes.
low_text : (k w : ℕ) → bytes_text (low_bytes k w) ≡ digits 16 hex_char (pairs k) w
low_text zero w = refl
low_text (suc k) w =
    let n = pairs k in
    let high : w / 256 ^ k % 256 / 16 ≡ w / 16 ^ suc n % 16 = rw (more_off 16 n w, above_pairs w k) (omega arith) in
    let low : w / 256 ^ k % 256 % 16 ≡ w / 16 ^ n % 16 = rw (above_pairs w k) (omega arith) in
    ap₂ ◌∷◌ (ap hex_char high) (ap₂ ◌∷◌ (ap hex_char low) (low_text k w))

-- A word has no more than eight bytes.
all_low : (w : ℕ) → w < 2 ^ 64 → word_bytes w ≡ low_bytes 8 w
all_low w h = ap (λ (x : ℕ). x ∷ low_bytes 7 w) (sym (mod-eq_of_lt ((div-lt_iff_lt-mul (lit< tt)).1 h)))

word_text : (w : ℕ) → w < 2 ^ 64 → bytes_text (word_bytes w) ≡ hex w
unfolding hex
word_text w h = ap bytes_text (all_low w h) ∙ low_text 8 w

-- Bytes behind bytes, texts behind texts.
text_append : (xs ys : List ℕ) → bytes_text (xs ++ ys) ≡ bytes_text xs ++ bytes_text ys
text_append [] ys = refl
text_append (x ∷ xs) ys = ap (λ (s : List ℕ). hex_char (x / 16) ∷ hex_char (x % 16) ∷ s) (text_append xs ys)

-- By bytes or by words the text is the same.
pub text_words : (e : Entry) → IsEntry e → entry_text e ≡ hex e.hi ++ hex e.lo
unfolding entry_text
text_words e i =
    text_append (word_bytes e.hi) (word_bytes e.lo)
    ∙ ap₂ ◌++◌ (word_text e.hi i.hi) (word_text e.lo i.lo)

pub text_length : (e : Entry) → length (entry_text e) ≡ entry_digits
unfolding entry_text
text_length e = refl

pub text_some : (e : Entry) → 0 < length (entry_text e)
text_some e = rw (text_length e) (lit< tt)

pub text_clean : (e : Entry) → IsEntry e → Clean (entry_text e)
text_clean e i = rw (text_words e i) (clean_append (hex e.hi) (hex e.lo) (hex_clean e.hi) (hex_clean e.lo))

-- ---- both ways

-- What is written of an entry reads as the entry.
pub entry_reads : (e : Entry) → IsEntry e → entry_field (entry_text e) ≡ Some e
unfolding entry_field
entry_reads e i =
    let h = hex e.hi in
    let l = hex e.lo in
    let high = ap (take word_digits) (text_words e i) ∙ take_at h l word_digits (hex_length e.hi) in
    let low = ap (drop word_digits) (text_words e i) ∙ drop_at h l word_digits (hex_length e.hi) in
    rw (high, low, hex_reads e.hi i.hi, hex_reads e.lo i.lo)

-- What reads as an entry is what is written of it.
pub entry_exact : (f : List ℕ) (e : Entry) → entry_field f ≡ Some e → (f ≡ entry_text e) × IsEntry e
unfolding entry_field
entry_exact f e h =
    option_and_then_some _ (hex_of (take word_digits f)) e h λ hi is_hi low.
    option_and_then_some _ (hex_of (drop word_digits f)) e low λ lo is_lo words.
    let high = hex_exact (take word_digits f) hi is_hi in
    let low = hex_exact (drop word_digits f) lo is_lo in
    let is : IsEntry (of_words hi lo) = record { hi = high.1; lo = low.1 } in
    let text = sym (take-append-drop word_digits f) ∙ ap₂ ◌++◌ high.0 low.0 ∙ sym (text_words (of_words hi lo) is) in
    subst (λ (x : Entry). (f ≡ entry_text x) × IsEntry x) (same_Some (of_words hi lo) e words) (text, is)
