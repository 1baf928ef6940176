-- One word and its bytes, said over the number of bytes.
use Rattle.std.specs.Prelude.{ℕ, zero, suc, ◌/◌, ◌%◌, ◌^◌, ◌*◌, ◌+◌, ◌<◌, ◌≡◌, refl, Bool, true, false, ◌&&◌, ◌||◌, List, [], ◌∷◌, ◌++◌, T, eqb, ltb, length}
use Rattle.std.proofs.Common.{sym, ap, ap₂, ◌∙◌, arith, div-lt_iff_lt-mul, mod-lt, ltb→lt, lt→ltb, lit<, eqb-true, eq-eqb, ltb-true, ltb-false, lt-ltb, le-ltb}
use Rattle.std.proofs.lemmas.Bool.{eqb-false}
use Rattle.base.specs.Tests.{and_l, and_r, and_i, and_true, and_assoc, same_test}
use Rattle.text.specs.DigitLaws.{none_off, more_off}
use Rattle.entry.specs.Flags.{two_steps}
use Rattle.entry.specs.Entry.{all, low_bytes, word_bytes, word_of, same_bytes, less_bytes}

-- A comparison that goes byte by byte goes word by word, where one step over a number's two parts is one step over the number.
module _ (compare : List ℕ → List ℕ → Bool) (step : ℕ → ℕ → Bool → Bool)
    (by-step : (x y : ℕ) (xs ys : List ℕ) → compare (x ∷ xs) (y ∷ ys) ≡ step x y (compare xs ys))
    (parts : (p q : ℕ) (r : Bool) → step (p / 256) (q / 256) (step (p % 256) (q % 256) r) ≡ step p q r) where
  over_bytes : (k a b : ℕ) (xs ys : List ℕ) → compare (a / 256 ^ k ∷ low_bytes k a ++ xs) (b / 256 ^ k ∷ low_bytes k b ++ ys) ≡ step a b (compare xs ys)
  over_bytes zero a b xs ys = by-step _ _ xs ys ∙ simp (none_off 256)
  over_bytes (suc k) a b xs ys =
      rw (by-step, by-step, more_off 256 k a, more_off 256 k b) (parts (a / 256 ^ k) (b / 256 ^ k) _ ∙ sym (by-step _ _ _ _) ∙ over_bytes k a b xs ys)

  pub by_word : (a b : ℕ) (xs ys : List ℕ) → compare (word_bytes a ++ xs) (word_bytes b ++ ys) ≡ step a b (compare xs ys)
  by_word = over_bytes 7

-- A number is told by, and ordered by, what stands above its lowest byte and then that byte.
eqb_parts : (p q : ℕ) → (eqb (p / 256) (q / 256) && eqb (p % 256) (q % 256)) ≡ eqb p q
eqb_parts p q = same_test _ _ whole halves
  where
    whole : (eqb (p / 256) (q / 256) && eqb (p % 256) (q % 256)) ≡ true → eqb p q ≡ true
    whole h =
        let t = and_true (eqb (p / 256) (q / 256)) (eqb (p % 256) (q % 256)) h in
        let high = eqb-true (p / 256) (q / 256) t.0 in
        let low = eqb-true (p % 256) (q % 256) t.1 in
        eq-eqb p q (omega arith)

    halves : eqb p q ≡ true → (eqb (p / 256) (q / 256) && eqb (p % 256) (q % 256)) ≡ true
    halves h = let e = eqb-true p q h in simp (eq-eqb (p / 256) (q / 256) (omega arith), eq-eqb (p % 256) (q % 256) (omega arith))

ltb_parts : (p q : ℕ) → (ltb (p / 256) (q / 256) || (eqb (p / 256) (q / 256) && ltb (p % 256) (q % 256))) ≡ ltb p q
ltb_parts p q = go (ltb (p / 256) (q / 256)) refl (eqb (p / 256) (q / 256)) refl
  where
    go : (t : Bool) → ltb (p / 256) (q / 256) ≡ t → (u : Bool) → eqb (p / 256) (q / 256) ≡ u → (t || (u && ltb (p % 256) (q % 256))) ≡ ltb p q
    go true e u f = let h = ltb-true (p / 256) (q / 256) e in sym (lt-ltb p q (omega arith))
    go false e true f =
        let h = eqb-true (p / 256) (q / 256) f in
        same_test _ _
        (λ (l : ltb (p % 256) (q % 256) ≡ true). let k = ltb-true (p % 256) (q % 256) l in lt-ltb p q (omega arith))
        (λ (l : ltb p q ≡ true). let k = ltb-true p q l in lt-ltb (p % 256) (q % 256) (omega arith))
    go false e false f =
        let h = ltb-false (p / 256) (q / 256) e in
        let k = eqb-false (p / 256) (q / 256) f in
        sym (le-ltb p q (omega arith))

-- One step of each comparison: what two bytes say, before what the rest says.
abbrev pub equal : ℕ → ℕ → Bool → Bool
equal x y rest = eqb x y && rest

abbrev pub below : ℕ → ℕ → Bool → Bool
below x y rest = ltb x y || (eqb x y && rest)

equal_parts : (p q : ℕ) (r : Bool) → equal (p / 256) (q / 256) (equal (p % 256) (q % 256) r) ≡ equal p q r
equal_parts p q r = rw (← eqb_parts p q) (simp and_assoc)

below_parts : (p q : ℕ) (r : Bool) → below (p / 256) (q / 256) (below (p % 256) (q % 256) r) ≡ below p q r
below_parts p q r = rw (← ltb_parts p q, ← eqb_parts p q) (simp two_steps)

pub equal_word : (a b : ℕ) (xs ys : List ℕ) → same_bytes (word_bytes a ++ xs) (word_bytes b ++ ys) ≡ equal a b (same_bytes xs ys)
equal_word = by_word same_bytes equal (λ x y xs ys. refl) equal_parts

pub below_word : (a b : ℕ) (xs ys : List ℕ) → less_bytes (word_bytes a ++ xs) (word_bytes b ++ ys) ≡ below a b (less_bytes xs ys)
below_word = by_word less_bytes below (λ x y xs ys. refl) below_parts

-- The bytes of a word make the word.
read_low : (k w : ℕ) → word_of (w / 256 ^ k) (low_bytes k w) ≡ w
read_low zero w = none_off 256 w
read_low (suc k) w =
    let p = w / 256 ^ k in
    let whole : p / 256 * 256 + p % 256 ≡ p = omega arith in
    rw (more_off 256 k w) (ap (λ (v : ℕ). word_of v (low_bytes k w)) whole ∙ read_low k w)

pub word_back : (w : ℕ) → word_of 0 (word_bytes w) ≡ w
word_back w =
    let first : 0 * 256 + w / 256 ^ 7 ≡ w / 256 ^ 7 = omega arith in
    ap (λ (v : ℕ). word_of v (low_bytes 7 w)) first ∙ read_low 7 w

-- Below 256: what a byte is.
abbrev pub is_byte : ℕ → Bool
is_byte x = ltb x 256

pub all_join : (xs ys : List ℕ) → T (all is_byte xs) → T (all is_byte ys) → T (all is_byte (xs ++ ys))
all_join [] ys h k = k
all_join (x ∷ xs) ys h k = and_i (is_byte x) (all is_byte (xs ++ ys)) (and_l (is_byte x) (all is_byte xs) h) (all_join xs ys (and_r (is_byte x) (all is_byte xs) h) k)

low_below : (k w : ℕ) → T (all is_byte (low_bytes k w))
low_below zero w = tt
low_below (suc k) w = and_i (is_byte (w / 256 ^ k % 256)) (all is_byte (low_bytes k w)) (lt→ltb (w / 256 ^ k % 256) 256 (mod-lt (w / 256 ^ k) (lit< tt))) (low_below k w)

-- The bytes of a word of 64 bits are bytes.
pub word_below : (w : ℕ) → w < 2 ^ 64 → T (all is_byte (word_bytes w))
word_below w h = and_i (is_byte (w / 256 ^ 7)) (all is_byte (low_bytes 7 w)) (lt→ltb (w / 256 ^ 7) 256 ((div-lt_iff_lt-mul (lit< tt)).1 h)) (low_below 7 w)

-- Bytes that were read behind a word v leave v above them, and are the low bytes of what was made.
read_back : (xs : List ℕ) (v : ℕ) → T (all is_byte xs) → (word_of v xs / 256 ^ length xs ≡ v) × (low_bytes (length xs) (word_of v xs) ≡ xs)
read_back [] v h = (none_off 256 v, refl)
read_back (x ∷ xs) v h =
    let r = read_back xs (v * 256 + x) (and_r (is_byte x) (all is_byte xs) h) in
    let small : x < 256 = ltb→lt x 256 (and_l (is_byte x) (all is_byte xs) h) in
    let high : (v * 256 + x) / 256 ≡ v = omega arith in
    let low : (v * 256 + x) % 256 ≡ x = omega arith in
    let w = word_of (v * 256 + x) xs in (
      more_off 256 (length xs) w ∙ ap (λ (p : ℕ). p / 256) r.0 ∙ high,
      ap₂ (λ (y : ℕ) (ys : List ℕ). y ∷ ys) (ap (λ (p : ℕ). p % 256) r.0 ∙ low) r.1,
    )

-- Eight bytes are the bytes of the word they make.
pub word_made : (xs : List ℕ) → length xs ≡ 8 → T (all is_byte xs) → word_bytes (word_of 0 xs) ≡ xs
word_made [] n h = absurd (omega arith)
word_made (x ∷ xs) n h =
    let seven : length xs ≡ 7 = omega arith in
    let first : 0 * 256 + x ≡ x = omega arith in
    let lower = and_r (is_byte x) (all is_byte xs) h in
    let made : (word_of x xs / 256 ^ 7 ≡ x) × (low_bytes 7 (word_of x xs) ≡ xs) = rw seven at (read_back xs x lower) in
    ap (λ (v : ℕ). word_bytes (word_of v xs)) first ∙ ap₂ (λ (y : ℕ) (ys : List ℕ). y ∷ ys) made.0 made.1
