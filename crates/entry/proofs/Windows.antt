-- A serial is looked at in two words that overlap: bytes 0 to 7, and bytes 4 to 11.
use Prim.Native.Nat.{ℕ, suc, ◌+◌, ◌*◌, ◌/◌, ◌%◌, ◌^◌, ◌<◌}
use mathlib.Core.Path.{◌≡◌, refl, sym, ap, ap₂, ◌∙◌}
use mathlib.Core.Bool.{Bool, true, false, not, ◌&&◌, ◌||◌}
use mathlib.Core.List.{List, [], ◌∷◌, ◌++◌}
use native.Mathlib.Omega.{arith}
use native.Mathlib.Nat.{mod-lt, div-lt_iff_lt-mul}
use lib.Dec.{T, leb, lit<}
use lib.ListN.{take, drop}
use Rattle.base.specs.Tests.{true≢false, and_true, and_assoc}
use Rattle.text.specs.DigitLaws.{more_off}
use Rattle.entry.specs.declared.Entry.{Entry}
use Rattle.entry.specs.Entry.{all, visible, blank, stretched, well_formed, low_bytes, word_bytes, word_of}
use Rattle.entry.specs.Hex.{IsEntry}
use Rattle.entry.specs.Laws.{all_append}
use Rattle.entry.specs.Serial.{shown_first}
use Rattle.entry.specs.Words.{is_byte, all_join, word_back, word_below, word_made}
use Rattle.entry.proofs.Scan.{follows, scan, scan_stretched}

-- Whether a blank stands before what follows.
abbrev behind : Bool → List ℕ → Bool
behind b [] = b
behind b (x ∷ xs) = behind (blank x) xs

scan_append : (xs ys : List ℕ) (b : Bool) → scan b (xs ++ ys) ≡ (scan b xs && scan (behind b xs) ys)
scan_append [] ys b = refl
scan_append (x ∷ xs) ys b =
    ap (λ (t : Bool). follows b x && t) (scan_append xs ys (blank x)) ∙ and_assoc (follows b x) (scan (blank x) xs) (scan (behind (blank x) xs) ys)

-- What may stand behind a blank may stand anywhere.
scan_on : (x : ℕ) (xs : List ℕ) (b : Bool) → scan b (x ∷ xs) ≡ true → scan false (x ∷ xs) ≡ true
scan_on x xs b h = let t = and_true (follows b x) (scan (blank x) xs) h in ap₂ ◌&&◌ (first b (blank x) t.0) t.1
  where
    first : (b e : Bool) → (e || ((not b && leb 0x21 x) && leb x 0x7E)) ≡ true → (e || visible x) ≡ true
    first b true k = refl
    first true false k = true≢false (sym k)
    first false false k = k

-- Two stretches that share one that is not empty.
windows : (xs : List ℕ) (y : ℕ) (ys zs : List ℕ) → (stretched (xs ++ (y ∷ ys)) && stretched ((y ∷ ys) ++ zs)) ≡ stretched (xs ++ ((y ∷ ys) ++ zs))
windows xs y ys zs =
    ap₂ ◌&&◌ (sym (scan_stretched (xs ++ (y ∷ ys))) ∙ scan_append xs (y ∷ ys) false) (sym (scan_stretched ((y ∷ ys) ++ zs)) ∙ scan_append (y ∷ ys) zs false)
    ∙ join (scan false xs) (scan (behind false xs) (y ∷ ys)) (scan false (y ∷ ys)) (scan (behind (blank y) ys) zs) (scan_on y ys (behind false xs))
    ∙ sym (scan_append xs ((y ∷ ys) ++ zs) false ∙ ap (λ (t : Bool). scan false xs && t) (scan_append (y ∷ ys) zs (behind false xs)))
    ∙ scan_stretched (xs ++ ((y ∷ ys) ++ zs))
  where
    join : (a b c d : Bool) → (b ≡ true → c ≡ true) → ((a && b) && (c && d)) ≡ (a && (b && d))
    join false b c d h = refl
    join true false c d h = refl
    join true true c d h = ap (λ (t : Bool). t && d) (h refl)

-- ---- the word in the middle of two

-- Four bytes behind a number.
four : (v a b c d : ℕ) → word_of v (a ∷ b ∷ c ∷ d ∷ []) ≡ v * 0x100000000 + word_of 0 (a ∷ b ∷ c ∷ d ∷ [])
four v a b c d = omega arith

-- One byte more behind what stands above it.
next : (k w : ℕ) → w / 256 ^ suc k * 256 + w / 256 ^ k % 256 ≡ w / 256 ^ k
next k w = rw (more_off 256 k w) (omega arith)

upper : (w : ℕ) → word_of 0 (take 4 (word_bytes w)) ≡ w / 0x100000000
upper w =
    let first : 0 * 256 + w / 256 ^ 7 ≡ w / 256 ^ 7 = omega arith in
    ap (λ (v : ℕ). word_of v (w / 256 ^ 6 % 256 ∷ w / 256 ^ 5 % 256 ∷ w / 256 ^ 4 % 256 ∷ [])) first
    ∙ ap (λ (v : ℕ). word_of v (w / 256 ^ 5 % 256 ∷ w / 256 ^ 4 % 256 ∷ [])) (next 6 w)
    ∙ ap (λ (v : ℕ). word_of v (w / 256 ^ 4 % 256 ∷ [])) (next 5 w)
    ∙ next 4 w

lower : (w : ℕ) → word_of 0 (low_bytes 4 w) ≡ w % 0x100000000
lower w =
    let all = four (w / 0x100000000) (w / 256 ^ 3 % 256) (w / 256 ^ 2 % 256) (w / 256 ^ 1 % 256) (w / 256 ^ 0 % 256) in
    let back : word_of (w / 0x100000000) (low_bytes 4 w) ≡ w = ap (λ (v : ℕ). word_of v (low_bytes 4 w)) (sym (upper w)) ∙ word_back w in
    omega (arith, sym all ∙ back)

middle : (h l : ℕ) → h < 2 ^ 64 → l < 2 ^ 64
    → word_bytes (h % 0x100000000 * 0x100000000 + l / 0x100000000) ≡ drop 4 (word_bytes h) ++ take 4 (word_bytes l)
middle h l i j = ap word_bytes (sym whole) ∙ word_made bytes refl below
  where
    bytes : List ℕ
    bytes = drop 4 (word_bytes h) ++ take 4 (word_bytes l)

    below : T (all is_byte bytes)
    below =
        all_join (drop 4 (word_bytes h)) (take 4 (word_bytes l))
        (all_append is_byte (take 4 (word_bytes h)) (drop 4 (word_bytes h)) (word_below h i)).1
        (all_append is_byte (take 4 (word_bytes l)) (drop 4 (word_bytes l)) (word_below l j)).0

    whole : word_of 0 bytes ≡ h % 0x100000000 * 0x100000000 + l / 0x100000000
    whole =
        four (word_of 0 (low_bytes 4 h)) (l / 256 ^ 7) (l / 256 ^ 6 % 256) (l / 256 ^ 5 % 256) (l / 256 ^ 4 % 256)
        ∙ ap₂ (λ (a b : ℕ). a * 0x100000000 + b) (lower h) (upper l)

-- It is a word.
pub middle_room : (h l : ℕ) → l < 2 ^ 64 → h % 0x100000000 * 0x100000000 + l / 0x100000000 < 2 ^ 64
middle_room h l j =
    let low : h % 0x100000000 < 0x100000000 = mod-lt h (lit< tt) in
    let high : l / 0x100000000 < 0x100000000 = (div-lt_iff_lt-mul (lit< tt)).1 j in
    omega arith

pub two_windows : (e : Entry) → IsEntry e
    → (not (blank (e.hi / 256 ^ 7))
    && (stretched (word_bytes e.hi) && stretched (word_bytes (e.hi % 0x100000000 * 0x100000000 + e.lo / 0x100000000))))
    ≡ well_formed e
unfolding well_formed
two_windows e i =
    ap (λ (t : Bool). not (blank (e.hi / 256 ^ 7)) && t)
    (ap (λ (s : List ℕ). stretched (word_bytes e.hi) && stretched s) (middle e.hi e.lo i.hi i.lo)
    ∙ windows (take 4 (word_bytes e.hi)) (e.hi / 256 ^ 3 % 256) (drop 5 (word_bytes e.hi)) (take 4 (word_bytes e.lo)))
    ∙ shown_first (e.hi / 256 ^ 7) (low_bytes 7 e.hi ++ take 4 (word_bytes e.lo))

-- The two windows as the code has looked at them.
pub both_windows : (e : Entry) (s t : Bool) → e.hi < 2 ^ 64 → e.lo < 2 ^ 64 → s ≡ stretched (word_bytes e.hi)
    → t ≡ stretched (word_bytes (e.hi % 0x100000000 * 0x100000000 + e.lo / 0x100000000))
    → (not (blank (e.hi / 0x100000000000000)) && (s && t)) ≡ well_formed e
both_windows e s t h l p q = ap₂ (λ (x y : Bool). not (blank (e.hi / 0x100000000000000)) && (x && y)) p q ∙ two_windows e (record { hi = h; lo = l })
