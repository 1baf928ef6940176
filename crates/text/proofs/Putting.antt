-- Steps of the loops that put numbers.
use Rattle.std.specs.Prelude.{max}
use Prim.Native.Nat.{ℕ, zero, suc, ◌+◌, ◌*◌, ◌-◌, ◌/◌, ◌%◌, ◌^◌, ◌≤◌, ◌<◌}
use mathlib.Core.Path.{◌≡◌, refl, sym, ap, ap₂, ◌∙◌, subst}
use mathlib.Core.Bool.{Bool, true, false, not, cond}
use mathlib.Core.List.{List, [], ◌∷◌, ◌++◌}
use native.Mathlib.Omega.{arith}
use native.Mathlib.Numerals.{add-one}
use native.Mathlib.Nat.{add-zero, pow-suc, pow-succ', div-div-eq-div-mul, pow-le-pow_right}
use lib.Pow.{pow-add}
use lib.Dec.{ltb, leb, lit<}
use lib.ListN.{length, set, length-append, length-set}
use lib.Seq.{sets, set_comm}
use mir.Val.{bool_byte}
use borrow.Author.Tests.{ltb-true, ltb-false, leb-true, leb-false, not-true, not-false, lt-ltb, le-ltb, le-leb, lt-leb}
use Rattle.text.specs.Digits.{digits, hex_char, dec_char, width}
use Rattle.text.specs.DigitLaws.{none_off, digits_length}
use Rattle.text.specs.DecimalLaws.{width_is}
use Rattle.text.specs.Put.{room, placed}
use Rattle.text.specs.PutLaws.{placed_room, placed_none}

-- How the code looks for room, with no sum that may be too large.
pub room_is : (p k n : ℕ) → k ≤ n → leb p (n - k) ≡ leb (p + k) n
room_is p k n h = go (leb p (n - k)) refl
  where
    go : (t : Bool) → leb p (n - k) ≡ t → t ≡ leb (p + k) n
    go true e = let l = leb-true p (n - k) e in sym (le-leb (p + k) n (omega arith))
    go false e = let l = leb-false p (n - k) e in sym (lt-leb (p + k) n (omega arith))

-- ---- what is left to put

-- Once `rest` is put at place i the whole text is at p, and it has room.
pub record Left (before : List ℕ) (p : ℕ) (text s : List ℕ) (i : ℕ) (rest : List ℕ) : Type 0 where
  pub same : length s ≡ length before
  pub fits : i + length rest ≤ length s
  pub bytes : sets s i rest ≡ placed before p text

module _ (before : List ℕ) (p : ℕ) (text : List ℕ) where
  module _ (k : ℕ) (fit : Bool) (long : length text ≡ k) (is : fit ≡ room before p k) where
    -- The code finds room.
    pub left_all : not fit ≡ false → Left before p text before p text
    left_all e =
        let h = leb-true (p + k) (length before) (sym is ∙ not-false fit e) in
        record { same = refl; fits = omega arith; bytes = sym (placed_room before p text (omega arith)) }

    -- It finds none.
    pub left_out : not fit ≡ true → before ≡ placed before p text
    left_out e =
        let h = leb-false (p + k) (length before) (sym is ∙ not-true fit e) in
        sym (placed_none before p text (omega arith))

  module _ (s : List ℕ) (i : ℕ) where
    -- The same rest is left.
    pub left_same : (x y : List ℕ) → x ≡ y → Left before p text s i x → Left before p text s i y
    left_same x y e h = subst (Left before p text s i) e h

    -- The first byte of the rest is put.
    pub left_first : (d : ℕ) (x : List ℕ) → Left before p text s i (d ∷ x) → Left before p text (set s i d) (i + 1) x
    left_first d x h = record {
      same = length-set s i d ∙ h.same;
      fits = omega (arith, length-set s i d, h.fits);
      bytes = ap (λ (k : ℕ). sets (set s i d) k x) (add-one i) ∙ h.bytes;
    }

    -- The last byte of the rest is put.
    pub left_last : (d : ℕ) (x : List ℕ) → Left before p text s i (x ++ (d ∷ []))
        → Left before p text (set s (i + length x) d) i x
    left_last d x h = record {
      same = length-set s (i + length x) d ∙ h.same;
      fits = omega (arith, length-set s (i + length x) d, length-append x (d ∷ []), h.fits);
      bytes = sym (sets_snoc x d s i) ∙ h.bytes;
    }
      where
        sets_snoc : (x : List ℕ) (d : ℕ) (b : List ℕ) (i : ℕ) → sets b i (x ++ (d ∷ [])) ≡ sets (set b (i + length x) d) i x
        sets_snoc [] d b i = ap (λ (k : ℕ). set b k d) (sym (add-zero i))
        sets_snoc (a ∷ x) d b i =
            let e : suc i + length x ≡ i + suc (length x) = omega arith in
            let swap = set_comm b i (i + suc (length x)) a d (λ z. omega arith) in
            sets_snoc x d (set b i a) (suc i)
            ∙ ap (λ (l : List ℕ). sets l (suc i) x) (ap (λ (k : ℕ). set (set b i a) k d) e ∙ swap)

-- ---- hex

hex_pow : (k : ℕ) → 16 ^ k ≡ 2 ^ (4 * k)
hex_pow zero = refl
hex_pow (suc k) =
    let e : 4 * suc k ≡ 4 * k + 4 = omega arith in
    pow-suc 16 k ∙ ap (λ (x : ℕ). x * 16) (hex_pow k) ∙ sym (ap (λ (x : ℕ). 2 ^ x) e ∙ pow-add 2 (4 * k) 4)

-- The first of the digits from the k-th on.
pub hex_first : (k w d : ℕ) → k < 16 → d ≡ hex_char (w / 2 ^ (4 * (15 - k)) % 16)
    → digits 16 hex_char (16 - k) w ≡ d ∷ digits 16 hex_char (16 - (k + 1)) w
hex_first k w d h e =
    let n : 16 - k ≡ suc (15 - k) = omega arith in
    let m : 15 - k ≡ 16 - (k + 1) = omega arith in
    ap (λ (j : ℕ). digits 16 hex_char j w) n
    ∙ ap₂ ◌∷◌ (ap (λ (y : ℕ). hex_char (w / y % 16)) (hex_pow (15 - k)) ∙ sym e) (ap (λ (j : ℕ). digits 16 hex_char j w) m)

-- ---- decimals

-- The last of k + 1 digits.
digits_snoc : (b : ℕ) (char : ℕ → ℕ) (k v : ℕ) → digits b char (suc k) v ≡ digits b char k (v / b) ++ (char (v % b) ∷ [])
digits_snoc b char zero v = ap (λ (x : ℕ). char (x % b) ∷ []) (none_off b v)
digits_snoc b char (suc k) v =
    let off : v / b ^ suc k ≡ v / b / b ^ k = ap (λ (y : ℕ). v / y) (pow-succ' b k) ∙ sym (div-div-eq-div-mul v b (b ^ k)) in
    ap₂ (λ (x : ℕ) (l : List ℕ). char (x % b) ∷ l) off (digits_snoc b char k v)

-- The last digit is put before place i.
pub decimal_last : (before : List ℕ) (p : ℕ) (text s : List ℕ) (i v : ℕ) → p < i
    → Left before p text s p (digits 10 dec_char (i - p) v)
    → Left before p text (set s (i - 1) (48 + v % 10)) p (digits 10 dec_char (i - 1 - p) (v / 10))
decimal_last before p text s i v h l =
    let x = digits 10 dec_char (i - 1 - p) (v / 10) in
    let n : i - p ≡ suc (i - 1 - p) = omega arith in
    let place : p + length x ≡ i - 1 = omega (arith, digits_length 10 dec_char (i - 1 - p) (v / 10)) in
    let d = 48 + v % 10 in
    let is = ap (λ (k : ℕ). digits 10 dec_char k v) n ∙ digits_snoc 10 dec_char (i - 1 - p) v in
    let left = left_same before p text s p (digits 10 dec_char (i - p) v) (x ++ (d ∷ [])) is l in
    subst (λ (k : ℕ). Left before p text (set s k d) p x) place (left_last before p text s p d x left)

-- ---- counting digits

-- The logarithm of a number counts all of its digits but the first; 0 has one as 1 has.
pub log_width : (k v : ℕ) → 10 ^ k ≤ max v 1 → max v 1 < 10 * 10 ^ k → k < 20 → k + 1 ≡ width v
log_width zero v lo hi small = sym (width_is 0 v (omega arith) (omega arith) (omega arith)) ∙ omega arith
log_width (suc j) v lo hi small =
    let ten : 10 ^ 1 ≤ 10 ^ suc j = pow-le-pow_right (lit< tt) {i = 1} {j = suc j} (omega arith) in
    let above : v < 10 ^ suc (suc j) = omega (arith, pow-succ' 10 (suc j)) in
    sym (width_is (suc j) v (omega arith) above (omega arith) ∙ omega arith)

-- A letter's byte is 39 more than its number would have among the decimal digits.
pub char_is : (d : ℕ) → 48 + d + 39 * bool_byte (ltb 9 d) ≡ hex_char d
unfolding hex_char
char_is d = go (ltb d 10) refl
  where
    go : (t : Bool) → ltb d 10 ≡ t → 48 + d + 39 * bool_byte (ltb 9 d) ≡ cond t (48 + d) (97 + (d - 10))
    go true e = let b = ltb-true d 10 e in simp (le-ltb 9 d (omega arith)) (omega arith)
    go false e = let b = ltb-false d 10 e in simp (lt-ltb 9 d (omega arith)) (omega arith)
