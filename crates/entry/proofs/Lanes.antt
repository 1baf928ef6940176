-- Words handled as eight bytes at once: what an operation on whole words does to each byte.
use Prim.Native.Nat.{ℕ, ◌+◌, ◌*◌, ◌/◌, ◌<◌, ◌^◌}
use mathlib.Core.Path.{◌≡◌, refl, sym, ap, ◌∙◌}
use mathlib.Core.Bool.{Bool, true, ◌&&◌}
use mathlib.Core.List.{List, [], ◌∷◌}
use native.Mathlib.Omega.{arith}
use lib.Dec.{T, eqb, ltb→lt}
use borrow.Author.Tests.{eqb-true, eq-eqb}
use Rattle.base.specs.Tests.{and_l, and_r, and_true, and_assoc, and_alone, same_test}
use Rattle.entry.specs.Entry.{all, word_bytes, word_of}
use Rattle.entry.specs.Words.{is_byte}

-- What f makes of each byte and the byte before it; p stands before the first.
abbrev pub walk : (ℕ → ℕ → ℕ) → ℕ → List ℕ → List ℕ
walk f p [] = []
walk f p (x ∷ xs) = f p x ∷ walk f x xs

abbrev pub each : (ℕ → ℕ → Bool) → ℕ → List ℕ → Bool
each t p [] = true
each t p (x ∷ xs) = t p x && each t x xs

-- Of bytes f makes bytes.
abbrev pub Bytes : (ℕ → ℕ → ℕ) → Type 0
Bytes f = (p x : ℕ) → p < 256 → x < 256 → f p x < 256

-- An operation that does the same to the lowest byte as to what stands above it does the same to every byte.
pub lanes : (op : ℕ → ℕ → ℕ) → ((a b r s : ℕ) → r < 256 → s < 256 → op (a * 256 + r) (b * 256 + s) ≡ op a b * 256 + op r s)
    → (f g : ℕ → ℕ → ℕ) → Bytes f → Bytes g → (xs : List ℕ) (p : ℕ) → p < 256 → T (all is_byte xs) → (a b : ℕ)
    → op (word_of a (walk f p xs)) (word_of b (walk g p xs)) ≡ word_of (op a b) (walk (λ q x. op (f q x) (g q x)) p xs)
lanes op block f g m n [] p h k a b = refl
lanes op block f g m n (x ∷ xs) p h k a b =
    let small : x < 256 = ltb→lt x 256 (and_l (is_byte x) (all is_byte xs) k) in
    lanes op block f g m n xs x small (and_r (is_byte x) (all is_byte xs) k) (a * 256 + f p x) (b * 256 + g p x)
    ∙ ap (λ (v : ℕ). word_of v (walk (λ q y. op (f q y) (g q y)) x xs)) (block a b (f p x) (g p x) (m p x h small) (n p x h small))

-- Two numbers are equal where their lowest bytes are and what stands above them.
eqb_byte : (a b r s : ℕ) → r < 256 → s < 256 → eqb (a * 256 + r) (b * 256 + s) ≡ (eqb a b && eqb r s)
eqb_byte a b r s h k = same_test _ _ parts whole
  where
    parts : eqb (a * 256 + r) (b * 256 + s) ≡ true → (eqb a b && eqb r s) ≡ true
    parts e = let q = eqb-true (a * 256 + r) (b * 256 + s) e in simp (eq-eqb a b (omega arith), eq-eqb r s (omega arith))

    whole : (eqb a b && eqb r s) ≡ true → eqb (a * 256 + r) (b * 256 + s) ≡ true
    whole e =
        let t = and_true (eqb a b) (eqb r s) e in
        let high = eqb-true a b t.0 in
        let low = eqb-true r s t.1 in
        eq-eqb (a * 256 + r) (b * 256 + s) (omega arith)

pub same_lanes : (f g : ℕ → ℕ → ℕ) → Bytes f → Bytes g → (xs : List ℕ) (p : ℕ) → p < 256 → T (all is_byte xs) → (a b : ℕ)
    → eqb (word_of a (walk f p xs)) (word_of b (walk g p xs)) ≡ (eqb a b && each (λ q x. eqb (f q x) (g q x)) p xs)
same_lanes f g m n [] p h k a b = sym (and_alone (eqb a b))
same_lanes f g m n (x ∷ xs) p h k a b =
    let small : x < 256 = ltb→lt x 256 (and_l (is_byte x) (all is_byte xs) k) in
    let rest = each (λ q y. eqb (f q y) (g q y)) x xs in
    same_lanes f g m n xs x small (and_r (is_byte x) (all is_byte xs) k) (a * 256 + f p x) (b * 256 + g p x)
    ∙ ap (λ (t : Bool). t && rest) (eqb_byte a b (f p x) (g p x) (m p x h small) (n p x h small))
    ∙ sym (and_assoc (eqb a b) (eqb (f p x) (g p x)) rest)

-- ---- a word moved down by one byte

abbrev last_of : ℕ → List ℕ → ℕ
last_of p [] = p
last_of p (x ∷ xs) = last_of x xs

last_below : (xs : List ℕ) (p : ℕ) → p < 256 → T (all is_byte xs) → last_of p xs < 256
last_below [] p h k = h
last_below (x ∷ xs) p h k = last_below xs x (ltb→lt x 256 (and_l (is_byte x) (all is_byte xs) k)) (and_r (is_byte x) (all is_byte xs) k)

moved : (s : ℕ → ℕ) (xs : List ℕ) (p a : ℕ)
    → word_of a (walk (λ q x. s q) p xs) * 256 + s (last_of p xs) ≡ word_of (a * 256 + s p) (walk (λ q x. s x) p xs)
moved s [] p a = refl
moved s (x ∷ xs) p a = moved s xs x (a * 256 + s p)

-- Each byte of the quotient is the one before; on top stands what s makes of p.
pub down : (s : ℕ → ℕ) → ((x : ℕ) → x < 256 → s x < 256) → (w p : ℕ) → p < 256 → T (all is_byte (word_bytes w))
    → word_of 0 (walk (λ q x. s x) p (word_bytes w)) / 256 + s p * 2 ^ 56 ≡ word_of 0 (walk (λ q x. s q) p (word_bytes w))
down s small w p h k =
    let xs = word_bytes w in
    let whole : word_of (0 * 256 + s p) (walk (λ q x. s x) p xs) ≡ s p * 2 ^ 64 + word_of 0 (walk (λ q x. s x) p xs) = omega arith in
    let last : s (last_of p xs) < 256 = small (last_of p xs) (last_below xs p h k) in
    omega (arith, moved s xs p 0 ∙ whole, last)
