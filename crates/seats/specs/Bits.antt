-- Laws of one mask: its bits, and the machine's count of ones as the number of distinct seats.
use Rattle.std.specs.Prelude.{◌≡◌, refl, Bool, true, false, not, ◌&&◌, ◌||◌, cond, ℕ, zero, suc, ◌+◌, ◌*◌, ◌/◌, ◌%◌, ◌^◌, ◌≤◌, ◌<◌, eqb, ltb}
use Rattle.std.proofs.Math.Pow.{shl_exact}
use Rattle.std.proofs.Common.{one-mul, sym, ap, ap₂, ◌∙◌, arith, pow-suc, mod-lt, mul_comm, div-one, lt_of_lt_of_le, add-one, lit<, shr_lt, pow_mono, lt-ltb, le-ltb}
use Rattle.std.proofs.Math.Path.{fun_ext}
use Rattle.std.proofs.Math.Nat.{div-div-eq-div-mul, div-eq_of_lt}
use Rattle.std.proofs.Math.Dec.{eqb-suc-suc, eqb-suc-zero, eqb-zero-suc}
use Rattle.std.specs.Int.Count.{ones_in, ones, ones_step}
use Rattle.std.proofs.Math.Arith.{lt-one}
use Rattle.std.specs.Int.Bits.{bit_and, bit_or, bit_xor}
use Rattle.std.proofs.lemmas.Nat.{and_shr, and_mod, or_shr, or_mod, xor_shr, xor_mod}
use Rattle.base.specs.Tests.{and_alone}
use Rattle.seats.specs.Seats.{b2n, count}
use Rattle.seats.specs.Count.{count_ext, count_first}
use Rattle.seats.specs.Mask.{bit, seats_in, with_seat, without, put_seat}

pub bit_half : (m k : ℕ) → bit m (suc k) ≡ bit (m / 2) k
unfolding bit
bit_half m k = ap (λ x. eqb (x % 2) 1) (ap (λ x. m / x) (pow-suc 2 k ∙ mul_comm (2 ^ k) 2) ∙ sym (div-div-eq-div-mul m 2 (2 ^ k)))

digit : (d : ℕ) → d < 2 → d ≡ b2n (eqb d 1)
digit zero h = refl
digit (suc zero) h = refl
digit (suc (suc d)) h = absurd (omega arith)

pub bit_low : (m : ℕ) → m % 2 ≡ b2n (bit m 0)
unfolding bit
bit_low m = digit (m % 2) (mod-lt m (lit< tt)) ∙ ap (λ x. b2n (eqb (x % 2) 1)) (sym (div-one m))

-- No bit from d on.
pub bit_past : (d m k : ℕ) → m < 2 ^ d → d ≤ k → bit m k ≡ false
unfolding bit
bit_past d m k h l = ap (λ x. eqb (x % 2) 1) (div-eq_of_lt (lt_of_lt_of_le h (pow_mono l)))

ones_in_lem : (d m : ℕ) → ones_in d m ≡ count (bit m) d
unfolding ones_in count
ones_in_lem zero m = refl
ones_in_lem (suc d) m =
    ap₂ (λ x y. x + y) (bit_low m) (ones_in_lem d (m / 2) ∙ count_ext (bit (m / 2)) (λ k. bit m (suc k)) d (λ k l. sym (bit_half m k)))
    ∙ sym (count_first (bit m) d)

ones_enough : (d m : ℕ) → m < 2 ^ d → ones m ≡ ones_in d m
unfolding ones_in ones
ones_enough zero m h = ap ones (lt-one h)
ones_enough (suc d) m h = ones_step m ∙ ap (λ x. m % 2 + x) (ones_enough d (m / 2) (shr_lt d 1 (rw add-one h)))

-- The machine's count of a mask's ones is the number of seats below d in it.
pub ones_count : (d m : ℕ) → m < 2 ^ d → ones m ≡ count (bit m) d
ones_count d m h = ones_enough d m h ∙ ones_in_lem d m

-- Seats counted up to any d that the mask stays below.
pub seats_below : (d m : ℕ) → d ≤ 64 → m < 2 ^ d → seats_in m ≡ count (bit m) d
unfolding seats_in
seats_below d m l h = ones_back ∙ ones_count d m h
  where
    ones_back : count (bit m) 64 ≡ ones m
    ones_back = sym (ones_count 64 m (lt_of_lt_of_le h (pow_mono l)))

-- ---- what the operators do to each bit: a law of two digits, lifted to every place
below_two : (f : ℕ → ℕ → ℕ) (g : Bool → Bool → Bool) → eqb (f 0 0) 1 ≡ g false false → eqb (f 0 1) 1 ≡ g false true
    → eqb (f 1 0) 1 ≡ g true false → eqb (f 1 1) 1 ≡ g true true → (x y : ℕ) → x < 2 → y < 2 → eqb (f x y) 1 ≡ g (eqb x 1) (eqb y 1)
below_two f g a b c d zero zero h l = a
below_two f g a b c d zero (suc zero) h l = b
below_two f g a b c d (suc zero) zero h l = c
below_two f g a b c d (suc zero) (suc zero) h l = d
below_two f g a b c d (suc (suc x)) y h l = absurd (omega arith)
below_two f g a b c d zero (suc (suc y)) h l = absurd (omega arith)
below_two f g a b c d (suc zero) (suc (suc y)) h l = absurd (omega arith)

place : (f : ℕ → ℕ → ℕ) (g : Bool → Bool → Bool) → ((x y : ℕ) → x < 2 → y < 2 → eqb (f x y) 1 ≡ g (eqb x 1) (eqb y 1)) → (a b k z : ℕ)
    → z % 2 ≡ f (a / 2 ^ k % 2) (b / 2 ^ k % 2) → eqb (z % 2) 1 ≡ g (bit a k) (bit b k)
unfolding bit
place f g h a b k z e = ap (λ x. eqb x 1) e ∙ h (a / 2 ^ k % 2) (b / 2 ^ k % 2) (mod-lt (a / 2 ^ k) (lit< tt)) (mod-lt (b / 2 ^ k) (lit< tt))

pub and_at : (a b k : ℕ) → bit (bit_and a b) k ≡ (bit a k && bit b k)
unfolding bit
and_at a b k =
    place bit_and ◌&&◌ (below_two bit_and ◌&&◌ refl refl refl refl) a b k (bit_and a b / 2 ^ k) (ap (λ x. x % 2) (and_shr a b k) ∙ and_mod (a / 2 ^ k) (b / 2 ^ k) 1)

pub or_at : (a b k : ℕ) → bit (bit_or a b) k ≡ (bit a k || bit b k)
unfolding bit
or_at a b k =
    place bit_or ◌||◌ (below_two bit_or ◌||◌ refl refl refl refl) a b k (bit_or a b / 2 ^ k) (ap (λ x. x % 2) (or_shr a b k) ∙ or_mod (a / 2 ^ k) (b / 2 ^ k) 1)

other : Bool → Bool → Bool
other true b = not b
other false b = b

xor_at : (a b k : ℕ) → bit (bit_xor a b) k ≡ other (bit a k) (bit b k)
unfolding bit other
xor_at a b k =
    place bit_xor other (below_two bit_xor other refl refl refl refl) a b k (bit_xor a b / 2 ^ k) (ap (λ x. x % 2) (xor_shr a b k) ∙ xor_mod (a / 2 ^ k) (b / 2 ^ k) 1)

pub without_at : (a b k : ℕ) → bit (without a b) k ≡ (bit a k && not (bit b k))
unfolding other
without_at a b k = xor_at (bit_or a b) b k ∙ ap (λ x. other x (bit b k)) (or_at a b k) ∙ go (bit a k) (bit b k)
  where
    go : (x y : Bool) → other (x || y) y ≡ (x && not y)
    go true true = refl
    go true false = refl
    go false true = refl
    go false false = refl

-- ---- one seat alone
pub bit_zero : (k : ℕ) → bit 0 k ≡ false
bit_zero k = bit_past 0 0 k (lit< tt) (omega arith)

pub single_at : (k j : ℕ) → bit (2 ^ k) j ≡ eqb j k
unfolding bit
single_at zero zero = refl
single_at zero (suc j) = bit_half 1 j ∙ bit_zero j ∙ sym (eqb-suc-zero j)
single_at (suc k) zero = ap (λ x. eqb (x % 2) 1) (div-one (2 ^ suc k)) ∙ ap (λ x. eqb x 1) (let z : 2 ^ suc k % 2 ≡ 0 = omega arith in z) ∙ sym (eqb-zero-suc k)
single_at (suc k) (suc j) =
    bit_half (2 ^ suc k) j ∙ ap (λ x. bit x j) (let z : 2 ^ suc k / 2 ≡ 2 ^ k = omega arith in z) ∙ single_at k j ∙ sym (eqb-suc-suc j k)

-- Putting a seat in sets its bit and no other.
pub with_at : (m k j : ℕ) → k < 64 → bit (with_seat m k) j ≡ (bit m j || eqb j k)
unfolding with_seat
with_at m k j h = ap (λ c. bit (cond c (bit_or m (2 ^ k)) m) j) (lt-ltb k 64 h) ∙ or_at m (2 ^ k) j ∙ ap (λ x. bit m j || x) (single_at k j)

pub with_past : (m k : ℕ) → 64 ≤ k → with_seat m k ≡ m
unfolding with_seat
with_past m k h = ap (λ c. cond c (bit_or m (2 ^ k)) m) (le-ltb k 64 h)

pub put_at : (m k : ℕ) (on : Bool) (j : ℕ) → k < 64 → bit (put_seat m k on) j ≡ cond (eqb j k) on (bit m j)
unfolding put_seat
put_at m k true j h = with_at m k j h ∙ go (bit m j) (eqb j k)
  where
    go : (a b : Bool) → (a || b) ≡ cond b true a
    go true true = refl
    go true false = refl
    go false true = refl
    go false false = refl
put_at m k false j h =
    without_at m (with_seat 0 k) j ∙ ap (λ x. bit m j && not x) (with_at 0 k j h ∙ ap (λ x. x || eqb j k) (bit_zero j)) ∙ go (bit m j) (eqb j k)
  where
    go : (a b : Bool) → (a && not b) ≡ cond b false a
    go true true = refl
    go true false = refl
    go false true = refl
    go false false = refl

pub put_past : (m k : ℕ) (on : Bool) → 64 ≤ k → bit (put_seat m k on) ≡ bit m
unfolding put_seat
put_past m k true h = ap bit (with_past m k h)
put_past m k false h = fun_ext (λ j. without_at m (with_seat 0 k) j ∙ ap (λ x. bit m j && not (bit x j)) (with_past 0 k h) ∙ ap (λ x. bit m j && not x) (bit_zero j) ∙ and_alone (bit m j))

-- A shift of 1 within the width.
pub shl_one : (k : ℕ) → k < 64 → 1 * 2 ^ k % 2 ^ 64 ≡ 2 ^ k
shl_one k h = shl_exact 1 k 64 (lit< tt) (let z : 1 + k ≤ 64 = omega arith in z) ∙ one-mul _

-- A number of 64 bits has no seat past 63.
pub none_past : (m k : ℕ) → m < 2 ^ 64 → 64 ≤ k → ltb k 64 ≡ bit m k
none_past m k h l = le-ltb k 64 l ∙ sym (bit_past 64 m k h l)
