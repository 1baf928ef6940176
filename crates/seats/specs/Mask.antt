-- 01: "a 64-bit mask of the seats ..; bit k is seat k".
use Rattle.std.specs.Prelude.{ℕ, zero, suc, ◌+◌, ◌*◌, ◌/◌, ◌%◌, ◌^◌, Bool, cond, eqb, ltb, leb}
use Rattle.std.specs.Int.Bits.{bit_or, bit_xor}
use mir.Val.{bool_byte}
use Rattle.seats.specs.Seats.{count}

-- Seat k is in the mask.
unfoldable pub bit : ℕ → ℕ → Bool
bit m k = eqb (m / 2 ^ k % 2) 1

-- "no bit at or above n is set"
abbrev pub within : ℕ → ℕ → Bool
within m n = ltb m (2 ^ n)

-- The number of distinct seats in a mask.
unfoldable pub seats_in : ℕ → ℕ
seats_in m = count (bit m) 64

-- The mask with seat k in it. There is no seat past 63.
unfoldable pub with_seat : ℕ → ℕ → ℕ
with_seat m k = cond (ltb k 64) (bit_or m (2 ^ k)) m

-- The seats of a that are not in b.
abbrev pub without : ℕ → ℕ → ℕ
without a b = bit_xor (bit_or a b) b

-- The mask with seat k in it or not.
unfoldable pub put_seat : ℕ → ℕ → Bool → ℕ
put_seat m k on = cond on (with_seat m k) (without m (with_seat 0 k))

-- A table has 64 rows: those of the seats below n.
abbrev pub rows_of : ℕ → ℕ
rows_of n = cond (leb n 64) n 64

-- Seats k, k + 1, .. that pass, d of them looked at: seat k is bit 0.
unfoldable pub packed : (ℕ → Bool) → ℕ → ℕ → ℕ
packed p k zero = 0
packed p k (suc d) = bool_byte (p k) + 2 * packed p (suc k) d

-- The mask of the seats below n that pass.
abbrev pub mask : (ℕ → Bool) → ℕ → ℕ
mask p n = packed p 0 n
