-- The rows of a request: how many are filled, and that a row which counts is one of 64.
use Prim.Native.Nat.{ℕ, ◌^◌, ◌<◌}
use mathlib.Core.Bool.{Bool, true, false}
use mathlib.Core.Path.{◌≡◌, refl, sym, ◌∙◌}
use lib.Dec.{ltb}
use lib.Bits.{bit_and}
use borrow.Author.Tests.{ltb-true, ltb-false}
use Rattle.base.specs.Tests.{true≢false}
use Rattle.seats.specs.Seats.{count}
use Rattle.seats.specs.Mask.{bit, mask, rows_of, seats_in}
use Rattle.seats.specs.Bits.{bit_past}
use Rattle.seats.specs.Marks.{marks_of, marks_and, marks_seats, rows_le}
use Rattle.seats.specs.Past.{count_past}

-- The filled rows of seats below n, counted in a mask, for any n.
pub filled_counted : (n b m : ℕ) → m < 2 ^ 64 → b ≡ mask (λ k. true) (rows_of n) → seats_in (bit_and b m) ≡ count (bit m) n
filled_counted n b m h e =
    marks_seats (rows_le n) (marks_and (rows_of n) b m (λ k. true) (bit m) (marks_of (rows_of n) b (λ k. true) e) (λ k l. refl))
    ∙ count_past (bit m) n (λ k l. bit_past 64 m k h l)

-- A seat that is in a mask is one of the 64.
pub row_low : (m k : ℕ) → bit m k ≡ true → m < 2 ^ 64 → k < 64
row_low m k on h = go (ltb k 64) refl
  where
    go : (b : Bool) → ltb k 64 ≡ b → k < 64
    go true q = ltb-true k 64 q
    go false q = true≢false (sym on ∙ bit_past 64 m k h (ltb-false k 64 q))
