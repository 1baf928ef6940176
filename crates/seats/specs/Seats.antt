-- 01, "Seats, views, entries": seats and views as numbers, the leader rule, and counting seats.
use Rattle.std.specs.Prelude.{ℕ, zero, suc, ◌+◌, ◌%◌, Bool, true, false, cond, eqb, ltb}
use Rattle.base.specs.Choosing.{larger}
use Rattle.seats.specs.declared.Seat.{Seat}
use Rattle.seats.specs.declared.View.{View}

-- "The leader of view v is seat v mod n." No rule asks where n is 0: seat 0.
abbrev pub leader : ℕ → ℕ → ℕ
leader v n = cond (eqb n 0) 0 (v % n)

abbrev pub leader_of : View → ℕ → Seat
leader_of v n = record { 0 = leader v.0 n }

abbrev pub b2n : Bool → ℕ
b2n true = 1
b2n false = 0

-- "Seats are 0 to n − 1": how many of them pass a test.
unfoldable pub count : (ℕ → Bool) → ℕ → ℕ
count p zero = 0
count p (suc n) = b2n (p n) + count p n

-- Some seat below n passes.
abbrev pub some_seat : (ℕ → Bool) → ℕ → Bool
some_seat p n = ltb 0 (count p n)

-- The highest of the numbers that the seats below n have, 0 if there are none.
unfoldable pub highest : (ℕ → ℕ) → ℕ → ℕ
highest g zero = 0
highest g (suc n) = larger (g n) (highest g n)
