-- 01, "Seats, views, entries": n and f, the largest f, and what setup refuses of them.
use Rattle.std.specs.Prelude.{ℕ, zero, suc, ◌*◌, ◌-◌, Bool, not, ◌&&◌, ◌||◌, cond, [], ◌∷◌, ◌++◌, eqb, leb, ltb}
use Rattle.base.specs.Refusal.{Refusals, first}
use Rattle.seats.specs.declared.Seat.{Seat}

-- "n is 4 to 64"
abbrev pub size_allowed : ℕ → Bool
size_allowed n = leb 4 n && leb n 64

-- "5f − 1 ≤ n": the fewest seats that bear f faulty ones.
abbrev pub fewest : ℕ → ℕ
fewest f = 5 * f - 1

abbrev pub bears : ℕ → ℕ → Bool
bears n f = leb (fewest f) n

-- The largest number up to b that passes, 0 if none does.
abbrev pub largest : (ℕ → Bool) → ℕ → ℕ
largest p zero = 0
largest p (suc b) = cond (p (suc b)) (suc b) (largest p b)

-- "The largest f for each n". No rule asks outside 4 to 64: 0.
unfoldable pub most_faulty : ℕ → ℕ
most_faulty n = cond (size_allowed n) (largest (bears n) n) 0

-- 1: "n outside 4 to 64"; 2: "f is 0 or above the table", that is, above the largest f
abbrev pub size_refusals : ℕ → ℕ → Refusals
size_refusals n f = (1, not (size_allowed n)) ∷ (2, eqb f 0 || ltb (most_faulty n) f) ∷ []

unfoldable pub size_number : ℕ → ℕ → ℕ
size_number n f = first (size_refusals n f)

-- 3: "own seat is n or more"
abbrev pub seat_refusals : ℕ → ℕ → Seat → Refusals
seat_refusals n f s = size_refusals n f ++ ((3, leb n s.0) ∷ [])

unfoldable pub seat_number : ℕ → ℕ → Seat → ℕ
seat_number n f s = first (seat_refusals n f s)

-- n − f, the rows that a decision and a selection want
abbrev pub quorum : ℕ → ℕ → ℕ
quorum n f = n - f
