-- 01: "A certificate is a 64-bit mask of the seats whose confirmations it verified".
use Rattle.std.specs.Prelude.{ℕ, ◌+◌, Bool, ◌&&◌, cond, eqb, ltb, leb}
use Rattle.seats.specs.declared.View.{View}
use Rattle.seats.specs.Mask.{within, seats_in}

-- "at least f + 1": one of them is correct.
abbrev pub signers : ℕ → ℕ
signers f = f + 1

-- "A certificate for view 1 is good when the mask is 0. For a later view it is good when no bit at or above n is set and the
-- library, which counts the set bits of the mask, finds at least f + 1." For view 0 it never is.
unfoldable pub good_certificate : ℕ → ℕ → View → ℕ → Bool
good_certificate n f u m = cond (eqb u.0 1) (eqb m 0) (ltb 1 u.0 && (within m n && leb (signers f) (seats_in m)))
