-- Where a line ends in a text, as the code looks for it: `line_found` and `line_missing` in TextLaws.antt join it to the lines.
use Rattle.std.specs.Prelude.{ℕ, zero, suc, ◌+◌, Bool, false, ◌||◌, cond, List, [], ◌∷◌, eqb, drop, get_or, Option, Some, None}
use Rattle.text.specs.Fields.{lf}

-- One of the k bytes from place p on is an LF.
unfoldable pub has_lf : List ℕ → ℕ → ℕ → Bool
has_lf s p zero = false
has_lf s p (suc k) = has_lf s p k || eqb (get_or s (p + k) 0) lf

-- The place behind the first LF of a text that begins at place p.
abbrev pub place_after : List ℕ → ℕ → Option ℕ
place_after [] p = None
place_after (b ∷ bs) p = cond (eqb b lf) (Some (suc p)) (place_after bs (suc p))

-- The same of what stands from place p on.
unfoldable pub behind_line : List ℕ → ℕ → Option ℕ
behind_line s p = place_after (drop p s) p
