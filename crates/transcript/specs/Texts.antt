-- The lines of a text.
use Rattle.std.specs.Prelude.{ℕ, cond, List, [], ◌∷◌, eqb}
use Rattle.text.specs.Fields.{lf}

-- A byte at the front of the first line.
abbrev pub onto : ℕ → List (List ℕ) → List (List ℕ)
onto b [] = (b ∷ []) ∷ []
onto b (l ∷ ls) = (b ∷ l) ∷ ls

-- Each line has its LF. "a last line without LF" is what stands behind the last one, if it is not empty.
unfoldable pub lines_of : List ℕ → List (List ℕ)
lines_of [] = []
lines_of (b ∷ bs) = cond (eqb b lf) ((b ∷ []) ∷ lines_of bs) (onto b (lines_of bs))
