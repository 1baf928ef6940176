-- 01, "Lines": "fields parted by one tab, ended by one LF (0x0A)".
use Rattle.std.specs.Prelude.{ℕ, ◌+◌, ◌≡◌, Bool, ◌&&◌, ◌||◌, cond, List, [], ◌∷◌, ◌++◌, eqb, ltb, length, drop, get_or}

abbrev pub tab : ℕ
tab = 9

abbrev pub lf : ℕ
lf = 0x0A

-- A line's end, as it is written.
abbrev pub line_end : List ℕ
line_end = lf ∷ []

-- ---- written

-- Each field behind a tab.
abbrev pub tabbed : List (List ℕ) → List ℕ
tabbed [] = []
tabbed (f ∷ fs) = tab ∷ (f ++ tabbed fs)

-- A line: a kind of one byte, its fields, its end.
abbrev pub line_of : ℕ → List (List ℕ) → List ℕ
line_of kind fs = kind ∷ (tabbed fs ++ line_end)

-- ---- read

-- A line's end is at most so long, as it is read.
abbrev pub longest_end : ℕ
longest_end = 1

-- The texts that are read as such a line: the one that is written.
unfoldable pub IsLineOf : List ℕ → ℕ → List (List ℕ) → Type 0
IsLineOf l kind fs = l ≡ line_of kind fs

-- The bytes that part fields or may begin a line's end: no field that is written has one.
abbrev pub stopper : ℕ → Bool
stopper b = eqb b tab || eqb b lf

-- How many bytes of a line's end stand at the front of a text: none, or its one LF.
abbrev pub ending : List ℕ → ℕ
ending [] = 0
ending (b ∷ bs) = cond (eqb b lf) 1 0

-- "A field ends at the first tab or at the end of the line, whichever is earlier": the field at the front of a text.
abbrev pub up_to : List ℕ → List ℕ
up_to [] = []
up_to (b ∷ bs) = cond (eqb b tab || ltb 0 (ending (b ∷ bs))) [] (b ∷ up_to bs)

-- The field that starts at place p.
abbrev pub field_at : List ℕ → ℕ → List ℕ
field_at t p = up_to (drop p t)

-- Where the field behind the tab at place e starts; the end of the text where no tab stands there.
abbrev pub place_behind : List ℕ → ℕ → ℕ
place_behind t e = cond (ltb e (length t) && eqb (get_or t e 0) tab) (e + 1) (length t)

-- That field, and where it ends.
unfoldable pub behind : List ℕ → ℕ → List ℕ
behind t e = field_at t (place_behind t e)

unfoldable pub end_behind : List ℕ → ℕ → ℕ
end_behind t e = place_behind t e + length (behind t e)

-- The line is over at place e: its end stands there, and nothing behind it.
abbrev pub over : List ℕ → ℕ → Bool
over t e = ltb 0 (ending (drop e t)) && eqb (e + ending (drop e t)) (length t)
