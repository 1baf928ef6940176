-- How the code reads a serial: byte after byte, knowing whether the byte before was a blank.
use Prim.Native.Nat.{ℕ}
use mathlib.Core.Path.{◌≡◌, refl, sym, ap, ◌∙◌}
use mathlib.Core.Bool.{Bool, true, false, not, ◌&&◌, ◌||◌}
use mathlib.Core.List.{List, [], ◌∷◌}
use lib.Dec.{leb}
use Rattle.base.specs.Tests.{or_alone}
use Rattle.entry.specs.Entry.{all, visible, blank, stretched}
use Rattle.entry.specs.Serial.{unseen}

-- Whether x may stand in a serial, behind a blank or behind none.
abbrev pub follows : Bool → ℕ → Bool
follows behind x = blank x || ((not behind && leb 0x21 x) && leb x 0x7E)

abbrev pub scan : Bool → List ℕ → Bool
scan behind [] = true
scan behind (x ∷ xs) = follows behind x && scan (blank x) xs

-- Behind a blank only blanks may follow.
scan_blanks : (s : List ℕ) → scan true s ≡ all blank s
scan_blanks [] = refl
scan_blanks (x ∷ xs) = go (blank x) (scan_blanks xs)
  where
    go : (t : Bool) → scan true xs ≡ all blank xs → ((t || false) && scan t xs) ≡ (t && all blank xs)
    go true h = h
    go false h = refl

pub scan_stretched : (s : List ℕ) → scan false s ≡ stretched s
scan_stretched [] = refl
scan_stretched (x ∷ xs) = go (blank x) refl (scan_stretched xs)
  where
    go : (t : Bool) → blank x ≡ t → scan false xs ≡ stretched xs → ((t || visible x) && scan t xs) ≡ ((visible x && stretched xs) || (t && all blank xs))
    go true e h = scan_blanks xs ∙ rw (unseen x e)
    go false e h = ap (λ (t : Bool). visible x && t) h ∙ sym (or_alone (visible x && stretched xs))
