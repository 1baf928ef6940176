-- Bytes put into lent memory from a place on.
use Rattle.std.specs.Prelude.{ℕ, ◌+◌, ◌≤◌, ◌≡◌, Bool, cond, List, leb, length}
use Rattle.std.proofs.lemmas.List.Edits.{sets}

-- k bytes have room at place p.
abbrev pub room : List ℕ → ℕ → ℕ → Bool
room s p k = leb (p + k) (length s)

-- Whole, or not at all where there is no room: no other byte is touched.
unfoldable pub placed : List ℕ → ℕ → List ℕ → List ℕ
placed s p text = cond (room s p (length text)) (sets s p text) s

-- What a function that puts one text after another keeps: the place behind it, the length of the memory, and the whole text where
-- it has room. The length of a line is looked at before its first byte is put, so there is.
pub record Puts (before : List ℕ) (p : ℕ) (text : List ℕ) (r : ℕ) (after : List ℕ) : Type 0 where
  pub place : r ≡ p + length text
  pub same : length after ≡ length before
  pub bytes : p + length text ≤ length before → after ≡ sets before p text
