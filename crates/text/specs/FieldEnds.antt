-- How far a field reaches: what the finder's loop and its callers ask for.
use Rattle.std.specs.Prelude.{ℕ, suc, ◌+◌, ◌≤◌, ◌<◌, ◌≡◌, refl, Bool, true, false, not, ◌&&◌, ◌||◌, cond, List, [], ◌∷◌, eqb, ltb, length, take, drop, get_or}
use Rattle.std.proofs.Common.{sym, ap, ◌∙◌, arith, add-one, drop_of_length-le, length-drop, drop-cons, ltb-true, ne_eqb}
use mir.Val.{bool_byte}
use Rattle.base.specs.Tests.{but_not}
use Rattle.text.specs.Fields.{tab, lf, stopper, ending, up_to, field_at, place_behind, behind, end_behind}

-- A field is the front of its text.
pub up_take : (l : List ℕ) → take (length (up_to l)) l ≡ up_to l
up_take [] = refl
up_take (b ∷ bs) = go (up_take bs) (eqb b tab || ltb 0 (ending (b ∷ bs)))
  where
    go : take (length (up_to bs)) bs ≡ up_to bs → (t : Bool)
        → take (length (cond t [] (b ∷ up_to bs))) (b ∷ bs) ≡ cond t [] (b ∷ up_to bs)
    go ih true = refl
    go ih false = ap (λ (l : List ℕ). b ∷ l) ih

up_le : (l : List ℕ) → length (up_to l) ≤ length l
up_le [] = omega arith
up_le (b ∷ bs) = go (up_le bs) (eqb b tab || ltb 0 (ending (b ∷ bs)))
  where
    go : length (up_to bs) ≤ length bs → (t : Bool) → length (cond t [] (b ∷ up_to bs)) ≤ length (b ∷ bs)
    go ih true = omega arith
    go ih false = omega arith

-- It ends within the text.
pub end_le : (s : List ℕ) (i : ℕ) → i ≤ length s → i + length (field_at s i) ≤ length s
end_le s i h = omega (arith, up_le (drop i s), length-drop i s)

pub place_le : (s : List ℕ) (e : ℕ) → place_behind s e ≤ length s
place_le s e = go (ltb e (length s)) refl (eqb (get_or s e 0) tab)
  where
    go : (a : Bool) → ltb e (length s) ≡ a → (b : Bool) → cond (a && b) (e + 1) (length s) ≤ length s
    go true h true = omega (arith, ltb-true e (length s) h)
    go true h false = omega arith
    go false h b = omega arith

pub end_behind_le : (s : List ℕ) (e : ℕ) → end_behind s e ≤ length s
unfolding end_behind behind
end_behind_le s e = end_le s (place_behind s e) (place_le s e)

-- Past the end of the text a field is empty.
pub field_out : (s : List ℕ) (i : ℕ) → length s ≤ i → field_at s i ≡ []
field_out s i h = let n : drop i s ≡ [] = drop_of_length-le s {i = i} h in simp n

-- One that starts where a tab or a line's end stands is empty; any other byte belongs to it.
module _ (s : List ℕ) (i : ℕ) (h : i < length s) (k : ℕ) (p : k ≡ ending (drop i s)) where
  test : (t : Bool) → (eqb (get_or s i 0) tab || ltb 0 k) ≡ t
      → (eqb (get_or s i 0) tab || ltb 0 (ending (get_or s i 0 ∷ drop (suc i) s))) ≡ t
  test t e = ap (λ (n : ℕ). eqb (get_or s i 0) tab || ltb 0 n) (sym (p ∙ ap ending (drop-cons s i 0 h))) ∙ e

  pub end_here : (eqb (get_or s i 0) tab || ltb 0 k) ≡ true → i + length (field_at s i) ≡ i
  end_here e = rw (drop-cons s i 0 h, test true e) (omega arith)

  pub end_on : (eqb (get_or s i 0) tab || ltb 0 k) ≡ false → i + length (field_at s i) ≡ i + 1 + length (field_at s (i + 1))
  end_on e = rw (drop-cons s i 0 h, test false e, add-one) (omega (arith, add-one i))

-- A byte from 48 on neither parts fields nor begins a line's end.
pub clean_byte : (b : ℕ) → 48 ≤ b → stopper b ≡ false
clean_byte b h = simp (ne_eqb b tab (λ e. omega arith), ne_eqb b lf (λ e. omega arith))

-- ---- the end of a line

ending_le : (l : List ℕ) → ending l ≤ length l
ending_le [] = omega arith
ending_le (b ∷ bs) = go (eqb b lf)
  where
    go : (t : Bool) → cond t 1 0 ≤ length (b ∷ bs)
    go true = omega arith
    go false = omega arith

-- Past the end of the text no line ends.
pub ending_out : (s : List ℕ) (i : ℕ) → length s ≤ i → ending (drop i s) ≡ 0
ending_out s i h = ap ending (drop_of_length-le s {i = i} h)

-- Within it the byte there tells.
pub ending_here : (s : List ℕ) (i : ℕ) → i < length s → ending (drop i s) ≡ bool_byte (eqb (get_or s i 0) lf)
ending_here s i h = ap ending (drop-cons s i 0 h) ∙ go (eqb (get_or s i 0) lf)
  where
    go : (t : Bool) → cond t 1 0 ≡ bool_byte t
    go true = refl
    go false = refl

-- Where both the place and the text are below m, so is the place behind the line's end.
pub ending_below : (s : List ℕ) (i m : ℕ) → i < m → length s < m → i + ending (drop i s) < m
ending_below s i m h l = omega (arith, ending_le (drop i s), length-drop i s)

-- A byte that is neither a tab nor an LF belongs to the field; `inside` keeps whether all before it did.
pub end_past : (s : List ℕ) (i : ℕ) → i < length s → (inside : Bool)
    → ((inside && not (eqb (get_or s i 0) tab)) && not (eqb (get_or s i 0) lf)) ≡ true
    → (inside ≡ true) × (i + 1 + length (field_at s (i + 1)) ≡ i + length (field_at s i))
end_past s i h inside e =
    let x = get_or s i 0 in
    let both = but_not (inside && not (eqb x tab)) (eqb x lf) e in
    let one = but_not inside (eqb x tab) both.0 in
    let none : ending (drop i s) ≡ 0 = ending_here s i h ∙ ap bool_byte both.1 in
    (one.0, sym (end_on s i h 0 (sym none) (simp one.1)))
