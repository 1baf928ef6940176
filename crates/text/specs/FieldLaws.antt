-- Fields written and read back, and what was read was written so.
use Rattle.std.specs.Prelude.{ℕ, suc, ◌+◌, ◌-◌, ◌≤◌, ◌<◌, ◌≡◌, refl, Bool, true, false, ◌&&◌, ◌||◌, cond, List, [], ◌∷◌, ◌++◌, eqb, ltb, length, drop, get_or, Some}
use Rattle.std.proofs.Common.{sym, ap, ap₂, ◌∙◌, subst, append_assoc, arith, length-append, length-drop, drop-cons, get_or-drop, drop-drop, ltb-true, eqb-true, lt-ltb, eq-eqb}
use Rattle.std.proofs.Math.Seq.{drop-length, drop-append_seam}
use Rattle.base.specs.Tests.{and_true, or_false}
use Rattle.text.specs.Clean.{Clean}
use Rattle.text.specs.Digits.{letter_of}
use Rattle.text.specs.DigitLaws.{Begins, letter_one}
use Rattle.text.specs.Fields.{tab, lf, line_end, tabbed, line_of, longest_end, IsLineOf, stopper}
use Rattle.text.specs.Fields.{ending, up_to, field_at, place_behind, behind, end_behind, over}

-- From place e on the text is these fields, each behind a tab, and the line's end.
abbrev pub Ahead : List ℕ → ℕ → List (List ℕ) → Type 0
Ahead t e fs = drop e t ≡ tabbed fs ++ line_end

-- ---- the byte at a place

-- A text that goes on has a byte there, and the rest behind it.
at_place : (t : List ℕ) (e y : ℕ) (ys : List ℕ) → drop e t ≡ y ∷ ys → (e < length t) × ((get_or t e 0 ≡ y) × (drop (e + 1) t ≡ ys))
at_place t e y ys h =
    let long : length t - e ≡ suc (length ys) = sym (length-drop e t) ∙ ap length h in
    let here : e ≡ e + 0 = omega arith in (
      omega arith,
      (
        ap (λ (k : ℕ). get_or t k 0) here ∙ sym (get_or-drop e t 0 0) ∙ ap (λ (l : List ℕ). get_or l 0 0) h,
        sym (drop-drop 1 e t) ∙ ap (drop 1) h,
      ),
    )

-- A byte in a text stands before the rest.
from_place : (t : List ℕ) (e y : ℕ) → e < length t → get_or t e 0 ≡ y → drop e t ≡ y ∷ drop (e + 1) t
from_place t e y h g =
    let next : suc e ≡ e + 1 = omega arith in
    drop-cons t e 0 h ∙ ap₂ (λ (x k : ℕ). x ∷ drop k t) g next

-- ---- the field at the front of a text

-- What stands behind a field: a tab, or the line's end.
stops : (fs : List (List ℕ)) → up_to (tabbed fs ++ line_end) ≡ []
stops [] = refl
stops (f ∷ fs) = refl

-- Any other byte goes on.
goes_on : (b : ℕ) (bs : List ℕ) → stopper b ≡ false → (eqb b tab || ltb 0 (ending (b ∷ bs))) ≡ false
goes_on b bs c = let o = or_false (eqb b tab) (eqb b lf) c in simp (o.0, o.1)

-- A clean text is the field, where what is behind it stops one.
up_clean : (f r : List ℕ) → Clean f → up_to r ≡ [] → up_to (f ++ r) ≡ f
up_clean [] r c h = h
up_clean (b ∷ bs) r c h = simp (goes_on b (bs ++ r) c.0, up_clean bs r c.1 h)

-- A text is the field at its front and the rest.
up_rest : (s : List ℕ) → s ≡ up_to s ++ drop (length (up_to s)) s
up_rest [] = refl
up_rest (b ∷ bs) = go (eqb b tab || ltb 0 (ending (b ∷ bs))) (up_rest bs)
  where
    go : (c : Bool) → bs ≡ up_to bs ++ drop (length (up_to bs)) bs
        → b ∷ bs ≡ cond c [] (b ∷ up_to bs) ++ drop (length (cond c [] (b ∷ up_to bs))) (b ∷ bs)
    go true h = refl
    go false h = ap (λ (l : List ℕ). b ∷ l) h

-- ---- the field behind a tab

-- A field behind a tab starts at the place behind the tab.
place_tab : (t : List ℕ) (e : ℕ) (s : List ℕ) → drop e t ≡ tab ∷ s → place_behind t e ≡ e + 1
place_tab t e s h =
    let b = at_place t e tab s h in
    simp (lt-ltb e (length t) b.0, b.1.0)

-- A field that was written is read, and the others stand behind it.
pub behind_reads : (t : List ℕ) (e : ℕ) (f : List ℕ) (fs : List (List ℕ)) → Ahead t e (f ∷ fs) → Clean f
    → (behind t e ≡ f) × Ahead t (end_behind t e) fs
unfolding behind end_behind
behind_reads t e f fs h c =
    let rest = tabbed fs ++ line_end in
    let s : drop e t ≡ tab ∷ (f ++ rest) = h ∙ ap (λ (l : List ℕ). tab ∷ l) (append_assoc f (tabbed fs) line_end) in
    let p : place_behind t e ≡ e + 1 = place_tab t e (f ++ rest) s in
    let d : drop (place_behind t e) t ≡ f ++ rest = ap (λ (k : ℕ). drop k t) p ∙ (at_place t e tab (f ++ rest) s).1.1 in
    let field : behind t e ≡ f = ap up_to d ∙ up_clean f rest c (stops fs) in
    let end = ap (λ (g : List ℕ). drop (place_behind t e + length g) t) field in
    (field, end ∙ sym (drop-drop (length f) (place_behind t e) t) ∙ ap (drop (length f)) d ∙ drop-append_seam f rest)

-- Where a field was found a tab stands before it.
pub behind_exact : (t : List ℕ) (e : ℕ) → 0 < length (behind t e) → drop e t ≡ tab ∷ (behind t e ++ drop (end_behind t e) t)
unfolding behind end_behind
behind_exact t e h = go (ltb e (length t) && eqb (get_or t e 0) tab) refl h
  where
    place : Bool → ℕ
    place c = cond c (e + 1) (length t)

    go : (c : Bool) → (ltb e (length t) && eqb (get_or t e 0) tab) ≡ c → 0 < length (up_to (drop (place c) t))
        → drop e t ≡ tab ∷ (up_to (drop (place c) t) ++ drop (place c + length (up_to (drop (place c) t))) t)
    go true c h =
        let b = and_true (ltb e (length t)) (eqb (get_or t e 0) tab) c in
        let s = drop (e + 1) t in
        from_place t e tab (ltb-true e (length t) b.0) (eqb-true (get_or t e 0) tab b.1)
        ∙ ap (λ (l : List ℕ). tab ∷ l) (up_rest s ∙ ap (λ (l : List ℕ). up_to s ++ l) (drop-drop (length (up_to s)) (e + 1) t))
    go false c h = let n = ap (λ (l : List ℕ). length (up_to l)) (drop-length t) in absurd (omega arith)

-- A text that begins has a length.
pub begins_some : (f : List ℕ) → Begins f → 0 < length f
begins_some f b = let n = ap length b.is in omega arith

-- A field that was read was written, where what stands behind it was.
pub behind_written : (t : List ℕ) (e : ℕ) (f : List ℕ) (fs : List (List ℕ)) → behind t e ≡ f → 0 < length f
    → Ahead t (end_behind t e) fs → Ahead t e (f ∷ fs)
behind_written t e f fs b n h =
    behind_exact t e (subst (λ (g : List ℕ). 0 < length g) (sym b) n)
    ∙ ap₂ (λ (g s : List ℕ). tab ∷ (g ++ s)) b h
    ∙ ap (λ (l : List ℕ). tab ∷ l) (sym (append_assoc f (tabbed fs) line_end))

-- ---- the end of the line

-- A text that a line's end fills is what is written as one.
only_end : (s : List ℕ) → 0 < ending s → ending s ≡ length s → s ≡ line_end
only_end [] p q = absurd (omega arith)
only_end (b ∷ bs) p q = go (eqb b lf) refl bs p q
  where
    go : (t : Bool) → eqb b lf ≡ t → (bs : List ℕ) → 0 < cond t 1 0 → cond t 1 0 ≡ length (b ∷ bs) → b ∷ bs ≡ line_end
    go true e [] p q = ap (λ (x : ℕ). x ∷ []) (eqb-true b lf e)
    go true e (c ∷ cs) p q = absurd (omega arith)
    go false e bs p q = absurd (omega arith)

-- A line that ends at e is over there, and only such a line.
pub over_reads : (t : List ℕ) (e : ℕ) → Ahead t e [] → over t e ≡ true
over_reads t e h =
    let long : length t - e ≡ 1 = sym (length-drop e t) ∙ ap length h in
    rw h (eq-eqb (e + 1) (length t) (omega arith))

pub over_exact : (t : List ℕ) (e : ℕ) → over t e ≡ true → Ahead t e []
over_exact t e h =
    let n = ending (drop e t) in
    let b = and_true (ltb 0 n) (eqb (e + n) (length t)) h in
    let end : e + n ≡ length t = eqb-true (e + n) (length t) b.1 in
    only_end (drop e t) (ltb-true 0 n b.0) (omega (arith, length-drop e t))

-- ---- the kind, which is the first field

-- The kind that was written is read.
pub kind_reads : (l : List ℕ) (k : ℕ) (fs : List (List ℕ)) → stopper k ≡ false → IsLineOf l k fs → letter_of (field_at l 0) ≡ Some k
unfolding letter_of IsLineOf
kind_reads l k fs c h =
    ap (λ (t : List ℕ). letter_of (field_at t 0)) h ∙ ap letter_of (up_clean (k ∷ []) (tabbed fs ++ line_end) (c, tt) (stops fs))

-- The fields stand behind it.
pub line_ahead : (l : List ℕ) (k : ℕ) (fs : List (List ℕ)) → IsLineOf l k fs → Ahead l 1 fs
unfolding IsLineOf
line_ahead l k fs h = ap (drop 1) h

-- A kind that was read was written before the fields.
pub kind_exact : (l : List ℕ) (k : ℕ) (fs : List (List ℕ)) → letter_of (field_at l 0) ≡ Some k → Ahead l 1 fs → IsLineOf l k fs
unfolding IsLineOf
kind_exact l k fs h a =
    up_rest l ∙ ap (λ (f : List ℕ). f ++ drop (length f) l) (letter_one (up_to l) k h) ∙ ap (λ (s : List ℕ). k ∷ s) a

-- ---- the lines that are read

-- The one that is written.
pub line_written : (k : ℕ) (fs : List (List ℕ)) → IsLineOf (line_of k fs) k fs
unfolding IsLineOf
line_written k fs = refl

-- It is the only one.
pub line_only : (l : List ℕ) (k : ℕ) (fs : List (List ℕ)) → IsLineOf l k fs → l ≡ line_of k fs
unfolding IsLineOf
line_only l k fs h = h

-- An LF is the last byte of each.
pub line_front : (l : List ℕ) (k : ℕ) (fs : List (List ℕ)) → IsLineOf l k fs → (w : List ℕ) × (l ≡ w ++ line_end)
unfolding IsLineOf
line_front l k fs h = (k ∷ tabbed fs, h)

-- ---- how long

-- Each field has a tab before it.
pub tabbed_length : (f : List ℕ) (fs : List (List ℕ)) → length (tabbed (f ∷ fs)) ≡ 1 + length f + length (tabbed fs)
tabbed_length f fs = let n = length-append f (tabbed fs) in omega arith

-- Beside its fields a line has its kind and its end.
pub line_length : (k : ℕ) (fs : List (List ℕ)) → length (line_of k fs) ≡ 2 + length (tabbed fs)
line_length k fs = let n = length-append (tabbed fs) line_end in omega arith

-- None that is read is longer than the longest end makes it.
pub line_size : (l : List ℕ) (k : ℕ) (fs : List (List ℕ)) → IsLineOf l k fs → length l ≤ 1 + length (tabbed fs) + longest_end
unfolding IsLineOf
line_size l k fs h = omega (arith, ap length h, line_length k fs)
