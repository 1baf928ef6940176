-- The lines of a text, one after the other, and where the code finds them.
use Rattle.std.specs.Prelude.{ℕ, zero, suc, ◌+◌, ◌-◌, ◌≤◌, ◌<◌, ◌≡◌, refl, Bool, true, false, eqb, length, drop, take, get_or, Some, None}
use Rattle.std.proofs.Common.{sym, ◌∙◌, arith, add-one, add-zero, length-take, length-drop, drop_of_length-le, drop-cons, drop-drop, eq-eqb, ne_eqb}
use Rattle.std.proofs.Math.Path.{ap}
use Rattle.std.proofs.Math.Bool.{cond}
use mathlib.Core.List.{List, [], ◌∷◌}
use Rattle.std.proofs.lemmas.Bool.{eqb-false}
use Rattle.base.specs.Tests.{true≢false, or_false}
use Rattle.text.specs.Fields.{lf}
use Rattle.transcript.specs.Texts.{onto, lines_of}
use Rattle.transcript.specs.LineEnds.{has_lf, place_after, behind_line}
use Rattle.transcript.specs.Feeding.{whole}

-- ---- looking for an LF, byte by byte
module _ (s : List ℕ) (p : ℕ) where
  from_byte : p < length s → behind_line s p ≡ cond (eqb (get_or s p 0) lf) (Some (p + 1)) (behind_line s (p + 1))
  unfolding behind_line
  from_byte h =
      ap (λ (t : List ℕ). place_after t p) (drop-cons s p 0 h)
      ∙ ap (λ (q : ℕ). cond (eqb (get_or s p 0) lf) (Some q) (place_after (drop q s) q)) (sym (add-one p))

  -- An LF ends the line.
  pub line_ends : p < length s → get_or s p 0 ≡ lf → Some (p + 1) ≡ behind_line s p
  line_ends h e = sym (from_byte h ∙ simp (eq-eqb (get_or s p 0) lf e))

  -- It goes on past any other byte.
  pub line_goes : p < length s → (get_or s p 0 ≡ lf → ⊥) → behind_line s (p + 1) ≡ behind_line s p
  line_goes h ne = sym (from_byte h ∙ simp (ne_eqb (get_or s p 0) lf ne))

  -- The text is over.
  pub line_over : length s ≤ p → None ≡ behind_line s p
  unfolding behind_line
  line_over h = ap (λ (t : List ℕ). place_after t p) (sym (drop_of_length-le s h))

-- Past k bytes of which none is an LF.
pub line_passes : (s : List ℕ) (p k : ℕ) → p + k ≤ length s → has_lf s p k ≡ false → behind_line s (p + k) ≡ behind_line s p
unfolding has_lf
line_passes s p zero h e = ap (behind_line s) (add-zero p)
line_passes s p (suc k) h e =
    let none = or_false (has_lf s p k) (eqb (get_or s (p + k) 0) lf) e in
    let z : p + suc k ≡ p + k + 1 = omega arith in
    ap (behind_line s) z ∙ line_goes s (p + k) (omega arith) (eqb-false (get_or s (p + k) 0) lf none.1)
    ∙ line_passes s p k (omega arith) none.0

-- ---- lines

-- From place p to place e stands the first line, with its LF.
pub record LineAt (s : List ℕ) (p e : ℕ) : Type 0 where
  pub some : p < e
  pub fits : e ≤ length s
  pub lines : lines_of (drop p s) ≡ take (e - p) (drop p s) ∷ lines_of (drop e s)
  pub ends : whole (take (e - p) (drop p s)) ≡ true
  pub size : length (take (e - p) (drop p s)) ≡ e - p

-- All that is left of a text without an LF is one line, if it is not empty.
abbrev pub line_left : List ℕ → List (List ℕ)
line_left [] = []
line_left (b ∷ bs) = (b ∷ bs) ∷ []

-- No LF follows.
pub record NoLine (t : List ℕ) : Type 0 where
  pub lines : lines_of t ≡ line_left t
  pub ends : whole t ≡ false

-- A byte before a line that has its LF.
whole_more : (b : ℕ) (l : List ℕ) → whole l ≡ true → whole (b ∷ l) ≡ true
whole_more b [] h = true≢false (sym h)
whole_more b (c ∷ bs) h = h

-- The same of a text that begins at place p.
record First (t : List ℕ) (p e : ℕ) : Type 0 where
  pub some : p < e
  pub fits : e ≤ p + length t
  pub lines : lines_of t ≡ take (e - p) t ∷ lines_of (drop (e - p) t)
  pub ends : whole (take (e - p) t) ≡ true

first_line : (t : List ℕ) (p e : ℕ) → Some e ≡ place_after t p → First t p e
unfolding lines_of
first_line [] p e is = absurd (let no : ⊥ = cc in no)
first_line (b ∷ bs) p e is = go (eqb b lf) refl (first_line bs (suc p) e)
  where
    -- The line so far, and what stands behind it.
    split : ℕ → List (List ℕ)
    split k = take k (b ∷ bs) ∷ lines_of (drop k (b ∷ bs))

    go : (t : Bool) → eqb b lf ≡ t → (Some e ≡ place_after bs (suc p) → First bs (suc p) e) → First (b ∷ bs) p e
    go true q ih =
        let at : Some e ≡ Some (suc p) = is ∙ simp q in
        let is : e ≡ suc p = cc in
        let one : e - p ≡ 1 = omega arith in
        record {
          some = omega arith;
          fits = omega arith;
          lines = simp q (ap split (sym one));
          ends = ap (λ (k : ℕ). whole (take k (b ∷ bs))) one ∙ q;
        }
    go false q ih =
        let f = ih (is ∙ simp q) in
        let more : e - p ≡ suc (e - suc p) = omega (arith, f.some) in
        record {
          some = omega (arith, f.some);
          fits = omega (arith, f.fits);
          lines = simp q (ap (onto b) f.lines ∙ ap split (sym more));
          ends = ap (λ (k : ℕ). whole (take k (b ∷ bs))) more ∙ whole_more b (take (e - suc p) bs) f.ends;
        }

no_line : (t : List ℕ) (p : ℕ) → place_after t p ≡ None → NoLine t
unfolding lines_of
no_line [] p is = record { lines = refl; ends = refl }
no_line (b ∷ bs) p is = go (eqb b lf) refl (no_line bs (suc p))
  where
    alone : (l : List ℕ) → onto b (line_left l) ≡ (b ∷ l) ∷ []
    alone [] = refl
    alone (c ∷ cs) = refl

    unended : (l : List ℕ) → eqb b lf ≡ false → whole l ≡ false → whole (b ∷ l) ≡ false
    unended [] q h = q
    unended (c ∷ cs) q h = h

    go : (t : Bool) → eqb b lf ≡ t → (place_after bs (suc p) ≡ None → NoLine bs) → NoLine (b ∷ bs)
    go true q ih = let z : Some (suc p) ≡ None = sym (simp q) ∙ is in absurd (let no : ⊥ = cc in no)
    go false q ih =
        let f = ih (sym (simp q) ∙ is) in
        record { lines = simp q (ap (onto b) f.lines ∙ alone bs); ends = unended bs q f.ends }

-- Where the code finds an LF it has the first line.
pub line_found : (s : List ℕ) (p e : ℕ) → Some e ≡ behind_line s p → p ≤ length s → LineAt s p e
unfolding behind_line
line_found s p e is le =
    let f = first_line (drop p s) p e is in
    let end : p + (e - p) ≡ e = omega (arith, f.some) in
    let rest : drop (e - p) (drop p s) ≡ drop e s = drop-drop (e - p) p s ∙ ap (λ (k : ℕ). drop k s) end in
    record {
      some = f.some;
      fits = omega (arith, f.fits, length-drop p s);
      lines = f.lines ∙ ap (λ (t : List ℕ). take (e - p) (drop p s) ∷ lines_of t) rest;
      ends = f.ends;
      size = simp (length-take, length-drop) (omega (arith, f.some, f.fits, length-drop p s));
    }

-- Where it finds none there is none.
pub line_missing : (s : List ℕ) (p : ℕ) → behind_line s p ≡ None → NoLine (drop p s)
unfolding behind_line
line_missing s p is = no_line (drop p s) p is
