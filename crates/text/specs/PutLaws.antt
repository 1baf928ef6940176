-- Texts put one after the other.
use Rattle.std.specs.Prelude.{ℕ, suc, ◌+◌, ◌≤◌, ◌<◌, ◌≡◌, refl, Bool, true, false, cond, List, [], ◌∷◌, ◌++◌, length, set}
use Rattle.std.proofs.Common.{sym, ap, ap₂, ◌∙◌, subst, append-nil, append_assoc, arith, add-zero, length-append, le-leb}
use Rattle.std.proofs.lemmas.List.Edits.{sets}
use Rattle.std.proofs.Math.Seq.{length-sets}
use Rattle.std.proofs.lemmas.Bool.{lt-leb}
use Rattle.text.specs.Fields.{tab, tabbed}
use Rattle.text.specs.Put.{room, placed, Puts}

-- A text put behind another.
sets_append : (x y b : List ℕ) (i : ℕ) → sets (sets b i x) (i + length x) y ≡ sets b i (x ++ y)
sets_append [] y b i = ap (λ (k : ℕ). sets b k y) (add-zero i)
sets_append (a ∷ x) y b i =
    let e : i + suc (length x) ≡ suc i + length x = omega arith in
    ap (λ (k : ℕ). sets (sets (set b i a) (suc i) x) k y) e ∙ sets_append x y (set b i a) (suc i)

-- ---- whole or not at all

-- Where a text has room it is put.
pub placed_room : (s : List ℕ) (p : ℕ) (text : List ℕ) → p + length text ≤ length s → placed s p text ≡ sets s p text
unfolding placed
placed_room s p text h = simp (le-leb (p + length text) (length s) h)

-- Where it has none nothing is.
pub placed_none : (s : List ℕ) (p : ℕ) (text : List ℕ) → length s < p + length text → placed s p text ≡ s
unfolding placed
placed_none s p text h = simp (lt-leb (p + length text) (length s) h)

pub length_placed : (s : List ℕ) (p : ℕ) (text : List ℕ) → length (placed s p text) ≡ length s
unfolding placed
length_placed s p text = go (room s p (length text))
  where
    go : (t : Bool) → length (cond t (sets s p text) s) ≡ length s
    go true = length-sets s p text
    go false = refl

-- ---- one text after another

pub puts_nothing : (b : List ℕ) (p : ℕ) → Puts b p [] p b
puts_nothing b p = record { place = sym (add-zero p); same = refl; bytes = λ h. refl }

pub puts_placed : (before : List ℕ) (p : ℕ) (text : List ℕ) (r : ℕ) (after : List ℕ)
    → after ≡ placed before p text → r ≡ p + length text → Puts before p text r after
puts_placed before p text r after e q = record {
  place = q;
  same = ap length e ∙ length_placed before p text;
  bytes = λ h. e ∙ placed_room before p text h;
}

-- A text that is the same is put.
pub become : (b : List ℕ) (p : ℕ) (x y : List ℕ) (q : ℕ) (c : List ℕ) → x ≡ y → Puts b p x q c → Puts b p y q c
become b p x y q c e h = subst (λ (t : List ℕ). Puts b p t q c) e h

pub put_then : (b : List ℕ) (p : ℕ) (x : List ℕ) (q : ℕ) (c y : List ℕ) (r : ℕ) (d : List ℕ)
    → Puts b p x q c → Puts c q y r d → Puts b p (x ++ y) r d
put_then b p x q c y r d f g = record {
  place = omega (arith, f.place, g.place, length-append x y);
  same = g.same ∙ f.same;
  bytes = λ h.
      let one = f.bytes (omega (arith, length-append x y)) in
      let two = g.bytes (omega (arith, length-append x y, f.place, f.same)) in
      two ∙ ap₂ (λ (l : List ℕ) (k : ℕ). sets l k y) one f.place ∙ sets_append x y b p;
}

-- ---- fields after fields

tabbed_append : (fs gs : List (List ℕ)) → tabbed (fs ++ gs) ≡ tabbed fs ++ tabbed gs
tabbed_append [] gs = refl
tabbed_append (f ∷ fs) gs =
    ap (λ (t : List ℕ). tab ∷ t)
    (ap (λ (t : List ℕ). f ++ t) (tabbed_append fs gs) ∙ sym (append_assoc f (tabbed fs) (tabbed gs)))

-- A tab, then a field.
pub leaf : (b : List ℕ) (p q : ℕ) (c f : List ℕ) (r : ℕ) (d : List ℕ)
    → Puts b p (tab ∷ []) q c → Puts c q f r d → Puts b p (tabbed (f ∷ [])) r d
leaf b p q c f r d x y =
    become b p (tab ∷ f) (tabbed (f ∷ [])) r d (ap (λ (t : List ℕ). tab ∷ t) (sym (append-nil f)))
    (put_then b p (tab ∷ []) q c f r d x y)

-- Fields, then more of them.
pub tabs : (b : List ℕ) (p : ℕ) (fs : List (List ℕ)) (q : ℕ) (c : List ℕ) (gs : List (List ℕ)) (r : ℕ) (d : List ℕ)
    → Puts b p (tabbed fs) q c → Puts c q (tabbed gs) r d → Puts b p (tabbed (fs ++ gs)) r d
tabs b p fs q c gs r d f g =
    become b p (tabbed fs ++ tabbed gs) (tabbed (fs ++ gs)) r d (sym (tabbed_append fs gs))
    (put_then b p (tabbed fs) q c (tabbed gs) r d f g)
