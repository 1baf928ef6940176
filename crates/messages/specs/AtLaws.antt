-- One field: what was written there reads back, and what reads was written there.
use Rattle.std.specs.Prelude.{ℕ, ◌^◌, ◌<◌, ◌≤◌, ◌≡◌, refl, Bool, true, false, cond, List, [], ◌∷◌, eqb, Option, Some, None, option_and_then}
use Rattle.std.proofs.Common.{ap, sym, subst, ◌∙◌, arith, lit<, eqb-true, ne_eqb}
use Rattle.std.proofs.lemmas.Option.{option_and_then_some, some_pair_parts, same_Some, none-some}
use Rattle.std.specs.Bool.{then_some}
use Rattle.text.specs.Clean.{Clean, decimal_clean, hex_clean}
use Rattle.text.specs.DecimalLaws.{decimal_reads, decimal_exact, decimal_some}
use Rattle.text.specs.DigitLaws.{Begins, letter_one}
use Rattle.text.specs.Digits.{decimal, hex, decimal_of, hex_of, letter_of}
use Rattle.text.specs.FieldLaws.{Ahead, behind_reads, behind_written, begins_some}
use Rattle.text.specs.Fields.{behind, end_behind}
use Rattle.text.specs.HexLaws.{hex_reads, hex_exact, hex_some}
use Rattle.entry.specs.Hex.{entry_text, entry_field, IsEntry}
use Rattle.entry.specs.HexLaws.{text_clean, text_some, entry_reads, entry_exact}
use Rattle.entry.specs.declared.Entry.{Entry}
use Rattle.messages.specs.Lines.{plus, dash, mark, IsMask}
use Rattle.messages.specs.Reader.{read_at, number_at, hex_at, entry_at, letter_at, dash_at, mark_of}

-- What a test lets through.
pub let_through : {A : Type 0} (b : Bool) (x y : A) → then_some b x ≡ Some y → (b ≡ true) × (x ≡ y)
let_through true x y h = (refl, same_Some x y h)
let_through false x y h = absurd (none-some y h)

-- A text that begins with a digit is no dash.
no_dash : (f : List ℕ) → Begins f → (d : ℕ) → letter_of f ≡ Some d → eqb d dash ≡ false
no_dash f b d h =
    ne_eqb d dash (λ e.
    let one : b.byte ∷ b.rest ≡ d ∷ [] = sym b.is ∙ letter_one f d h in
    let same : b.byte ≡ d = cc in
    let low = b.digit in
    omega arith)

module _ (t : List ℕ) (e : ℕ) (fs : List (List ℕ)) where
  -- ---- what is written reads back, and the other fields stand behind it
  read_back : {A : Type 0} (read : List ℕ → Option A) (f : List ℕ) (x : A) → Clean f → read f ≡ Some x → Ahead t e (f ∷ fs)
      → (read_at read t e ≡ Some (x, end_behind t e)) × Ahead t (end_behind t e) fs
  read_back read f x c r a =
      let b = behind_reads t e f fs a c in
      let is = ap read b.0 ∙ r in
      (simp is, b.1)

  pub number_back : (max v : ℕ) → max < 2 ^ 64 → v ≤ max → Ahead t e (decimal v ∷ fs)
      → (number_at t e max ≡ Some (v, end_behind t e)) × Ahead t (end_behind t e) fs
  number_back max v m h a = read_back (decimal_of max) (decimal v) v (decimal_clean v) (decimal_reads max v h m) a

  pub hex_back : (w : ℕ) → IsMask w → Ahead t e (hex w ∷ fs) → (hex_at t e ≡ Some (w, end_behind t e)) × Ahead t (end_behind t e) fs
  hex_back w h a = read_back hex_of (hex w) w (hex_clean w) (hex_reads w h) a

  pub entry_back : (x : Entry) → IsEntry x → Ahead t e (entry_text x ∷ fs)
      → (entry_at t e ≡ Some (x, end_behind t e)) × Ahead t (end_behind t e) fs
  entry_back x h a = read_back entry_field (entry_text x) x (text_clean x h) (entry_reads x h) a

  letter_back : (k : ℕ) → Clean (k ∷ []) → Ahead t e ((k ∷ []) ∷ fs)
      → (letter_at t e ≡ Some (k, end_behind t e)) × Ahead t (end_behind t e) fs
  unfolding letter_of
  letter_back k c a = read_back letter_of (k ∷ []) k c refl a

  pub mark_back : (verified : Bool) → Ahead t e (mark verified ∷ fs)
      → (letter_at t e ≡ Some (cond verified plus dash, end_behind t e))
      × ((mark_of (cond verified plus dash) ≡ Some verified) × Ahead t (end_behind t e) fs)
  mark_back verified a =
      let b = letter_back (cond verified plus dash) (clean verified) a in
      (b.0, (same verified, b.1))
    where
      clean : (v : Bool) → Clean (mark v)
      clean true = (refl, tt)
      clean false = (refl, tt)

      same : (v : Bool) → mark_of (cond v plus dash) ≡ Some v
      same true = refl
      same false = refl

  -- A number is no dash.
  pub number_no_dash : (v : ℕ) → Ahead t e (decimal v ∷ fs) → dash_at t e ≡ None
  unfolding dash_at
  number_no_dash v a =
      let b = behind_reads t e (decimal v) fs a (decimal_clean v) in
      go (letter_of (behind t e)) (λ d h. no_dash (decimal v) (decimal_some v) d (ap letter_of (sym b.0) ∙ h))
    where
      there : ℕ → Option (ℕ × ℕ)
      there x = Some (x, end_behind t e)

      go : (o : Option ℕ) → ((d : ℕ) → o ≡ Some d → eqb d dash ≡ false)
          → option_and_then (λ (d : ℕ × ℕ). then_some (eqb d.0 dash) d.1) (option_and_then there o) ≡ None
      go None h = refl
      go (Some d) h = simp (h d refl)

  pub dash_back : Ahead t e ((dash ∷ []) ∷ fs) → (dash_at t e ≡ Some (end_behind t e)) × Ahead t (end_behind t e) fs
  unfolding dash_at
  dash_back a =
      let b = letter_back dash (refl, tt) a in
      (simp b.0, b.1)

-- ---- what reads was written, before the fields that stand behind it
module _ (t : List ℕ) (e : ℕ) (fs : List (List ℕ)) (end : ℕ) (a : Ahead t end fs) where
  -- What was read is the field, and it ends there.
  read_is : {A : Type 0} (read : List ℕ → Option A) (x : A) → read_at read t e ≡ Some (x, end)
      → (read (behind t e) ≡ Some x) × Ahead t (end_behind t e) fs
  read_is {A} read x h =
      option_and_then_some _ (read (behind t e)) (x, end) h λ y is rest.
      let same = some_pair_parts y x (end_behind t e) end rest in
      (is ∙ ap Some same.0, subst (λ (k : ℕ). Ahead t k fs) (sym same.1) a)

  pub number_written : (max : ℕ) → max < 2 ^ 64 → (v : ℕ) → number_at t e max ≡ Some (v, end)
      → Ahead t e (decimal v ∷ fs) × (v ≤ max)
  number_written max m v h =
      let r = read_is (decimal_of max) v h in
      let x = decimal_exact max m (behind t e) v r.0 in
      (behind_written t e (decimal v) fs x.0 (begins_some (decimal v) (decimal_some v)) r.1, x.1)

  pub hex_written : (w : ℕ) → hex_at t e ≡ Some (w, end) → Ahead t e (hex w ∷ fs) × IsMask w
  hex_written w h =
      let r = read_is hex_of w h in
      let x = hex_exact (behind t e) w r.0 in
      (behind_written t e (hex w) fs x.0 (begins_some (hex w) (hex_some w)) r.1, x.1)

  pub entry_written : (y : Entry) → entry_at t e ≡ Some (y, end) → Ahead t e (entry_text y ∷ fs) × IsEntry y
  entry_written y h =
      let r = read_is entry_field y h in
      let x = entry_exact (behind t e) y r.0 in
      (behind_written t e (entry_text y) fs x.0 (text_some y) r.1, x.1)

  pub letter_written : (k : ℕ) → letter_at t e ≡ Some (k, end) → Ahead t e ((k ∷ []) ∷ fs)
  letter_written k h =
      let r = read_is letter_of k h in
      behind_written t e (k ∷ []) fs (letter_one (behind t e) k r.0) (lit< tt) r.1

  pub dash_written : dash_at t e ≡ Some end → Ahead t e ((dash ∷ []) ∷ fs)
  unfolding dash_at
  dash_written h =
      option_and_then_some _ (letter_at t e) end h λ d is rest.
      let let_in = let_through (eqb d.0 dash) d.1 end rest in
      letter_written dash (is ∙ ap (λ (p : ℕ × ℕ). Some p) (pair d.0 d.1 (eqb-true d.0 dash let_in.0) let_in.1))
    where
      pair : (x y : ℕ) → x ≡ dash → y ≡ end → ◌≡◌ {A = ℕ × ℕ} (x, y) (dash, end)
      pair x y p q = rw (p, q)

  pub mark_written : (x : ℕ) → letter_at t e ≡ Some (x, end) → (verified : Bool) → mark_of x ≡ Some verified
      → Ahead t e (mark verified ∷ fs)
  mark_written x h verified is = go (eqb x plus) refl (eqb x dash) refl is
    where
      one : (k : ℕ) → x ≡ k → Ahead t e ((k ∷ []) ∷ fs)
      one k p = letter_written k (subst (λ (y : ℕ). letter_at t e ≡ Some (y, end)) p h)

      go : (p : Bool) → eqb x plus ≡ p → (q : Bool) → eqb x dash ≡ q → cond p (Some true) (cond q (Some false) None) ≡ Some verified
          → Ahead t e (mark verified ∷ fs)
      go true p q r i = subst (λ (v : Bool). Ahead t e (mark v ∷ fs)) (same_Some true verified i) (one plus (eqb-true x plus p))
      go false p true r i = subst (λ (v : Bool). Ahead t e (mark v ∷ fs)) (same_Some false verified i) (one dash (eqb-true x dash r))
      go false p false r i = absurd (none-some verified i)
