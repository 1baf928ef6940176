-- A text's lines: which is whole, and which is no message's line because it has no LF or is too long.
use Rattle.std.specs.Prelude.{ℕ, suc, ◌≤◌, ◌<◌, ◌≡◌, refl, Bool, true, false, ◌||◌, cond, List, [], ◌∷◌, ◌++◌, eqb, length, None}
use Rattle.std.proofs.Common.{sym, ap, ap₂, ◌∙◌, append_assoc, arith, eqb-true}
use Rattle.base.specs.Tests.{true≢false, or_false, or_r}
use Rattle.text.specs.Fields.{lf, line_end}
use Rattle.messages.specs.Longest.{longest_read, longest_read_lem, line_ended}
use Rattle.messages.specs.Reader.{read_line}
use Rattle.messages.specs.RoundTrip.{reads_only}
use Rattle.transcript.specs.Texts.{onto, lines_of}
use Rattle.transcript.specs.Feeding.{whole}

-- An LF stands in the text.
abbrev pub has_end : List ℕ → Bool
has_end [] = false
has_end (b ∷ bs) = eqb b lf || has_end bs

-- ---- a text's lines

-- A byte before some lines makes one line more at most, and never none.
one_more : (b : ℕ) (c : Bool) (ls : List (List ℕ))
    → (0 < length (cond c ((b ∷ []) ∷ ls) (onto b ls))) × (length (cond c ((b ∷ []) ∷ ls) (onto b ls)) ≤ suc (length ls))
one_more b true ls = (omega arith, omega arith)
one_more b false [] = (omega arith, omega arith)
one_more b false (l ∷ ls) = (omega arith, omega arith)

-- Only the empty text has none.
pub lines_none : (t : List ℕ) → lines_of t ≡ [] → t ≡ []
unfolding lines_of
lines_none [] e = refl
lines_none (b ∷ bs) e = absurd (omega (arith, one_more b (eqb b lf) (lines_of bs), ap length e))

-- No text has more lines than bytes.
pub lines_few : (t : List ℕ) → length (lines_of t) ≤ length t
unfolding lines_of
lines_few [] = omega arith
lines_few (b ∷ bs) = omega (arith, one_more b (eqb b lf) (lines_of bs), lines_few bs)

-- Bytes before the first LF belong to the first line.
pub lines_front : (w t l : List ℕ) (ls : List (List ℕ)) → has_end w ≡ false → lines_of t ≡ l ∷ ls → lines_of (w ++ t) ≡ (w ++ l) ∷ ls
unfolding lines_of
lines_front [] t l ls n e = e
lines_front (b ∷ bs) t l ls n e =
    let o = or_false (eqb b lf) (has_end bs) n in
    ap₂ (λ (c : Bool) (ks : List (List ℕ)). cond c ((b ∷ []) ∷ lines_of (bs ++ t)) (onto b ks)) o.0 (lines_front bs t l ls o.1 e)

-- A text with no LF is one line, if it is not empty.
pub lines_alone : (b : ℕ) (bs : List ℕ) → has_end (b ∷ bs) ≡ false → lines_of (b ∷ bs) ≡ (b ∷ bs) ∷ []
unfolding lines_of
lines_alone b [] n = ap (λ (c : Bool). cond c ((b ∷ []) ∷ []) ((b ∷ []) ∷ [])) (or_false (eqb b lf) false n).0
lines_alone b (c ∷ cs) n =
    let o = or_false (eqb b lf) (has_end (c ∷ cs)) n in
    ap₂ (λ (x : Bool) (ks : List (List ℕ)). cond x ((b ∷ []) ∷ lines_of (c ∷ cs)) (onto b ks)) o.0 (lines_alone c cs o.1)

-- Up to the first LF it is the first line.
pub lines_whole : (w t : List ℕ) → has_end w ≡ false → lines_of (w ++ (lf ∷ t)) ≡ (w ++ line_end) ∷ lines_of t
unfolding lines_of
lines_whole w t n = lines_front w (lf ∷ t) line_end (lines_of t) n refl

-- ---- where the first line ends
pub record Ended (s : List ℕ) : Type 0 where
  pub front : List ℕ
  pub behind : List ℕ
  pub none : has_end front ≡ false
  pub is : s ≡ front ++ (lf ∷ behind)

pub first_end : (s : List ℕ) → has_end s ≡ true → Ended s
first_end [] h = true≢false (sym h)
first_end (b ∷ bs) h = go (eqb b lf) refl h (first_end bs)
  where
    go : (c : Bool) → eqb b lf ≡ c → (c || has_end bs) ≡ true → (has_end bs ≡ true → Ended bs) → Ended (b ∷ bs)
    go true e h rec = record { front = []; behind = bs; none = refl; is = ap (λ (x : ℕ). x ∷ bs) (eqb-true b lf e) }
    go false e h rec =
        let r = rec h in
        record {
          front = b ∷ r.front;
          behind = r.behind;
          none = ap₂ ◌||◌ e r.none;
          is = ap (λ (x : List ℕ). b ∷ x) r.is;
        }

-- The last byte tells whether a line is whole.
whole_end : (w : List ℕ) → whole (w ++ line_end) ≡ true
whole_end [] = refl
whole_end (b ∷ []) = refl
whole_end (b ∷ (c ∷ cs)) = whole_end (c ∷ cs)

pub open_end : (w : List ℕ) → has_end w ≡ false → whole w ≡ false
open_end [] n = refl
open_end (b ∷ []) n = (or_false (eqb b lf) false n).0
open_end (b ∷ (c ∷ cs)) n = open_end (c ∷ cs) (or_false (eqb b lf) (has_end (c ∷ cs)) n).1

-- Without an LF there is no whole line.
alone_open : (s l : List ℕ) (ls : List (List ℕ)) → has_end s ≡ false → lines_of s ≡ l ∷ ls → whole l ≡ false
unfolding lines_of
alone_open [] l ls n e = absurd (omega (arith, ap length e))
alone_open (b ∷ bs) l ls n e =
    let same : (b ∷ bs) ∷ [] ≡ l ∷ ls = sym (lines_alone b bs n) ∙ e in
    let is : l ≡ b ∷ bs = cc in
    ap whole is ∙ open_end (b ∷ bs) n

-- With one, it is what stands up to it.
ended_first : (s l : List ℕ) (ls : List (List ℕ)) (r : Ended s) → lines_of s ≡ l ∷ ls
    → (l ≡ r.front ++ line_end) × (lines_of r.behind ≡ ls)
ended_first s l ls r e =
    let same = sym (ap lines_of r.is ∙ lines_whole r.front r.behind r.none) ∙ e in
    (cc, cc)

-- A first line that is not whole: the text has no LF.
pub first_open : (s l : List ℕ) (ls : List (List ℕ)) → lines_of s ≡ l ∷ ls → whole l ≡ false → has_end s ≡ false
first_open s l ls e h = go (has_end s) refl
  where
    go : (c : Bool) → has_end s ≡ c → c ≡ false
    go true c =
        let r = first_end s c in
        true≢false (sym (whole_end r.front) ∙ ap whole (sym (ended_first s l ls r e).0) ∙ h)
    go false c = refl

-- One that is whole: the others stand behind it, and it is the first line whatever stands there.
pub record FirstWhole (s l : List ℕ) (ls : List (List ℕ)) : Type 0 where
  pub behind : List ℕ
  pub is : s ≡ l ++ behind
  pub others : lines_of behind ≡ ls
  pub first : (t : List ℕ) → lines_of (l ++ t) ≡ l ∷ lines_of t

pub first_whole : (s l : List ℕ) (ls : List (List ℕ)) → lines_of s ≡ l ∷ ls → whole l ≡ true → FirstWhole s l ls
first_whole s l ls e h = go (has_end s) refl
  where
    go : (c : Bool) → has_end s ≡ c → FirstWhole s l ls
    go false c = true≢false (sym h ∙ alone_open s l ls c e)
    go true c =
        let r = first_end s c in
        let f = ended_first s l ls r e in
        record {
          behind = r.behind;
          is = r.is ∙ sym (append_assoc r.front line_end r.behind) ∙ ap (λ (x : List ℕ). x ++ r.behind) (sym f.0);
          others = f.1;
          first = λ t.
              ap (λ (x : List ℕ). lines_of (x ++ t)) f.0
              ∙ ap lines_of (append_assoc r.front line_end t)
              ∙ lines_whole r.front t r.none
              ∙ ap (λ (x : List ℕ). x ∷ lines_of t) (sym f.0);
        }

-- ---- what is no line
pub ends_there : (t : List ℕ) → has_end (t ++ line_end) ≡ true
ends_there [] = refl
ends_there (b ∷ bs) = or_r (eqb b lf) (has_end (bs ++ line_end)) (ends_there bs)

-- "a last line without LF too, is an event with 19"
pub no_end : (l : List ℕ) → has_end l ≡ false → read_line l ≡ None
no_end l n =
    sym (reads_only l None (λ m f e. let w = line_ended l m e in true≢false (sym (ends_there w.0) ∙ ap has_end (sym w.1) ∙ n)))

-- "The longest is 80 characters before the LF."
pub too_long_lem : (l : List ℕ) → longest_read < length l → read_line l ≡ None
too_long_lem l h = sym (reads_only l None (λ m f e. omega (arith, longest_read_lem l m e f)))
