-- The writer: how long a line is, its fields one after the other, and what becomes of the lent buffer.
use Rattle.std.specs.Prelude.{Ok, Err, ◌⊎◌}
use Rattle.std.proofs.Common.{inl, inr}
use Prim.Native.Nat.{ℕ, ◌+◌, ◌≤◌}
use mathlib.Core.Path.{◌≡◌, refl, sym, ap, ap₂, ◌∙◌}
use mathlib.Core.Bool.{Bool}
use mathlib.Core.List.{List, [], ◌∷◌, ◌++◌}
use native.Mathlib.Omega.{arith}
use native.Mathlib.Nat.{zero-add}
use lib.ListN.{length, drop}
use lib.Seq.{sets-eq}
use Rattle.base.specs.Refusal.{judged}
use Rattle.base.specs.declared.refusal.Refusal.{Refusal}
use Rattle.text.specs.Fields.{tab, lf, tabbed}
use Rattle.text.specs.Put.{placed, Puts}
use Rattle.text.specs.PutLaws.{puts_placed, put_then, leaf}
use Rattle.messages.specs.declared.Message.{Message}
use Rattle.messages.specs.declared.Message.TheVariants.{Acknowledge, Confirm}
use Rattle.messages.specs.declared.Assent.{Assent}
use Rattle.messages.specs.Lengths.{line_takes}
use Rattle.messages.specs.Lines.{kind, fields, line}
use Rattle.messages.specs.Writer.{writable, writer_refusals, written, lent, afterwards}
use Rattle.messages.specs.WriterLaws.{writer_ok}

-- ---- how long a line is

-- The length of the line of the message that m was told to be.
pub told_length : (m x : Message) (n : ℕ) → m ≡ x → n ≡ 2 + length (tabbed (fields x)) → n ≡ length (line m)
told_length m x n is e = e ∙ sym (line_takes x) ∙ ap (λ (y : Message). length (line y)) (sym is)

-- An A and a C are as long.
pub assent_length : (m : Message) (a : Assent) (n : ℕ) → (m ≡ Acknowledge a) ⊎ (m ≡ Confirm a)
    → n ≡ 2 + length (tabbed (fields (Acknowledge a))) → n ≡ length (line m)
assent_length m a n (inl is) e = told_length m (Acknowledge a) n is e
assent_length m a n (inr is) e = told_length m (Confirm a) n is e

-- ---- fields one after the other

-- A tab and a field, where both were placed.
pub field_put : (b : List ℕ) (p : ℕ) (c f : List ℕ) (r : ℕ) (d : List ℕ) → c ≡ placed b p (tab ∷ []) → d ≡ placed c (p + 1) f
    → r ≡ p + 1 + length f → Puts b p (tabbed (f ∷ [])) r d
field_put b p c f r d one two q =
    leaf b p (p + 1) c f r d (puts_placed b p (tab ∷ []) (p + 1) c one refl) (puts_placed c (p + 1) f r d two q)

-- ---- the buffer afterwards

-- A text put at the front, which has room.
front : (b text : List ℕ) (r : ℕ) (d : List ℕ) → Puts b 0 text r d → length text ≤ length b → d ≡ lent b text
front b text r d h room =
    let n : 0 + length text ≡ length text = zero-add (length text) in
    h.bytes (omega arith) ∙ sets-eq text b 0 (omega arith) ∙ ap (λ (k : ℕ). text ++ drop k b) n

-- Kind, fields and LF.
pub line_put : (b : List ℕ) (m : Message) (k : ℕ) (c : List ℕ) (end : ℕ) (d e : List ℕ) → k ≡ kind m → c ≡ placed b 0 (k ∷ [])
    → Puts c 1 (tabbed (fields m)) end d → e ≡ placed d end (lf ∷ []) → length (line m) ≤ length b → e ≡ lent b (line m)
unfolding line
line_put b m k c end d e is one two three room =
    let text = tabbed (fields m) in
    let first = puts_placed b 0 (kind m ∷ []) 1 c (one ∙ ap (λ (x : ℕ). placed b 0 (x ∷ [])) is) refl in
    let last = puts_placed d end (lf ∷ []) (end + 1) e three refl in
    let before = put_then b 0 (kind m ∷ []) 1 c text end d first two in
    front b (line m) (end + 1) e (put_then b 0 (kind m ∷ text) end d (lf ∷ []) (end + 1) e before last) room

-- ---- the answer

-- What is refused is written nowhere.
pub line_refused : (buf : List ℕ) (m : Message) (can : Bool) (n : ℕ) (why : Refusal) → can ≡ writable m → n ≡ length (line m)
    → judged (writer_refusals can (length buf) n) ≡ Err why → (Err why ≡ written buf m) × (buf ≡ afterwards buf m)
unfolding written afterwards
line_refused buf m can n why w e h = let is = sym (ap₂ (λ (b : Bool) (k : ℕ). judged (writer_refusals b (length buf) k)) w e) ∙ h in (simp is, simp is)

-- What is taken is its line.
pub line_taken : (buf : List ℕ) (m : Message) (can : Bool) (n : ℕ) (x : Unit {0}) → can ≡ writable m → n ≡ length (line m)
    → judged (writer_refusals can (length buf) n) ≡ Ok x
    → (Ok n ≡ written buf m) × ((lent buf (line m) ≡ afterwards buf m) × (length (line m) ≤ length buf))
unfolding written afterwards
line_taken buf m can n x w e h =
    let is = sym (ap₂ (λ (b : Bool) (k : ℕ). judged (writer_refusals b (length buf) k)) w e) ∙ h in
    let room = (writer_ok can (length buf) n x h).1 in
    (simp is (ap Ok e), (simp is, omega (arith, e)))
