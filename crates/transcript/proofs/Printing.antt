-- Fields put one after the other, and lines put into a part of the lent memory.
use Rattle.std.proofs.Common.{Option, None, Result, Ok}
use Rattle.std.specs.Result.{result_unwrap_or}
use Rattle.base.specs.declared.refusal.Refusal.{Refusal}
use Prim.Native.Nat.{ℕ, ◌+◌, ◌-◌, ◌≤◌, ◌<◌}
use mathlib.Core.Path.{◌≡◌, refl, sym, ap, ap₂, ◌∙◌}
use mathlib.Core.Bool.{Bool, true, false, not, ◌||◌, cond}
use mathlib.Core.List.{List, [], ◌∷◌, ◌++◌, append-nil, append_assoc}
use native.Mathlib.Omega.{arith}
use native.Mathlib.Nat.{zero-add}
use lib.Dec.{ltb}
use lib.IntN.{ℤ}
use lib.ListN.{length, take, drop, length-drop, drop_of_length-le}
use lib.Seq.{sets, sets-eq, length-sets, take_all, drop-drop}
use borrow.Rule.Slice.PartMut.{put_mid}
use borrow.Author.Tests.{not-true, not-false, le-ltb, le-leb, lt-leb}
use Rattle.text.specs.DecimalLaws.{decimal_length}
use Rattle.text.specs.Digits.{decimal, width}
use Rattle.text.specs.Fields.{tab, lf, line_end}
use Rattle.text.specs.Put.{placed, Puts}
use Rattle.text.specs.PutLaws.{puts_placed, become, put_then}
use Rattle.messages.specs.declared.Message.{Message}
use Rattle.messages.specs.Lines.{line}
use Rattle.messages.specs.Writer.{writable, written, lent, afterwards}
use Rattle.transcript.specs.declared.State.{State}
use Rattle.transcript.specs.Printed.{decided_text, signed, sent_text, told, event_line}
use Rattle.transcript.specs.Transcript.{bad_setup}
use Rattle.transcript.specs.Feeding.{next_event, last_text, event_room, within}
use Rattle.entry.specs.declared.Entry.{Entry}

-- A text, and one byte behind it.
pub byte_behind : (b : List ℕ) (p : ℕ) (f c : List ℕ) (k x r : ℕ) (d g : List ℕ) → c ≡ placed b p f → k ≡ length f
    → d ≡ placed c (p + k) (x ∷ []) → r ≡ p + k + 1 → f ++ (x ∷ []) ≡ g → Puts b p g r d
byte_behind b p f c k x r d g one long two is text =
    become b p (f ++ (x ∷ [])) g r d text
    (put_then b p f (p + k) c (x ∷ []) r d (puts_placed b p f (p + k) c one (ap (λ (n : ℕ). p + n) long))
    (puts_placed c (p + k) (x ∷ []) r d two is))

-- A field with its tab, then the rest of the line.
told_put : (b : List ℕ) (p : ℕ) (f : List ℕ) (q : ℕ) (c : List ℕ) (fs : List (List ℕ)) (rest : List ℕ) (r : ℕ)
    (d : List ℕ)
    → Puts b p (f ++ (tab ∷ [])) q c → Puts c q (told fs rest) r d → Puts b p (told (f ∷ fs) rest) r d
told_put b p f q c fs rest r d one two =
    become b p (f ++ (tab ∷ []) ++ told fs rest) (told (f ∷ fs) rest) r d (append_assoc f (tab ∷ []) (told fs rest))
    (put_then b p (f ++ (tab ∷ [])) q c (told fs rest) r d one two)

-- The fields of an event's line, with the margin as it was passed.
pub event_put : (b : List ℕ) (p k q : ℕ) (c : List ℕ) (number q1 : ℕ) (c1 : List ℕ) (d : Option Entry) (q2 : ℕ) (c2 : List ℕ)
    (m seen : ℤ) (q3 : ℕ) (c3 : List ℕ) (x : Option Message) (r : ℕ) (e : List ℕ)
    → Puts b p (decimal k ++ (tab ∷ [])) q c → Puts c q (decimal number ++ (tab ∷ [])) q1 c1
    → Puts c1 q1 (decided_text d ++ (tab ∷ [])) q2 c2 → seen ≡ m → Puts c2 q2 (signed seen ++ (tab ∷ [])) q3 c3
    → Puts c3 q3 (sent_text x) r e → Puts b p (event_line k number d m x) r e
unfolding event_line
event_put b p k q c number q1 c1 d q2 c2 m seen q3 c3 x r e one two three is four five =
    let last = sent_text x in
    let same = ap (λ (z : ℤ). signed z ++ (tab ∷ [])) is in
    let margin = become c2 q2 (signed seen ++ (tab ∷ [])) (signed m ++ (tab ∷ [])) q3 c3 same four in
    let fourth = told_put c2 q2 (signed m) q3 c3 [] last r e margin five in
    let third = told_put c1 q1 (decided_text d) q2 c2 (signed m ∷ []) last r e three fourth in
    let second = told_put c q (decimal number) q1 c1 (decided_text d ∷ signed m ∷ []) last r e two third in
    told_put b p (decimal k) q c (decimal number ∷ decided_text d ∷ signed m ∷ []) last r e one second

-- What a bad H prints.
pub refusal_put : (out c c1 c2 d : List ℕ) (number k : ℕ) → c ≡ placed out 0 (48 ∷ []) → c1 ≡ placed c 1 (tab ∷ [])
    → k ≡ width number → c2 ≡ placed c1 2 (decimal number) → d ≡ placed c2 (2 + k) (lf ∷ []) → Puts out 0 (bad_setup number) (3 + k) d
unfolding decimal width
refusal_put out c c1 c2 d number k zero one long two end =
    let size = long ∙ sym (decimal_length number) in
    let first = byte_behind out 0 (decimal 0) c 1 tab 2 c1 (decimal 0 ++ (tab ∷ [])) zero refl one refl refl in
    let text = decimal number ++ line_end in
    let last = byte_behind c1 2 (decimal number) c2 k lf (3 + k) d text two size end (omega arith) refl in
    told_put out 0 (decimal 0) 2 c1 [] text (3 + k) d first last

-- ---- a part of the lent memory

-- From place p to the end.
abbrev pub part_from : List ℕ → ℕ → List ℕ
part_from b p = take (length b - p) (drop p b)

-- The memory with the part as c.
abbrev pub with_part : List ℕ → ℕ → List ℕ → List ℕ
with_part b p c = put_mid p (length b - p) b c

module _ (b : List ℕ) (p : ℕ) (text : List ℕ) (fits : p + length text ≤ length b) where
  part_all : part_from b p ≡ drop p b
  part_all = take_all (length b - p) (drop p b) (omega (arith, length-drop p b))

  -- Nothing stands behind it.
  part_last : drop (length b - p) (drop p b) ≡ []
  part_last = drop_of_length-le (drop p b) {i = length b - p} (omega (arith, length-drop p b))

  part_sets : with_part b p (lent (drop p b) text) ≡ sets b p text
  part_sets =
      ap (λ (l : List ℕ). take p b ++ (lent (drop p b) text ++ l)) part_last
      ∙ ap (λ (l : List ℕ). take p b ++ l) (append-nil (lent (drop p b) text))
      ∙ ap (λ (l : List ℕ). take p b ++ (text ++ l)) (drop-drop (length text) p b)
      ∙ sym (append_assoc (take p b) text (drop (p + length text) b))
      ∙ sym (sets-eq text b p fits)

  -- A text at the front of the part is put at its place.
  part_put : (c : List ℕ) (r : ℕ) → c ≡ lent (part_from b p) text → r ≡ p + length text → Puts b p text r (with_part b p c)
  part_put c r e is =
      let all = e ∙ ap (λ (l : List ℕ). lent l text) part_all in
      let after = ap (with_part b p) all ∙ part_sets in
      record { place = is; same = ap length after ∙ length-sets b p text; bytes = λ h. after }

-- ---- the writer

-- A message that has a line, which has room, is written.
written_as : (buf : List ℕ) (m : Message) → writable m ≡ true → length (line m) ≤ length buf
    → (written buf m ≡ Ok (length (line m))) × (afterwards buf m ≡ lent buf (line m))
unfolding written afterwards
written_as buf m can room =
    let fits = le-ltb (length buf) (length (line m)) room in
    (simp (can, fits), simp (can, fits))

-- It is written at the front of a part; the writer's answer is its length.
module _ (b : List ℕ) (p : ℕ) (m : Message) (w : Result ℕ Refusal) (size : ℕ) (can : writable m ≡ true) (fits : p + length (line m) ≤ length b)
    (is : w ≡ written (part_from b p) m) (taken : size ≡ result_unwrap_or w 0) where
  as_written : (written (part_from b p) m ≡ Ok (length (line m))) × (afterwards (part_from b p) m ≡ lent (part_from b p) (line m))
  as_written =
      let long = ap length (part_all b p (line m) fits) ∙ length-drop p b in
      written_as (part_from b p) m can (omega arith)

  pub message_size : size ≡ length (line m)
  message_size = taken ∙ ap (λ (x : Result ℕ Refusal). result_unwrap_or x 0) (is ∙ as_written.0)

  pub message_put : (c : List ℕ) → c ≡ afterwards (part_from b p) m → Puts b p (line m) (p + size) (with_part b p c)
  message_put c after =
      part_put b p (line m) fits c (p + size) (after ∙ as_written.1) (ap (λ (n : ℕ). p + n) message_size)

-- ---- the whole of the lent memory

-- Too little of it: nothing is put.
pub no_room : (out text : List ℕ) → length out < event_room
    → (0 ≡ length (within (length out) text)) × (out ≡ lent out (within (length out) text))
no_room out text h =
    let none = sym (ap (λ (b : Bool). cond b text []) (lt-leb event_room (length out) h)) in
    (ap length none, ap (lent out) none)

-- A text that is short enough is put at the front.
pub whole_put : (out text : List ℕ) (r : ℕ) (d : List ℕ) → event_room ≤ length out → Puts out 0 text r d
    → length text ≤ event_room → (r ≡ length (within (length out) text)) × (d ≡ lent out (within (length out) text))
whole_put out text r d h put short =
    let n : 0 + length text ≡ length text = zero-add (length text) in
    let all = sym (ap (λ (b : Bool). cond b text []) (le-leb event_room (length out) h)) in (
      put.place ∙ n ∙ ap length all,
      put.bytes (omega arith) ∙ sets-eq text out 0 (omega arith) ∙ ap (λ (k : ℕ). text ++ drop k out) n
          ∙ ap (lent out) all,
    )

-- ---- the end of the input

-- What is left to say is one event with 19, or nothing.
abbrev pub due : State → Bool → Bool
due st more = (more || st.cut) || ltb 0 st.left

pub last_none : (st : State) (more : Bool) → not (due st more) ≡ true → [] ≡ last_text st more
unfolding last_text
last_none st more h = sym (simp (not-true (due st more) h))

pub last_event_lem : (st : State) (more : Bool) (k : ℕ) (m : ℤ) → not (due st more) ≡ false → k ≡ next_event st.events
    → m ≡ st.margin → event_line k 19 None m None ≡ last_text st more
unfolding last_text
last_event_lem st more k m h is same =
    ap₂ (λ (j : ℕ) (z : ℤ). event_line j 19 None z None) is same ∙ sym (simp (not-false (due st more) h))
