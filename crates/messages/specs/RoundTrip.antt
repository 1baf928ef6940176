-- Reader and writer belong together: what was written reads back, and what reads was written.
use Rattle.std.specs.Prelude.{ℕ, ◌+◌, ◌≤◌, ◌≡◌, refl, true, List, leb, length, take, drop, Option, Some, None, Result, Ok, Err}
use Rattle.std.proofs.Common.{sym, ap, ap₂, ◌∙◌, subst, arith, le_trans, lit<, lit≤, leb-true, le-leb, le-ltb}
use Rattle.std.proofs.Math.Seq.{take-append_seam}
use Rattle.base.specs.Tests.{and_true}
use Rattle.base.specs.declared.refusal.Refusal.{Refusal}
use Rattle.text.specs.FieldLaws.{line_only}
use Rattle.entry.specs.HexLaws.{zero_is_entry}
use Rattle.messages.specs.declared.Head.{Head}
use Rattle.messages.specs.declared.Message.{Message}
use Rattle.messages.specs.declared.Message.TheVariants.{Start, Enter, Propose, Acknowledge, Cast, Ask, Confirm}
use Rattle.messages.specs.Lines.{row_head, kind, fields, line, IsLine, tidy, top_seat, top_count, HeadWithin, Fits, Typed, Reads, line_number}
use Rattle.messages.specs.Longest.{longest_line, longest, longest_vote}
use Rattle.messages.specs.ReadBack.{line_reads_back, written_reads_back}
use Rattle.messages.specs.ReadExact.{read_was_written}
use Rattle.messages.specs.Reader.{read_line}
use Rattle.messages.specs.Writer.{seated, writable, writing, told, written, lent, afterwards}
use Rattle.messages.specs.WriterLaws.{writer_ok}

-- ---- the reader's contract: the reader meets it, and nothing else does
pub reads : (l : List ℕ) → Reads l (read_line l)
reads l = go (read_line l) refl
  where
    go : (r : Option Message) → read_line l ≡ r → Reads l r
    go (Some m) h = read_was_written l m h
    go None h = λ m f e. let n = ap line_number (sym h ∙ line_reads_back l m f e) in omega arith

-- Every answer that meets the contract is the reader's.
pub reads_only : (l : List ℕ) (r : Option Message) → Reads l r → r ≡ read_line l
reads_only l (Some m) h = ap Some (sym h.1.1) ∙ sym (line_reads_back l m h.1.0 h.0)
reads_only l None h = go (read_line l) refl
  where
    go : (r : Option Message) → read_line l ≡ r → None ≡ r
    go (Some m) e = let w = read_was_written l m e in absurd (h m w.1.0 w.0)
    go None e = refl

pub reads_unique : (l : List ℕ) (r s : Option Message) → Reads l r → Reads l s → r ≡ s
reads_unique l r s a b = reads_only l r a ∙ sym (reads_only l s b)

-- Messages with one line differ in unused fields only.
pub line_tells : (a b : Message) → Fits a → Fits b → line a ≡ line b → tidy a ≡ tidy b
line_tells a b f g e =
    let h : ◌≡◌ {A = Option Message} (Some (tidy a)) (Some (tidy b)) = sym (written_reads_back a f) ∙ ap read_line e ∙ written_reads_back b g in
    cc

-- ---- a message has a line exactly where the writer does not answer 21
head_fits : (h : Head) → HeadWithin 255 h → seated h ≡ true → HeadWithin top_seat h
head_fits h t s = record { seat = leb-true h.seat.0 top_seat s; view = t.view }

head_seated : (h : Head) → HeadWithin top_seat h → seated h ≡ true
head_seated h f = le-leb h.seat.0 top_seat f.seat

pub fits : (m : Message) → Typed m → writable m ≡ true → Fits m
unfolding writable
fits Start t w = tt
fits (Enter v) t w = t
fits (Propose p) t w = (head_fits p.head t.0 w, t.1)
fits (Acknowledge a) t w = (head_fits a.head t.0 w, t.1)
fits (Cast r) t w = (head_fits (row_head r) t.0 w, t.1)
fits (Ask q) t w =
    let both = and_true (seated q.head) (leb q.count top_count) w in
    (head_fits q.head t.0 both.0, (t.1.0, leb-true q.count top_count both.1))
fits (Confirm c) t w = (head_fits c.head t.0 w, t.1)

pub fits_writable : (m : Message) → Fits m → writable m ≡ true
unfolding writable
fits_writable Start f = refl
fits_writable (Enter v) f = refl
fits_writable (Propose p) f = head_seated p.head f.0
fits_writable (Acknowledge a) f = head_seated a.head f.0
fits_writable (Cast r) f = head_seated (row_head r) f.0
fits_writable (Ask q) f = simp (head_seated q.head f.0, le-leb q.count top_count f.1.1)
fits_writable (Confirm c) f = head_seated c.head f.0

-- ---- what the writer takes, it wrote

-- Where the line has room, the writer puts it and says how long it is.
pub writes : (buf : List ℕ) (m : Message) → Fits m → length (line m) ≤ length buf
    → (written buf m ≡ Ok (length (line m))) × (afterwards buf m ≡ lent buf (line m))
unfolding written afterwards
writes buf m f h =
    let can = fits_writable m f in
    let room = le-ltb (length buf) (length (line m)) h in
    (simp (can, room), simp (can, room))

-- What the writer wrote reads back.
pub wrote_reads_back : (buf : List ℕ) (m : Message) → Typed m → (n : ℕ) → written buf m ≡ Ok n
    → read_line (take n (afterwards buf m)) ≡ Some (tidy m)
unfolding written
wrote_reads_back buf m t n z = go (writing buf m) refl z
  where
    go : (r : Result (Unit {0}) Refusal) → writing buf m ≡ r → told r (length (line m)) ≡ Ok n
        → read_line (take n (afterwards buf m)) ≡ Some (tidy m)
    go (Ok x) e k =
        let text = line m in
        let can = writer_ok (writable m) (length buf) (length text) x e in
        let f = fits m t can.0 in
        let w = writes buf m f can.1 in
        let long : length text ≡ n = cc in
        ap₂ (λ (k : ℕ) (l : List ℕ). read_line (take k l)) (sym long) w.1
        ∙ ap read_line (take-append_seam text (drop (length text) buf))
        ∙ written_reads_back m f
    go (Err why) e k = absurd (let no : ⊥ = cc in no)

-- "the reader takes exactly the lines the writer makes": what was read is the line of the message,
pub read_written : (l : List ℕ) (m : Message) → read_line l ≡ Some m → l ≡ line m
unfolding IsLine line
read_written l m e = line_only l (kind m) (fields m) (read_was_written l m e).0

-- and the writer writes it.
pub read_is_written : (buf l : List ℕ) (m : Message) → read_line l ≡ Some m → length l ≤ length buf
    → (written buf m ≡ Ok (length l)) × (afterwards buf m ≡ lent buf l)
read_is_written buf l m e h =
    let is = read_written l m e in
    let w = writes buf m (read_was_written l m e).1.0 (subst (λ (x : List ℕ). length x ≤ length buf) is h) in
    (w.0 ∙ ap (λ (x : List ℕ). Ok (length x)) (sym is), w.1 ∙ ap (lent buf) (sym is))

-- A buffer with room for the longest line has room for every line.
pub longest_room : (buf : List ℕ) (m : Message) → Fits m → longest_line + 1 ≤ length buf → written buf m ≡ Ok (length (line m))
longest_room buf m f h = (writes buf m f (le_trans (longest m f) h)).0

-- The longest vote is one of these messages.
pub longest_typed : Typed longest_vote × (writable longest_vote ≡ true)
unfolding writable
longest_typed = (
  (record { seat = lit≤ tt; view = lit≤ tt }, record { view = lit≤ tt; entry = zero_is_entry; mask = lit< tt }),
  refl,
)
