-- What is written is read.
use Rattle.std.specs.Prelude.{ℕ, ◌≤◌, ◌≡◌, Bool, Some}
use Rattle.std.proofs.Math.Path.{refl}
use Rattle.std.proofs.Common.{ap, sym, lit<, lit≤}
use Rattle.std.proofs.Math.Bool.{true, false}
use mathlib.Core.List.{List, [], ◌∷◌}
use Rattle.text.specs.FieldEnds.{clean_byte}
use Rattle.text.specs.Digits.{decimal, hex}
use Rattle.text.specs.FieldLaws.{Ahead, over_reads, kind_reads, line_ahead, line_written}
use Rattle.text.specs.Fields.{end_behind}
use Rattle.entry.specs.Hex.{entry_text, IsEntry}
use Rattle.seats.specs.declared.View.{View}
use Rattle.votes.specs.declared.Vote.{Vote}
use Rattle.messages.specs.declared.Head.{Head}
use Rattle.messages.specs.declared.Assent.{Assent}
use Rattle.messages.specs.declared.Proposal.{Proposal}
use Rattle.messages.specs.declared.Request.{Request}
use Rattle.messages.specs.declared.Message.{Message}
use Rattle.messages.specs.declared.Message.TheVariants.{Start, Enter, Propose, Acknowledge, Cast, Ask, Confirm}
use Rattle.messages.specs.Lines.{dash, mark, view, head, vote, row_head, kind, fields, line, IsLine, tidy_vote, tidy}
use Rattle.messages.specs.Lines.{top_seat, top_view, top_count, HeadWithin, CastWithin, Fits, IsMask}
use Rattle.messages.specs.Reader.{head_at, enter_at, assent_at, propose_at, ask_at}
use Rattle.messages.specs.Reader.{row_with, nil_at, vote_at, cast_at, message_at, read_line}
use Rattle.messages.specs.AtLaws.{number_back, hex_back, entry_back, mark_back, dash_back, number_no_dash}

-- A vote that is cast, field by field.
is_cast : (x : Vote) → x.cast ≡ true → record { entry = x.entry; mask = x.mask; view = x.view; cast = true; verified = x.verified } ≡ x
is_cast x c = ap (λ (b : Bool). record { entry = x.entry; mask = x.mask; view = x.view; cast = b; verified = x.verified }) (sym c)

module _ (t : List ℕ) (e : ℕ) where
  -- What every message begins with, and where it ends.
  head_back : (h : Head) (fs : List (List ℕ)) → HeadWithin top_seat h → Ahead t e (head h fs)
      → (end : ℕ) × (head_at t e ≡ Some (h, end)) × Ahead t end fs
  unfolding head_at
  head_back h fs f a =
      let s = number_back t e (mark h.verified ∷ view h.view ∷ fs) top_seat h.seat.0 (lit< tt) f.seat a in
      let m = mark_back t (end_behind t e) (view h.view ∷ fs) h.verified s.1 in
      let v = number_back t (end_behind t (end_behind t e)) fs top_view h.view.0 (lit< tt) f.view m.1.1 in
      (end_behind t (end_behind t (end_behind t e)), simp (s.0, m.0, m.1.0, v.0), v.1)

  enter_back : (v : View) → v.0 ≤ top_view → Ahead t e (view v ∷ []) → enter_at t e ≡ Some (Enter v)
  unfolding enter_at
  enter_back v f a =
      let n = number_back t e [] top_view v.0 (lit< tt) f a in
      simp (n.0, over_reads t (end_behind t e) n.1)

  -- A and C are read alike.
  assent_back : (a : Assent) → HeadWithin top_seat a.head → IsEntry a.entry
      → Ahead t e (head a.head (entry_text a.entry ∷ [])) → assent_at t e ≡ Some a
  unfolding assent_at
  assent_back a f i at =
      let (end, is, rest) = head_back a.head (entry_text a.entry ∷ []) f at in
      let x = entry_back t end [] a.entry i rest in
      simp (is, x.0, over_reads t (end_behind t end) x.1)

  propose_back : (p : Proposal) → HeadWithin top_seat p.head → IsEntry p.entry → IsMask p.mask
      → Ahead t e (head p.head (entry_text p.entry ∷ hex p.mask ∷ []))
      → propose_at t e ≡ Some (Propose p)
  unfolding propose_at
  propose_back p f i k at =
      let (end, is, rest) = head_back p.head (entry_text p.entry ∷ hex p.mask ∷ []) f at in
      let x = entry_back t end (hex p.mask ∷ []) p.entry i rest in
      let m = hex_back t (end_behind t end) [] p.mask k x.1 in
      simp (is, x.0, m.0, over_reads t (end_behind t (end_behind t end)) m.1)

  ask_back : (q : Request) → HeadWithin top_seat q.head → IsEntry q.entry → q.count ≤ top_count
      → Ahead t e (head q.head (entry_text q.entry ∷ decimal q.count ∷ []))
      → ask_at t e ≡ Some (Ask q)
  unfolding ask_at
  ask_back q f i k at =
      let (end, is, rest) = head_back q.head (entry_text q.entry ∷ decimal q.count ∷ []) f at in
      let x = entry_back t end (decimal q.count ∷ []) q.entry i rest in
      let c = number_back t (end_behind t end) [] top_count q.count (lit< tt) k x.1 in
      simp (is, x.0, c.0, over_reads t (end_behind t (end_behind t end)) c.1)

  -- A vote that is nil, and one that is cast.
  cast_back : (h : Head) (x : Vote) (cast : Bool) → x.cast ≡ cast → HeadWithin top_seat h → CastWithin cast x
      → Ahead t e (head h (vote cast x))
      → cast_at t e ≡ Some (Cast (row_with h (tidy_vote cast x)))
  unfolding cast_at nil_at vote_at
  cast_back h x false c f g at =
      let (end, is, rest) = head_back h ((dash ∷ []) ∷ []) f at in
      let d = dash_back t end [] rest in
      simp (is, d.0, over_reads t (end_behind t end) d.1)
  cast_back h x true c f g at =
      let (start, is, rest) = head_back h (vote true x) f at in
      let behind-view = entry_text x.entry ∷ hex x.mask ∷ mark x.verified ∷ [] in
      let d = number_no_dash t start behind-view x.view.0 rest in
      let u = number_back t start behind-view top_view x.view.0 (lit< tt) g.view rest in
      let i = entry_back t (end_behind t start) (hex x.mask ∷ mark x.verified ∷ []) x.entry g.entry u.1 in
      let k = hex_back t (end_behind t (end_behind t start)) (mark x.verified ∷ []) x.mask g.mask i.1 in
      let m = mark_back t (end_behind t (end_behind t (end_behind t start))) [] x.verified k.1 in
      let o = over_reads t (end_behind t (end_behind t (end_behind t (end_behind t start)))) m.1.1 in
      simp (is, d, u.0, i.0, k.0, m.0, m.1.0, o) (ap (λ (v : Vote). Some (Cast (row_with h v))) (is_cast x c))

  -- By kind.
  message_back : (m : Message) → Fits m → Ahead t e (fields m) → message_at t e (kind m) ≡ Some (tidy m)
  unfolding message_at
  message_back Start f a = simp (over_reads t e a)
  message_back (Enter v) f a = enter_back v f a
  message_back (Propose p) f a = propose_back p f.0 f.1.0 f.1.1 a
  message_back (Acknowledge x) f a = simp (assent_back x f.0 f.1 a)
  message_back (Cast r) f a = cast_back (row_head r) r.vote r.vote.cast refl f.0 f.1 a
  message_back (Ask q) f a = ask_back q f.0 f.1.0 f.1.1 a
  message_back (Confirm x) f a = simp (assent_back x f.0 f.1 a)

-- A kind is a letter, so no tab and no LF.
pub kind_letter : (m : Message) → 48 ≤ kind m
kind_letter Start = lit≤ tt
kind_letter (Enter v) = lit≤ tt
kind_letter (Propose p) = lit≤ tt
kind_letter (Acknowledge a) = lit≤ tt
kind_letter (Cast r) = lit≤ tt
kind_letter (Ask q) = lit≤ tt
kind_letter (Confirm c) = lit≤ tt

-- A line of a message reads as the message, its unused fields as zero.
pub line_reads_back : (l : List ℕ) (m : Message) → Fits m → IsLine l m → read_line l ≡ Some (tidy m)
unfolding read_line IsLine
line_reads_back l m f h =
    let k = kind_reads l (kind m) (fields m) (clean_byte (kind m) (kind_letter m)) h in
    simp k (message_back l 1 m f (line_ahead l (kind m) (fields m) h))

pub written_reads_back : (m : Message) → Fits m → read_line (line m) ≡ Some (tidy m)
unfolding line IsLine
written_reads_back m f = line_reads_back (line m) m f (line_written (kind m) (fields m))
