-- What is read was written.
use Prim.Native.Nat.{ℕ}
use Rattle.std.specs.Prelude.{◌≡◌, Bool, true, false, cond, eqb, Option, Some, None}
use Rattle.std.proofs.Math.Path.{refl}
use Rattle.std.proofs.Common.{sym, ap, subst, ◌∙◌, lit<, eqb-true}
use Rattle.std.proofs.lemmas.Option.{option_and_then_some, some_pair_parts}
use Rattle.std.specs.Bool.{then_some}
use mathlib.Core.List.{List, [], ◌∷◌}
use Rattle.text.specs.Digits.{◌>>=◌, decimal, hex, letter_of}
use Rattle.text.specs.FieldLaws.{Ahead, over_exact, kind_exact}
use Rattle.text.specs.Fields.{field_at, over}
use Rattle.entry.specs.Hex.{entry_text, IsEntry}
use Rattle.votes.specs.declared.Vote.{Vote}
use Rattle.messages.specs.declared.Assent.{Assent}
use Rattle.messages.specs.declared.Head.{Head}
use Rattle.messages.specs.declared.Message.{Message}
use Rattle.messages.specs.declared.Message.TheVariants.{Start, Enter, Propose, Cast, Ask}
use Rattle.messages.specs.Lines.{dash, mark, head, kind, fields, IsLine, nil_vote, tidy}
use Rattle.messages.specs.Lines.{start_kind, enter_kind, propose_kind, acknowledge_kind, cast_kind, ask_kind, confirm_kind}
use Rattle.messages.specs.Lines.{top_seat, top_view, top_count, HeadWithin, Fits}
use Rattle.messages.specs.Reader.{number_at, letter_at, entry_at, hex_at, dash_at, mark_of, head_at, enter_at, assent_at, propose_at}
use Rattle.messages.specs.Reader.{ask_at, row_with, nil_at, vote_at, row_at, cast_at, acknowledge_at, confirm_at, message_at, read_line}
use Rattle.messages.specs.AtLaws.{let_through, number_written, hex_written, entry_written, dash_written, mark_written}

module _ (t : List ℕ) (e : ℕ) where
  -- What every message begins with.
  head_exact : (fs : List (List ℕ)) (h : Head × ℕ) → head_at t e ≡ Some h → Ahead t h.1 fs
      → Ahead t e (head h.0 fs) × HeadWithin top_seat h.0
  unfolding head_at
  head_exact fs h g a =
      option_and_then_some _ (number_at t e top_seat) h g λ s is_s g₁.
      option_and_then_some _ (letter_at t s.1) h g₁ λ m is_m g₂.
      option_and_then_some _ (mark_of m.0) h g₂ λ k is_k g₃.
      option_and_then_some _ (number_at t m.1 top_view) h g₃ λ v is_v g₄.
      let said : Head = record { seat = record { 0 = s.0 }; verified = k; view = record { 0 = v.0 } } in
      let same = some_pair_parts said h.0 v.1 h.1 g₄ in
      let there = subst (λ (p : ℕ). Ahead t p fs) (sym same.1) a in
      let v-written = number_written t m.1 fs v.1 there top_view (lit< tt) v.0 is_v in
      let m-written = mark_written t s.1 (decimal v.0 ∷ fs) m.1 v-written.0 m.0 is_m k is_k in
      let s-written = number_written t e (mark k ∷ decimal v.0 ∷ fs) s.1 m-written top_seat (lit< tt) s.0 is_s in
      subst (λ (x : Head). Ahead t e (head x fs) × HeadWithin top_seat x) same.0
      (s-written.0, record { seat = s-written.1; view = v-written.1 })

  -- What a message that was read is: its fields stand in the line, it fits, and it is tidy.
  abbrev Whole : Message → Type 0
  Whole m = Ahead t e (fields m) × (Fits m × (tidy m ≡ m))

  -- What is asked of an answer of kind k, if it is a message.
  abbrev Says : ℕ → Option Message → Type 0
  Says k (Some m) = (kind m ≡ k) × Whole m
  Says k None = Unit {0}

  got_exact : (good : Bool) (m : Message) → (good ≡ true → Whole m) → Says (kind m) (then_some good m)
  got_exact true m h = (refl, h refl)
  got_exact false m h = tt

  -- One step more was read.
  step_exact : {A : Type 0} (k : ℕ) (o : Option A) (f : A → Option Message) → ((x : A) → o ≡ Some x → Says k (f x)) → Says k (o >>= f)
  step_exact k None f h = tt
  step_exact k (Some x) f h = h x refl

  enter_exact : Says enter_kind (enter_at t e)
  unfolding enter_at
  enter_exact =
      step_exact _ (number_at t e top_view) _ λ v is.
      got_exact (over t v.1) (Enter (record { 0 = v.0 })) λ g.
      let w = number_written t e [] v.1 (over_exact t v.1 g) top_view (lit< tt) v.0 is in
      (w.0, (w.1, refl))

  -- A and C are read alike: what both of them ask.
  abbrev Assents : Assent → Type 0
  Assents a = Ahead t e (head a.head (entry_text a.entry ∷ [])) × (HeadWithin top_seat a.head × IsEntry a.entry)

  assent_exact : (a : Assent) → assent_at t e ≡ Some a → Assents a
  unfolding assent_at
  assent_exact a g =
      option_and_then_some _ (head_at t e) a g λ h is_h g₁.
      option_and_then_some _ (entry_at t h.1) a g₁ λ x is_x g₂.
      let said : Assent = record { head = h.0; entry = x.0 } in
      let both = let_through (over t x.1) said a g₂ in
      let x-written = entry_written t h.1 [] x.1 (over_exact t x.1 both.0) x.0 is_x in
      let h-written = head_exact (entry_text x.0 ∷ []) h is_h x-written.0 in
      subst Assents both.1 (h-written.0, (h-written.1, x-written.1))

  propose_exact : Says propose_kind (propose_at t e)
  unfolding propose_at
  propose_exact =
      step_exact _ (head_at t e) _ λ h is_h.
      step_exact _ (entry_at t h.1) _ λ x is_x.
      step_exact _ (hex_at t x.1) _ λ m is_m.
      got_exact (over t m.1) (Propose (record { head = h.0; entry = x.0; mask = m.0 })) λ g.
      let m-written = hex_written t x.1 [] m.1 (over_exact t m.1 g) m.0 is_m in
      let x-written = entry_written t h.1 (hex m.0 ∷ []) x.1 m-written.0 x.0 is_x in
      let h-written = head_exact (entry_text x.0 ∷ hex m.0 ∷ []) h is_h x-written.0 in
      (h-written.0, ((h-written.1, (x-written.1, m-written.1)), refl))

  ask_exact : Says ask_kind (ask_at t e)
  unfolding ask_at
  ask_exact =
      step_exact _ (head_at t e) _ λ h is_h.
      step_exact _ (entry_at t h.1) _ λ x is_x.
      step_exact _ (number_at t x.1 top_count) _ λ c is_c.
      got_exact (over t c.1) (Ask (record { head = h.0; entry = x.0; count = c.0 })) λ g.
      let c-written = number_written t x.1 [] c.1 (over_exact t c.1 g) top_count (lit< tt) c.0 is_c in
      let x-written = entry_written t h.1 (decimal c.0 ∷ []) x.1 c-written.0 x.0 is_x in
      let h-written = head_exact (entry_text x.0 ∷ decimal c.0 ∷ []) h is_h x-written.0 in
      (h-written.0, ((h-written.1, (x-written.1, c-written.1)), refl))

  nil_exact : (h : Head × ℕ) → head_at t e ≡ Some h → (end : ℕ) → dash_at t h.1 ≡ Some end → Says cast_kind (nil_at t h.0 end)
  unfolding nil_at
  nil_exact h is_h end d =
      got_exact (over t end) (Cast (row_with h.0 nil_vote)) λ g.
      let d-written = dash_written t h.1 [] end (over_exact t end g) d in
      let h-written = head_exact ((dash ∷ []) ∷ []) h is_h d-written in
      (h-written.0, ((h-written.1, tt), refl))

  vote_exact : (h : Head × ℕ) → head_at t e ≡ Some h → Says cast_kind (vote_at t h.0 h.1)
  unfolding vote_at
  vote_exact h is_h =
      step_exact _ (number_at t h.1 top_view) _ λ u is_u.
      step_exact _ (entry_at t u.1) _ λ x is_x.
      step_exact _ (hex_at t x.1) _ λ c is_c.
      step_exact _ (letter_at t c.1) _ λ m is_m.
      step_exact _ (mark_of m.0) _ λ k is_k.
      let cast : Vote = record { entry = x.0; mask = c.0; view = record { 0 = u.0 }; cast = true; verified = k } in
      got_exact (over t m.1) (Cast (row_with h.0 cast)) λ g.
      let m-field = mark k ∷ [] in
      let c-field = hex c.0 ∷ m-field in
      let x-field = entry_text x.0 ∷ c-field in
      let m-written = mark_written t c.1 [] m.1 (over_exact t m.1 g) m.0 is_m k is_k in
      let c-written = hex_written t x.1 m-field c.1 m-written c.0 is_c in
      let x-written = entry_written t u.1 c-field x.1 c-written.0 x.0 is_x in
      let u-written = number_written t h.1 x-field u.1 x-written.0 top_view (lit< tt) u.0 is_u in
      let h-written = head_exact (decimal u.0 ∷ x-field) h is_h u-written.0 in
      (h-written.0, ((h-written.1, record { view = u-written.1; entry = x-written.1; mask = c-written.1 }), refl))

  -- A dash tells a nil vote.
  row_exact : (h : Head × ℕ) → head_at t e ≡ Some h → (d : Option ℕ) → dash_at t h.1 ≡ d → Says cast_kind (row_at t h d)
  row_exact h is_h (Some end) d = nil_exact h is_h end d
  row_exact h is_h None d = vote_exact h is_h

  cast_exact : Says cast_kind (cast_at t e)
  unfolding cast_at
  cast_exact = step_exact _ (head_at t e) _ λ h is_h. row_exact h is_h (dash_at t h.1) refl

  acknowledge_exact : Says acknowledge_kind (acknowledge_at t e)
  acknowledge_exact = step_exact _ (assent_at t e) _ λ a is. let s = assent_exact a is in (refl, (s.0, (s.1, refl)))

  confirm_exact : Says confirm_kind (confirm_at t e)
  confirm_exact = step_exact _ (assent_at t e) _ λ c is. let s = assent_exact c is in (refl, (s.0, (s.1, refl)))

  -- ---- by kind

  -- An answer of kind x where the kind is x, and another one elsewhere.
  either : (k x : ℕ) (a b : Option Message) → Says x a → Says k b → Says k (cond (eqb k x) a b)
  either k x a b f g = go (eqb k x) refl
    where
      go : (c : Bool) → eqb k x ≡ c → Says k (cond c a b)
      go true h = subst (λ (y : ℕ). Says y a) (sym (eqb-true k x h)) f
      go false h = g

  message_exact : (k : ℕ) → Says k (message_at t e k)
  unfolding message_at
  message_exact k =
      either k acknowledge_kind _ _ acknowledge_exact
      (either k cast_kind _ _ cast_exact
      (either k propose_kind _ _ propose_exact
      (either k confirm_kind _ _ confirm_exact
      (either k ask_kind _ _ ask_exact
      (either k enter_kind _ _ enter_exact
      (either k start_kind _ _ (got_exact (over t e) Start (λ g. (over_exact t e g, (tt, refl))))
      tt))))))

-- What reads as a message is the message's line, and the message has no unused field that is not zero.
pub read_was_written : (l : List ℕ) (m : Message) → read_line l ≡ Some m → IsLine l m × (Fits m × (tidy m ≡ m))
unfolding read_line IsLine
read_was_written l m h =
    option_and_then_some _ (letter_of (field_at l 0)) m h λ k is rest.
    let w = subst (Says l 1 k) rest (message_exact l 1 k) in
    (kind_exact l (kind m) (fields m) (is ∙ ap Some (sym w.0)) w.1.0, w.1.1)
