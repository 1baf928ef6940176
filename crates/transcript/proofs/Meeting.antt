-- Where the arms for a line's event meet: what they leave is what the definitions say.
use Rattle.std.proofs.Common.{Option, None}
use Rattle.entry.specs.declared.Entry.{Entry}
use Prim.Native.Nat.{ℕ, ◌≤◌}
use mathlib.Core.Path.{◌≡◌, refl, sym, ap, ◌∙◌, subst}
use mathlib.Core.Bool.{true, false, cond}
use lib.Dec.{eqb}
use lib.IntN.{ℤ}
use borrow.Author.Tests.{eq-eqb, ne_eqb}
use Rattle.acks.specs.Acks.{row_of, margin}
use Rattle.votes.specs.declared.Row.{Row}
use Rattle.votes.specs.declared.Rows.{Rows}
use Rattle.messages.specs.declared.Assent.{Assent}
use Rattle.messages.specs.declared.Message.{Message}
use Rattle.messages.specs.declared.Message.TheVariants.{Acknowledge}
use Rattle.messages.specs.declared.Request.{Request}
use Rattle.replica.specs.declared.Replica.{Replica}
use Rattle.replica.specs.declared.Step.{Step}
use Rattle.replica.specs.Steps.{step_of, refused, acknowledge_step, ask_with}
use Rattle.transcript.specs.declared.sort.Event.{Event}
use Rattle.transcript.specs.Printed.{sends_ask, SentWritable}
use Rattle.transcript.specs.SentLaws.{sent_writable, ask_small}
use Rattle.transcript.specs.Feeding.{request_after, rows_after, heard, step_after, is_acknowledge, counts, margin_after}
use Rattle.transcript.proofs.Deciding.{heard_undecided, ask_undecided, acknowledge_silent}

-- ---- the request that waits

-- The event, the request and its rows, behind the arms for rows and requests.
pub record Taken (e : Event) (s : Replica) (q : Request) (rows : Rows) (event : Event) (request : Request) (rows' : Rows) : Type 0 where
  pub same : event ≡ e
  pub opened : request ≡ request_after e q
  pub gathered : rows' ≡ rows_after e s rows

module _ {e : Event} {s : Replica} {q : Request} {rows : Rows} {event : Event} {request : Request} {rows' : Rows} where
  -- A request, or a row of it.
  pub asked_taken : {x : Event} → e ≡ x → event ≡ x → request ≡ request_after x q → rows' ≡ rows_after x s rows
      → Taken e s q rows event request rows'
  asked_taken is same a b = record {
    same = same ∙ sym is;
    opened = a ∙ ap (λ (y : Event). request_after y q) (sym is);
    gathered = b ∙ ap (λ (y : Event). rows_after y s rows) (sym is);
  }

  -- Any other line.
  pub alone_taken : ((r : Row) → e ≡ Event.Row r → ⊥) → ((x : Request) → e ≡ Event.Opened x → ⊥) → event ≡ e → request ≡ q → rows' ≡ rows → Taken e s q rows event request rows'
  alone_taken h k same a b = go e h k same
    where
      go : (x : Event) → ((r : Row) → x ≡ Event.Row r → ⊥) → ((y : Request) → x ≡ Event.Opened y → ⊥) → event ≡ x → Taken x s q rows event request rows'
      go Event.Unread h k same = record { same = same; opened = a; gathered = b }
      go (Event.Heard m) h k same = record { same = same; opened = a; gathered = b }
      go (Event.Row r) h k same = absurd (h r refl)
      go (Event.Opened x) h k same = absurd (k x refl)

-- ---- the step

-- The step t and the margin m, behind the arms for events; the margin was `was`.
pub record Made (e : Event) (s : Replica) (q : Request) (rows : Rows) (was : ℤ) (t : Step) (m : ℤ) : Type 0 where
  pub step : t ≡ step_after e s q rows
  pub counted : m ≡ margin_after e (step_after e s q rows) was

module _ {e : Event} {s : Replica} {q : Request} {rows : Rows} {was : ℤ} {replica : Replica} {m : ℤ} {number : ℕ} {decided : Option Entry} {sent : Option Message} where
  -- An arm that stores what the step r has.
  stores : {x : Event} {r : Step} → e ≡ x → r ≡ step_after x s q rows → replica ≡ r.next → m ≡ margin_after x r was → number ≡ r.number
      → decided ≡ r.decided → sent ≡ r.sent → Made e s q rows was (step_of number replica decided sent) m
  stores {x} is step a k b c d =
      subst (λ (y : Event). Made y s q rows was (step_of number replica decided sent) m) (sym is)
      (record { step = rw (a, b, c, d) step; counted = k ∙ ap (λ (t : Step). margin_after x t was) step })

  -- 19
  pub unread_made : {x : Event} → e ≡ x → refused 19 s ≡ step_after x s q rows → counts x ≡ false → replica ≡ s → m ≡ was → number ≡ 19
      → decided ≡ None → sent ≡ None → Made e s q rows was (step_of number replica decided sent) m
  unread_made is step quiet a k b c d = stores is step a (k ∙ sym (rw quiet)) b c d

  -- A message that is no A.
  pub heard_made : {x y : Message} {r : Step} → e ≡ Event.Heard x → x ≡ y → is_acknowledge y ≡ false → r ≡ heard s y → replica ≡ r.next
      → m ≡ was → number ≡ r.number → decided ≡ None → sent ≡ r.sent
      → Made e s q rows was (step_of number replica decided sent) m
  heard_made {y = y} is kind other step a k b c d =
      let none = c ∙ sym (ap (λ (t : Step). t.decided) step ∙ heard_undecided s y other) in
      stores (is ∙ ap Event.Heard kind) step a (k ∙ sym (rw other)) b none d

  -- An A.
  pub acknowledge_made : {x : Message} {a : Assent} {r : Step} → e ≡ Event.Heard x → x ≡ Acknowledge a → r ≡ acknowledge_step s a
      → replica ≡ r.next → m ≡ margin_after (Event.Heard (Acknowledge a)) r was → number ≡ r.number → decided ≡ r.decided
      → sent ≡ None → Made e s q rows was (step_of number replica decided sent) m
  acknowledge_made {a = y} is kind step a k b c d =
      let none = d ∙ sym (ap (λ (t : Step). t.sent) step ∙ acknowledge_silent s y) in
      stores (is ∙ ap Event.Heard kind) step a k b c none

  -- The last row of a request, or a request without rows.
  pub asked_made : {r : Step} → (e ≡ Event.Unread → ⊥) → ((x : Message) → e ≡ Event.Heard x → ⊥) → r ≡ ask_with s q rows → replica ≡ r.next → m ≡ was → number ≡ r.number
      → decided ≡ None → sent ≡ r.sent → Made e s q rows was (step_of number replica decided sent) m
  asked_made {r} h l step a k b c d = go e refl
    where
      none : decided ≡ r.decided
      none = c ∙ sym (ap (λ (t : Step). t.decided) step ∙ ask_undecided s q rows)

      go : (x : Event) → e ≡ x → Made e s q rows was (step_of number replica decided sent) m
      go Event.Unread is = absurd (h is)
      go (Event.Heard x) is = absurd (l x is)
      go (Event.Row x) is = stores is step a k b none d
      go (Event.Opened x) is = stores is step a k b none d

-- The margin of an A is counted again where it is taken.
abbrev counting : Step → ℤ → ℤ
counting r was = cond (eqb r.number 0) (margin r.next.n r.next.f (row_of r.next.acks)) was

module _ (r : Step) (was : ℤ) {m : ℤ} where
  pub counted_again : {passed now : ℤ} → r.number ≡ 0 → m ≡ passed → now ≡ margin r.next.n r.next.f (row_of r.next.acks)
      → passed ≡ now → m ≡ counting r was
  counted_again z p e same = p ∙ same ∙ e ∙ sym (simp (eq-eqb r.number 0 z))

  pub counted_before : (r.number ≡ 0 → ⊥) → m ≡ was → m ≡ counting r was
  counted_before z e = e ∙ sym (simp (ne_eqb r.number 0 z))

-- What is sent has a line, and a Q comes of a house of at most 64.
module _ {e : Event} {s : Replica} {q : Request} {rows : Rows} {was : ℤ} {t : Step} {m : ℤ} (made : Made e s q rows was t m) where
  sent_is : t.sent ≡ (step_after e s q rows).sent
  sent_is = ap (λ (x : Step). x.sent) made.step

  pub made_writable : SentWritable t.sent
  made_writable = subst SentWritable (sym sent_is) (sent_writable e s q rows)

  pub made_sized : sends_ask t.sent ≡ true → t.next.n ≤ 64
  made_sized h =
      subst (λ (x : Step). x.next.n ≤ 64) (sym made.step) (ask_small e s q rows (ap sends_ask (sym sent_is) ∙ h))
