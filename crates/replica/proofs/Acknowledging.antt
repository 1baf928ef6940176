-- A: what is made of its parts is the step. A refused acknowledgement is written past the table.
use Prim.Native.Nat.{ℕ}
use mathlib.Core.Path.{◌≡◌, refl, sym, ap, ap₂, ◌∙◌}
use mathlib.Core.Bool.{Bool, true, false, not, ◌&&◌, ◌||◌, cond}
use lib.Dec.{eqb, leb, lit≤}
use borrow.Author.Tests.{eqb-true}
use Rattle.std.specs.Prelude.{None}
use Rattle.std.specs.Bool.{then_some}
use Rattle.base.specs.Refusal.{Refusals}
use Rattle.base.specs.Tests.{and_alone, or_alone, or_r}
use Rattle.entry.specs.declared.Entry.{Entry}
use Rattle.seats.specs.declared.Seat.{Seat}
use Rattle.seats.specs.Sizes.{quorum}
use Rattle.seats.specs.Mask.{seats_in}
use Rattle.acks.specs.declared.Acks.{Acks}
use Rattle.acks.specs.Acks.{row_of, with_row, sharers, sharing}
use Rattle.acks.specs.RowLaws.{with_row_past}
use Rattle.acks.specs.MostLaws.{sharers_seats}
use Rattle.messages.specs.declared.Assent.{Assent}
use Rattle.replica.specs.declared.Replica.{Replica}
use Rattle.replica.specs.declared.Step.{Step}
use Rattle.replica.specs.Refusals.{acknowledge_refusals}
use Rattle.replica.specs.Replica.{standing, number_for, with_acks}
use Rattle.replica.specs.Steps.{step_of, refused, quiet, ack_row, rowed, decides, decided_by, acknowledged, acknowledge_step}
use Rattle.replica.proofs.Answered.{answered_is}

and_none : (b : Bool) → (b && false) ≡ false
and_none true = refl
and_none false = refl

module _ (s : Replica) (a : Assent) where
  abbrev sender : ℕ
  sender = a.head.seat.0

  abbrev pub refusals : Refusals
  refusals = acknowledge_refusals (standing s) (row_of s.acks sender).view a

  -- The replica with its rows as they are now, and a decision or none.
  abbrev holding : Acks → Bool → Entry → Replica
  holding t d e = record {
    n = s.n;
    f = s.f;
    seat = s.seat;
    stage = s.stage;
    decided = s.decided || d;
    view = s.view;
    own = s.own;
    vote = s.vote;
    decision = e;
    chosen = s.chosen;
    confirmed = s.confirmed;
    acks = t;
    votes = s.votes;
  }

  abbrev made : ℕ → Acks → Bool → Step
  made number t d =
      step_of number (holding t d (cond d a.entry s.decision)) (then_some d a.entry) None

  abbrev reached : ℕ → Bool
  reached k = leb (quorum s.n s.f) k

  -- The ones of the mask are the rows that share, and they are counted while nothing is decided.
  counted : (t : Acks) → (not s.decided && reached (seats_in (cond (not s.decided) (sharers s.n (row_of t) (ack_row a)) 0))) ≡ decides (with_acks s t) a
  unfolding decides
  counted t = go s.decided
    where
      count : ℕ
      count = sharing s.n (row_of t) (ack_row a)

      go : (b : Bool) → (not b && reached (seats_in (cond (not b) (sharers s.n (row_of t) (ack_row a)) 0))) ≡ (reached count && not b)
      go true = sym (and_none (reached count))
      go false = ap reached (sharers_seats s.n t (ack_row a)) ∙ sym (and_alone (reached count))

  -- Of a replica that holds its new rows, it is the step of an acknowledgement that is taken.
  made_taken : (t : Acks) → made 0 t (decides (with_acks s t) a) ≡ acknowledged (with_acks s t) a
  unfolding acknowledged
  made_taken t = go (decides (with_acks s t) a)
    where
      go : (d : Bool) → made 0 t d ≡ cond d (decided_by (with_acks s t) a.entry) (quiet (with_acks s t))
      go true = simp (or_r s.decided true refl)
      go false = simp (or_alone s.decided)

  pub acknowledging : (k : ℕ) {place : Seat} (t : Acks) {shared wanted seats : ℕ}
      → k ≡ number_for s refusals → place ≡ cond (eqb k 0) a.head.seat (record { 0 = 64 }) → t ≡ with_row s.acks place.0 (ack_row a)
      → shared ≡ cond (eqb k 0 && not s.decided) (sharers s.n (row_of t) (ack_row a)) 0
      → wanted ≡ quorum s.n s.f → seats ≡ seats_in shared
      → made k t ((eqb k 0 && not s.decided) && leb wanted seats) ≡ acknowledge_step s a
  unfolding acknowledge_step
  acknowledging k {place} t {shared} {wanted} {seats} en ep et eh eq ec =
      answered_is s refusals (acknowledged (rowed s a) a) (made k t deciding) k en yes no
    where
      deciding : Bool
      deciding = (eqb k 0 && not s.decided) && leb wanted seats

      held : (b : Bool) → eqb k 0 ≡ b → t ≡ with_row s.acks (cond b a.head.seat (record { 0 = 64 })).0 (ack_row a)
      held b q = et ∙ ap (λ (x : Seat). with_row s.acks x.0 (ack_row a)) (ep ∙ ap (λ x. cond x a.head.seat (record { 0 = 64 })) q)

      enough : eqb k 0 ≡ true → deciding ≡ decides (with_acks s t) a
      enough q = simp (ec, eh, eq, q) (counted t)

      yes : eqb k 0 ≡ true → made k t deciding ≡ acknowledged (rowed s a) a
      yes q = ap₂ (λ x d. made x t d) (eqb-true k 0 q) (enough q) ∙ made_taken t ∙ ap (λ x. acknowledged (with_acks s x) a) (held true q)

      no : eqb k 0 ≡ false → made k t deciding ≡ refused k s
      no q =
          let kept : t ≡ s.acks = held false q ∙ with_row_past s.acks 64 (ack_row a) (lit≤ tt) in
          let none : deciding ≡ false = simp q in
          ap₂ (made k) kept none ∙ simp (or_alone s.decided)
