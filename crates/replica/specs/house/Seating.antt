-- The replica of a seat keeps what setup gave it and the sizes of its rows, and goes back to no earlier view.
use Rattle.std.specs.Prelude.{ℕ, ◌≤◌, ◌<◌, ◌≡◌, refl, not, cond, List, [], ◌∷◌, T, eqb, leb, length}
use Rattle.std.proofs.Common.{ap, ap₂, ◌∙◌, arith, le_refl, le_of_lt}
use Rattle.std.proofs.Math.Facts.{no_leb}
use Rattle.base.specs.Refusal.{first}
use Rattle.base.specs.RefusalLaws.{none_both}
use Rattle.base.specs.Tests.{unrefused}
use Rattle.entry.specs.declared.Entry.{Entry}
use Rattle.entry.specs.Entry.{well_formed}
use Rattle.seats.specs.declared.Seat.{Seat}
use Rattle.seats.specs.Sizes.{size_refusals}
use Rattle.acks.specs.RowLaws.{row_sizes}
use Rattle.votes.specs.declared.Row.{Row}
use Rattle.messages.specs.declared.Message.{Message}
use Rattle.messages.specs.declared.Assent.{Assent}
use Rattle.replica.specs.declared.Replica.{Replica}
use Rattle.replica.specs.declared.Step.{Step}
use Rattle.replica.specs.Refusals.{setup_refusals}
use Rattle.replica.specs.Replica.{fresh, blank}
use Rattle.replica.specs.Steps.{refused, quiet, setup_step, ack_row, rowed, step}
use Rattle.replica.specs.house.Outcomes.{enter_later}
use Rattle.replica.specs.house.Outcomes.{Outcome, refuse, start, enter, accept, note, decide, fill, ask, confirm, add, propose, outcome}
use Rattle.replica.specs.house.Kept.{Seated}

-- ---- setup

-- Sizes that are allowed, a seat of the house and a well formed entry are all that setup asks.
setup_takes : (n f k : ℕ) (own : Entry) → first (size_refusals n f) ≡ 0 → k < n → T (well_formed own)
    → first (setup_refusals n f (record { 0 = k }) own) ≡ 0
setup_takes n f k own e l w =
    none_both (size_refusals n f) ((3, leb n k) ∷ (4, not (well_formed own)) ∷ []) tt e (no_leb l, (unrefused (well_formed own) w, tt))

-- So a seat that begins is fresh.
pub setup_fresh : (n f k : ℕ) (own : Entry) → first (size_refusals n f) ≡ 0 → k < n → T (well_formed own)
    → setup_step n f (record { 0 = k }) own ≡ quiet (fresh n f (record { 0 = k }) own)
unfolding setup_step
setup_fresh n f k own e l w =
    ap (λ number. cond (eqb number 0) (quiet (fresh n f (record { 0 = k }) own)) (refused number blank)) (setup_takes n f k own e l w)

pub seated_begun : (n f k : ℕ) (own : Entry) → first (size_refusals n f) ≡ 0 → k < n → T (well_formed own)
    → Seated n f k (fresh n f (record { 0 = k }) own)
seated_begun n f k own e l w = record {
  same_n = refl;
  same_f = refl;
  own_seat = refl;
  taken = setup_takes n f k own e l w;
  in_view = omega arith;
  entries = refl;
  views = refl;
}

-- ---- the events: "What an event does not name stays as it was."

-- What no event changes.
abbrev lasting : Replica → ℕ × ℕ × Seat × Entry × ℕ × ℕ
lasting s = (s.n, s.f, s.seat, s.own, length s.acks.entries, length s.acks.views)

module _ (n f k : ℕ) (s : Replica) (i : Seated n f k s) where
  -- It is all that a seat is known by, but for its view, which only rises.
  seated_as : (t : Replica) → lasting t ≡ lasting s → s.view.0 ≤ t.view.0 → Seated n f k t
  seated_as t e l = record {
    same_n = ap (λ x. x.0) e ∙ i.same_n;
    same_f = ap (λ x. x.1) e ∙ i.same_f;
    own_seat = ap (λ x. x.2.0) e ∙ i.own_seat;
    taken = ap (λ x. first (setup_refusals x.0 x.1 x.2 x.3)) e ∙ i.taken;
    in_view = omega (arith, i.in_view);
    entries = ap (λ x. x.4) e ∙ i.entries;
    views = ap (λ x. x.5) e ∙ i.views;
  }

  -- A writes a row, and the tables keep their sizes.
  rowed_lasting : (a : Assent) → lasting (rowed s a) ≡ lasting s
  rowed_lasting a =
      let z = row_sizes s.acks a.head.seat.0 (ack_row a) in
      ap₂ (λ x y. (s.n, s.f, s.seat, s.own, x, y)) z.0 z.1

  -- E alone leaves the view, for a later one.
  seated_outcome : {m : Message} {rows : List Row} {t : Step} → Outcome s rows m t → Seated n f k t.next
  seated_outcome (refuse number) = i
  seated_outcome (start c) = seated_as _ refl (le_refl _)
  seated_outcome (enter v c) = seated_as _ refl (le_of_lt (enter_later s v c))
  seated_outcome (accept p c) = seated_as _ refl (le_refl _)
  seated_outcome (note a c) = seated_as _ (rowed_lasting a) (le_refl _)
  seated_outcome (decide a c d) = seated_as _ (rowed_lasting a) (le_refl _)
  seated_outcome (fill r c) = seated_as _ refl (le_refl _)
  seated_outcome (ask r e c d) = seated_as _ refl (le_refl _)
  seated_outcome (confirm q c) = i
  seated_outcome (add a c) = seated_as _ refl (le_refl _)
  seated_outcome (propose a c d) = seated_as _ refl (le_refl _)

  pub seated_step : (m : Message) (rows : List Row) → Seated n f k (step s m rows).next
  seated_step m rows = seated_outcome (outcome s rows m)
