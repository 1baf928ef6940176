-- Setup's 4, and what a replica answers that setup would refuse: the blank one, or one built by hand, as with an own entry of twelve blanks.
use Rattle.std.specs.Prelude.{ℕ, ◌<◌, ◌≡◌, refl, false, not, List, [], ◌∷◌, eqb, leb, pos}
use Rattle.std.proofs.Math.Path.{ap}
use Rattle.std.proofs.Common.{ap₂, ◌∙◌, arith, lit<}
use Rattle.std.proofs.Math.Bool.{cond}
use borrow.Author.Tests.{ne_eqb, eq-eqb, lt-leb}
use Rattle.base.specs.Refusal.{Refusals, first}
use Rattle.base.specs.RefusalLaws.{first_behind}
use Rattle.entry.specs.declared.Entry.{Entry}
use Rattle.entry.specs.Entry.{well_formed}
use Rattle.entry.specs.Laws.{unnamed, one_byte_needed}
use Rattle.seats.specs.declared.Seat.{Seat}
use Rattle.seats.specs.Sizes.{size_refusals, most_faulty}
use Rattle.acks.specs.Acks.{row_of, margin}
use Rattle.votes.specs.declared.Row.{Row}
use Rattle.messages.specs.declared.Message.{Message}
use Rattle.replica.specs.declared.Replica.{Replica}
use Rattle.replica.specs.declared.Step.{Step}
use Rattle.replica.specs.Ordered.{refusals_of, listed}
use Rattle.replica.specs.Refusals.{setup_refusals}
use Rattle.replica.specs.Replica.{fresh, blank, own_refusals, number_for, margin_of}
use Rattle.replica.specs.Steps.{refused, answered, quiet, setup_step, step}

-- ---- setup
module _ (n f : ℕ) (s : Seat) (own : Entry) (sizes : first (size_refusals n f) ≡ 0) (below : s.0 < n) (bad : well_formed own ≡ false) where
  -- 4 is setup's number where n, f and seat are as it takes them and the own entry is not well formed.
  setup_4 : first (setup_refusals n f s own) ≡ 4
  setup_4 =
      let outside = leb n s.0 in
      let unformed = not (well_formed own) in
      let number = first (size_refusals n f) in
      first_behind 0 (size_refusals n f) ((3, outside) ∷ (4, unformed) ∷ []) tt
      ∙ ap (λ b. cond b (cond outside 3 (cond unformed 4 0)) number) (eq-eqb number 0 sizes)
      ∙ ap₂ (λ a b. cond a 3 (cond (not b) 4 0)) (lt-leb n s.0 below) bad

  -- "setup: own entry not well formed"
  pub setup_gets_4 : setup_step n f s own ≡ refused 4 blank
  unfolding setup_step
  setup_gets_4 = ap (λ k. cond (eqb k 0) (quiet (fresh n f s own)) (refused k blank)) setup_4

-- ---- a replica built by hand

-- Setup's number for a replica.
abbrev pub own_number : Replica → ℕ
own_number s = first (own_refusals s)

module _ (s : Replica) where
  -- Where setup has a number, the event's list is not looked at.
  own_first : (rs : Refusals) (t : Step) → (own_number s ≡ 0 → ⊥) → answered s rs t ≡ refused (own_number s) s
  unfolding answered number_for
  own_first rs t h =
      let some = ne_eqb (own_number s) 0 h in
      ap (λ k. cond (eqb k 0) t (refused k s)) (first_behind 0 (own_refusals s) rs tt ∙ ap (λ b. cond b (first rs) (own_number s)) some)
      ∙ ap (λ b. cond b t (refused (own_number s) s)) some

  -- "A replica whose n, f, seat or own entry setup would refuse .. answers every event with setup's number and margin 0."
  pub own_refused : (m : Message) (rows : List Row) → (own_number s ≡ 0 → ⊥) → (step s m rows ≡ refused (own_number s) s) × (margin_of s ≡ pos 0)
  unfolding margin_of
  own_refused m rows h =
      let l = listed s m rows in
      (l.is ∙ own_first (refusals_of s m rows) l.taken h, ap (λ b. cond b (margin s.n s.f (row_of s.acks)) (pos 0)) (ne_eqb (own_number s) 0 h))

  -- So a replica with such an own entry, which only a hand can build, answers every event with 4 and margin 0.
  pub own_gets_4 : (m : Message) (rows : List Row) → first (size_refusals s.n s.f) ≡ 0 → s.seat.0 < s.n → well_formed s.own ≡ false
      → (step s m rows ≡ refused 4 s) × (margin_of s ≡ pos 0)
  own_gets_4 m rows sizes below bad =
      let four = setup_4 s.n s.f s.seat s.own sizes below bad in
      let both = own_refused m rows (λ z. omega (arith, z, four)) in
      (both.0 ∙ ap (λ k. refused k s) four, both.1)

-- Such a replica, whose own entry is twelve blanks, and else a fresh one.
abbrev pub by_hand : Replica
by_hand = fresh 4 1 (record { 0 = 0 }) unnamed

pub by_hand_gets_4 : (m : Message) (rows : List Row) → (step by_hand m rows ≡ refused 4 by_hand) × (margin_of by_hand ≡ pos 0)
unfolding most_faulty
by_hand_gets_4 m rows = own_gets_4 by_hand m rows refl (lit< tt) one_byte_needed.1
