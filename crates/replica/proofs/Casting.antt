-- V: how many rows a request has, and the step.
use Prim.Native.Nat.{ℕ, ◌≤◌}
use mathlib.Core.Path.{◌≡◌, refl, sym, ap, ap₂, ◌∙◌}
use mathlib.Core.Bool.{Bool, true, false, not, cond}
use mathlib.Core.List.{◌++◌}
use mathlib.Core.Logic.{inl, inr}
use native.Mathlib.Omega.{arith}
use lib.Dec.{eqb, leb}
use borrow.Author.Tests.{eqb-true, le-leb, leb-true}
use Rattle.std.specs.Prelude.{Option, None, Ok, is_some, unwrap_or}
use Rattle.std.specs.Bool.{then_some}
use Rattle.std.specs.Result.{result_unwrap_or}
use Rattle.base.specs.Refusal.{Refusals, judged}
use Rattle.base.specs.RefusalLaws.{first_none, judged_none}
use Rattle.base.specs.Tests.{is_true}
use Rattle.entry.specs.declared.Entry.{Entry}
use Rattle.seats.specs.declared.Seat.{Seat}
use Rattle.seats.specs.declared.View.{View}
use Rattle.seats.specs.Seats.{count}
use Rattle.seats.specs.Mask.{bit, mask, seats_in}
use Rattle.seats.specs.Count.{count_le}
use Rattle.seats.specs.Marks.{marks_mask, marks_seats, seats_none}
use Rattle.seats.specs.SizeLaws.{sizes_take}
use Rattle.votes.specs.declared.Row.{Row}
use Rattle.votes.specs.declared.VoteRows.{VoteRows}
use Rattle.votes.specs.declared.Choice.{Choice}
use Rattle.votes.specs.Selection.{selection}
use Rattle.votes.specs.Rows.{vote_at, has_row, with_vote, call_refusals, call_number, chosen}
use Rattle.votes.specs.RowLaws.{call_after_sizes, answered_taken}
use Rattle.votes.specs.TableLaws.{with_past}
use Rattle.messages.specs.declared.Message.TheVariants.{Ask}
use Rattle.replica.specs.declared.Replica.{Replica}
use Rattle.replica.specs.declared.Step.{Step}
use Rattle.replica.specs.Refusals.{asking, cast_refusals}
use Rattle.replica.specs.Replica.{standing, own_refusals, number_for, with_stage, with_lead}
use Rattle.replica.specs.Choices.{asked_for}
use Rattle.replica.specs.Steps.{step_of, refused, head_of, voted, filled_by, chooses, selection_of, collected, cast_step}
use Rattle.replica.proofs.Answered.{answered_is}
use Rattle.replica.proofs.Taken.{number_allowed}

-- ---- how many rows a request has
pub seats_le : (m : ℕ) → seats_in m ≤ 64
unfolding seats_in
seats_le m = count_le (bit m) 64

-- The rows that count, counted in their mask.
pub rows_counted : (n f : ℕ) (v : View) (t : VoteRows) (m : ℕ) → m ≡ cond (leb n 64) (mask (has_row n f v t) n) 0
    → seats_in m ≡ cond (leb n 64) (count (has_row n f v t) n) 0
rows_counted n f v t m e = ap seats_in e ∙ go (leb n 64) refl
  where
    go : (b : Bool) → leb n 64 ≡ b → seats_in (cond b (mask (has_row n f v t) n) 0) ≡ cond b (count (has_row n f v t) n) 0
    go true l = marks_seats (leb-true n 64 l) (marks_mask n (has_row n f v t))
    go false l = seats_none

-- ---- the step

-- A selection that is not refused is the five steps over the table.
choice_made : (n f : ℕ) (v : View) (t : VoteRows) → call_number n f v ≡ 0
    → result_unwrap_or (chosen n f v t) Choice.Wait ≡ selection n f (has_row n f v t) (vote_at t.votes)
unfolding chosen
choice_made n f v t h = ap (λ x. result_unwrap_or x Choice.Wait)
    (sym (answered_taken (judged (call_refusals n f v)) (Ok (selection n f (has_row n f v t) (vote_at t.votes))) (judged_none (call_refusals n f v) tt h)))

module _ (s : Replica) (r : Row) where
  abbrev pub refusals : Refusals
  refusals = cast_refusals (standing s) (voted s r.seat.0) r

  -- Neither 5 nor 8 applies: the current view is not 0.
  view_some : number_for s refusals ≡ 0 → eqb s.view.0 0 ≡ false
  unfolding number_for
  view_some e = go (eqb r.view.0 0) refl (eqb r.view.0 s.view.0) refl
    where
      go : (a : Bool) → eqb r.view.0 0 ≡ a → (b : Bool) → eqb r.view.0 s.view.0 ≡ b → eqb s.view.0 0 ≡ false
      go true p b q = absurd (first_none 0 (own_refusals s ++ refusals) tt e 5 (inr (inr (inr (inr (inl (refl, is_true (eqb r.view.0 0) p)))))))
      go false p true q = ap (λ x. eqb x 0) (sym (eqb-true r.view.0 s.view.0 q)) ∙ p
      go false p false q =
          absurd (first_none 0 (own_refusals s ++ refusals) tt e 8
          (inr (inr (inr (inr (inr (inr (inr (inl (refl, is_true (not (eqb r.view.0 s.view.0)) (ap not q)))))))))))

  -- So the selection takes the call.
  call_none : number_for s refusals ≡ 0 → call_number s.n s.f s.view ≡ 0
  call_none e =
      call_after_sizes s.n s.f s.view
      ∙ ap₂ (λ (k : ℕ) b. cond (eqb k 0) (cond b 5 0) k) (sizes_take s.n s.f (number_allowed s refusals e)) (view_some e)

  -- The step in the code's own shape, of the table written and the entry to ask for.
  abbrev made : ℕ → VoteRows → Option Entry → Step
  made k t e =
      step_of k (with_stage (with_lead s t (unwrap_or e s.chosen) s.confirmed) (cond (is_some e) asking s.stage.0)) None
      (then_some (is_some e) (Ask (record {
        head = head_of s s.view;
        entry = unwrap_or e s.chosen;
        count = cond (is_some e) (cond (leb s.n 64) (count (has_row s.n s.f s.view t) s.n) 0) 0;
      })))

  made_chooses : (t : VoteRows) (c : Choice) → s.n ≤ 64 → made 0 t (asked_for c s.own) ≡ chooses (with_lead s t s.chosen s.confirmed) c
  made_chooses t Choice.Wait h = refl
  made_chooses t Choice.Free h = simp (le-leb s.n 64 h)
  made_chooses t (Choice.Forced e) h = simp (le-leb s.n 64 h)

  module _ (k : ℕ) (place : Seat) (t : VoteRows) (c : Choice) (en : k ≡ number_for s refusals) (ep : place ≡ cond (eqb k 0) r.seat (record { 0 = 64 }))
      (et : t ≡ with_vote s.votes place.0 r.vote) (ec : c ≡ cond (eqb k 0) (result_unwrap_or (chosen s.n s.f s.view t) Choice.Wait) Choice.Wait) where
    written : (b : Bool) → eqb k 0 ≡ b → t ≡ with_vote s.votes (cond b r.seat (record { 0 = 64 })).0 r.vote
    written b q = et ∙ ap (λ (x : Seat). with_vote s.votes x.0 r.vote) (ep ∙ ap (λ x. cond x r.seat (record { 0 = 64 })) q)

    taken : eqb k 0 ≡ true → made k t (asked_for c s.own) ≡ collected (filled_by s r)
    unfolding collected selection_of
    taken b =
        let z : k ≡ 0 = eqb-true k 0 b in
        let zero = sym en ∙ z in
        let d : c ≡ selection_of (filled_by s r) =
        ec ∙ ap₂ (λ x y. cond x (result_unwrap_or (chosen s.n s.f s.view y) Choice.Wait) Choice.Wait) b (written true b)
        ∙ choice_made s.n s.f s.view (with_vote s.votes r.seat.0 r.vote) (call_none zero) in
        ap (λ i. made i t (asked_for c s.own)) z
        ∙ ap₂ (λ y x. made 0 y (asked_for x s.own)) (written true b) d
        ∙ made_chooses (with_vote s.votes r.seat.0 r.vote) (selection_of (filled_by s r)) (number_allowed s refusals zero).most

    kept : eqb k 0 ≡ false → made k t (asked_for c s.own) ≡ refused k s
    kept b =
        ap₂ (λ y x. made k y (asked_for x s.own)) (written false b ∙ with_past s.votes 64 r.vote (omega arith))
        (ec ∙ ap (λ x. cond x (result_unwrap_or (chosen s.n s.f s.view t) Choice.Wait) Choice.Wait) b)

    pub made_is : made k t (asked_for c s.own) ≡ cast_step s r
    unfolding cast_step
    made_is = answered_is s refusals (collected (filled_by s r)) (made k t (asked_for c s.own)) k en taken kept
