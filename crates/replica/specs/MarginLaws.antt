-- The margin of the first replicas, and that no event but a taken A changes it.
use Rattle.std.specs.Prelude.{ℕ, ◌≡◌, refl, Bool, true, false, cond, List, T, eqb, leb, pos, ◌-ℤ◌}
use Rattle.std.proofs.Common.{sym, ap, ◌∙◌, subst, inl, inr}
use Rattle.base.specs.Refusal.{Refusals, first, number_of, judged}
use Rattle.base.specs.RefusalLaws.{number_judged}
use Rattle.base.specs.Tests.{true≢false}
use Rattle.entry.specs.declared.Entry.{Entry}
use Rattle.seats.specs.declared.Seat.{Seat}
use Rattle.seats.specs.declared.View.{View}
use Rattle.seats.specs.Seats.{count}
use Rattle.seats.specs.Sizes.{quorum}
use Rattle.seats.specs.Mask.{bit}
use Rattle.seats.specs.Certificate.{signers}
use Rattle.acks.specs.Acks.{no_acks, row_of, is_filled, most, margin}
use Rattle.acks.specs.RowLaws.{row_zero}
use Rattle.acks.specs.MostLaws.{most_reached}
use Rattle.votes.specs.declared.Row.{Row}
use Rattle.votes.specs.declared.Rows.{Rows}
use Rattle.votes.specs.declared.Choice.{Choice}
use Rattle.messages.specs.declared.Assent.{Assent}
use Rattle.messages.specs.declared.Proposal.{Proposal}
use Rattle.messages.specs.declared.Request.{Request}
use Rattle.replica.specs.declared.Replica.{Replica}
use Rattle.replica.specs.declared.Step.{Step}
use Rattle.replica.specs.Refusals.{proposed, setup_refusals}
use Rattle.replica.specs.Replica.{fresh, blank, own_refusals, number_for, margin_of, with_stage}
use Rattle.replica.specs.Steps.{refused, answered, start_step, enter_step, propose_step, acknowledge_step, cast_step, ask_step, ask_with, confirm_step}
use Rattle.replica.specs.Steps.{quiet, saying, decides, decided_by, acknowledged, rowed, chooses, selection_of, collected, filled_by}
use Rattle.replica.specs.Steps.{certified, confirmed_by, confirmers, proposal_of}

-- ---- the first replicas

-- No row of the zero table is filled.
no_rows : (n : ℕ) → most n (row_of no_acks) ≡ 0
no_rows n = elim (most_reached n (row_of no_acks)) [ inl z ↦ z | inr r ↦ absurd (subst T (ap is_filled (row_zero r.0)) r.2) ]

-- A taken setup's margin is −(n − f).
pub setup_margin : (n f : ℕ) (s : Seat) (own : Entry) → first (setup_refusals n f s own) ≡ 0
    → margin_of (fresh n f s own) ≡ pos 0 -ℤ pos (quorum n f)
unfolding margin_of margin
setup_margin n f s own e =
    ap (λ (k : ℕ). cond (eqb k 0) (margin n f (row_of no_acks)) (pos 0)) e ∙ ap (λ (m : ℕ). pos m -ℤ pos (quorum n f)) (no_rows n)

pub blank_margin : margin_of blank ≡ pos 0
unfolding margin_of
blank_margin = refl

-- The margin, by the number of setup's check.
pub margin_told : (s : Replica) → margin_of s ≡ cond (eqb (number_of (judged (own_refusals s))) 0) (margin s.n s.f (row_of s.acks)) (pos 0)
unfolding margin_of
margin_told s = ap (λ (k : ℕ). cond (eqb k 0) (margin s.n s.f (row_of s.acks)) (pos 0)) (sym (number_judged (own_refusals s) tt))

-- ---- the events: "What an event does not name stays as it was."

-- A refused event leaves the replica, and with it the margin.
pub refused_stays : (s : Replica) (rs : Refusals) (taken : Step) → taken.number ≡ 0
    → eqb (answered s rs taken).number 0 ≡ false → (answered s rs taken).next ≡ s
unfolding answered
refused_stays s rs taken z = go (eqb (number_for s rs) 0)
  where
    go : (b : Bool) → eqb (cond b taken (refused (number_for s rs) s)).number 0 ≡ false → (cond b taken (refused (number_for s rs) s)).next ≡ s
    go true h = true≢false (sym (ap (λ (k : ℕ). eqb k 0) z) ∙ h)
    go false h = refl

-- One of two steps keeps a margin that both keep.
either_stays : (s : Replica) (b : Bool) (t u : Step) → margin_of t.next ≡ margin_of s → margin_of u.next ≡ margin_of s
    → margin_of (cond b t u).next ≡ margin_of s
either_stays s true t u h k = h
either_stays s false t u h k = k

-- So does an event whose taken step keeps the margin: those below keep n, f, seat, own entry and acknowledgement rows.
pub margin_stays : (s : Replica) (rs : Refusals) (taken : Step) → margin_of taken.next ≡ margin_of s → margin_of (answered s rs taken).next ≡ margin_of s
unfolding answered
margin_stays s rs taken h = either_stays s (eqb (number_for s rs) 0) taken (refused (number_for s rs) s) h refl

pub start_margin : (s : Replica) → margin_of (start_step s).next ≡ margin_of s
unfolding start_step margin_of
start_margin s = margin_stays s _ _ refl

pub enter_margin : (s : Replica) (v : View) → margin_of (enter_step s v).next ≡ margin_of s
unfolding enter_step margin_of
enter_margin s v = margin_stays s _ _ refl

pub propose_margin : (s : Replica) (p : Proposal) → margin_of (propose_step s p).next ≡ margin_of s
unfolding propose_step margin_of
propose_margin s p = margin_stays s _ _ refl

pub cast_margin : (s : Replica) (r : Row) → margin_of (cast_step s r).next ≡ margin_of s
unfolding cast_step collected margin_of
cast_margin s r = margin_stays s _ _ (go (selection_of (filled_by s r)))
  where
    go : (c : Choice) → margin_of (chooses (filled_by s r) c).next ≡ margin_of s
    go Choice.Wait = refl
    go Choice.Free = refl
    go (Choice.Forced e) = refl

pub ask_margin : (s : Replica) (q : Request) (rows : List Row) → margin_of (ask_step s q rows).next ≡ margin_of s
unfolding ask_step
ask_margin s q rows = margin_stays s _ _ refl

pub ask_with_margin : (s : Replica) (q : Request) (t : Rows) → margin_of (ask_with s q t).next ≡ margin_of s
unfolding ask_with
ask_with_margin s q t = margin_stays s _ _ refl

pub confirm_margin : (s : Replica) (c : Assent) → margin_of (confirm_step s c).next ≡ margin_of s
unfolding confirm_step certified margin_of
confirm_margin s c =
    let t = confirmed_by s c in
    let proposes = saying (with_stage t proposed) (proposal_of t s.view s.chosen (confirmers t)) in
    margin_stays s _ _ (either_stays s (leb (signers s.f) (count (bit t.confirmed) s.n)) proposes (quiet t) refl refl)

pub acknowledge_margin : (s : Replica) (a : Assent) → eqb (acknowledge_step s a).number 0 ≡ false → margin_of (acknowledge_step s a).next ≡ margin_of s
unfolding acknowledge_step acknowledged
acknowledge_margin s a h = ap margin_of (refused_stays s _ _ (taken (decides (rowed s a) a)) h)
  where
    taken : (b : Bool) → (cond b (decided_by (rowed s a) a.entry) (quiet (rowed s a))).number ≡ 0
    taken true = refl
    taken false = refl
