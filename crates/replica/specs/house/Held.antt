-- A seat tells of others only what it was told: a test that passes for every claim handed to it, and for each of its own statements, passes
-- for every claim that it hands on.
use Rattle.std.specs.Prelude.{ℕ, ◌≤◌, ◌≡◌, refl, List, [], T}
use Rattle.std.proofs.Common.{sym, ap, ap₂, ◌∙◌, subst, inl, arith}
use Rattle.entry.specs.declared.Entry.{Entry}
use Rattle.seats.specs.declared.View.{View}
use Rattle.seats.specs.Seats.{leader}
use Rattle.seats.specs.Mask.{bit}
use Rattle.seats.specs.Marks.{mask_at}
use Rattle.votes.specs.declared.Vote.{Vote}
use Rattle.votes.specs.declared.Row.{Row}
use Rattle.votes.specs.declared.VoteRows.{VoteRows}
use Rattle.votes.specs.Rows.{no_votes}
use Rattle.votes.specs.Request.{row_at}
use Rattle.messages.specs.declared.Message.{Message}
use Rattle.messages.specs.declared.Message.TheVariants.{Propose, Cast, Confirm}
use Rattle.messages.specs.declared.Assent.{Assent}
use Rattle.messages.specs.declared.Proposal.{Proposal}
use Rattle.messages.specs.Lines.{row_head}
use Rattle.replica.specs.declared.Replica.{Replica}
use Rattle.replica.specs.declared.Step.{Step}
use Rattle.replica.specs.Refusals.{collecting, proposed}
use Rattle.replica.specs.Replica.{with_vote}
use Rattle.replica.specs.Steps.{vote_for, filled_by, asks, confirmed_by, confirmers, step}
use Rattle.replica.specs.house.Claims.{Statement, confirms, Claim, said, signed, inside, in_row, claims}
use Rattle.replica.specs.house.Runs.{Member, after, Among, all_said}
use Rattle.replica.specs.house.Outcomes.{Taken, head_within, head_marked, head_here}
use Rattle.replica.specs.house.Outcomes.{proposal_led, cast_collecting, confirm_asking, confirm_chosen}
use Rattle.replica.specs.house.Outcomes.{Outcome, refuse, start, enter, accept, note, decide, fill, ask, confirm, add, propose, outcome}
use Rattle.replica.specs.house.ClaimLaws.{Each, each_map, none_set, seat_added, mark_passes, mask_passes, vote_passes}
use Rattle.replica.specs.house.ClaimLaws.{Rowed, none_rowed, row_filled, rows_pass}

module _ (P : Claim → Type 0) (n : ℕ) where
  -- All that is held of others: in a vote, by a leader in its rows, and as confirmations of the entry that it chose.
  pub record Holding (x : Vote) (v : View) (t : VoteRows) (e : Entry) (mask stage : ℕ) : Type 0 where
    pub vote : Each P (inside n x)
    pub table : Rowed P n v t
    pub bits : (j : ℕ) → T (bit mask j) → P (j, confirms v e)
    -- Nobody has confirmed before an entry is chosen.
    pub unasked : stage ≡ collecting → mask ≡ 0

  -- By a replica, in these fields: what an event does not name stays as it was.
  abbrev pub Held : Replica → Type 0
  Held s = Holding s.vote s.view s.votes s.chosen s.confirmed s.stage.0

  -- Every claim of every message, beside its rows, passes.
  abbrev pub Sends : List (Message × List Row) → Type 0
  Sends = Each (λ x. Each P (claims n x.0 x.1))

  -- A fresh replica, and one that enters a view, hold their vote and nothing else.
  pub emptied : {x : Vote} {v : View} {e : Entry} {stage : ℕ} → Each P (inside n x) → Holding x v no_votes e 0 stage
  emptied h = record { vote = h; table = none_rowed P n _; bits = λ j t. absurd (none_set j t); unasked = λ q. refl }

  -- A leader that proposes keeps all that it holds.
  on_proposed : {x : Vote} {v : View} {t : VoteRows} {e : Entry} {mask stage : ℕ} → Holding x v t e mask stage → Holding x v t e mask proposed
  on_proposed b = record { vote = b.vote; table = b.table; bits = b.bits; unasked = λ q. absurd (omega arith) }

  module _ (small : n ≤ 64) (m : Member) (size : m.replica.n ≡ n) (b : Held m.replica) (before : Sends m.sent) where
    abbrev s : Replica
    s = m.replica

    -- P: its mark and mask are those of the new vote.
    held_accept : (p : Proposal) → Taken s (Propose p) [] → Each P (claims n (Propose p) []) → Held (with_vote s (vote_for p))
    held_accept p c h =
        let leads = ap (leader p.head.view.0) (sym size) ∙ proposal_led s p c in
        let vote = vote_passes P n p (head_marked s (Propose p) p.head refl c) leads h in
        record { vote = vote; table = b.table; bits = b.bits; unasked = b.unasked }

    -- V fills a row.
    held_fill : (r : Row) → Taken s (Cast r) [] → Each P (in_row n r) → Held (filled_by s r)
    held_fill r c h =
        let within = head_within s (Cast r) (row_head r) refl c in
        let marked = head_marked s (Cast r) (row_head r) refl c in
        let table = row_filled P n s.view s.votes r (omega arith) marked (head_here s (Cast r) (row_head r) refl c) h b.table in
        record { vote = b.vote; table = table; bits = b.bits; unasked = b.unasked }

    -- Nobody has confirmed when the leader asks, whatever entry it chose.
    held_ask : (r : Row) (e : Entry) → Taken s (Cast r) [] → Each P (in_row n r) → Held (asks (filled_by s r) e).next
    held_ask r e c h =
        let none = b.unasked (cast_collecting s r c) in
        record {
          vote = b.vote;
          table = (held_fill r c h).table;
          bits = λ j t. absurd (none_set j (subst (λ mask. T (bit mask j)) none t));
          unasked = λ q. none;
        }

    -- C adds its sender.
    held_add : (a : Assent) → Taken s (Confirm a) [] → Each P (said (Confirm a)) → Held (confirmed_by s a)
    held_add a c h =
        let within = head_within s (Confirm a) a.head refl c in
        let view : ◌≡◌ {A = View} a.head.view s.view = ap (λ v. record { 0 = v }) (head_here s (Confirm a) a.head refl c) in
        let word = mark_passes P a.head (confirms a.head.view a.entry) (head_marked s (Confirm a) a.head refl c) h in
        let its = subst P (ap₂ (λ v e. (a.head.seat.0, confirms v e)) view (confirm_chosen s a c)) word in
        record {
          vote = b.vote;
          table = b.table;
          bits = seat_added (λ j. P (j, confirms s.view s.chosen)) s.confirmed a.head.seat.0 (omega arith) its b.bits;
          unasked = λ q. absurd (omega (arith, confirm_asking s a c));
        }

    -- The mask that goes out has the bits of those who confirmed.
    mask_sent : (t : Replica) → t.n ≡ n → Held t → Each P (signed n t.view t.chosen (confirmers t))
    mask_sent t e x =
        mask_passes P n t.view t.chosen (confirmers t)
        (λ k l i. x.bits k (subst T (mask_at (bit t.confirmed) t.n k (omega arith)) i))

    -- What goes out is the seat's own word and what it holds.
    held_outcome : {message : Message} {rows : List Row} {t : Step} → Outcome s rows message t → Each P (claims n message rows)
        → ((x : Statement) → Among (s.seat.0, x) (all_said (after m t).sent) → P (s.seat.0, x)) → Held t.next × Sends (after m t).sent
    held_outcome (refuse number) h own = (b, before)
    held_outcome (start c) h own =
        let none = mask_passes P n s.view s.own 0 (λ k l t. absurd (none_set k t)) in
        (on_proposed b, ((own _ (inl refl), none), before))
    held_outcome (enter v c) h own = (emptied b.vote, ((own _ (inl refl), b.vote), before))
    held_outcome (accept p c) h own = (held_accept p c h, ((own _ (inl refl), tt), before))
    held_outcome (note a c) h own = (b, before)
    held_outcome (decide a c d) h own = (b, before)
    held_outcome (fill r c) h own = (held_fill r c h, before)
    held_outcome (ask r e c d) h own =
        let x = held_ask r e c h in
        (x, ((own _ (inl refl), rows_pass P n s.n s.f s.view (filled_by s r).votes x.table), before))
    held_outcome (confirm q c) h own = (b, ((own _ (inl refl), tt), before))
    held_outcome (add a c) h own = (held_add a c h, before)
    held_outcome (propose a c d) h own =
        let x = held_add a c h in
        (on_proposed x, ((own _ (inl refl), mask_sent (confirmed_by s a) size x), before))

    pub held_step : (message : Message) (rows : List Row) → Each P (claims n message rows)
        → ((x : Statement) → Among (m.replica.seat.0, x) (all_said (after m (step m.replica message rows)).sent) → P (m.replica.seat.0, x))
        → Held (step m.replica message rows).next × Sends (after m (step m.replica message rows)).sent
    held_step message rows = held_outcome (outcome s rows message)

-- ---- a test Q that passes wherever P does
module _ (P Q : Claim → Type 0) (n : ℕ) (up : (c : Claim) → P c → Q c) where
  pub held_on : (s : Replica) → Held P n s → Held Q n s
  held_on s b = record {
    vote = each_map P Q up (inside n s.vote) b.vote;
    table = (b.table.0, λ j t. each_map P Q up (in_row n (row_at s.view s.votes (record { 0 = j }))) (b.table.1 j t));
    bits = λ j t. up _ (b.bits j t);
    unasked = b.unasked;
  }

  pub sends_on : (sent : List (Message × List Row)) → Sends P n sent → Sends Q n sent
  sends_on = each_map _ _ (λ x. each_map P Q up (claims n x.0 x.1))
