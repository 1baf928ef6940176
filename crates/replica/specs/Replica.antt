-- 01, "What a replica remembers".
use Rattle.std.specs.Prelude.{ℕ, true, false, cond, ◌++◌, eqb, ℤ, pos}
use Rattle.base.specs.Refusal.{Refusals, first}
use Rattle.entry.specs.declared.Entry.{Entry}
use Rattle.entry.specs.Entry.{zero_entry}
use Rattle.seats.specs.declared.Seat.{Seat}
use Rattle.seats.specs.declared.View.{View}
use Rattle.acks.specs.declared.Acks.{Acks}
use Rattle.acks.specs.Acks.{no_acks, row_of, margin}
use Rattle.votes.specs.declared.Vote.{Vote}
use Rattle.votes.specs.declared.VoteRows.{VoteRows}
use Rattle.votes.specs.Rows.{no_votes, zero_vote}
use Rattle.replica.specs.declared.Replica.{Replica}
use Rattle.replica.specs.Refusals.{Standing, idle, setup_refusals}

-- ---- the first replicas

-- What setup begins with: "the current view, 1 at first; its vote, nil at first". The stage of a fresh replica is idle.
abbrev pub fresh : ℕ → ℕ → Seat → Entry → Replica
fresh n f s own = record {
  n = n;
  f = f;
  seat = s;
  stage = record { 0 = idle };
  decided = false;
  view = record { 0 = 1 };
  own = own;
  vote = zero_vote;
  decision = zero_entry;
  chosen = zero_entry;
  confirmed = 0;
  acks = no_acks;
  votes = no_votes;
}

-- "the blank replica: every number 0, nothing taken"
abbrev pub blank : Replica
blank = record {
  n = 0;
  f = 0;
  seat = record { 0 = 0 };
  stage = record { 0 = idle };
  decided = false;
  view = record { 0 = 0 };
  own = zero_entry;
  vote = zero_vote;
  decision = zero_entry;
  chosen = zero_entry;
  confirmed = 0;
  acks = no_acks;
  votes = no_votes;
}

-- ---- what is read of a replica
abbrev pub standing : Replica → Standing
standing s = record { n = s.n; f = s.f; seat = s.seat; stage = s.stage; view = s.view }

-- "A replica whose n, f, seat or own entry setup would refuse, the blank one too, answers every event with setup's number".
abbrev pub own_refusals : Replica → Refusals
own_refusals s = setup_refusals s.n s.f s.seat s.own

-- The number that an event gets: setup's come first.
unfoldable pub number_for : Replica → Refusals → ℕ
number_for s rs = first (own_refusals s ++ rs)

-- ".. and margin 0." Else the margin of its rows.
unfoldable pub margin_of : Replica → ℤ
margin_of s = cond (eqb (first (own_refusals s)) 0) (margin s.n s.f (row_of s.acks)) (pos 0)

-- ---- one thing changed: "What an event does not name stays as it was."
abbrev pub with_stage : Replica → ℕ → Replica
with_stage s k = record {
  n = s.n;
  f = s.f;
  seat = s.seat;
  stage = record { 0 = k };
  decided = s.decided;
  view = s.view;
  own = s.own;
  vote = s.vote;
  decision = s.decision;
  chosen = s.chosen;
  confirmed = s.confirmed;
  acks = s.acks;
  votes = s.votes;
}

abbrev pub with_view : Replica → View → Replica
with_view s v = record {
  n = s.n;
  f = s.f;
  seat = s.seat;
  stage = s.stage;
  decided = s.decided;
  view = v;
  own = s.own;
  vote = s.vote;
  decision = s.decision;
  chosen = s.chosen;
  confirmed = s.confirmed;
  acks = s.acks;
  votes = s.votes;
}

abbrev pub with_vote : Replica → Vote → Replica
with_vote s x = record {
  n = s.n;
  f = s.f;
  seat = s.seat;
  stage = s.stage;
  decided = s.decided;
  view = s.view;
  own = s.own;
  vote = x;
  decision = s.decision;
  chosen = s.chosen;
  confirmed = s.confirmed;
  acks = s.acks;
  votes = s.votes;
}

abbrev pub with_decision : Replica → Entry → Replica
with_decision s e = record {
  n = s.n;
  f = s.f;
  seat = s.seat;
  stage = s.stage;
  decided = true;
  view = s.view;
  own = s.own;
  vote = s.vote;
  decision = e;
  chosen = s.chosen;
  confirmed = s.confirmed;
  acks = s.acks;
  votes = s.votes;
}

abbrev pub with_acks : Replica → Acks → Replica
with_acks s t = record {
  n = s.n;
  f = s.f;
  seat = s.seat;
  stage = s.stage;
  decided = s.decided;
  view = s.view;
  own = s.own;
  vote = s.vote;
  decision = s.decision;
  chosen = s.chosen;
  confirmed = s.confirmed;
  acks = t;
  votes = s.votes;
}

-- What a leader keeps: its vote rows, the entry chosen, the seats that confirmed it.
abbrev pub with_lead : Replica → VoteRows → Entry → ℕ → Replica
with_lead s t e m = record {
  n = s.n;
  f = s.f;
  seat = s.seat;
  stage = s.stage;
  decided = s.decided;
  view = s.view;
  own = s.own;
  vote = s.vote;
  decision = s.decision;
  chosen = e;
  confirmed = m;
  acks = s.acks;
  votes = t;
}
