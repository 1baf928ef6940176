-- A replica and a message as words: what luscarembo.h says of its arrays.
use Rattle.std.specs.Prelude.{ℕ, ◌%◌, ◌^◌, Bool, cond, List, [], ◌∷◌, eqb, get_or}
use mir.Val.{bool_byte}
use Rattle.entry.specs.declared.Entry.{Entry}
use Rattle.seats.specs.declared.View.{View}
use Rattle.acks.specs.Acks.{acks_of}
use Rattle.votes.specs.declared.Vote.{Vote}
use Rattle.votes.specs.declared.Row.{Row}
use Rattle.votes.specs.Rows.{votes_of, table_of}
use Rattle.messages.specs.declared.Head.{Head}
use Rattle.messages.specs.declared.Message.{Message}
use Rattle.messages.specs.declared.Message.TheVariants.{Start, Enter, Propose, Acknowledge, Cast, Ask, Confirm}
use Rattle.messages.specs.Lines.{enter_kind, propose_kind, acknowledge_kind, cast_kind, ask_kind, confirm_kind}
use Rattle.replica.specs.declared.Replica.{Replica}

-- ---- one word: "A word that is too large for what it stands for counts by its lowest bits."
abbrev pub byte_of : ℕ → ℕ
byte_of w = w % 2 ^ 8

abbrev pub view_of : ℕ → View
view_of w = record { 0 = w % 2 ^ 32 }

abbrev pub flag_of : ℕ → Bool
flag_of w = eqb (w % 2) 1

-- "its bytes 0 to 7 and 8 to 15, the first byte highest"
abbrev pub entry_of : ℕ → ℕ → Entry
entry_of hi lo = record { hi = hi; lo = lo }

-- "of a vote cast, mark, view, entry (2), mask"
abbrev pub vote_of : ℕ → ℕ → ℕ → ℕ → ℕ → ℕ → Vote
vote_of cast verified u hi lo mask = record {
  entry = entry_of hi lo;
  mask = mask;
  view = view_of u;
  cast = flag_of cast;
  verified = flag_of verified;
}

-- Word k of an array.
abbrev pub word : List ℕ → ℕ → ℕ
word s k = get_or s k 0

-- ---- a replica: its scalars, and the five arrays of its tables

-- "n, f, seat, stage, decided, view; of its vote cast, verified, view, entry (2 words), mask; decision (2), chosen (2),
-- confirmed, own entry (2); of the vote rows filled, cast, verified"
abbrev pub scalars_of : Replica → List ℕ
scalars_of r =
    r.n
    ∷ r.f
    ∷ r.seat.0
    ∷ r.stage.0
    ∷ bool_byte r.decided
    ∷ r.view.0
    ∷ bool_byte r.vote.cast
    ∷ bool_byte r.vote.verified
    ∷ r.vote.view.0
    ∷ r.vote.entry.hi
    ∷ r.vote.entry.lo
    ∷ r.vote.mask
    ∷ r.decision.hi
    ∷ r.decision.lo
    ∷ r.chosen.hi
    ∷ r.chosen.lo
    ∷ r.confirmed
    ∷ r.own.hi
    ∷ r.own.lo
    ∷ r.votes.filled
    ∷ r.votes.votes.cast
    ∷ r.votes.votes.verified
    ∷ []

abbrev pub replica_of : List ℕ → List ℕ → List ℕ → List ℕ → List ℕ → List ℕ → Replica
replica_of s ackEntries ackViews voteEntries voteMasks voteViews = record {
  n = byte_of (word s 0);
  f = byte_of (word s 1);
  seat = record { 0 = byte_of (word s 2) };
  stage = record { 0 = byte_of (word s 3) };
  decided = flag_of (word s 4);
  view = view_of (word s 5);
  vote = vote_of (word s 6) (word s 7) (word s 8) (word s 9) (word s 10) (word s 11);
  decision = entry_of (word s 12) (word s 13);
  chosen = entry_of (word s 14) (word s 15);
  confirmed = word s 16;
  own = entry_of (word s 17) (word s 18);
  acks = acks_of ackEntries ackViews;
  votes = table_of (word s 19) (votes_of (word s 20) (word s 21) voteEntries voteMasks voteViews);
}

-- ---- a message: "seat, mark, view, entry (2), mask, count; of a vote cast, mark, view, entry (2), mask"
abbrev pub head_of : List ℕ → Head
head_of m = record { seat = record { 0 = byte_of (word m 0) }; verified = flag_of (word m 1); view = view_of (word m 2) }

abbrev pub message_entry : List ℕ → Entry
message_entry m = entry_of (word m 3) (word m 4)

abbrev pub message_mask : List ℕ → ℕ
message_mask m = word m 5

abbrev pub message_count : List ℕ → ℕ
message_count m = byte_of (word m 6)

abbrev pub message_vote : List ℕ → Vote
message_vote m = vote_of (word m 7) (word m 8) (word m 9) (word m 10) (word m 11) (word m 12)

abbrev pub message_row : List ℕ → Row
message_row m = record { seat = (head_of m).seat; verified = (head_of m).verified; view = (head_of m).view; vote = message_vote m }

-- "the letter of its line; any other is an S"
unfoldable pub message_of : ℕ → List ℕ → Message
message_of kind m =
    let h = head_of m in
    let e = message_entry m in
    cond (eqb kind enter_kind) (Enter h.view)
    (cond (eqb kind propose_kind) (Propose (record { head = h; entry = e; mask = message_mask m }))
    (cond (eqb kind acknowledge_kind) (Acknowledge (record { head = h; entry = e }))
    (cond (eqb kind cast_kind) (Cast (message_row m))
    (cond (eqb kind ask_kind) (Ask (record { head = h; entry = e; count = message_count m }))
    (cond (eqb kind confirm_kind) (Confirm (record { head = h; entry = e })) Start)))))
