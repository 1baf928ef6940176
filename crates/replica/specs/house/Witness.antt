-- Runs of four seats that meet every premise and in which a seat decides: theorems about runs do not hold for want of them.
use Rattle.std.specs.Prelude.{ℕ, ◌≡◌, refl, Bool, true, not, ◌||◌, List, [], ◌∷◌, T, eqb}
use Rattle.std.proofs.Common.{inl, inr, lit<}
use Rattle.std.proofs.Math.Option.{some}
use Rattle.entry.specs.declared.Entry.{Entry}
use Rattle.entry.specs.Entry.{well_formed, same, less}
use Rattle.entry.specs.Table.{entry_at, with_entry}
use Rattle.seats.specs.Seats.{leader, count, highest}
use Rattle.seats.specs.Sizes.{most_faulty}
use Rattle.seats.specs.Table.{value_at, with_value}
use Rattle.seats.specs.Mask.{bit, seats_in, with_seat, put_seat, packed}
use Rattle.seats.specs.Certificate.{good_certificate}
use Rattle.acks.specs.Acks.{row_of, with_row, shares, sharing}
use Rattle.votes.specs.declared.Vote.{Vote}
use Rattle.votes.specs.declared.Row.{Row}
use Rattle.votes.specs.Vote.{valid}
use Rattle.votes.specs.Selection.{smallest, top_view, two_at, rows_for, after_two, at_top, selection}
use Rattle.votes.specs.Rows.{vote_at, has_row, with_vote, sound}
use Rattle.votes.specs.Request.{row_at, row_sent, rows_sent}
use Rattle.votes.specs.Examples.{a, b, nil, a1, b1, collected}
use Rattle.votes.specs.SafetyWitness.{in_view, by_seat, seat_three, seat_one, few}
use Rattle.messages.specs.declared.Head.{Head}
use Rattle.messages.specs.declared.Assent.{Assent}
use Rattle.messages.specs.declared.Request.{Request}
use Rattle.messages.specs.declared.Message.{Message}
use Rattle.messages.specs.declared.Message.TheVariants.{Start, Enter, Propose, Acknowledge, Cast, Ask, Confirm}
use Rattle.replica.specs.Replica.{number_for}
use Rattle.replica.specs.Steps as S
use Rattle.replica.specs.Steps.{answered, setup_step, start_step, enter_step, propose_step, decides, acknowledged, acknowledge_step}
use Rattle.replica.specs.Steps.{selection_of, cast_step, ask_step, certified, confirm_step}
use Rattle.replica.specs.house.Claims.{acknowledges, confirms}
use Rattle.replica.specs.house.Runs.{Member, Members, Among, sent_by, Said, Reported, Setting, Correct, Run}
use Rattle.replica.specs.house.Happenings.{Happening, begin, hand, house, is_run}

-- ---- what is handed over: seat, view and the rest as on a line, all with mark `+`
abbrev pub by : ℕ → ℕ → Head
by k v = record { seat = record { 0 = k }; verified = true; view = in_view v }

abbrev pub assent : ℕ → ℕ → Entry → Assent
assent k v e = record { head = by k v; entry = e }

abbrev pub proposal : ℕ → ℕ → Entry → ℕ → Message
proposal k v e m = Propose (record { head = by k v; entry = e; mask = m })

abbrev pub ballot : ℕ → ℕ → Vote → Message
ballot k v x = Cast (record { seat = record { 0 = k }; verified = true; view = in_view v; vote = x })

abbrev pub gets : ℕ → Message → Happening
gets k m = hand k m []

-- ---- one view: seat 3 is faulty, and seat 1 leads
abbrev pub steady : List Happening
steady =
    begin 0 a
    ∷ begin 1 a
    ∷ begin 2 a
    ∷ gets 1 Start
    ∷ gets 0 (proposal 1 1 a 0)
    ∷ gets 1 (proposal 1 1 a 0)
    ∷ gets 2 (proposal 1 1 a 0)
    ∷ gets 0 (Acknowledge (assent 0 1 a))
    ∷ gets 0 (Acknowledge (assent 1 1 a))
    ∷ gets 0 (Acknowledge (assent 2 1 a))
    ∷ []

-- ---- two views: seat 1 is faulty and proposes a to seats 0 and 2, and b to seat 3; then seat 2 leads

-- The votes that seat 2 collects. They force its choice to a, though its own entry is b.
abbrev pub rows : List Row
rows = collected 2 ((0, a1) ∷ (2, a1) ∷ (3, b1) ∷ [])

abbrev pub request : Request
request = record { head = by 2 2; entry = a; count = 3 }

abbrev pub turned : List Happening
turned =
    begin 0 a
    ∷ begin 2 b
    ∷ begin 3 b
    ∷ gets 0 (proposal 1 1 a 0)
    ∷ gets 2 (proposal 1 1 a 0)
    ∷ gets 3 (proposal 1 1 b 0)
    ∷ gets 0 (Enter (in_view 2))
    ∷ gets 2 (Enter (in_view 2))
    ∷ gets 3 (Enter (in_view 2))
    ∷ gets 2 (ballot 0 2 a1)
    ∷ gets 2 (ballot 2 2 a1)
    ∷ gets 2 (ballot 3 2 b1)
    ∷ hand 0 (Ask request) rows
    ∷ hand 3 (Ask request) rows
    ∷ gets 2 (Confirm (assent 0 2 a))
    ∷ gets 2 (Confirm (assent 3 2 a))
    ∷ gets 0 (proposal 2 2 a 0x9)
    ∷ gets 2 (proposal 2 2 a 0x9)
    ∷ gets 3 (proposal 2 2 a 0x9)
    ∷ gets 3 (Acknowledge (assent 0 2 a))
    ∷ gets 3 (Acknowledge (assent 2 2 a))
    ∷ gets 3 (Acknowledge (assent 3 2 a))
    ∷ []

-- ---- two decisions: seat 3 is faulty and says A to seat 0, which decides a in view 1; seat 2, whose own entry is b, decides a in view 2
abbrev pub late_rows : List Row
late_rows = collected 2 ((0, a1) ∷ (2, nil) ∷ (3, nil) ∷ [])

abbrev pub relayed : List Happening
relayed =
    begin 0 a
    ∷ begin 1 a
    ∷ begin 2 b
    ∷ gets 1 Start
    ∷ gets 0 (proposal 1 1 a 0)
    ∷ gets 1 (proposal 1 1 a 0)
    ∷ gets 0 (Acknowledge (assent 0 1 a))
    ∷ gets 0 (Acknowledge (assent 1 1 a))
    ∷ gets 0 (Acknowledge (assent 3 1 a))
    ∷ gets 0 (Enter (in_view 2))
    ∷ gets 1 (Enter (in_view 2))
    ∷ gets 2 (Enter (in_view 2))
    ∷ gets 2 (ballot 0 2 a1)
    ∷ gets 2 (ballot 2 2 nil)
    ∷ gets 2 (ballot 3 2 nil)
    ∷ hand 0 (Ask request) late_rows
    ∷ hand 1 (Ask request) late_rows
    ∷ gets 2 (Confirm (assent 0 2 a))
    ∷ gets 2 (Confirm (assent 1 2 a))
    ∷ gets 0 (proposal 2 2 a 0x3)
    ∷ gets 1 (proposal 2 2 a 0x3)
    ∷ gets 2 (proposal 2 2 a 0x3)
    ∷ gets 2 (Acknowledge (assent 0 2 a))
    ∷ gets 2 (Acknowledge (assent 1 2 a))
    ∷ gets 2 (Acknowledge (assent 2 2 a))
    ∷ []

-- ---- one faulty seat too many: seats 1 and 3 say P and A for a to seat 0, and for b to seat 2
abbrev pub one_and_three : ℕ → Bool
one_and_three k = eqb k 1 || eqb k 3

abbrev pub torn : List Happening
torn =
    begin 0 a
    ∷ begin 2 b
    ∷ gets 0 (proposal 1 1 a 0)
    ∷ gets 2 (proposal 1 1 b 0)
    ∷ gets 0 (Acknowledge (assent 0 1 a))
    ∷ gets 0 (Acknowledge (assent 1 1 a))
    ∷ gets 0 (Acknowledge (assent 3 1 a))
    ∷ gets 2 (Acknowledge (assent 2 1 b))
    ∷ gets 2 (Acknowledge (assent 1 1 b))
    ∷ gets 2 (Acknowledge (assent 3 1 b))
    ∷ []

-- ---- what they witness

-- (a) A run that meets all premises, in which seat k reports e, and all correct seats, n − f of them, acknowledged e in view v.
pub record Decides (faulty : ℕ → Bool) (h : Members) (k v : ℕ) (e : Entry) : Type 0 where
  pub setting : Setting 4 1 faulty
  pub run : Run 4 1 faulty h
  pub correct : Correct 4 faulty k
  pub acknowledged : (j : ℕ) → Correct 4 faulty j → Said h (j, acknowledges (in_view v) e)
  pub reported : Reported h k e

-- (b) One faulty leader that proposed twice, as two correct seats took different entries from it; then the request of a later
-- leader, who is correct, confirmed by the two others; and its proposal with their mask.
pub record Turns (faulty : ℕ → Bool) (h : Members) : Type 0 where
  pub led : T (faulty (leader 1 4))
  pub twice : Said h (0, acknowledges (in_view 1) a) × Said h (3, acknowledges (in_view 1) b) × T (less a b)
  pub leads : Correct 4 faulty (leader 2 4)
  pub asked : Among (Ask request, rows) (sent_by (h (leader 2 4)))
  pub confirmed : Said h (0, confirms (in_view 2) a) × Said h (3, confirms (in_view 2) a)
  pub proposed : Among (proposal 2 2 a 0x9, []) (sent_by (h (leader 2 4)))

-- (c) Two correct seats report, as `agreement` has it; and all that `confirmation` asks is there: a correct seat's request, and another
-- correct seat that is in its view.
pub record Both (faulty : ℕ → Bool) (h : Members) : Type 0 where
  pub other : Correct 4 faulty 0 × Reported h 0 a
  pub leads : Correct 4 faulty 2 × Reported h 2 a
  pub leader_has : Member
  pub leader_at : h 2 ≡ some leader_has
  pub asked : Among (Ask request, late_rows) leader_has.sent
  pub other_has : Member
  pub other_at : h 0 ≡ some other_has
  pub in_view : other_has.replica.view ≡ request.head.view

-- Seat 3 is faulty in the first run and the third, and seat 1 in the second.
pub witness : Decides seat_three (house 4 1 steady) 0 1 a
    × Decides seat_one (house 4 1 turned) 3 2 a × Turns seat_one (house 4 1 turned)
    × Decides seat_three (house 4 1 relayed) 2 2 a × Both seat_three (house 4 1 relayed)
unfolding well_formed same less entry_at with_entry count highest most_faulty bit seats_in with_seat put_seat packed good_certificate
    value_at with_value row_of with_row shares sharing
    valid smallest top_view two_at rows_for after_two at_top selection vote_at has_row with_vote sound row_at row_sent rows_sent
    number_for answered setup_step start_step enter_step propose_step decides acknowledged acknowledge_step selection_of S.collected cast_step
    ask_step certified confirm_step
witness = (
  record {
    setting = record { allowed = refl; few = few.0 };
    run = (is_run 4 1 seat_three steady).tells tt;
    correct = (lit< tt, tt);
    acknowledged = λ j c. by_seat (λ i. T (not (seat_three i)) → Said (house 4 1 steady) (i, acknowledges (in_view 1) a))
        (λ o. inl refl) (λ o. inl refl) (λ o. inl refl) (λ o. absurd o) j c.0 c.1;
    reported = inl refl;
  },
  record {
    setting = record { allowed = refl; few = few.1 };
    run = (is_run 4 1 seat_one turned).tells tt;
    correct = (lit< tt, tt);
    acknowledged = λ j c. by_seat (λ i. T (not (seat_one i)) → Said (house 4 1 turned) (i, acknowledges (in_view 2) a))
        (λ o. inl refl) (λ o. absurd o) (λ o. inl refl) (λ o. inl refl) j c.0 c.1;
    reported = inl refl;
  },
  record {
    led = tt;
    twice = (inr (inr (inr (inl refl))), inr (inr (inr (inl refl))), tt);
    leads = (lit< tt, tt);
    asked = inr (inr (inl refl));
    confirmed = (inr (inl refl), inr (inl refl));
    proposed = inr (inl refl);
  },
  record {
    setting = record { allowed = refl; few = few.0 };
    run = (is_run 4 1 seat_three relayed).tells tt;
    correct = (lit< tt, tt);
    acknowledged = λ j c. by_seat (λ i. T (not (seat_three i)) → Said (house 4 1 relayed) (i, acknowledges (in_view 2) a))
        (λ o. inl refl) (λ o. inl refl) (λ o. inl refl) (λ o. absurd o) j c.0 c.1;
    reported = inl refl;
  },
  record {
    other = ((lit< tt, tt), inl refl);
    leads = ((lit< tt, tt), inl refl);
    leader_has = _;
    leader_at = refl;
    asked = inr (inr (inl refl));
    other_has = _;
    other_at = refl;
    in_view = refl;
  },
)

-- `few` of `Setting` is needed: with f + 1 faulty seats, and all else as it was, two correct seats report different entries.
pub one_too_many : (count one_and_three 4 ≡ 2) × Run 4 1 one_and_three (house 4 1 torn) × Reported (house 4 1 torn) 0 a × Reported (house 4 1 torn) 2 b
    × T (less a b)
unfolding well_formed same less entry_at with_entry count most_faulty bit good_certificate value_at with_value row_of with_row shares sharing
    number_for answered setup_step propose_step decides acknowledged acknowledge_step
one_too_many = (refl, (is_run 4 1 one_and_three torn).tells tt, inl refl, inl refl, tt)
