-- 01, "Examples at the edges": those marked * are proved, by one statement over one list.
use Rattle.std.specs.Prelude.{ℕ, ◌≡◌, refl, true, List, [], ◌∷◌, Result, Ok, Err}
use Rattle.base.specs.declared.refusal.Refusal.{Refusal}
use Rattle.base.specs.Refusal.{number}
use Rattle.entry.specs.declared.Entry.{Entry}
use Rattle.entry.specs.Entry.{well_formed, same, less}
use Rattle.seats.specs.Seats.{count, highest}
use Rattle.seats.specs.Sizes.{most_faulty}
use Rattle.seats.specs.Mask.{bit, seats_in}
use Rattle.seats.specs.Certificate.{good_certificate}
use Rattle.votes.specs.declared.Vote.{Vote}
use Rattle.votes.specs.declared.Choice.{Choice}
use Rattle.votes.specs.Vote.{valid}
use Rattle.votes.specs.Selection.{smallest, top_view, two_at, rows_for, after_two, at_top, selection}
use Rattle.votes.specs.Rows.{sound, selected}
use Rattle.votes.specs.Examples.{a, b, for, nil, a1, b1, collected}
use Rattle.messages.specs.declared.Request.{Request}
use Rattle.replica.specs.declared.Replica.{Replica}
use Rattle.replica.specs.Replica.{fresh, number_for}
use Rattle.replica.specs.Steps.{answered, entered, setup_step, ask_step}

-- What is given: votes by seat to select from, a request over such votes, or a setup.
pub data Given : Type 0 where
  votes : ℕ → ℕ → ℕ → List (ℕ × Vote) → Given
  request : Entry → List (ℕ × Vote) → Given
  setup : ℕ → ℕ → Given

-- What comes of it: a selection, or a number.
pub data Comes : Type 0 where
  selects : Choice → Comes
  gets : ℕ → Comes

abbrev taken : Comes
taken = gets 0

-- "n = 4, f = 1, view 2 .. unless said"
abbrev plain : List (ℕ × Vote) → Given
plain = votes 4 1 2

abbrev pub starred : List (Given × Comes)
starred =
    -- "Seats 0, 2 nil: wait. Seats 0, 2, 3 nil: free."
    (plain ((0, nil) ∷ (2, nil) ∷ []), selects Choice.Wait)
    ∷ (plain ((0, nil) ∷ (2, nil) ∷ (3, nil) ∷ []), selects Choice.Free)
    -- "0 a1, 2 nil, 3 nil: forced a."
    ∷ (plain ((0, a1) ∷ (2, nil) ∷ (3, nil) ∷ []), selects (Choice.Forced a))
    -- "0 a1, 2 b1, 3 nil: free."
    ∷ (plain ((0, a1) ∷ (2, b1) ∷ (3, nil) ∷ []), selects Choice.Free)
    -- "0 a1, 1 b1, 2 a1: wait, as seat 1 led view 1. With 3 nil: forced a. With 3 voting for b in view 2 instead, collected for
    -- view 3: forced b."
    ∷ (plain ((0, a1) ∷ (1, b1) ∷ (2, a1) ∷ []), selects Choice.Wait)
    ∷ (plain ((0, a1) ∷ (1, b1) ∷ (2, a1) ∷ (3, nil) ∷ []), selects (Choice.Forced a))
    ∷ (votes 4 1 3 ((0, a1) ∷ (1, b1) ∷ (2, a1) ∷ (3, for b 2 0x5) ∷ []), selects (Choice.Forced b))
    -- "0 a1, 2 a1, 3 b1: forced a; a request for b over these gets 16."
    ∷ (plain ((0, a1) ∷ (2, a1) ∷ (3, b1) ∷ []), selects (Choice.Forced a))
    ∷ (request b ((0, a1) ∷ (2, a1) ∷ (3, b1) ∷ []), gets 16)
    -- "n = 5: 0 a1, 2 a1, 3 b1, 4 b1: forced a."
    ∷ (votes 5 1 2 ((0, a1) ∷ (2, a1) ∷ (3, b1) ∷ (4, b1) ∷ []), selects (Choice.Forced a))
    -- "Setup: n = 9, f = 2 taken; n = 8, f = 2 gets 2; n = 64, f = 13 taken, 14 gets 2; n = 3 and n = 65 get 1."
    ∷ (setup 9 2, taken)
    ∷ (setup 8 2, gets 2)
    ∷ (setup 64 13, taken)
    ∷ (setup 64 14, gets 2)
    ∷ (setup 3 1, gets 1)
    ∷ (setup 65 1, gets 1)
    ∷ []

-- A replica of seat 0 in view 2, and a request of its leader, seat 2.
abbrev member : Replica
member = entered (fresh 4 1 (record { 0 = 0 }) a) (record { 0 = 2 })

abbrev request_for : Entry → Request
request_for e = record { head = record { seat = record { 0 = 2 }; verified = true; view = record { 0 = 2 } }; entry = e; count = 3 }

abbrev from_selected : Result Choice Refusal → Comes
from_selected (Ok c) = selects c
from_selected (Err why) = gets (number why)

-- By the definitions.
abbrev pub comes : Given → Comes
comes (votes n f v xs) = from_selected (selected n f (record { 0 = v }) (collected v xs))
comes (request e xs) = gets (ask_step member (request_for e) (collected 2 xs)).number
comes (setup n f) = gets (setup_step n f (record { 0 = 0 }) a).number

abbrev pub answers : List (Given × Comes) → List Comes
answers [] = []
answers (x ∷ xs) = comes x.0 ∷ answers xs

abbrev pub expected : List (Given × Comes) → List Comes
expected [] = []
expected (x ∷ xs) = x.1 ∷ expected xs

-- "Entries a < b", and every example.
pub examples : (less a b ≡ true) × (answers starred ≡ expected starred)
unfolding selected selection at_top after_two rows_for two_at top_view smallest sound valid good_certificate seats_in bit most_faulty count highest well_formed same less ask_step answered number_for setup_step
examples = (refl, refl)
