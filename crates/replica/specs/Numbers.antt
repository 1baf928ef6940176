-- The numbers that 01's table has for setup and for each event, and no other: the table read by its columns.
use Rattle.std.specs.Prelude.{ℕ, Bool, List, [], ◌∷◌, ◌++◌, map, ◌≡◌, refl}
use Rattle.base.specs.Refusal.{Refusals}
use Rattle.entry.specs.declared.Entry.{Entry}
use Rattle.seats.specs.declared.Seat.{Seat}
use Rattle.seats.specs.declared.View.{View}
use Rattle.votes.specs.declared.Vote.{Vote}
use Rattle.votes.specs.declared.Row.{Row}
use Rattle.votes.specs.Request.{row_refusals}
use Rattle.messages.specs.declared.Assent.{Assent}
use Rattle.messages.specs.declared.Proposal.{Proposal}
use Rattle.messages.specs.declared.Request.{Request}
use Rattle.replica.specs.Refusals.{Standing, setup_refusals, start_refusals, enter_refusals, propose_refusals, acknowledge_refusals, cast_refusals, ask_refusals, confirm_refusals}

abbrev pub numbers : Refusals → List ℕ
numbers = map (λ r. r.0)

pub setup_numbers : (n f : ℕ) (s : Seat) (own : Entry) → numbers (setup_refusals n f s own) ≡ 1 ∷ 2 ∷ 3 ∷ 4 ∷ []
setup_numbers n f s own = refl

pub start_numbers : (w : Standing) → numbers (start_refusals w) ≡ 8 ∷ 9 ∷ 12 ∷ []
start_numbers w = refl

pub enter_numbers : (w : Standing) (v : View) → numbers (enter_refusals w v) ≡ 5 ∷ 8 ∷ []
enter_numbers w v = refl

pub propose_numbers : (w : Standing) (vote : Vote) (p : Proposal)
    → numbers (propose_refusals w vote p) ≡ 5 ∷ 6 ∷ 7 ∷ 8 ∷ 9 ∷ 10 ∷ 11 ∷ 12 ∷ []
propose_numbers w vote p = refl

pub acknowledge_numbers : (w : Standing) (row : View) (a : Assent) → numbers (acknowledge_refusals w row a) ≡ 5 ∷ 6 ∷ 7 ∷ 10 ∷ 12 ∷ 17 ∷ []
acknowledge_numbers w row a = refl

pub cast_numbers : (w : Standing) (filled : Bool) (r : Row) → numbers (cast_refusals w filled r) ≡ 5 ∷ 6 ∷ 7 ∷ 8 ∷ 9 ∷ 12 ∷ 13 ∷ 14 ∷ []
cast_numbers w filled r = refl

pub ask_numbers : (w : Standing) (q : Request) (n f : ℕ) (rows : List Row)
    → numbers (ask_refusals w q ++ row_refusals n f q.head.view rows q.entry) ≡ 5 ∷ 6 ∷ 7 ∷ 8 ∷ 9 ∷ 10 ∷ 13 ∷ 15 ∷ 16 ∷ []
ask_numbers w q n f rows = refl

pub confirm_numbers : (w : Standing) (confirmed : ℕ) (chosen : Entry) (c : Assent)
    → numbers (confirm_refusals w confirmed chosen c) ≡ 5 ∷ 6 ∷ 7 ∷ 8 ∷ 9 ∷ 10 ∷ 12 ∷ 13 ∷ 18 ∷ []
confirm_numbers w confirmed chosen c = refl
