-- Numbers of refusal. 01: "0 means taken. Where several apply, the lowest is given."
-- A table of refusals is a list of a number and when it applies, lowest number first.
use Rattle.std.specs.Prelude.{ℕ, ◌-◌, Bool, cond, List, [], ◌∷◌, get_or, Result, Ok, Err}
use Rattle.base.specs.declared.refusal.Refusal.{Refusal}
use Rattle.base.specs.declared.refusal.Refusal.TheVariants.{HouseSize, FaultySeats, OwnSeat, OwnEntry, NoView, Sender, Mark}
use Rattle.base.specs.declared.refusal.Refusal.TheVariants.{View, Leader, Entry, Certificate, Again, Stage, Vote, Rows, Selection}
use Rattle.base.specs.declared.refusal.Refusal.TheVariants.{OlderView, OtherEntry, Line, Room, Unwritable}

abbrev pub Refusals : Type 0
Refusals = List (ℕ × Bool)

abbrev pub first : Refusals → ℕ
first [] = 0
first (r ∷ rs) = cond r.1 r.0 (first rs)

-- ---- by name: "a definition gives this paper's number for each of the enum's cases"
abbrev pub number : Refusal → ℕ
number HouseSize = 1
number FaultySeats = 2
number OwnSeat = 3
number OwnEntry = 4
number NoView = 5
number Sender = 6
number Mark = 7
number View = 8
number Leader = 9
number Entry = 10
number Certificate = 11
number Again = 12
number Stage = 13
number Vote = 14
number Rows = 15
number Selection = 16
number OlderView = 17
number OtherEntry = 18
number Line = 19
number Room = 20
number Unwritable = 21

-- "0 means taken."
unfoldable pub number_of : Result (Unit {0}) Refusal → ℕ
number_of (Ok x) = 0
number_of (Err why) = number why

-- All of them, from number 1 on; and the one with a number.
abbrev pub refusals : List Refusal
refusals =
    HouseSize ∷ FaultySeats ∷ OwnSeat ∷ OwnEntry ∷ NoView ∷ Sender ∷ Mark ∷ View ∷ Leader ∷ Entry ∷ Certificate ∷ Again ∷ Stage ∷ Vote
    ∷ Rows ∷ Selection ∷ OlderView ∷ OtherEntry ∷ Line ∷ Room ∷ Unwritable ∷ []

abbrev pub refusal : ℕ → Refusal
refusal k = get_or refusals (k - 1) Unwritable

-- What a table says of its case: refused by name, or taken.
abbrev pub judged : Refusals → Result (Unit {0}) Refusal
judged [] = Ok tt
judged (r ∷ rs) = cond r.1 (Err (refusal r.0)) (judged rs)
