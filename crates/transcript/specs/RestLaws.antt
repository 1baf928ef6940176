-- What is still printed where a trace stands between two lines: `rest`, and how a line goes into it.
use Rattle.std.specs.Prelude.{ℕ, zero, suc, ◌-◌, ◌≡◌, refl, Bool, true, false, cond, List, [], ◌∷◌, ◌++◌, ltb, ℤ, Option, None}
use Rattle.std.proofs.Common.{ap, ◌∙◌, append-nil, arith, ltb-false, lt-ltb}
use Rattle.transcript.specs.declared.State.{State}
use Rattle.transcript.specs.declared.sort.Event.{Event}
use Rattle.transcript.specs.declared.sort.Sorted.{Sorted}
use Rattle.transcript.specs.Printed.{event_line, printed}
use Rattle.transcript.specs.Feeding.{read_unless, sorted_as, sorted_row, sorted_line, sorted, margin_after, next_event}
use Rattle.transcript.specs.Feeding.{waiting, step_in, stepped, state_by, text_by, state_after, text_of, last_text}
use Rattle.messages.specs.declared.Message.{Message}

-- What is still printed where a trace stands and these lines are to come.
abbrev pub rest : State → List (List ℕ) → List ℕ
rest st [] = last_text st false
rest st (l ∷ ls) = text_of st l ++ rest (state_after st l) ls

-- ---- a line

-- What is printed from a line on, once it is sorted.
abbrev pub after : State → Sorted → List (List ℕ) → List ℕ
after st e ls = text_by st e ++ rest (state_by st e) ls

-- Where rows are awaited then, nothing yet.
waits : (st : State) (e : Event) (j : ℕ) (spoiled : Bool) (ls : List (List ℕ))
    → after st (sorted_as e (suc j) spoiled) ls ≡ rest (waiting st (sorted_as e (suc j) spoiled)) ls
waits st e j spoiled ls =
    ap (λ (b : Bool). cond b [] text ++ rest (cond b (waiting st x) (stepped st x (step_in st x))) ls) (lt-ltb 0 (suc j) (omega arith))
  where
    x : Sorted
    x = sorted_as e (suc j) spoiled

    text : List ℕ
    text = printed (next_event st.events) (step_in st x) (margin_after e (step_in st x) st.margin)

-- ---- a line that gets 19

-- "an event with 19"
abbrev pub unread : ℕ → ℤ → List ℕ
unread k m = event_line k 19 None m None

pub unread_sorted : (left : ℕ) (spoiled : Bool) → sorted None left spoiled ≡ sorted_as Event.Unread (left - 1) (ltb 0 left)
unfolding sorted sorted_row sorted_line
unread_sorted left spoiled = go (ltb 0 left) refl spoiled
  where
    go : (b : Bool) → ltb 0 left ≡ b → (c : Bool)
        → cond b (sorted_row None (left - 1) c) (sorted_line None) ≡ sorted_as Event.Unread (left - 1) b
    go true e true = refl
    go true e false = refl
    go false e c = let none : 0 ≡ left - 1 = omega (arith, ltb-false 0 left e) in ap (λ (j : ℕ). sorted_as Event.Unread j false) none

-- As the last line: one event with 19, the line's own or that of the Q whose rows are then missing.
pub unread_last : (st : State) (j : ℕ) (spoiled : Bool)
    → after st (sorted_as Event.Unread j spoiled) [] ≡ unread (next_event st.events) st.margin
unfolding last_text
unread_last st zero spoiled = let x = unread (next_event st.events) st.margin in append-nil (x ++ []) ∙ append-nil x
unread_last st (suc j) spoiled =
    waits st Event.Unread j spoiled []
    ∙ ap (λ (b : Bool). cond b (unread (next_event st.events) st.margin) []) (lt-ltb 0 (suc j) (omega arith))

-- A line that is none, or whose front was dropped.
pub unread_line : (st : State) (l : List ℕ) (ls : List (List ℕ)) → read_unless st.cut l ≡ None
    → rest st (l ∷ ls) ≡ after st (sorted None st.left st.spoiled) ls
unfolding text_of state_after
unread_line st l ls e = ap (λ (x : Option Message). after st (sorted x st.left st.spoiled) ls) e
