-- Which replica a run over some lines leaves: the one that `step` makes of their events, one after the other.
use Rattle.std.specs.Prelude.{ℕ, ◌≡◌, refl, Bool, true, false, cond, List, [], ◌∷◌, ltb, ℤ, take}
use Rattle.std.proofs.Common.{sym, ap, ◌∙◌}
use Rattle.std.proofs.Math.Seq.{take-append-add}
use Rattle.replica.specs.declared.Replica.{Replica}
use Rattle.replica.specs.Steps.{refused}
use Rattle.transcript.specs.declared.State.{State}
use Rattle.transcript.specs.declared.sort.Sorted.{Sorted}
use Rattle.transcript.specs.Texts.{lines_of}
use Rattle.transcript.specs.Events.{Happening, happenings}
use Rattle.transcript.specs.Transcript.{step_for, replica_after}
use Rattle.transcript.specs.Feeding.{next_event, sort_in, waiting, step_in, stepped, state_after, Ran, ran, resumed}
use Rattle.transcript.specs.LineByLine.{Numbered, numbered, steps_for, numbered_in, steps_in, line_by_line}
use Rattle.transcript.specs.PieceLaws.{runs}

-- The replica that the last step hands back; the first one where there is none.
abbrev last_next : Replica → List Numbered → Replica
last_next s [] = s
last_next s (x ∷ xs) = last_next x.step.next xs

steps_next : (hs : List Happening) (s : Replica) (k : ℕ) → last_next s (steps_for s k hs) ≡ replica_after s hs
steps_next [] s k = refl
steps_next (h ∷ hs) s k = steps_next hs (step_for s h).next (next_event k)

-- ---- line by line

-- A Q whose rows are not all there leaves the replica as it was.
next_at_end : (s : Replica) (k : ℕ) (m : ℤ) (b : Bool) → last_next s (cond b (numbered k (refused 19 s) m ∷ []) []) ≡ s
next_at_end s k m true = refl
next_at_end s k m false = refl

next_behind : (st : State) (l : List ℕ) (ls : List (List ℕ))
    → last_next (state_after st l).replica (steps_in (state_after st l) ls) ≡ last_next st.replica (steps_in st (l ∷ ls))
unfolding state_after
next_behind st l ls = go (ltb 0 e.left)
  where
    e : Sorted
    e = sort_in st l

    next : Bool → State
    next b = cond b (waiting st e) (stepped st e (step_in st e))

    go : (b : Bool) → last_next (next b).replica (steps_in (next b) ls)
        ≡ last_next st.replica (cond b (steps_in (next b) ls) (numbered_in st e ∷ steps_in (next b) ls))
    go true = refl
    go false = refl

-- A run leaves the replica that follows from the lines of the bytes that it uses.
abbrev Follows : State → List ℕ → ℕ → Ran → Type 0
Follows st s room r = r.state.replica ≡ last_next st.replica (steps_in st (lines_of (take r.used s)))

follows_stopped : (st : State) (s : List ℕ) (room : ℕ) → Follows st s room (record { state = st; used = 0; text = [] })
unfolding lines_of
follows_stopped st s room = sym (next_at_end st.replica (next_event st.events) st.margin (ltb 0 st.left))

follows : (st : State) (s : List ℕ) (room : ℕ) → Follows st s room (ran st (lines_of s) room)
follows =
    runs Follows
    (λ st s room none. follows_stopped st s room)
    (λ st l s room later w first rec.
    rec
    ∙ next_behind st l (lines_of (take later.used s))
    ∙ ap (λ (ls : List (List ℕ)). last_next st.replica (steps_in st ls))
    (sym (ap lines_of (take-append-add l s later.used) ∙ first (take later.used s))))

-- ---- from any replica on

-- The events are those of the bytes that are used. A Q at their end whose rows are not all there is one of them, with 19: it leaves
-- the replica as it was.
pub goes_on : (s : Replica) (t : List ℕ) (room : ℕ)
    → (ran (resumed s) (lines_of t) room).state.replica
    ≡ replica_after s (happenings 0 (lines_of (take (ran (resumed s) (lines_of t) room).used t)))
goes_on s t room =
    let ls = lines_of (take (ran (resumed s) (lines_of t) room).used t) in
    follows (resumed s) t room ∙ ap (last_next s) (line_by_line s ls) ∙ steps_next (happenings 0 ls) s 0
