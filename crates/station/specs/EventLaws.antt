-- What luscarembo_events puts is "what `trace` would print", and the replica that it leaves is the one behind these events.
use Rattle.std.specs.Prelude.{ℕ, ◌+◌, ◌≤◌, ◌≡◌, refl, Bool, true, false, cond, List, [], ◌++◌, ltb, length, take, drop}
use Rattle.std.proofs.Common.{sym, ap, ◌∙◌, append-nil, le_trans, le_of_eq, drop_of_length-le, take_all}
use Rattle.replica.specs.declared.Replica.{Replica}
use Rattle.transcript.specs.declared.State.{State}
use Rattle.transcript.specs.Texts.{lines_of}
use Rattle.transcript.specs.Events.{happenings}
use Rattle.transcript.specs.Transcript.{told_of, replica_after}
use Rattle.transcript.specs.Feeding.{event_room, last_event, whole, sort_in, waiting, step_in, stepped, state_after, last_text, Ran, ran, resumed}
use Rattle.transcript.specs.LineLaws.{lines_few}
use Rattle.transcript.specs.RestLaws.{rest}
use Rattle.transcript.specs.FeedLaws.{feeds}
use Rattle.transcript.specs.PieceLaws.{runs, pieces, all_used}
use Rattle.transcript.specs.GoesOn.{goes_on}
use Rattle.station.specs.Calls.{ran_by}

-- What stands in the text and is not used is told behind it.
pub events_told : (r : Replica) (text : List ℕ) (room : ℕ) → length text ≤ last_event
    → told_of r 1 (happenings 0 (lines_of text))
    ≡ (ran_by r text room).text ++ rest (ran_by r text room).state (lines_of (drop (ran_by r text room).used text))
events_told r text room small =
    sym (feeds r (lines_of text) (le_trans (lines_few text) small))
    ∙ ap (λ (s : List ℕ). rest (resumed r) (lines_of s)) (sym (append-nil text))
    ∙ pieces (resumed r) text [] room
    ∙ ap (λ (s : List ℕ). (ran_by r text room).text ++ rest (ran_by r text room).state (lines_of s)) (append-nil (drop (ran_by r text room).used text))

-- No line's front is dropped.
line_uncut : (c : Bool) (a b : State) → a.cut ≡ false → b.cut ≡ false → (cond c a b).cut ≡ false
line_uncut true a b p q = p
line_uncut false a b p q = q

uncut : (st : State) (text : List ℕ) (room : ℕ) → st.cut ≡ false → (ran st (lines_of text) room).state.cut ≡ false
unfolding state_after
uncut =
    runs (λ (st : State) (text : List ℕ) (room : ℕ) (r : Ran). st.cut ≡ false → r.state.cut ≡ false)
    (λ st text room none h. h)
    (λ st l text room later w first rec h.
    let e = sort_in st l in
    rec (line_uncut (ltb 0 e.left) (waiting st e) (stepped st e (step_in st e)) refl refl))

-- It is all of it where the text is used up and no Q awaits a row.
pub events_all : (r : Replica) (text : List ℕ) (room : ℕ) → length text ≤ last_event → (ran_by r text room).used ≡ length text
    → (ran_by r text room).state.left ≡ 0 → (ran_by r text room).text ≡ told_of r 1 (happenings 0 (lines_of text))
unfolding lines_of last_text
events_all r text room small used left =
    let t = ran_by r text room in
    let none : rest t.state (lines_of (drop t.used text)) ≡ [] =
    ap (λ (s : List ℕ). rest t.state (lines_of s)) (drop_of_length-le text (le_of_eq (sym used)))
    ∙ simp (uncut (resumed r) text room refl, left) in
    sym (events_told r text room small ∙ ap (λ (s : List ℕ). t.text ++ s) none ∙ append-nil t.text)

-- ---- the replica

-- What the arrays hold afterwards is the replica that `step` makes, event after event, of the lines that were used.
pub events_stepped : (r : Replica) (text : List ℕ) (room : ℕ)
    → (ran_by r text room).state.replica ≡ replica_after r (happenings 0 (lines_of (take (ran_by r text room).used text)))
events_stepped r text room = goes_on r text room

-- Of a text whose last byte is an LF these are all its lines, where an event has room behind what was put. Every text has such a room:
-- `enough_room` in PieceLaws.antt.
pub events_all_stepped : (r : Replica) (text : List ℕ) (room : ℕ) → whole text ≡ true → length (ran_by r text room).text + event_room ≤ room
    → (ran_by r text room).state.replica ≡ replica_after r (happenings 0 (lines_of text))
events_all_stepped r text room w enough =
    let t = ran_by r text room in
    events_stepped r text room
    ∙ ap (λ (s : List ℕ). replica_after r (happenings 0 (lines_of s))) (take_all t.used text (le_of_eq (sym (all_used (resumed r) text room w enough))))
