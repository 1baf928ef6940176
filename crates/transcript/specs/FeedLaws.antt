-- What Feeding.antt prints line by line is what Transcript.antt asks for: `feeds`. With `begins_whole`, `cut_setup` and `ends_setup` in
-- BeginLaws.antt, and `pieces`, `drops` and `ends` in PieceLaws.antt, it makes `by_pieces` in ByPieces.antt.
use Rattle.std.specs.Prelude.{ℕ, zero, suc, ◌+◌, ◌≤◌, ◌≡◌, refl, Bool, true, false, ◌||◌, cond, List, [], ◌∷◌, ◌++◌, ltb, length}
use Rattle.std.proofs.Common.{sym, ap, ◌∙◌, append-nil, arith, lt-ltb}
use Rattle.messages.specs.Reader.{read_line}
use Rattle.replica.specs.declared.Replica.{Replica}
use Rattle.replica.specs.Replica.{margin_of}
use Rattle.replica.specs.Steps.{refused}
use Rattle.transcript.specs.declared.State.{State}
use Rattle.transcript.specs.declared.sort.Sorted.{Sorted}
use Rattle.transcript.specs.Events.{Happening, rows_used, happenings}
use Rattle.transcript.specs.Printed.{printed}
use Rattle.transcript.specs.Transcript.{step_for, told_of}
use Rattle.transcript.specs.Feeding.{margin_after, last_event, next_event, sort_in, waiting, step_in, stepped, state_after, text_of, resumed, last_text}
use Rattle.transcript.specs.RestLaws.{rest, unread}
use Rattle.transcript.specs.LineByLine.{Numbered, numbered, steps_for, numbered_in, steps_in, line_by_line}

-- What is printed of some steps.
abbrev texts : List Numbered → List ℕ
texts [] = []
texts (x ∷ xs) = printed x.number x.step x.margin ++ texts xs

-- ---- line by line

-- The lines are used up.
rest_none : (st : State) → st.cut ≡ false → rest st [] ≡ texts (steps_in st [])
unfolding last_text
rest_none st uncut = ap (λ (b : Bool). cond (b || ltb 0 st.left) last []) uncut ∙ go (ltb 0 st.left)
  where
    last : List ℕ
    last = unread (next_event st.events) st.margin

    go : (b : Bool) → cond b last [] ≡ texts (cond b (numbered (next_event st.events) (refused 19 st.replica) st.margin ∷ []) [])
    go true = sym (append-nil (last ++ []) ∙ append-nil last)
    go false = refl

rest_told : (ls : List (List ℕ)) (st : State) → st.cut ≡ false → rest st ls ≡ texts (steps_in st ls)
unfolding text_of state_after
rest_told [] st uncut = rest_none st uncut
rest_told (l ∷ ls) st uncut = go (ltb 0 e.left) (rest_told ls)
  where
    e : Sorted
    e = sort_in st l

    text : List ℕ
    text = printed (next_event st.events) (step_in st e) (margin_after e.event (step_in st e) st.margin)

    next : Bool → State
    next b = cond b (waiting st e) (stepped st e (step_in st e))

    go : (b : Bool) → ((st : State) → st.cut ≡ false → rest st ls ≡ texts (steps_in st ls))
        → cond b [] text ++ rest (next b) ls ≡ texts (cond b (steps_in (next b) ls) (numbered_in st e ∷ steps_in (next b) ls))
    go true rec = rec (next true) refl
    go false rec = ap (λ (t : List ℕ). text ++ t) (rec (next false) refl)

-- ---- event by event

-- Events are counted one by one up to the last that there is room for.
next_counted : (k : ℕ) → suc k ≤ last_event → next_event k ≡ suc k
unfolding next_event
next_counted k h =
    let one : k + 1 ≡ suc k = omega arith in
    ap (λ (b : Bool). cond b (k + 1) k) (lt-ltb k last_event h) ∙ one

steps_told : (hs : List Happening) (s : Replica) (k : ℕ) → k + length hs ≤ last_event → texts (steps_for s k hs) ≡ told_of s (suc k) hs
unfolding told_of
steps_told [] s k small = refl
steps_told (h ∷ hs) s k small =
    let t = step_for s h in
    ap (λ (i : ℕ). printed i t (margin_of t.next) ++ texts (steps_for t.next i hs)) (next_counted k (omega arith))
    ∙ ap (λ (x : List ℕ). printed (suc k) t (margin_of t.next) ++ x) (steps_told hs t.next (suc k) (omega arith))

-- There are at most as many events as lines.
few : (ls : List (List ℕ)) (k : ℕ) → length (happenings k ls) ≤ length ls
unfolding happenings
few [] k = omega arith
few (l ∷ ls) zero = omega (arith, few ls (rows_used (read_line l)))
few (l ∷ ls) (suc k) = omega (arith, few ls k)

-- From any replica on, all is printed that 01 asks for.
pub feeds : (s : Replica) (ls : List (List ℕ)) → length ls ≤ last_event → rest (resumed s) ls ≡ told_of s 1 (happenings 0 ls)
feeds s ls small =
    rest_told ls (resumed s) refl ∙ ap texts (line_by_line s ls) ∙ steps_told (happenings 0 ls) s 0 (omega (arith, few ls 0))
