-- Line by line, as Feeding.antt goes, the steps are those that Transcript.antt asks for, event after event: `line_by_line`.
-- FeedLaws.antt has from it what is printed, and GoesOn.antt which replica is left.
use Prim.Native.Nat.{ℕ, zero, suc, ◌-◌}
use Rattle.std.specs.Prelude.{◌≡◌, Bool, true, cond, ltb, ℤ, Option, Some, None}
use Rattle.std.proofs.Math.Path.{refl, ap}
use Rattle.std.proofs.Common.{sym, ap₂, ◌∙◌, arith, lt-ltb}
use Rattle.std.proofs.Math.Bool.{false}
use mathlib.Core.List.{List, [], ◌∷◌, ◌++◌, append_assoc}
use Rattle.votes.specs.declared.Row.{Row}
use Rattle.votes.specs.declared.Rows.{Rows}
use Rattle.votes.specs.Rows.{no_rows, added, gathered}
use Rattle.messages.specs.declared.Message.{Message}
use Rattle.messages.specs.declared.Message.TheVariants.{Start, Enter, Propose, Acknowledge, Cast, Ask, Confirm}
use Rattle.messages.specs.declared.Request.{Request}
use Rattle.messages.specs.Reader.{read_line}
use Rattle.replica.specs.declared.Replica.{Replica}
use Rattle.replica.specs.declared.Step.{Step}
use Rattle.replica.specs.Replica.{margin_of}
use Rattle.replica.specs.Steps.{refused, ask_step, ask_with}
use Rattle.replica.specs.AskLaws.{gathered_asked}
use Rattle.replica.specs.MarginLaws.{start_margin, enter_margin, propose_margin, cast_margin, ask_margin, confirm_margin}
use Rattle.transcript.specs.declared.State.{State}
use Rattle.transcript.specs.declared.sort.Event.{Event}
use Rattle.transcript.specs.declared.sort.Sorted.{Sorted}
use Rattle.transcript.specs.Events.{Happening, as_row, before, rows_at, beside, happening, rows_used, happenings}
use Rattle.transcript.specs.Transcript.{step_for}
use Rattle.transcript.specs.Feeding.{read_unless, sorted_as, spoiled_row, row_in, sorted_row, heard_as, sorted_line, sorted, heard}
use Rattle.transcript.specs.Feeding.{margin_after, next_event, sort_in, waiting, step_in, stepped, state_by, state_after, no_request, resumed}
use Rattle.transcript.specs.StepLaws.{acknowledge_counts}

-- ---- steps

-- A step, with its event's number, and the margin of the replica that it hands back.
pub record Numbered : Type 0 where
  pub number : ℕ
  pub step : Step
  pub margin : ℤ

abbrev pub numbered : ℕ → Step → ℤ → Numbered
numbered k t m = record { number = k; step = t; margin = m }

-- Event after event, k of them being over.
abbrev pub steps_for : Replica → ℕ → List Happening → List Numbered
steps_for s k [] = []
steps_for s k (h ∷ hs) =
    let t = step_for s h in
    numbered (next_event k) t (margin_of t.next) ∷ steps_for t.next (next_event k) hs

-- A line, once it is sorted, has a step where no row is awaited then.
abbrev pub numbered_in : State → Sorted → Numbered
numbered_in st e = numbered (next_event st.events) (step_in st e) (margin_after e.event (step_in st e) st.margin)

abbrev pub steps_by : State → Sorted → List Numbered → List Numbered
steps_by st e later = cond (ltb 0 e.left) later (numbered_in st e ∷ later)

-- Line by line, from where a trace stands. Where rows are awaited at the end, the Q gets 19.
abbrev pub steps_in : State → List (List ℕ) → List Numbered
steps_in st [] = cond (ltb 0 st.left) (numbered (next_event st.events) (refused 19 st.replica) st.margin ∷ []) []
steps_in st (l ∷ ls) = steps_by st (sort_in st l) (steps_in (state_after st l) ls)

-- ---- rows

-- A line where a row is awaited is one, or spoils the Q.
abbrev row_or_none : Option Row → ℕ → Sorted
row_or_none (Some r) left = sorted_as (Event.Row r) left false
row_or_none None left = spoiled_row left

row_in_lem : (l : Option Message) (left : ℕ) → row_in l left ≡ row_or_none (as_row l) left
row_in_lem (Some (Cast r)) left = refl
row_in_lem (Some Start) left = refl
row_in_lem (Some (Enter v)) left = refl
row_in_lem (Some (Propose p)) left = refl
row_in_lem (Some (Acknowledge a)) left = refl
row_in_lem (Some (Ask q)) left = refl
row_in_lem (Some (Confirm c)) left = refl
row_in_lem None left = refl

-- Rows that came, and those still to come.
abbrev joined : List Row → Option (List Row) → Option (List Row)
joined rs None = None
joined rs (Some ts) = Some (rs ++ ts)

joined_none : (x : Option (List Row)) → joined [] x ≡ x
joined_none None = refl
joined_none (Some ts) = refl

joined_more : (rs : List Row) (r : Row) (x : Option (List Row)) → joined (rs ++ (r ∷ [])) x ≡ joined rs (before (Some r) x)
joined_more rs r None = refl
joined_more rs r (Some ts) = ap Some (append_assoc rs (r ∷ []) ts)

gathered_more : (t : Rows) (rs : List Row) (r : Row) → added (gathered t rs) r ≡ gathered t (rs ++ (r ∷ []))
gathered_more t [] r = refl
gathered_more t (x ∷ rs) r = gathered_more (added t x) rs r

-- The rows of a Q so far.
abbrev asked : Replica → Request → List Row → Rows
asked s q rs = gathered (no_rows s.n s.f q.head.view) rs

asked_more : (s : Replica) (q : Request) (rs : List Row) (r : Row) → added (asked s q rs) r ≡ asked s q (rs ++ (r ∷ []))
asked_more s q rs r = gathered_more (no_rows s.n s.f q.head.view) rs r

-- ---- where a trace stands between two lines
abbrev at : ℕ → ℤ → Replica → ℕ → Bool → Request → Rows → State
at k m s left spoiled q rows = record {
  events = k;
  margin = m;
  left = left;
  spoiled = spoiled;
  cut = false;
  request = q;
  replica = s;
  rows = rows;
}

record Agree (ls : List (List ℕ)) : Type 0 where
  -- No row is awaited.
  pub idle : (k : ℕ) (s : Replica) (spoiled : Bool) (q : Request) (rows : Rows)
      → steps_in (at k (margin_of s) s 0 spoiled q rows) ls ≡ steps_for s k (happenings 0 ls)
  -- These rows of a Q came, and suc j are awaited.
  pub awaits : (k : ℕ) (s : Replica) (j : ℕ) (q : Request) (rs : List Row)
      → steps_in (at k (margin_of s) s (suc j) false q (asked s q rs)) ls
      ≡ steps_for s k (beside (Ask q) (joined rs (rows_at (suc j) ls)) ∷ happenings (suc j) ls)
  -- One that came was none.
  pub spoilt : (k : ℕ) (s : Replica) (j : ℕ) (q : Request) (rows : Rows)
      → steps_in (at k (margin_of s) s (suc j) true q rows) ls ≡ steps_for s k (None ∷ happenings (suc j) ls)

-- ---- the lines are used up

-- Rows are awaited: "if one is missing .., the Q gets 19".
missing : (k : ℕ) (s : Replica) (j : ℕ) (spoiled : Bool) (q : Request) (rows : Rows)
    → steps_in (at k (margin_of s) s (suc j) spoiled q rows) [] ≡ steps_for s k (None ∷ [])
missing k s j spoiled q rows =
    ap (λ (b : Bool). cond b (numbered (next_event k) (refused 19 s) (margin_of s) ∷ []) []) (lt-ltb 0 (suc j) (omega arith))

agree_none : Agree []
unfolding happenings rows_at
agree_none = record {
  idle = λ k s spoiled q rows. refl;
  awaits = λ k s j q rs. missing k s j false q (asked s q rs);
  spoilt = λ k s j q rows. missing k s j true q rows;
}

-- ---- a line more

-- The steps from a line on, once it is sorted.
abbrev steps_from : State → Sorted → List (List ℕ) → List Numbered
steps_from st e ls = steps_by st e (steps_in (state_by st e) ls)

-- Where rows are awaited then, none yet.
waits : (st : State) (e : Event) (j : ℕ) (spoiled : Bool) (ls : List (List ℕ))
    → steps_from st (sorted_as e (suc j) spoiled) ls ≡ steps_in (waiting st (sorted_as e (suc j) spoiled)) ls
waits st e j spoiled ls = ap go (lt-ltb 0 (suc j) (omega arith))
  where
    x : Sorted
    x = sorted_as e (suc j) spoiled

    go : Bool → List Numbered
    go b =
        let later = steps_in (cond b (waiting st x) (stepped st x (step_in st x))) ls in
        cond b later (numbered_in st x ∷ later)

-- The margin of a message's step is counted again only where an A is taken.
heard_margin : (s : Replica) (m : Message) → margin_after (Event.Heard m) (heard s m) (margin_of s) ≡ margin_of (heard s m).next
heard_margin s Start = sym (start_margin s)
heard_margin s (Enter v) = sym (enter_margin s v)
heard_margin s (Propose p) = sym (propose_margin s p)
heard_margin s (Acknowledge a) = acknowledge_counts s a
heard_margin s (Cast r) = sym (cast_margin s r)
heard_margin s (Ask q) = refl
heard_margin s (Confirm c) = sym (confirm_margin s c)

module _ (ls : List (List ℕ)) (agree : Agree ls) (k : ℕ) (s : Replica) where
  -- An event: the step that 01 asks for, and the margin of the replica that it hands back.
  due : (h : Happening) (t : Step) (m : ℤ) (spoiled : Bool) (q : Request) (rows : Rows) → t ≡ step_for s h → m ≡ margin_of t.next
      → numbered (next_event k) t m ∷ steps_in (at (next_event k) m t.next 0 spoiled q rows) ls ≡ steps_for s k (h ∷ happenings 0 ls)
  due h t m spoiled q rows e f =
      ap (λ (x : ℤ). numbered (next_event k) t x ∷ steps_in (at (next_event k) x t.next 0 spoiled q rows) ls) f
      ∙ ap (λ (l : List Numbered). numbered (next_event k) t (margin_of t.next) ∷ l) (agree.idle (next_event k) t.next spoiled q rows)
      ∙ ap (λ (x : Step). numbered (next_event k) x (margin_of x.next) ∷ steps_for x.next (next_event k) (happenings 0 ls)) e

  -- A Q whose rows all came.
  ask_due : (q : Request) (rs : List Row) (rows : Rows) → rows ≡ asked s q rs
      → numbered (next_event k) (ask_with s q rows) (margin_of s)
      ∷ steps_in (at (next_event k) (margin_of s) (ask_with s q rows).next 0 false q rows) ls
      ≡ steps_for s k (Some (Ask q, rs) ∷ happenings 0 ls)
  ask_due q rs rows e =
      let is : ask_with s q rows ≡ ask_step s q rs = ap (ask_with s q) e ∙ gathered_asked s q rs in
      due (Some (Ask q, rs)) (ask_with s q rows) (margin_of s) false q rows is
      (sym (ask_margin s q rs) ∙ ap (λ (t : Step). margin_of t.next) (sym is))

  -- Behind a line that is no row.
  spoils : (left j : ℕ) (was : Bool) (q : Request) (rows : Rows)
      → steps_from (at k (margin_of s) s left was q rows) (spoiled_row j) ls ≡ steps_for s k (None ∷ happenings j ls)
  spoils left zero was q rows = due None (refused 19 s) (margin_of s) true q rows refl refl
  spoils left (suc j) was q rows = waits (at k (margin_of s) s left was q rows) Event.Unread j true ls ∙ agree.spoilt k s j q rows

  -- Behind a line that is a row of the Q, or is none.
  rows_go_on : (left j : ℕ) (q : Request) (rs : List Row) (x : Option Row)
      → steps_from (at k (margin_of s) s left false q (asked s q rs)) (row_or_none x j) ls
      ≡ steps_for s k (beside (Ask q) (joined rs (before x (rows_at j ls))) ∷ happenings j ls)
  unfolding rows_at
  rows_go_on left j q rs None = spoils left j false q (asked s q rs)
  rows_go_on left zero q rs (Some r) = ask_due q (rs ++ (r ∷ [])) (added (asked s q rs) r) (asked_more s q rs r)
  rows_go_on left (suc j) q rs (Some r) =
      waits (at k (margin_of s) s left false q (asked s q rs)) (Event.Row r) j false ls
      ∙ ap (λ (t : Rows). steps_in (at k (margin_of s) s (suc j) false q t) ls) (asked_more s q rs r)
      ∙ agree.awaits k s j q (rs ++ (r ∷ []))
      ∙ ap (λ (x : Option (List Row)). steps_for s k (beside (Ask q) x ∷ happenings (suc j) ls)) (joined_more rs r (rows_at (suc j) ls))

  -- A Q, and how many rows it awaits.
  opens : (was : Bool) (old : Request) (rows : Rows) (q : Request) (n : ℕ)
      → steps_from (at k (margin_of s) s 0 was old rows) (sorted_as (Event.Opened q) n false) ls
      ≡ steps_for s k (beside (Ask q) (rows_at n ls) ∷ happenings n ls)
  unfolding rows_at
  opens was old rows q zero = ask_due q [] (asked s q []) refl
  opens was old rows q (suc j) =
      waits (at k (margin_of s) s 0 was old rows) (Event.Opened q) j false ls
      ∙ agree.awaits k s j q []
      ∙ ap (λ (x : Option (List Row)). steps_for s k (beside (Ask q) x ∷ happenings (suc j) ls)) (joined_none (rows_at (suc j) ls))

  module _ (was : Bool) (q : Request) (rows : Rows) where
    -- Any other message.
    hears : (m : Message) (h : Happening) → heard s m ≡ step_for s h
        → steps_from (at k (margin_of s) s 0 was q rows) (heard_as m) ls ≡ steps_for s k (h ∷ happenings 0 ls)
    hears m h e = due h (heard s m) (margin_after (Event.Heard m) (heard s m) (margin_of s)) false q rows e (heard_margin s m)

    event_line_lem : (l : Option Message)
        → steps_from (at k (margin_of s) s 0 was q rows) (sorted_line l) ls ≡ steps_for s k (happening l ls ∷ happenings (rows_used l) ls)
    unfolding sorted_line
    event_line_lem (Some (Ask p)) = opens was q rows p p.count
    event_line_lem (Some Start) = hears Start (Some (Start, [])) refl
    event_line_lem (Some (Enter v)) = hears (Enter v) (Some (Enter v, [])) refl
    event_line_lem (Some (Propose p)) = hears (Propose p) (Some (Propose p, [])) refl
    event_line_lem (Some (Acknowledge a)) = hears (Acknowledge a) (Some (Acknowledge a, [])) refl
    event_line_lem (Some (Cast r)) = hears (Cast r) (Some (Cast r, [])) refl
    event_line_lem (Some (Confirm c)) = hears (Confirm c) (Some (Confirm c, [])) refl
    event_line_lem None = due None (refused 19 s) (margin_of s) false q rows refl refl

-- A line where rows are awaited.
row_sorted : (l : Option Message) (j : ℕ) (spoiled : Bool) → sorted l (suc j) spoiled ≡ sorted_row l j spoiled
unfolding sorted
row_sorted l j spoiled =
    let less : suc j - 1 ≡ j = omega arith in
    ap₂ (λ (b : Bool) (i : ℕ). cond b (sorted_row l i spoiled) (sorted_line l)) (lt-ltb 0 (suc j) (omega arith)) less

awaited : (st : State) (l : List ℕ) (ls : List (List ℕ)) (j : ℕ) → st.left ≡ suc j → st.cut ≡ false
    → steps_in st (l ∷ ls) ≡ steps_from st (sorted_row (read_line l) j st.spoiled) ls
unfolding state_after
awaited st l ls j e f =
    ap (λ (x : Sorted). steps_from st x ls)
    (ap₂ (λ (b : Bool) (left : ℕ). sorted (read_unless b l) left st.spoiled) f e ∙ row_sorted (read_line l) j st.spoiled)

agree_more : (l : List ℕ) (ls : List (List ℕ)) → Agree ls → Agree (l ∷ ls)
unfolding happenings rows_at state_after sorted sorted_row
agree_more l ls agree = record {
  idle = λ k s spoiled q rows. event_line_lem ls agree k s spoiled q rows (read_line l);
  awaits = λ k s j q rs.
      let st = at k (margin_of s) s (suc j) false q (asked s q rs) in
      awaited st l ls j refl refl
      ∙ ap (λ (x : Sorted). steps_from st x ls) (row_in_lem (read_line l) j)
      ∙ rows_go_on ls agree k s (suc j) j q rs (as_row (read_line l));
  spoilt = λ k s j q rows.
      awaited (at k (margin_of s) s (suc j) true q rows) l ls j refl refl
      ∙ spoils ls agree k s (suc j) j true q rows;
}

agree : (ls : List (List ℕ)) → Agree ls
agree [] = agree_none
agree (l ∷ ls) = agree_more l ls (agree ls)

-- From any replica on.
pub line_by_line : (s : Replica) (ls : List (List ℕ)) → steps_in (resumed s) ls ≡ steps_for s 0 (happenings 0 ls)
line_by_line s ls = (agree ls).idle 0 s false no_request (no_rows 0 0 (record { 0 = 0 }))
