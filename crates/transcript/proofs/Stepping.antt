-- What a line does and prints, in plain values.
use Rattle.std.proofs.Common.{Option, Some, None}
use Prim.Native.Nat.{ℕ, ◌≤◌, ◌<◌}
use mathlib.Core.Path.{◌≡◌, refl, sym, ap, ap₂, ◌∙◌}
use mathlib.Core.Bool.{Bool, false, cond}
use mathlib.Core.List.{List, []}
use lib.IntN.{ℤ}
use borrow.Author.Tests.{lt-ltb, le-ltb}
use Rattle.text.specs.Put.{Puts}
use Rattle.text.specs.PutLaws.{become, put_then}
use Rattle.votes.specs.declared.Row.{Row}
use Rattle.votes.specs.declared.Rows.{Rows}
use Rattle.messages.specs.declared.Message.TheVariants.{Start, Enter, Propose, Acknowledge, Cast, Ask, Confirm}
use Rattle.messages.specs.declared.Request.{Request}
use Rattle.replica.specs.declared.Replica.{Replica}
use Rattle.replica.specs.declared.Step.{Step}
use Rattle.replica.specs.Steps.{request_rows}
use Rattle.transcript.specs.declared.State.{State}
use Rattle.transcript.specs.declared.sort.Event.{Event}
use Rattle.transcript.specs.declared.sort.Sorted.{Sorted}
use Rattle.transcript.specs.Printed.{event_line, rows_behind, row_lines, printed, sends_ask}
use Rattle.transcript.specs.Feeding.{sort_in, step_after, margin_after, next_event, waiting, step_in, stepped, state_by, text_by, state_after, text_of}
use Rattle.transcript.proofs.Meeting.{Taken, Made}
use Rattle.messages.specs.declared.Message.{Message}

abbrev pub standing : ℕ → ℤ → ℕ → Bool → Bool → Request → Replica → Rows → State
standing events m left spoiled cut request replica rows = record {
  events = events;
  margin = m;
  left = left;
  spoiled = spoiled;
  cut = cut;
  request = request;
  replica = replica;
  rows = rows;
}

-- ---- a line of which e was made
module _ (st : State) (l : List ℕ) {e : Sorted} {event : Event} {request : Request} {rows : Rows} (is : e ≡ sort_in st l)
    (took : Taken e.event st.replica st.request st.rows event request rows) where
  -- More rows are awaited.
  pub waits : 0 < e.left
      → (standing st.events st.margin e.left e.spoiled false request st.replica rows ≡ state_after st l) × (text_of st l ≡ [])
  unfolding state_after text_of
  waits h =
      let now : state_by st e ≡ waiting st e = simp (lt-ltb 0 e.left h) in
      let text : text_by st e ≡ [] = simp (lt-ltb 0 e.left h) in
      let then : standing st.events st.margin e.left e.spoiled false request st.replica rows ≡ waiting st e =
      rw (took.opened, took.gathered) in
      (then ∙ sym now ∙ ap (state_by st) is, ap (text_by st) (sym is) ∙ text)

  -- An event is due, and its step is t.
  pub steps : e.left ≤ 0 → {t : Step} {m : ℤ} {k : ℕ} → Made event st.replica request rows st.margin t m → k ≡ next_event st.events
      → (standing k m e.left e.spoiled false request t.next rows ≡ state_after st l) × (text_of st l ≡ printed k t m)
  unfolding state_after text_of
  steps h {t} {m} {k} made next =
      let u = step_in st e in
      let n = margin_after e.event u st.margin in
      let now : state_by st e ≡ stepped st e u = simp (le-ltb 0 e.left h) in
      let text : text_by st e ≡ printed (next_event st.events) u n = simp (le-ltb 0 e.left h) in
      let due : step_after event st.replica request rows ≡ u = rw (took.same, took.opened, took.gathered) in
      let step = made.step ∙ due in
      let counted : m ≡ n = made.counted ∙ ap₂ (λ (x : Event) (y : Step). margin_after x y st.margin) took.same due in
      let then : standing k m e.left e.spoiled false request t.next rows ≡ stepped st e u =
      rw (next, counted, took.opened, took.gathered, step) in
      let told : printed k t m ≡ printed (next_event st.events) u n = rw (next, counted, step) in
      (then ∙ sym now ∙ ap (state_by st) is, ap (text_by st) (sym is) ∙ text ∙ sym told)

-- ---- what is printed of an event

rows_behind_lem : (x : Option Message) (rows : List Row) → cond (sends_ask x) (row_lines rows) [] ≡ rows_behind x rows
rows_behind_lem None rows = refl
rows_behind_lem (Some Start) rows = refl
rows_behind_lem (Some (Enter v)) rows = refl
rows_behind_lem (Some (Propose p)) rows = refl
rows_behind_lem (Some (Acknowledge a)) rows = refl
rows_behind_lem (Some (Cast r)) rows = refl
rows_behind_lem (Some (Ask q)) rows = refl
rows_behind_lem (Some (Confirm c)) rows = refl

-- Its line, and then the rows where a Q goes out.
pub put_printed : (k : ℕ) (t : Step) (m : ℤ) {b : List ℕ} {p r : ℕ} {c : List ℕ} {q : ℕ} {d : List ℕ} {asks : Bool}
    → Puts b p (event_line k t.number t.decided m t.sent) r c → sends_ask t.sent ≡ asks
    → Puts c r (cond asks (row_lines (request_rows t.next)) []) q d → Puts b p (printed k t m) q d
put_printed k t m {b} {p} {r} {c} {q} {d} {asks} line is rows =
    let sent = request_rows t.next in
    let same = ap (λ (x : Bool). cond x (row_lines sent) []) (sym is) ∙ rows_behind_lem t.sent sent in
    put_then b p (event_line k t.number t.decided m t.sent) r c (rows_behind t.sent sent) q d line
    (become c r (cond asks (row_lines sent) []) (rows_behind t.sent sent) q d same rows)
