-- The program `trace`: a run of these steps prints the transcript of the whole, and every input has one.
-- In crates/trace/src/main.rt `read_more` is the step `read`, `begin` is `begin`, `feed` is `feed`, `cut_line` is `cut`, `finish` is
-- `finish`, and `put_refusal` is `bad`, `long` or `missing`.
use Rattle.std.specs.Prelude.{ℕ, zero, suc, ◌≤◌, ◌<◌, ◌≡◌, refl, Bool, true, false, not, cond, List, [], ◌∷◌, ◌++◌, eqb, length, drop}
use Rattle.std.proofs.Common.{sym, ap, subst, ◌∙◌, append_assoc, append-nil, arith, length-append, length-drop, eq-eqb, ne_eqb, eqb-true}
use Rattle.std.proofs.lemmas.Bool.{eqb-false}
use Rattle.base.specs.Tests.{true≢false}
use Rattle.text.specs.Fields.{lf, line_end}
use Rattle.messages.specs.Longest.{longest_read}
use Rattle.transcript.specs.declared.State.{State}
use Rattle.transcript.specs.Texts.{lines_of}
use Rattle.transcript.specs.Transcript.{bad_setup, transcript}
use Rattle.transcript.specs.Feeding.{last_event, event_room, Ran, ran, begun_by, cut_state, last_text}
use Rattle.transcript.specs.LineLaws.{has_end, first_end}
use Rattle.transcript.specs.RestLaws.{rest}
use Rattle.transcript.specs.BeginLaws.{begins_whole, ends_setup, cut_setup}
use Rattle.transcript.specs.PieceLaws.{too_long, ends, drops, pieces, stalls}

-- ---- a run behind its H

-- Where it stands, the bytes that it holds, those still to come, and what it prints from there on.
pub data Feeds : State → List ℕ → List ℕ → List ℕ → Type 0 where
  -- A piece is read.
  read : (st : State) (held piece later out : List ℕ) → Feeds st (held ++ piece) later out → Feeds st held (piece ++ later) out
  -- The whole lines held are fed, as far as there is room.
  feed : (st : State) (held later out : List ℕ) (room : ℕ)
      → Feeds (ran st (lines_of held) room).state (drop (ran st (lines_of held) room).used held) later out
      → Feeds st held later ((ran st (lines_of held) room).text ++ out)
  -- What is held of a line that is too long is dropped.
  cut : (st : State) (held later out : List ℕ) → has_end held ≡ false → too_long st held ≡ true → Feeds (cut_state st) [] later out
      → Feeds st held later out
  -- The input is over.
  finish : (st : State) (held : List ℕ) → has_end held ≡ false → Feeds st held [] (last_text st (not (eqb (length held) 0)))

feeds_on : {st : State} {held later out : List ℕ} → Feeds st held later out → out ≡ rest st (lines_of (held ++ later))
feeds_on (read st held piece later out f) = feeds_on f ∙ ap (λ (t : List ℕ). rest st (lines_of t)) (append_assoc held piece later)
feeds_on (feed st held later out room f) =
    ap (λ (t : List ℕ). (ran st (lines_of held) room).text ++ t) (feeds_on f) ∙ sym (pieces st held later room)
feeds_on (cut st held later out n h f) = feeds_on f ∙ sym (drops st held later n h)
feeds_on (finish st held n) = sym (ap (λ (t : List ℕ). rest st (lines_of t)) (append-nil held) ∙ ends st held n)

-- ---- a run

-- The bytes that it holds, those still to come, and what it prints.
pub data Traces : List ℕ → List ℕ → List ℕ → Type 0 where
  -- A piece is read.
  read : (held piece later out : List ℕ) → Traces (held ++ piece) later out → Traces held (piece ++ later) out
  -- H is there, and good.
  begin : (w held later out : List ℕ) → has_end w ≡ false → (begun_by (w ++ line_end)).number ≡ 0
      → Feeds (begun_by (w ++ line_end)).state held later out → Traces (w ++ (lf ∷ held)) later out
  -- It is bad, and the run ends.
  bad : (w held later : List ℕ) → has_end w ≡ false → ((begun_by (w ++ line_end)).number ≡ 0 → ⊥)
      → Traces (w ++ (lf ∷ held)) later (bad_setup (begun_by (w ++ line_end)).number)
  -- It is too long, or missing: `begin` is handed no line, and the run ends.
  long : (held later : List ℕ) → has_end held ≡ false → longest_read < length held → Traces held later (bad_setup (begun_by []).number)
  missing : (held : List ℕ) → has_end held ≡ false → Traces held [] (bad_setup (begun_by []).number)

started : (w held later : List ℕ) (b : Bool) → has_end w ≡ false → eqb (begun_by (w ++ line_end)).number 0 ≡ b
    → length ((w ++ (lf ∷ held)) ++ later) ≤ last_event
    → transcript ((w ++ (lf ∷ held)) ++ later)
    ≡ cond b (rest (begun_by (w ++ line_end)).state (lines_of (held ++ later))) (bad_setup (begun_by (w ++ line_end)).number)
started w held later b n e small =
    let same = append_assoc w (lf ∷ held) later in
    let o = begun_by (w ++ line_end) in
    ap transcript same
    ∙ begins_whole w (held ++ later) n (omega (arith, ap length same, length-append w (lf ∷ (held ++ later))))
    ∙ ap (λ (c : Bool). cond c (rest o.state (lines_of (held ++ later))) (bad_setup o.number)) e

-- A run prints what 01 asks for, of the bytes that it holds and those still to come.
pub by_pieces : {held later out : List ℕ} → Traces held later out → length (held ++ later) ≤ last_event
    → out ≡ transcript (held ++ later)
by_pieces (read held piece later out r) small =
    by_pieces r (omega (arith, ap length (append_assoc held piece later))) ∙ ap transcript (append_assoc held piece later)
by_pieces (begin w held later out n z f) small =
    sym (started w held later true n (eq-eqb (begun_by (w ++ line_end)).number 0 z) small ∙ sym (feeds_on f))
by_pieces (bad w held later n z) small = sym (started w held later false n (ne_eqb (begun_by (w ++ line_end)).number 0 z) small)
by_pieces (long held later n h) small = sym (cut_setup held later n h)
by_pieces (missing held n) small = sym (ap transcript (append-nil held) ∙ ends_setup held n)

-- ---- every input has a run

-- Behind its H: the lines held are fed, with room for one event at a time. Each turn uses some bytes, so `turns` are enough.
run_behind : (turns : ℕ) (st : State) (held : List ℕ) → length held < turns → (out : List ℕ) × Feeds st held [] out
run_behind zero st held h = absurd (omega arith)
run_behind (suc turns) st held h = go (has_end held) refl (run_behind turns)
  where
    r : Ran
    r = ran st (lines_of held) event_room

    go : (c : Bool) → has_end held ≡ c → ((st : State) (held : List ℕ) → length held < turns → (out : List ℕ) × Feeds st held [] out)
        → (out : List ℕ) × Feeds st held [] out
    go false n later = (last_text st (not (eqb (length held) 0)), finish st held n)
    go true n later =
        let e = first_end held n in
        let some : 0 < length held = omega (arith, ap length e.is, length-append e.front (lf ∷ e.behind)) in
        let used : r.used ≡ 0 → ⊥ = λ u. true≢false (sym n ∙ stalls st held event_room (omega arith) u) in
        let f = later r.state (drop r.used held) (omega (arith, length-drop r.used held)) in
        (r.text ++ f.0, feed st held [] f.0 event_room f.1)

-- From its H on.
run_with : (w held : List ℕ) → has_end w ≡ false → (out : List ℕ) × Traces (w ++ (lf ∷ held)) [] out
run_with w held n = go (eqb (begun_by (w ++ line_end)).number 0) refl
  where
    go : (b : Bool) → eqb (begun_by (w ++ line_end)).number 0 ≡ b → (out : List ℕ) × Traces (w ++ (lf ∷ held)) [] out
    go true z =
        let f = run_behind (suc (length held)) (begun_by (w ++ line_end)).state held (omega arith) in
        (f.0, begin w held [] f.0 n (eqb-true (begun_by (w ++ line_end)).number 0 z) f.1)
    go false z =
        (bad_setup (begun_by (w ++ line_end)).number, bad w held [] n (eqb-false (begun_by (w ++ line_end)).number 0 z))

-- From where all was read.
run_of : (held : List ℕ) → (out : List ℕ) × Traces held [] out
run_of held = go (has_end held) refl
  where
    go : (c : Bool) → has_end held ≡ c → (out : List ℕ) × Traces held [] out
    go false n = (bad_setup (begun_by []).number, missing held n)
    go true n =
        let e = first_end held n in
        subst (λ (t : List ℕ). (out : List ℕ) × Traces t [] out) (sym e.is) (run_with e.front e.behind e.none)

-- Every input has a run: the one that reads all of it at once.
pub traced : (t : List ℕ) → length t ≤ last_event → Traces [] t (transcript t)
traced t small =
    let r = run_of t in
    let all : Traces [] t r.0 = subst (λ (later : List ℕ). Traces [] later r.0) (append-nil t) (read [] t [] r.0 r.1) in
    subst (Traces [] t) (by_pieces all small) all
