-- The loop over the lines, in plain values: what it keeps, how a line carries it on, and what it comes to.
use Prim.Native.Nat.{ℕ, ◌+◌, ◌-◌, ◌≤◌, ◌<◌}
use mathlib.Core.Path.{◌≡◌, refl, sym, ap, ap₂, ◌∙◌}
use mathlib.Core.Bool.{Bool, true, false, ◌&&◌, cond}
use mathlib.Core.List.{List, [], ◌∷◌, ◌++◌, append-nil, append_assoc}
use native.Mathlib.Omega.{arith}
use native.Mathlib.Nat.{add-zero, zero-add, add_assoc}
use lib.Dec.{leb}
use lib.ListN.{length, drop, take}
use lib.Seq.{sets-eq}
use borrow.Author.Tests.{le-leb, lt-leb}
use Rattle.text.specs.Put.{Puts}
use Rattle.text.specs.PutLaws.{put_then}
use Rattle.messages.specs.Writer.{lent}
use Rattle.transcript.specs.declared.State.{State}
use Rattle.transcript.specs.declared.feed.Fed.{Fed}
use Rattle.transcript.specs.Texts.{lines_of}
use Rattle.transcript.specs.TextLaws.{LineAt, NoLine, line_left}
use Rattle.transcript.specs.Feeding.{whole, event_room, Ran, ran_on, ran, fed_of, state_after, text_of}

-- A run behind text that was put already.
abbrev behind : ℕ → List ℕ → Ran → Ran
behind at t r = record { state = r.state; used = at + r.used; text = t ++ r.text }

abbrev stopped : State → Ran
stopped st = record { state = st; used = 0; text = [] }

-- ---- where a run stops

-- An event has no room.
ran_full : (st : State) (ls : List (List ℕ)) (room : ℕ) → room < event_room → ran st ls room ≡ stopped st
unfolding ran
ran_full st [] room h = refl
ran_full st (l ∷ ls) room h = simp (lt-leb event_room room h)

-- No whole line is left.
ran_out : (st : State) (t : List ℕ) (room : ℕ) → NoLine t → ran st (lines_of t) room ≡ stopped st
unfolding ran
ran_out st t room none = ap (λ (ls : List (List ℕ)). ran st ls room) none.lines ∙ alone t none.ends
  where
    unless : (b : Bool) (x : Ran) → cond (b && false) x (stopped st) ≡ stopped st
    unless true x = refl
    unless false x = refl

    alone : (l : List ℕ) → whole l ≡ false → ran st (line_left l) room ≡ stopped st
    alone [] e = refl
    alone (b ∷ bs) e = rw e (unless (leb event_room room) _)

-- A whole line that has room.
ran_line : (st : State) (l : List ℕ) (ls : List (List ℕ)) (room : ℕ) → event_room ≤ room → whole l ≡ true
    → ran st (l ∷ ls) room ≡ ran_on l (text_of st l) (ran (state_after st l) ls (room - length (text_of st l)))
unfolding ran
ran_line st l ls room h w = simp (le-leb event_room room h, w)

-- ---- what the loop keeps

-- The whole run is the text that was put, and then the run over the lines that are left.
pub record Going (st₀ : State) (s out₀ : List ℕ) (st : State) (at put : ℕ) (out : List ℕ) : Type 0 where
  pub text : List ℕ
  pub all : ran st₀ (lines_of s) (length out₀) ≡ behind at text (ran st (lines_of (drop at s)) (length out₀ - put))
  pub puts : Puts out₀ 0 text put out
  pub fits : put ≤ length out₀
  pub inside : at ≤ length s

-- What is answered, and the lent memory afterwards.
abbrev pub Comes : State → List ℕ → List ℕ → State → ℕ → ℕ → List ℕ → Type 0
Comes st₀ s out₀ st at put out =
    (◌≡◌ {A = Fed} (record { used = at; put = put; state = st }) (fed_of (ran st₀ (lines_of s) (length out₀))))
    × (out ≡ lent out₀ (ran st₀ (lines_of s) (length out₀)).text)

module _ {st₀ : State} {s out₀ : List ℕ} {st : State} {at put : ℕ} {out : List ℕ} (g : Going st₀ s out₀ st at put out) where
  -- The line that is there, and the text that is put for it.
  pub going_on : {e : ℕ} {next : State} {t : List ℕ} {put' : ℕ} {out' : List ℕ} → put + event_room ≤ length out → LineAt s at e
      → next ≡ state_after st (take (e - at) (drop at s)) → text_of st (take (e - at) (drop at s)) ≡ t
      → Puts out put t put' out' → put' ≤ length out → Going st₀ s out₀ next e put' out'
  going_on {e} {next} {t} {put'} {out'} room line n told p fits =
      let l = take (e - at) (drop at s) in
      let same = g.puts.same in
      let left : length out₀ - put - length t ≡ length out₀ - put' = omega (arith, p.place) in
      let passed : at + length l ≡ e = omega (arith, line.size, line.some) in
      let rest = lines_of (drop e s) in
      let room' = length out₀ - put in
      record {
        text = g.text ++ t;
        all =
            g.all ∙ ap (λ (ls : List (List ℕ)). behind at g.text (ran st ls room')) line.lines
            ∙ ap (behind at g.text) (ran_line st l rest room' (omega arith) line.ends)
            ∙ ap (λ (u : List ℕ). behind at g.text (ran_on l u (ran (state_after st l) rest (room' - length u)))) told
            ∙ ap (λ (k : ℕ). behind at g.text (ran_on l t (ran (state_after st l) rest k))) left
            ∙ ap (λ (x : State). behind at g.text (ran_on l t (ran x rest (length out₀ - put')))) (sym n)
            ∙ joined (ran next rest (length out₀ - put')) l
            ∙ ap (λ (k : ℕ). behind k (g.text ++ t) (ran next rest (length out₀ - put'))) passed;
        puts = put_then out₀ 0 g.text put out t put' out' g.puts p;
        fits = omega arith;
        inside = line.fits;
      }
    where
      joined : (r : Ran) (l : List ℕ) → behind at g.text (ran_on l t r) ≡ behind (at + length l) (g.text ++ t) r
      joined r l =
          ap₂ (λ (k : ℕ) (x : List ℕ). record { state = r.state; used = k; text = x }) (sym (add_assoc at (length l) r.used))
          (sym (append_assoc g.text t r.text))

  -- ---- what it comes to

  going_stops : ran st (lines_of (drop at s)) (length out₀ - put) ≡ stopped st → Comes st₀ s out₀ st at put out
  going_stops h =
      let none = zero-add (length g.text) in
      let all = g.all ∙ ap (behind at g.text) h in
      let text : g.text ≡ (ran st₀ (lines_of s) (length out₀)).text = sym (ap (λ (r : Ran). r.text) all ∙ append-nil g.text) in
      let fed : ◌≡◌ {A = Fed} (record { used = at; put = put; state = st }) (fed_of (behind at g.text (stopped st))) =
      ap₂ (λ (u p : ℕ). record { used = u; put = p; state = st }) (sym (add-zero at))
      (g.puts.place ∙ none ∙ ap length (sym (append-nil g.text))) in (
        fed ∙ ap fed_of (sym all),
        g.puts.bytes (omega (arith, g.puts.place)) ∙ sets-eq g.text out₀ 0 (omega (arith, g.puts.place))
            ∙ ap (λ (k : ℕ). g.text ++ drop k out₀) none ∙ ap (lent out₀) text,
      )

  pub going_full : length out < put + event_room → Comes st₀ s out₀ st at put out
  going_full h = going_stops (ran_full st (lines_of (drop at s)) (length out₀ - put) (omega (arith, g.puts.same, g.fits)))

  pub going_out : NoLine (drop at s) → Comes st₀ s out₀ st at put out
  going_out none = going_stops (ran_out st (drop at s) (length out₀ - put) none)
