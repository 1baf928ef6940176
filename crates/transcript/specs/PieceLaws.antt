-- Lines that come in pieces: what is fed of a piece, what is dropped of a line that is too long, and what is left at the end.
use Rattle.std.specs.Prelude.{ℕ, zero, suc, ◌+◌, ◌-◌, ◌≤◌, ◌<◌, ◌≡◌, Bool, true, false, not, ◌&&◌, ◌||◌, cond, eqb, leb, ltb, drop, None}
use Rattle.std.proofs.Math.Path.{refl, ap}
use Rattle.std.proofs.Common.{sym, subst, ◌∙◌, arith, length-append, ltb-true, le-leb, ne_eqb}
use mathlib.Core.List.{List, [], ◌∷◌, ◌++◌, append_assoc, append-nil}
use Rattle.std.proofs.Math.Dec.{eqb-suc-zero}
use Rattle.std.proofs.Math.ListN.{length}
use Rattle.std.proofs.Math.Seq.{drop-append-add}
use Rattle.base.specs.Tests.{true≢false, and_true, or_r}
use Rattle.messages.specs.Longest.{longest_read}
use Rattle.messages.specs.Reader.{read_line}
use Rattle.transcript.specs.declared.State.{State}
use Rattle.transcript.specs.declared.sort.Sorted.{Sorted}
use Rattle.transcript.specs.Texts.{lines_of}
use Rattle.transcript.specs.Feeding.{read_unless, next_event, state_after, text_of}
use Rattle.transcript.specs.Feeding.{whole, event_room, Ran, ran_on, ran, cut_state, last_text}
use Rattle.transcript.specs.LineLaws.{has_end, lines_none, lines_front, lines_alone, open_end, first_open, first_whole, no_end, too_long_lem}
use Rattle.transcript.specs.RestLaws.{rest, after, unread, unread_sorted, unread_last, unread_line}

-- ---- the input is over

unless_malformed : (c : Bool) (l : List ℕ) → read_line l ≡ None → read_unless c l ≡ None
unless_malformed true l e = refl
unless_malformed false l e = e

-- "a last line without LF too, is an event with 19"
pub ends : (st : State) (w : List ℕ) → has_end w ≡ false → rest st (lines_of w) ≡ last_text st (not (eqb (length w) 0))
unfolding lines_of last_text
ends st [] n = refl
ends st (b ∷ bs) n =
    ap (rest st) (lines_alone b bs n)
    ∙ unread_line st (b ∷ bs) [] (unless_malformed st.cut (b ∷ bs) (no_end (b ∷ bs) n))
    ∙ ap (λ (x : Sorted). after st x []) (unread_sorted st.left st.spoiled)
    ∙ unread_last st (st.left - 1) (ltb 0 st.left)
    ∙ sym (ap (λ (c : Bool). last_text st (not c)) (eqb-suc-zero (length bs)))

-- ---- a line that is too long

-- "The longest is 80 characters before the LF": more bytes without one than any line has, or any where the front was dropped.
abbrev pub too_long : State → List ℕ → Bool
too_long st w = st.cut || ltb (longest_read) (length w)

long_malformed : (c : Bool) (w l : List ℕ) → (c || ltb (longest_read) (length w)) ≡ true → read_unless c (w ++ l) ≡ None
long_malformed true w l h = refl
long_malformed false w l h = too_long_lem (w ++ l) (omega (arith, length-append w l, ltb-true (longest_read) (length w) h))

-- It is not over before it began.
long_some : (c : Bool) (w : List ℕ) → (c || ltb (longest_read) (length w)) ≡ true → (not (eqb (length w) 0) || c) ≡ true
long_some true w h = or_r (not (eqb (length w) 0)) true refl
long_some false w h =
    let long = ltb-true (longest_read) (length w) h in
    ap (λ (b : Bool). not b || false) (ne_eqb (length w) 0 (λ z. omega arith))

-- What is there of it may be dropped.
pub drops : (st : State) (w more : List ℕ) → has_end w ≡ false → too_long st w ≡ true
    → rest st (lines_of (w ++ more)) ≡ rest (cut_state st) (lines_of more)
unfolding last_text text_of state_after
drops st w more n h = go (lines_of more) refl
  where
    go : (ls : List (List ℕ)) → lines_of more ≡ ls → rest st (lines_of (w ++ more)) ≡ rest (cut_state st) ls
    go [] e =
        ap (λ (t : List ℕ). rest st (lines_of t)) (ap (λ (t : List ℕ). w ++ t) (lines_none more e) ∙ append-nil w)
        ∙ ends st w n
        ∙ ap (λ (b : Bool). cond (b || ltb 0 st.left) (unread (next_event st.events) st.margin) []) (long_some st.cut w h)
    go (l ∷ ls) e = ap (rest st) (lines_front w more l ls n e) ∙ unread_line st (w ++ l) ls (long_malformed st.cut w l h)

-- ---- the whole lines of a piece

abbrev stopped : State → Ran
stopped st = record { state = st; used = 0; text = [] }

-- What holds of a run over the lines of a text: it stops where an event has no room or no LF is left, and else takes the first line.
module _ (P : State → List ℕ → ℕ → Ran → Type 0)
    (stops : (st : State) (s : List ℕ) (room : ℕ) → (event_room ≤ room → has_end s ≡ false) → P st s room (stopped st))
    (takes : (st : State) (l s : List ℕ) (room : ℕ) (later : Ran) → whole l ≡ true → ((t : List ℕ) → lines_of (l ++ t) ≡ l ∷ lines_of t)
    → P (state_after st l) s (room - length (text_of st l)) later → P st (l ++ s) room (ran_on l (text_of st l) later)) where
  ran_over : (ls : List (List ℕ)) (st : State) (s : List ℕ) (room : ℕ) → lines_of s ≡ ls → P st s room (ran st ls room)
  unfolding ran
  ran_over [] st s room e = stops st s room (λ enough. ap has_end (lines_none s e))
  ran_over (l ∷ ls) st s room e = go (leb event_room room && whole l) refl (ran_over ls)
    where
      later : Ran
      later = ran (state_after st l) ls (room - length (text_of st l))

      go : (c : Bool) → (leb event_room room && whole l) ≡ c
          → ((st : State) (s : List ℕ) (room : ℕ) → lines_of s ≡ ls → P st s room (ran st ls room))
          → P st s room (cond c (ran_on l (text_of st l) later) (stopped st))
      go false c rec =
          stops st s room (λ enough. first_open s l ls e (ap (λ (b : Bool). b && whole l) (sym (le-leb event_room room enough)) ∙ c))
      go true c rec =
          let w = (and_true (leb event_room room) (whole l) c).1 in
          let f = first_whole s l ls e w in
          subst (λ (x : List ℕ). P st x room (ran_on l (text_of st l) later)) (sym f.is)
          (takes st l f.behind room later w f.first (rec (state_after st l) f.behind (room - length (text_of st l)) f.others))

  pub runs : (st : State) (s : List ℕ) (room : ℕ) → P st s room (ran st (lines_of s) room)
  runs st s room = ran_over (lines_of s) st s room refl

-- However much of a piece is fed, the rest is told as if all had come at once.
pub pieces : (st : State) (s more : List ℕ) (room : ℕ)
    → rest st (lines_of (s ++ more))
    ≡ (ran st (lines_of s) room).text ++ rest (ran st (lines_of s) room).state (lines_of (drop (ran st (lines_of s) room).used s ++ more))
pieces st s more room = runs Tells (λ st s room none. refl) takes st s room
  where
    -- What was put, and what is still printed of the bytes that are left and of what follows.
    Tells : State → List ℕ → ℕ → Ran → Type 0
    Tells st s room r = rest st (lines_of (s ++ more)) ≡ r.text ++ rest r.state (lines_of (drop r.used s ++ more))

    takes : (st : State) (l s : List ℕ) (room : ℕ) (later : Ran) → whole l ≡ true → ((t : List ℕ) → lines_of (l ++ t) ≡ l ∷ lines_of t)
        → Tells (state_after st l) s (room - length (text_of st l)) later → Tells st (l ++ s) room (ran_on l (text_of st l) later)
    takes st l s room later w first tells =
        ap (λ (t : List ℕ). rest st (lines_of t)) (append_assoc l s more)
        ∙ ap (rest st) (first (s ++ more))
        ∙ ap (λ (t : List ℕ). text_of st l ++ t) tells
        ∙ sym (append_assoc (text_of st l) later.text (rest later.state (lines_of (drop later.used s ++ more))))
        ∙ ap (λ (t : List ℕ). (text_of st l ++ later.text) ++ rest later.state (lines_of (t ++ more))) (sym (drop-append-add l s later.used))

-- A whole line is not empty.
whole_some : (l : List ℕ) → whole l ≡ true → 0 < length l
whole_some [] w = true≢false (sym w)
whole_some (b ∷ bs) w = omega arith

-- Where an event has room and nothing is used, there is no LF.
pub stalls : (st : State) (s : List ℕ) (room : ℕ) → event_room ≤ room → (ran st (lines_of s) room).used ≡ 0 → has_end s ≡ false
stalls =
    runs (λ (st : State) (s : List ℕ) (room : ℕ) (r : Ran). event_room ≤ room → r.used ≡ 0 → has_end s ≡ false)
    (λ st s room none enough u. none enough)
    (λ st l s room later w first rec enough u. absurd (omega (arith, whole_some l w)))

-- Where an event has room behind all that was put, no LF is left.
pub no_line_left : (st : State) (s : List ℕ) (room : ℕ) → length (ran st (lines_of s) room).text + event_room ≤ room
    → has_end (drop (ran st (lines_of s) room).used s) ≡ false
no_line_left =
    runs (λ (st : State) (s : List ℕ) (room : ℕ) (r : Ran). length r.text + event_room ≤ room → has_end (drop r.used s) ≡ false)
    (λ st s room none enough. none (omega arith))
    (λ st l s room later w first rec enough.
    ap has_end (drop-append-add l s later.used) ∙ rec (omega (arith, length-append (text_of st l) later.text)))

-- No more is used than there is.
used_within : (st : State) (s : List ℕ) (room : ℕ) → (ran st (lines_of s) room).used ≤ length s
used_within =
    runs (λ (st : State) (s : List ℕ) (room : ℕ) (r : Ran). r.used ≤ length s)
    (λ st s room none. omega arith)
    (λ st l s room later w first rec. omega (arith, length-append l s))

whole_left : (s : List ℕ) (k : ℕ) → whole s ≡ true → has_end (drop k s) ≡ false → length s ≤ k
whole_left [] k w n = omega arith
whole_left (b ∷ bs) zero w n = true≢false (sym w ∙ open_end (b ∷ bs) n)
whole_left (b ∷ []) (suc k) w n = omega arith
whole_left (b ∷ (c ∷ cs)) (suc k) w n = omega (arith, whole_left (c ∷ cs) k w n)

-- A text whose last byte is an LF is then used up.
pub all_used : (st : State) (s : List ℕ) (room : ℕ) → whole s ≡ true → length (ran st (lines_of s) room).text + event_room ≤ room
    → (ran st (lines_of s) room).used ≡ length s
all_used st s room w enough =
    omega (arith, used_within st s room, whole_left s (ran st (lines_of s) room).used w (no_line_left st s room enough))

-- Every text has such a room.
pub enough_room : (st : State) (s : List ℕ) → (room : ℕ) × (length (ran st (lines_of s) room).text + event_room ≤ room)
enough_room st s =
    let room = length (rest st (lines_of (s ++ []))) + event_room in
    let r = ran st (lines_of s) room in
    (room, omega (arith, ap length (pieces st s [] room), length-append r.text (rest r.state (lines_of (drop r.used s ++ [])))))
