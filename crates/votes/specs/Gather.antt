-- Rows gathered one after the other choose as the list of them does.
use Rattle.std.specs.Prelude.{ℕ, ◌+◌, ◌≤◌, ◌<◌, Bool, true, false, not, ◌&&◌, ◌||◌, ◌≡◌, leb, ltb, length, Result, Ok, Err}
use Rattle.std.proofs.Math.Bool.{cond}
use mathlib.Core.List.{List, [], ◌∷◌}
use Rattle.std.proofs.Math.Path.{refl, sym, ap, subst}
use Rattle.std.proofs.Common.{ap₂, ◌∙◌, arith, leb→le, ltb→lt}
use Rattle.std.proofs.Math.Decide.{ℕ_discrete}
use Rattle.std.proofs.Math.Dec.{T, eqb}
use borrow.Author.Tests.{eqb-true, eqb-false, eq-eqb, ne_eqb, le-ltb}
use Rattle.base.specs.declared.refusal.Refusal.{Refusal}
use Rattle.base.specs.Refusal.{judged, number_of as refusal_number_of}
use Rattle.base.specs.RefusalLaws.{number_judged}
use Rattle.base.specs.Tests.{and_l, and_r, is_true, true_is, true≢false, same_test, or_false, or_r, or_alone, or_assoc}
use Rattle.seats.specs.declared.View.{View}
use Rattle.seats.specs.Mask.{bit}
use Rattle.seats.specs.Bits.{bit_zero}
use Rattle.votes.specs.declared.Choice.{Choice}
use Rattle.votes.specs.declared.Row.{Row}
use Rattle.votes.specs.declared.Rows.{Rows}
use Rattle.votes.specs.Selection.{selection}
use Rattle.votes.specs.SelectionExt.{SameVote, selection_ext}
use Rattle.votes.specs.Rows.{vote_at, with_vote, has_seat, vote_of, follower, rising, sound, all_sound, broken, answered, call_number, rows_refusals, rows_number, selected, no_rows, added, gathered, selected_from}
use Rattle.votes.specs.RowLaws.{call_taken, rows_refused, rows_taken}
use Rattle.votes.specs.TableLaws.{Sized, none_sized, with_sized, filled_at, vote_same, vote_other}

-- ---- n, f and the view stay
pub record SameCall (s t : Rows) : Type 0 where
  pub n : s.n ≡ t.n
  pub f : s.f ≡ t.f
  pub view : s.view ≡ t.view

pub gathered_call : (t : Rows) (rs : List Row) → SameCall (gathered t rs) t
unfolding added
gathered_call t [] = record { n = refl; f = refl; view = refl }
gathered_call t (r ∷ rs) = let s = gathered_call (added t r) rs in record { n = s.n; f = s.f; view = s.view }

-- ---- a row that does not fit is remembered
regroup : (b o s r a : Bool) → ((b || not (o && s)) || (not r || not a)) ≡ (b || (not (o && r) || not (s && a)))
regroup true o s r a = refl
regroup false true true r a = refl
regroup false true false true a = refl
regroup false true false false a = refl
regroup false false s r a = refl

gathered_broken : (t : Rows) (rs : List Row)
    → (gathered t rs).broken ≡ (t.broken || (not (rising t.n t.next rs) || not (all_sound t.n t.f t.view rs)))
unfolding added
gathered_broken t [] = sym (or_alone t.broken)
gathered_broken t (r ∷ rs) =
    gathered_broken (added t r) rs
    ∙ regroup t.broken (leb t.next r.seat.0 && ltb r.seat.0 t.n) (sound t.n t.f t.view r) (rising t.n (follower r) rs)
    (all_sound t.n t.f t.view rs)

-- ---- seats that rise: each has one row
pub rising_above : (n s : ℕ) (rs : List Row) (k : ℕ) → T (rising n s rs) → k < s → has_seat rs k ≡ false
rising_above n s [] k t h = refl
rising_above n s (r ∷ rs) k t h =
    let here = and_l (leb s r.seat.0 && ltb r.seat.0 n) (rising n (follower r) rs) t in
    let low = leb→le s r.seat.0 (and_l (leb s r.seat.0) (ltb r.seat.0 n) here) in
    ap₂ ◌||◌ (ne_eqb r.seat.0 k (λ e. omega arith)) (rising_above n (follower r) rs k (and_r (leb s r.seat.0 && ltb r.seat.0 n) _ t) (omega arith))

-- Seats that rise below n are no more than n.
rising_length : (n s : ℕ) (rs : List Row) → T (rising n s rs) → s ≤ n → s + length rs ≤ n
rising_length n s [] t h = omega arith
rising_length n s (r ∷ rs) t h =
    let here = and_l (leb s r.seat.0 && ltb r.seat.0 n) (rising n (follower r) rs) t in
    let low = leb→le s r.seat.0 (and_l (leb s r.seat.0) (ltb r.seat.0 n) here) in
    let below = ltb→lt r.seat.0 n (and_r (leb s r.seat.0) (ltb r.seat.0 n) here) in
    omega (arith, rising_length n (follower r) rs (and_r (leb s r.seat.0 && ltb r.seat.0 n) _ t) (omega arith))

-- So "more than n" adds nothing to 15's other conditions.
pub broken_is : (n f : ℕ) (v : View) (rows : List Row) → broken n f v rows ≡ (not (rising n 0 rows) || not (all_sound n f v rows))
broken_is n f v rows = go (rising n 0 rows) refl
  where
    go : (b : Bool) → rising n 0 rows ≡ b → broken n f v rows ≡ (not (rising n 0 rows) || not (all_sound n f v rows))
    go true e = ap (λ x. x || (not (rising n 0 rows) || not (all_sound n f v rows))) (le-ltb n (length rows) (omega (arith, rising_length n 0 rows (is_true _ e) (omega arith))))
    go false e =
        let yes : (not (rising n 0 rows) || not (all_sound n f v rows)) ≡ true = ap (λ b. not b || not (all_sound n f v rows)) e in
        or_r (ltb n (length rows)) _ yes ∙ sym yes

module _ (n : ℕ) (small : n ≤ 64) where
  head_low : (s : ℕ) (r : Row) (rs : List Row) → T (rising n s (r ∷ rs)) → r.seat.0 < 64
  head_low s r rs t =
      let here = and_l (leb s r.seat.0 && ltb r.seat.0 n) (rising n (follower r) rs) t in
      let low = ltb→lt r.seat.0 n (and_r (leb s r.seat.0) (ltb r.seat.0 n) here) in
      omega arith

  tail_rises : (s : ℕ) (r : Row) (rs : List Row) → T (rising n s (r ∷ rs)) → T (rising n (follower r) rs)
  tail_rises s r rs t = and_r (leb s r.seat.0 && ltb r.seat.0 n) (rising n (follower r) rs) t

  gathered_filled : (t : Rows) (rs : List Row) (k : ℕ) → T (rising n t.next rs) → bit (gathered t rs).table.filled k ≡ (bit t.table.filled k || has_seat rs k)
  unfolding added
  gathered_filled t [] k h = sym (or_alone (bit t.table.filled k))
  gathered_filled t (r ∷ rs) k h =
      gathered_filled (added t r) rs k (tail_rises t.next r rs h)
      ∙ ap (λ b. b || has_seat rs k) (filled_at t.table r.seat.0 r.vote k (head_low t.next r rs h) ∙ ap (λ b. bit t.table.filled k || b) (eqb_sym k r.seat.0))
      ∙ sym (or_assoc (bit t.table.filled k) (eqb r.seat.0 k) (has_seat rs k))
    where
      eqb_sym : (a b : ℕ) → eqb a b ≡ eqb b a
      eqb_sym a b = same_test (eqb a b) (eqb b a) (λ e. eq-eqb b a (sym (eqb-true a b e))) (λ e. eq-eqb a b (sym (eqb-true b a e)))

  gathered_vote : (t : Rows) (rs : List Row) (k : ℕ) → Sized t.table.votes → T (rising n t.next rs)
      → vote_at (gathered t rs).table.votes k ≡ cond (has_seat rs k) (vote_of rs k) (vote_at t.table.votes k)
  unfolding added
  gathered_vote t [] k z h = refl
  gathered_vote t (r ∷ rs) k z h =
      gathered_vote (added t r) rs k (with_sized t.table r.seat.0 r.vote low z) (tail_rises t.next r rs h) ∙ go (eqb r.seat.0 k) refl
    where
      low : r.seat.0 < 64
      low = head_low t.next r rs h

      go : (b : Bool) → eqb r.seat.0 k ≡ b
          → cond (has_seat rs k) (vote_of rs k) (vote_at (with_vote t.table r.seat.0 r.vote).votes k)
          ≡ cond (eqb r.seat.0 k || has_seat rs k) (cond (eqb r.seat.0 k) r.vote (vote_of rs k)) (vote_at t.table.votes k)
      go true e =
          let here = eqb-true r.seat.0 k e in
          ap (λ b. cond b (vote_of rs k) (vote_at (with_vote t.table r.seat.0 r.vote).votes k)) (rising_above n (follower r) rs k (tail_rises t.next r rs h) (omega arith))
          ∙ ap (vote_at (with_vote t.table r.seat.0 r.vote).votes) (sym here)
          ∙ vote_same t.table r.seat.0 r.vote low z
          ∙ sym (ap (λ b. cond (b || has_seat rs k) (cond b r.vote (vote_of rs k)) (vote_at t.table.votes k)) e)
      go false e =
          ap (cond (has_seat rs k) (vote_of rs k)) (vote_other t.table r.seat.0 r.vote k low (λ d. eqb-false r.seat.0 k e (sym d)))
          ∙ sym (ap (λ b. cond (b || has_seat rs k) (cond b r.vote (vote_of rs k)) (vote_at t.table.votes k)) e)

-- ---- so both choose alike
module _ (n f : ℕ) (v : View) (rows : List Row) where
  abbrev pub all : Rows
  all = gathered (no_rows n f v) rows

  breaks_alike : all.broken ≡ broken n f v rows
  unfolding no_rows
  breaks_alike = gathered_broken (no_rows n f v) rows ∙ sym (broken_is n f v rows)

  pub rises : broken n f v rows ≡ false → T (rising n 0 rows)
  rises e = go (rising n 0 rows) refl
    where
      go : (b : Bool) → rising n 0 rows ≡ b → T b
      go true q = tt
      go false q =
          let o = or_false (ltb n (length rows)) (not (rising n 0 rows) || not (all_sound n f v rows)) e in
          let p = or_false (not (rising n 0 rows)) (not (all_sound n f v rows)) o.1 in
          true≢false (sym (ap not q) ∙ p.0)

  pub filled_alike : n ≤ 64 → broken n f v rows ≡ false → (k : ℕ) → bit all.table.filled k ≡ has_seat rows k
  unfolding no_rows
  filled_alike h e k = gathered_filled n h (no_rows n f v) rows k (rises e) ∙ ap (λ b. b || has_seat rows k) (bit_zero k)

  choose_alike : n ≤ 64 → broken n f v rows ≡ false → selection n f (bit all.table.filled) (vote_at all.table.votes) ≡ selection n f (has_seat rows) (vote_of rows)
  unfolding no_rows
  choose_alike h e = selection_ext n f (bit all.table.filled) (has_seat rows) (vote_at all.table.votes) (vote_of rows) (λ k l. filled_alike h e k) (λ k l t. same k t)
    where
      same : (k : ℕ) → T (bit all.table.filled k) → SameVote (vote_at all.table.votes k) (vote_of rows k)
      same k t = subst (λ x. SameVote x (vote_of rows k)) (sym (gathered_vote n h (no_rows n f v) rows k none_sized (rises e) ∙ ap (λ b. cond b (vote_of rows k) (vote_at (no_rows n f v).table.votes k)) (true_is (has_seat rows k) (subst T (filled_alike h e k) t))))
          (record { cast = refl; view = λ x. refl; entry = λ x. refl })

answered_alike : (q : Result (Unit {0}) Refusal) {r : Result (Unit {0}) Refusal} {s t : Result Choice Refusal}
    → r ≡ q → (q ≡ Ok tt → s ≡ t) → answered r s ≡ answered q t
answered_alike (Ok x) {r} {s} {t} e h = ap (λ y. answered y s) e ∙ h refl
answered_alike (Err why) {r} {s} {t} e h = ap (λ y. answered y s) e

-- The call is the one that the gathering began with.
as_called : (n f : ℕ) (v : View) (t : Rows) → SameCall t (no_rows n f v)
    → selected_from t ≡ answered (judged (rows_refusals n f v t.broken)) (Ok (selection n f (bit t.table.filled) (vote_at t.table.votes)))
unfolding selected_from no_rows
as_called n f v t c = ap (λ a. answer a t.f t.view) c.n ∙ ap (λ b. answer n b t.view) c.f ∙ ap (answer n f) c.view
  where
    answer : ℕ → ℕ → View → Result Choice Refusal
    answer a b d = answered (judged (rows_refusals a b d t.broken)) (Ok (selection a b (bit t.table.filled) (vote_at t.table.votes)))

pub gathered_selected : (n f : ℕ) (v : View) (rows : List Row) → selected_from (gathered (no_rows n f v) rows) ≡ selected n f v rows
unfolding selected refusal_number_of
gathered_selected n f v rows =
    as_called n f v (all n f v rows) (gathered_call (no_rows n f v) rows)
    ∙ answered_alike (judged (rows_refusals n f v (broken n f v rows))) (ap (λ b. judged (rows_refusals n f v b)) (breaks_alike n f v rows))
    (λ z. chosen (ℕ_discrete (call_number n f v) 0) (broken n f v rows) refl (sym (number_judged (rows_refusals n f v (broken n f v rows)) tt) ∙ ap refusal_number_of z))
  where
    chosen : Dec (call_number n f v ≡ 0) → (b : Bool) → broken n f v rows ≡ b → rows_number n f v b ≡ 0
        → ◌≡◌ {A = Result Choice Refusal} (Ok (selection n f (bit (all n f v rows).table.filled) (vote_at (all n f v rows).table.votes))) (Ok (selection n f (has_seat rows) (vote_of rows)))
    chosen (no z) b e q = absurd (z (sym (rows_refused n f v b z) ∙ q))
    chosen (yes z) true e q = absurd (let w : ◌≡◌ {A = ℕ} 15 0 = sym (rows_taken n f v true z) ∙ q in omega arith)
    chosen (yes z) false e q = ap Ok (choose_alike n f v rows (call_taken n f v z).0.most e)
