-- A request gets one number over the list of its rows and over the rows gathered; and the rows that a leader sends are as many
-- as count, and never broken.
use Prim.Native.Nat.{ℕ, zero, suc, ◌+◌, ◌≤◌, ◌<◌}
use Rattle.std.specs.Prelude.{Bool, not, ◌&&◌, ◌||◌, List, [], ◌∷◌, ◌≡◌, T, eqb, leb, None, Some, Result, Ok, Err}
use Rattle.std.proofs.Math.Bool.{true, false, cond}
use Rattle.std.proofs.Math.Path.{refl, ap, ap₂}
use Rattle.std.proofs.Common.{sym, ◌∙◌, le→leb, ltb→lt}
use native.Mathlib.Omega.{arith}
use Rattle.std.proofs.Math.Decide.{ℕ_discrete}
use Rattle.std.proofs.Math.Dec.{eqb_refl, ltb}
use Rattle.std.proofs.Math.ListN.{length}
use borrow.Author.Tests.{eq-eqb, ne_eqb, lt-ltb}
use Rattle.base.specs.declared.refusal.Refusal.{Refusal}
use Rattle.base.specs.Refusal.{first, refusal, judged}
use Rattle.base.specs.RefusalLaws.{clear, judged_behind}
use Rattle.base.specs.Tests.{and_l, and_r, and_i, is_true, true_is, and_true, or_r}
use Rattle.entry.specs.declared.Entry.{Entry}
use Rattle.seats.specs.declared.View.{View}
use Rattle.seats.specs.Seats.{b2n, count}
use Rattle.seats.specs.Count.{count_ext}
use Rattle.seats.specs.Sizes.{quorum}
use Rattle.seats.specs.Mask.{bit}
use Rattle.votes.specs.declared.Row.{Row}
use Rattle.votes.specs.declared.Rows.{Rows}
use Rattle.votes.specs.declared.VoteRows.{VoteRows}
use Rattle.votes.specs.declared.Choice.{Choice}
use Rattle.votes.specs.Vote.{valid}
use Rattle.votes.specs.Selection.{selection}
use Rattle.votes.specs.Rows.{vote_at, has_row, has_seat, vote_of, follower, rising, sound, all_sound, broken, call_refusals, call_number, rows_refusals, answered, number_of, selected, selected_from, no_rows, gathered}
use Rattle.votes.specs.RowLaws.{call_taken}
use Rattle.votes.specs.Gather.{gathered_call, rising_above, broken_is, all, rises, filled_alike, gathered_selected}
use Rattle.votes.specs.Request.{allows, allowed, gathered_for, too_few, gathered_refusals, row_refusals, row_at, row_sent, row_list, sent_from, rows_sent}

-- ---- rows whose seats rise are as many as their seats
none_counted : (n : ℕ) → count (λ k. false) n ≡ 0
unfolding count
none_counted zero = refl
none_counted (suc n) = omega (arith, none_counted n)

-- One seat more.
one_counted : (p : ℕ → Bool) (q n : ℕ) → q < n → p q ≡ false → count (λ k. eqb q k || p k) n ≡ suc (count p n)
unfolding count
one_counted p q zero h e = absurd (omega arith)
one_counted p q (suc n) h e = elim (ℕ_discrete q n) [
  | yes i ↦
      let here : b2n (eqb q n || p n) ≡ 1 = ap (λ b. b2n (b || p n)) (eq-eqb q n i) in
      let was : b2n (p n) ≡ 0 = ap b2n (sym (ap p i) ∙ e) in
      let rest = count_ext (λ k. eqb q k || p k) p n (λ k l. ap (λ b. b || p k) (ne_eqb q k (λ j. omega arith))) in
      omega arith
  | no i ↦
      let here : b2n (eqb q n || p n) ≡ b2n (p n) = ap (λ b. b2n (b || p n)) (ne_eqb q n i) in
      omega (arith, one_counted p q n (omega arith) e)
]

rows_counted : (n s : ℕ) (rs : List Row) → T (rising n s rs) → count (has_seat rs) n ≡ length rs
rows_counted n s [] t = none_counted n
rows_counted n s (r ∷ rs) t =
    let here = and_l (leb s r.seat.0 && ltb r.seat.0 n) (rising n (follower r) rs) t in
    let later = and_r (leb s r.seat.0 && ltb r.seat.0 n) (rising n (follower r) rs) t in
    let below = ltb→lt r.seat.0 n (and_r (leb s r.seat.0) (ltb r.seat.0 n) here) in
    one_counted (has_seat rs) r.seat.0 n below (rising_above n (follower r) rs r.seat.0 later (omega arith))
    ∙ ap suc (rows_counted n (follower r) rs later)

-- ---- 15 and 16, over the list and over what was gathered
module _ (n f : ℕ) (v : View) (rows : List Row) (e : Entry) (taken : call_number n f v ≡ 0) where
  abbrev choice : Result Choice Refusal
  choice = Ok (selection n f (has_seat rows) (vote_of rows))

  abbrev few : ℕ → Bool
  few k = ltb k (quorum n f)

  -- 16, or taken
  abbrev other : ℕ
  other = cond (not (allows (selection n f (has_seat rows) (vote_of rows)) e)) 16 0

  abbrev number : Bool → Bool → Result Choice Refusal → ℕ
  number theirs small s = first ((15, not theirs || (small || not (eqb (number_of s) 0))) ∷ (16, not (allowed s e)) ∷ [])

  theirs : gathered_for (all n f v rows) n f v ≡ true
  unfolding no_rows
  theirs =
      let c = gathered_call (no_rows n f v) rows in
      simp (eq-eqb (all n f v rows).n n c.n, eq-eqb (all n f v rows).f f c.f, eq-eqb (all n f v rows).view.0 v.0 (ap (λ (w : View). w.0) c.view))

  few_alike : too_few (all n f v rows) ≡ few (count (bit (all n f v rows).table.filled) n)
  unfolding no_rows
  few_alike =
      let c = gathered_call (no_rows n f v) rows in
      ap₂ (λ a b. ltb (count (bit (all n f v rows).table.filled) a) (quorum a b)) c.n c.f

  -- The answer where rows break 15's conditions or not.
  abbrev answer_for : Bool → Result Choice Refusal
  answer_for b = cond b (Err (refusal 15)) choice

  chosen_as : (b : Bool) → broken n f v rows ≡ b → selected n f v rows ≡ answer_for b
  unfolding selected
  chosen_as b q =
      ap (λ c. answered (judged (rows_refusals n f v c)) choice) q
      ∙ ap (λ r. answered r choice) (judged_behind (call_refusals n f v) ((15, b) ∷ []) (clear 0 (call_refusals n f v) tt taken)) ∙ go b
    where
      go : (b : Bool) → answered (judged ((15, b) ∷ [])) choice ≡ answer_for b
      go true = refl
      go false = refl

  counted : broken n f v rows ≡ false → count (bit (all n f v rows).table.filled) n ≡ length rows
  counted q = count_ext _ _ n (λ k l. filled_alike n f v rows (call_taken n f v taken).0.most q k) ∙ rows_counted n 0 rows (rises n f v rows q)

  same_number : (b : Bool) → broken n f v rows ≡ b
      → number true (few (count (bit (all n f v rows).table.filled) n)) (answer_for b) ≡ first (row_refusals n f v rows e)
  same_number true q =
      ap (λ b. cond b 15 16) (or_r (few (count (bit (all n f v rows).table.filled) n)) true refl)
      ∙ sym (ap (λ b. cond b 15 other) (or_r (few (length rows)) (broken n f v rows) q))
  same_number false q = ap₂ (λ k b. cond (few k || b) 15 other) (counted q) (sym q)

pub gathered_request : (n f : ℕ) (v : View) (rows : List Row) (e : Entry) → call_number n f v ≡ 0
    → first (gathered_refusals (gathered (no_rows n f v) rows) n f v e) ≡ first (row_refusals n f v rows e)
unfolding gathered_refusals
gathered_request n f v rows e taken =
    ap (λ b. answer b (too_few t) (selected_from t)) (theirs n f v rows e taken)
    ∙ ap₂ (answer true) (few_alike n f v rows e taken) (gathered_selected n f v rows ∙ chosen_as n f v rows e taken (broken n f v rows) refl)
    ∙ same_number n f v rows e taken (broken n f v rows) refl
  where
    t : Rows
    t = all n f v rows

    answer : Bool → Bool → Result Choice Refusal → ℕ
    answer = number n f v rows e taken

-- ---- the rows that a leader sends
module _ (n f : ℕ) (v : View) (t : VoteRows) where
  abbrev pub sends : ℕ → Bool
  sends k = ltb k n && has_row n f v t k

  row_length : (k : ℕ) (rs : List Row) → length (row_list (row_sent n f v t (record { 0 = k })) rs) ≡ b2n (sends k) + length rs
  unfolding row_sent
  row_length k rs = go (sends k)
    where
      go : (b : Bool) → length (row_list (cond b (Some (row_at v t (record { 0 = k }))) None) rs) ≡ b2n b + length rs
      go true = omega arith
      go false = omega arith

  -- Those of seats below k, and those looked at from k on.
  sent_more : (k d : ℕ) → count sends (k + d) ≡ count sends k + length (sent_from n f v t k d)
  unfolding count
  sent_more k zero = let z : k + 0 ≡ k = omega arith in omega (arith, ap (count sends) z)
  sent_more k (suc d) =
      let z : k + suc d ≡ suc k + d = omega arith in
      omega (arith, ap (count sends) z, sent_more (suc k) d, row_length k (sent_from n f v t (suc k) d))

  row_fits : (k s : ℕ) → s ≤ k → sends k ≡ true → T (leb s k && ltb k n) × T (sound n f v (row_at v t (record { 0 = k })))
  unfolding row_at sound has_row
  row_fits k s h e =
      let a = and_true (ltb k n) (has_row n f v t k) e in
      let b = and_true (bit t.filled k) (valid n f v (vote_at t.votes k)) a.1 in (
        and_i (leb s k) (ltb k n) (le→leb s k h) (is_true (ltb k n) a.0),
        and_i (eqb v.0 v.0) (valid n f v (vote_at t.votes k)) (eqb_refl v.0) (is_true _ b.1),
      )

  -- They rise from k on, and each is sound.
  pub sent_fits : (k d s : ℕ) → s ≤ k → T (rising n s (sent_from n f v t k d)) × T (all_sound n f v (sent_from n f v t k d))
  unfolding row_sent row_at
  sent_fits k zero s h = (tt, tt)
  sent_fits k (suc d) s h = go (sends k) refl (sent_fits (suc k) d s (omega arith)) (sent_fits (suc k) d (k + 1) (omega arith))
    where
      row : Row
      row = row_at v t (record { 0 = k })

      later : List Row
      later = sent_from n f v t (suc k) d

      go : (b : Bool) → sends k ≡ b → T (rising n s later) × T (all_sound n f v later) → T (rising n (k + 1) later) × T (all_sound n f v later)
          → T (rising n s (row_list (cond b (Some row) None) later)) × T (all_sound n f v (row_list (cond b (Some row) None) later))
      go true e x y =
          let z = row_fits k s h e in
          (and_i (leb s k && ltb k n) (rising n (k + 1) later) z.0 y.0, and_i (sound n f v row) (all_sound n f v later) z.1 y.1)
      go false e x y = x

pub sent_counts : (n f : ℕ) (v : View) (t : VoteRows) → length (rows_sent n f v t) ≡ count (has_row n f v t) n
unfolding rows_sent count
sent_counts n f v t =
    let z : 0 + n ≡ n = omega arith in
    let each = count_ext (sends n f v t) (has_row n f v t) n (λ k l. ap (λ b. b && has_row n f v t k) (lt-ltb k n l)) in
    omega (arith, sent_more n f v t 0 n, ap (count (sends n f v t)) z)

pub sent_sound : (n f : ℕ) (v : View) (t : VoteRows) → broken n f v (rows_sent n f v t) ≡ false
unfolding rows_sent
sent_sound n f v t =
    let x = sent_fits n f v t 0 n 0 (omega arith) in
    broken_is n f v (rows_sent n f v t) ∙ ap₂ (λ a b. not a || not b) (true_is (rising n 0 (rows_sent n f v t)) x.0) (true_is (all_sound n f v (rows_sent n f v t)) x.1)
