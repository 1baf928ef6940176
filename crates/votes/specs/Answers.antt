-- What the selection answers is safe: called by itself over a list of rows, and over the leader's table.
use Rattle.std.specs.Prelude.{ℕ, ◌≤◌, ◌<◌, ◌≡◌, refl, Bool, true, false, not, ◌||◌, cond, List, [], ◌∷◌, eqb, ltb, length, Result, Ok, Err}
use Rattle.std.proofs.Common.{sym, ap, ◌∙◌, subst, subst₂, arith, eqb→eq, eqb-true}
use Rattle.std.proofs.Math.Decide.{ℕ_discrete}
use Rattle.std.proofs.Math.Dec.{T}
use Rattle.base.specs.declared.refusal.Refusal.{Refusal}
use Rattle.base.specs.Refusal.{Refusals, first, judged, number_of as refusal_number_of}
use Rattle.base.specs.RefusalLaws.{named, number_judged}
use Rattle.base.specs.Tests.{and_l, and_r, true_is, true≢false, or_false}
use Rattle.entry.specs.declared.Entry.{Entry}
use Rattle.seats.specs.declared.View.{View}
use Rattle.seats.specs.Seats.{count}
use Rattle.seats.specs.Mask.{bit}
use Rattle.votes.specs.declared.Vote.{Vote}
use Rattle.votes.specs.declared.Row.{Row}
use Rattle.votes.specs.declared.VoteRows.{VoteRows}
use Rattle.votes.specs.declared.Choice.{Choice}
use Rattle.votes.specs.Vote.{valid}
use Rattle.votes.specs.Selection.{selection}
use Rattle.votes.specs.Rows.{vote_at, has_row, call_refusals, call_number, answered, number_of, chosen, has_seat, vote_of, rising, sound, all_sound, broken, rows_refusals, rows_number, selected, no_rows, gathered, selected_from}
use Rattle.votes.specs.RowLaws.{call_taken, rows_refused, rows_taken, answered_number}
use Rattle.votes.specs.Gather.{gathered_selected}
use Rattle.votes.specs.History.{History, Leaves, Safe, Honest}
use Rattle.votes.specs.Claims.{Claim, Claims, TableClaims, Covered}
use Rattle.votes.specs.Safety.{selection_safe}

-- ---- an answer that is a choice was not refused
abbrev is_choice : Result Choice Refusal → Bool
is_choice (Ok c) = true
is_choice (Err why) = false

pub choice_taken : (r : Result (Unit {0}) Refusal) (s c : Choice) → answered r (Ok s) ≡ Ok c → (refusal_number_of r ≡ 0) × (s ≡ c)
choice_taken r s c e = (sym (answered_number r s) ∙ ap number_of e, go r e)
  where
    go : (r : Result (Unit {0}) Refusal) → answered r (Ok s) ≡ Ok c → s ≡ c
    go (Ok x) q = cc
    go (Err why) q = absurd (let z : ◌≡◌ {A = Bool} false true = ap is_choice q in true≢false (sym z))

-- The same of a table: it gives no number.
pub table_taken : (rs : Refusals) (s c : Choice) → T (named rs) → answered (judged rs) (Ok s) ≡ Ok c → (first rs ≡ 0) × (s ≡ c)
table_taken rs s c t e = let taken = choice_taken (judged rs) s c e in (sym (number_judged rs t) ∙ taken.0, taken.1)

pub call_first : (n f : ℕ) (v : View) (breaks : Bool) → rows_number n f v breaks ≡ 0 → (call_number n f v ≡ 0) × (breaks ≡ false)
call_first n f v breaks e = elim (ℕ_discrete (call_number n f v) 0) [
  | yes z ↦ (z, unbroken breaks (sym (rows_taken n f v breaks z) ∙ e))
  | no z ↦ absurd (z (sym (rows_refused n f v breaks z) ∙ e))
]
  where
    unbroken : (b : Bool) → ◌≡◌ {A = ℕ} (cond b 15 0) 0 → b ≡ false
    unbroken true z = absurd (omega arith)
    unbroken false z = refl

pub unbroken_sound : (n f : ℕ) (v : View) (rows : List Row) → broken n f v rows ≡ false → T (all_sound n f v rows)
unbroken_sound n f v rows e =
    passes (all_sound n f v rows) (or_false (not (rising n 0 rows)) _ (or_false (ltb n (length rows)) _ e).1).1
  where
    passes : (b : Bool) → not b ≡ false → T b
    passes true q = tt
    passes false q = true≢false q

-- At most f seats are faulty, and the correct ones keep to the protocol.
module _ (n f : ℕ) (bad : ℕ → Bool) (h : History) (v : View) (few : count bad n ≤ f) (honest : Honest n f bad h v.0) where
  -- What a row of seat k is worth.
  abbrev good : ℕ → Vote → Type 0
  good k x = Claim n bad h true k v.0 x × T (valid n f v x)

  taken_safe : (has : ℕ → Bool) (vote : ℕ → Vote) → call_number n f v ≡ 0 → ((k : ℕ) → k < n → T (has k) → good k (vote k))
      → (c : Choice) → selection n f has vote ≡ c → (x : Entry) → Leaves c x → Safe n f bad h v.0 x
  taken_safe has vote z rows c e x o =
      let a = (call_taken n f v z).0 in
      let covered : Covered n bad h f v has vote = record { claim = λ k l t. (rows k l t).0; fine = λ k l t. (rows k l t).1 } in
      selection_safe (record { some = a.some; fits = a.fits; few = few }) a.most h v honest has vote covered x
      (subst (λ d. Leaves d x) (sym e) o)

  -- ---- by seat
  table_row : (t : VoteRows) → TableClaims n bad h v.0 t → (k : ℕ) → k < n → T (has_row n f v t k) → good k (vote_at t.votes k)
  unfolding has_row
  table_row t claims k l has =
      let filled : T (bit t.filled k) = search and_l in
      (claims k l filled, search and_r)

  -- The leader's table.
  pub chosen_safe : (t : VoteRows) → TableClaims n bad h v.0 t
      → (c : Choice) → chosen n f v t ≡ Ok c → (x : Entry) → Leaves c x → Safe n f bad h v.0 x
  unfolding chosen
  chosen_safe t claims c e =
      let taken = table_taken (call_refusals n f v) _ c tt e in
      taken_safe (has_row n f v t) (vote_at t.votes) taken.0 (table_row t claims) c taken.1

  -- ---- as a list
  sound_row : (r : Row) → Claim n bad h r.verified r.seat.0 r.view.0 r.vote → T (sound n f v r) → good r.seat.0 r.vote
  unfolding sound
  sound_row r claim s =
      let marked : T r.verified = search and_l in
      let at : r.view.0 ≡ v.0 = search (and_l, and_r, eqb→eq) in
      (subst₂ (λ m u. Claim n bad h m r.seat.0 u r.vote) (true_is r.verified marked) at claim, search and_r)

  list_row : (rows : List Row) → Claims n bad h rows → T (all_sound n f v rows) → (k : ℕ) → T (has_seat rows k) → good k (vote_of rows k)
  list_row [] claims all k has = absurd has
  list_row (r ∷ rs) claims all k has =
      let first = sound_row r claims.0 (and_l (sound n f v r) _ all) in
      here (eqb r.seat.0 k) refl has first (list_row rs claims.1 (and_r (sound n f v r) _ all) k)
    where
      here : (b : Bool) → eqb r.seat.0 k ≡ b → T (b || has_seat rs k) → good r.seat.0 r.vote → (T (has_seat rs k) → good k (vote_of rs k))
          → good k (cond b r.vote (vote_of rs k))
      here true e t first rest = subst (λ j. good j r.vote) (eqb-true r.seat.0 k e) first
      here false e t first rest = rest t

  -- The selection called by itself.
  pub selected_safe : (rows : List Row) → Claims n bad h rows
      → (c : Choice) → selected n f v rows ≡ Ok c → (x : Entry) → Leaves c x → Safe n f bad h v.0 x
  unfolding selected
  selected_safe rows claims c e =
      let taken = table_taken (rows_refusals n f v (broken n f v rows)) _ c tt e in
      let call = call_first n f v (broken n f v rows) taken.0 in
      let all = unbroken_sound n f v rows call.1 in
      taken_safe (has_seat rows) (vote_of rows) call.0 (λ k l has. list_row rows claims all k has) c taken.1

  -- The same, gathered one row after the other.
  pub gathered_safe : (rows : List Row) → Claims n bad h rows
      → (c : Choice) → selected_from (gathered (no_rows n f v) rows) ≡ Ok c → (x : Entry) → Leaves c x → Safe n f bad h v.0 x
  gathered_safe rows claims c e = selected_safe rows claims c (sym (gathered_selected n f v rows) ∙ e)
