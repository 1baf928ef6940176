-- 02, Two: "wherever 01 asks for a well-formed entry". Of votes: no rows are taken, as a request's or by the selection by itself, in which a
-- vote names an entry that is not well formed.
use Rattle.std.specs.Prelude.{ℕ, ◌≡◌, Bool, true, false, not, ◌&&◌, ◌||◌, List, [], ◌∷◌, T, eqb, ltb, length, Ok}
use Rattle.base.specs.Tests.{and_l, and_r, and_i, or_false}
use Rattle.entry.specs.Entry.{well_formed}
use Rattle.seats.specs.declared.View.{View}
use Rattle.seats.specs.Sizes.{quorum}
use Rattle.seats.specs.Mask.{bit}
use Rattle.votes.specs.declared.Vote.{Vote}
use Rattle.votes.specs.declared.Row.{Row}
use Rattle.votes.specs.declared.VoteRows.{VoteRows}
use Rattle.votes.specs.declared.Choice.{Choice}
use Rattle.votes.specs.Vote.{valid}
use Rattle.votes.specs.VoteLaws.{valid_formed}
use Rattle.votes.specs.Rows.{vote_at, has_row, sound, all_sound, broken, rows_refusals, selected}
use Rattle.votes.specs.Request.{unfit}
use Rattle.votes.specs.Answers.{table_taken, call_first, unbroken_sound}

-- A vote is nil, or its entry is well formed.
abbrev pub formed_vote : Vote → Bool
formed_vote x = not x.cast || well_formed x.entry

abbrev pub formed_rows : List Row → Bool
formed_rows [] = true
formed_rows (r ∷ rs) = formed_vote r.vote && formed_rows rs

-- 14: a valid vote is such a vote.
pub vote_formed : (n f : ℕ) (v : View) (x : Vote) → T (valid n f v x) → T (formed_vote x)
vote_formed n f v x t = go x.cast (valid_formed n f v x t)
  where
    go : (b : Bool) → (T b → T (well_formed x.entry)) → T (not b || well_formed x.entry)
    go true h = h tt
    go false h = tt

-- In a leader's table a row for an entry that is not well formed counts as empty.
pub row_formed : (n f : ℕ) (v : View) (t : VoteRows) (k : ℕ) → T (has_row n f v t k) → T (formed_vote (vote_at t.votes k))
unfolding has_row
row_formed n f v t k h =
    let x = vote_at t.votes k in
    vote_formed n f v x (and_r (bit t.filled k) (valid n f v x) h)

sound_formed : (n f : ℕ) (v : View) (rows : List Row) → T (all_sound n f v rows) → T (formed_rows rows)
unfolding sound
sound_formed n f v [] t = tt
sound_formed n f v (r ∷ rs) t =
    let here = and_l (sound n f v r) (all_sound n f v rs) t in
    let fine = and_r (eqb r.view.0 v.0) (valid n f v r.vote) (and_r r.verified _ here) in
    and_i (formed_vote r.vote) (formed_rows rs) (vote_formed n f v r.vote fine)
    (sound_formed n f v rs (and_r (sound n f v r) (all_sound n f v rs) t))

-- 15, of a request's rows
pub fit_formed : (n f : ℕ) (v : View) (rows : List Row) → unfit n f v rows ≡ false → T (formed_rows rows)
fit_formed n f v rows e = sound_formed n f v rows (unbroken_sound n f v rows (or_false (ltb (length rows) (quorum n f)) (broken n f v rows) e).1)

-- and of the selection by itself.
pub selected_formed : (n f : ℕ) (v : View) (rows : List Row) (c : Choice) → selected n f v rows ≡ Ok c → T (formed_rows rows)
unfolding selected
selected_formed n f v rows c e =
    let taken = (table_taken (rows_refusals n f v (broken n f v rows)) _ c tt e).0 in
    sound_formed n f v rows (unbroken_sound n f v rows (call_first n f v (broken n f v rows) taken).1)
