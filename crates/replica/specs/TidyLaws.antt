-- A request is answered alike whatever stands in the unused fields of its rows.
use Rattle.std.specs.Prelude.{ℕ, suc, ◌≡◌, Bool, ◌&&◌, ◌||◌, cond, List, [], ◌∷◌, eqb, leb, ltb, length}
use Rattle.std.proofs.Math.Path.{refl, ap}
use Rattle.std.proofs.Common.{sym, ap₂}
use Rattle.std.proofs.Math.Bool.{true, false}
use Rattle.seats.specs.declared.View.{View}
use Rattle.votes.specs.declared.Vote.{Vote}
use Rattle.votes.specs.declared.Row.{Row}
use Rattle.votes.specs.Vote.{valid}
use Rattle.votes.specs.Rows.{has_seat, vote_of, follower, rising, sound, all_sound}
use Rattle.votes.specs.SelectionExt.{SameVote, selection_ext}
use Rattle.messages.specs.declared.Request.{Request}
use Rattle.messages.specs.Lines.{tidy_vote, tidy_row}
use Rattle.replica.specs.declared.Replica.{Replica}
use Rattle.replica.specs.Steps.{ask_step}

-- "Unused fields do not count": the rows with those at zero, as a reader of lines gives them.
abbrev pub tidy_rows : List Row → List Row
tidy_rows [] = []
tidy_rows (r ∷ rs) = tidy_row r ∷ tidy_rows rs

-- ---- one vote

-- A tidied vote says the same.
vote_tidy : (x : Vote) → SameVote (tidy_vote x.cast x) x
vote_tidy x = go x.cast refl
  where
    go : (b : Bool) → x.cast ≡ b → SameVote (tidy_vote b x) x
    go true p = record { cast = refl; view = λ t. refl; entry = λ t. refl }
    go false p = record { cast = sym p; view = λ t. absurd t; entry = λ t. absurd t }

module _ (n f : ℕ) (v : View) where
  -- A nil vote is valid whatever stands beside it.
  valid_tidy : (x : Vote) → valid n f v (tidy_vote x.cast x) ≡ valid n f v x
  unfolding valid
  valid_tidy x = go x.cast refl
    where
      go : (b : Bool) → x.cast ≡ b → valid n f v (tidy_vote b x) ≡ valid n f v x
      go true p = refl
      go false p = rw p refl

  -- A row's mark and view are kept.
  sound_tidy : (r : Row) → sound n f v (tidy_row r) ≡ sound n f v r
  unfolding sound
  sound_tidy r = ap (λ b. r.verified && (eqb r.view.0 v.0 && b)) (valid_tidy r.vote)

-- ---- rows: tidying keeps their number, seats, marks and views

length_tidy : (rows : List Row) → length (tidy_rows rows) ≡ length rows
length_tidy [] = refl
length_tidy (r ∷ rs) = ap suc (length_tidy rs)

rising_tidy : (n s : ℕ) (rows : List Row) → rising n s (tidy_rows rows) ≡ rising n s rows
rising_tidy n s [] = refl
rising_tidy n s (r ∷ rs) = ap (λ b. (leb s r.seat.0 && ltb r.seat.0 n) && b) (rising_tidy n (follower r) rs)

all_tidy : (n f : ℕ) (v : View) (rows : List Row) → all_sound n f v (tidy_rows rows) ≡ all_sound n f v rows
all_tidy n f v [] = refl
all_tidy n f v (r ∷ rs) = ap₂ ◌&&◌ (sound_tidy n f v r) (all_tidy n f v rs)

seat_tidy : (rows : List Row) (k : ℕ) → has_seat (tidy_rows rows) k ≡ has_seat rows k
seat_tidy [] k = refl
seat_tidy (r ∷ rs) k = ap (λ b. eqb r.seat.0 k || b) (seat_tidy rs k)

-- Every seat's vote says the same.
of_tidy : (rows : List Row) (k : ℕ) → SameVote (vote_of (tidy_rows rows) k) (vote_of rows k)
of_tidy [] k = record { cast = refl; view = λ t. refl; entry = λ t. refl }
of_tidy (r ∷ rs) k = go (eqb r.seat.0 k) (of_tidy rs k)
  where
    go : (b : Bool) → SameVote (vote_of (tidy_rows rs) k) (vote_of rs k)
        → SameVote (cond b (tidy_row r).vote (vote_of (tidy_rows rs) k)) (cond b r.vote (vote_of rs k))
    go true later = vote_tidy r.vote
    go false later = later

-- 15 looks at what is kept and at valid votes, 16 at what votes say.
pub asked_tidy : (s : Replica) (q : Request) (rows : List Row) → ask_step s q (tidy_rows rows) ≡ ask_step s q rows
unfolding ask_step
asked_tidy s q rows = rw (
  length_tidy rows,
  rising_tidy s.n 0 rows,
  all_tidy s.n s.f q.head.view rows,
  selection_ext s.n s.f _ _ _ _ (λ k l. seat_tidy rows k) (λ k l t. of_tidy rows k),
) refl
