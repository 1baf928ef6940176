-- Laws of a table of votes: what is written is read back, and nothing else changes.
use Rattle.std.specs.Prelude.{ℕ, ◌≤◌, ◌<◌, Bool, true, false, ◌||◌, ◌≡◌, refl, eqb, ltb, length, set}
use Rattle.std.proofs.Common.{sym, ap, ◌∙◌, subst, length-set, get_or-set_same, get_or-set_other, eq-eqb, ne_eqb, lt-ltb, le-ltb, ltb-true, ltb-false}
use Rattle.std.proofs.lemmas.List.{length-replicate}
use Rattle.std.specs.Int.Bits.{or_zero_r, xor_zero_r}
use Rattle.entry.specs.Table.{table_words, with_entry}
use Rattle.entry.specs.TableLaws.{at_same, at_other, with_length}
use Rattle.seats.specs.Mask.{bit, with_seat, put_seat}
use Rattle.seats.specs.Bits.{with_at, put_at}
use Rattle.seats.specs.Table.{with_value}
use Rattle.seats.specs.TableLaws.{written_within, written_past}
use Rattle.votes.specs.declared.Vote.{Vote}
use Rattle.votes.specs.declared.Votes.{Votes}
use Rattle.votes.specs.declared.VoteRows.{VoteRows}
use Rattle.votes.specs.Rows.{votes_of, table_of, vote_at, no_votes, with_vote}

-- ---- one vote of 64

-- The sizes that the code's arrays have.
pub record Sized (t : Votes) : Type 0 where
  pub entries : length t.entries ≡ table_words
  pub masks : length t.masks ≡ 64
  pub views : length t.views ≡ 64

pub none_sized : Sized no_votes.votes
none_sized = record { entries = length-replicate {A = ℕ} table_words 0; masks = length-replicate {A = ℕ} 64 0; views = length-replicate {A = ℕ} 64 0 }

written : (t : VoteRows) (k : ℕ) (x : Vote) → k < 64
    → with_vote t k x
    ≡ table_of (with_seat t.filled k)
    (votes_of (put_seat t.votes.cast k x.cast) (put_seat t.votes.verified k x.verified)
    (with_entry t.votes.entries k x.entry) (set t.votes.masks k x.mask) (set t.votes.views k x.view.0))
unfolding with_vote
written t k x h = simp (lt-ltb k 64 h)

pub with_past : (t : VoteRows) (k : ℕ) (x : Vote) → 64 ≤ k → with_vote t k x ≡ t
unfolding with_vote
with_past t k x h = simp (le-ltb k 64 h)

put_past : (m k : ℕ) (on : Bool) → 64 ≤ k → put_seat m k on ≡ m
unfolding put_seat with_seat
put_past m k true h = simp (le-ltb k 64 h)
put_past m k false h = simp (le-ltb k 64 h, or_zero_r, xor_zero_r)

-- A vote stored in one array after the other, at any seat.
abbrev pub stores : VoteRows → ℕ → Vote → VoteRows
stores t k x =
    table_of (with_seat t.filled k)
    (votes_of (put_seat t.votes.cast k x.cast) (put_seat t.votes.verified k x.verified)
    (with_entry t.votes.entries k x.entry) (with_value t.votes.masks k x.mask) (with_value t.votes.views k x.view.0))

pub stored : (t : VoteRows) (k : ℕ) (x : Vote) → stores t k x ≡ with_vote t k x
unfolding with_seat with_entry
stored t k x = go (ltb k 64) refl
  where
    go : (b : Bool) → ltb k 64 ≡ b → stores t k x ≡ with_vote t k x
    go true e =
        let h = ltb-true k 64 e in
        simp (written t k x h, written_within t.votes.masks k x.mask h, written_within t.votes.views k x.view.0 h)
    go false e =
        let h = ltb-false k 64 e in
        simp (
          with_past t k x h,
          put_past t.votes.cast k x.cast h,
          put_past t.votes.verified k x.verified h,
          written_past t.votes.masks k x.mask h,
          written_past t.votes.views k x.view.0 h,
          e,
        )

pub with_sized : (t : VoteRows) (k : ℕ) (x : Vote) → k < 64 → Sized t.votes → Sized (with_vote t k x).votes
with_sized t k x h s = subst (λ y. Sized y.votes) (sym (written t k x h)) (record {
  entries = with_length t.votes.entries k x.entry ∙ s.entries;
  masks = length-set t.votes.masks k x.mask ∙ s.masks;
  views = length-set t.votes.views k x.view.0 ∙ s.views;
})

pub filled_at : (t : VoteRows) (k : ℕ) (x : Vote) (j : ℕ) → k < 64 → bit (with_vote t k x).filled j ≡ (bit t.filled j || eqb j k)
filled_at t k x j h = ap (λ y. bit y.filled j) (written t k x h) ∙ with_at t.filled k j h

pub vote_same : (t : VoteRows) (k : ℕ) (x : Vote) → k < 64 → Sized t.votes → vote_at (with_vote t k x).votes k ≡ x
unfolding vote_at
vote_same t k x h s =
    ap (λ y. vote_at y.votes k) (written t k x h)
    ∙ simp (
      at_same t.votes.entries k x.entry h s.entries,
      get_or-set_same t.votes.masks k x.mask 0 (subst (λ n. k < n) (sym s.masks) h),
      get_or-set_same t.votes.views k x.view.0 0 (subst (λ n. k < n) (sym s.views) h),
      put_at t.votes.cast k x.cast k h,
      put_at t.votes.verified k x.verified k h,
      eq-eqb k k refl,
    )

pub vote_other : (t : VoteRows) (k : ℕ) (x : Vote) (j : ℕ) → k < 64 → (j ≡ k → ⊥) → vote_at (with_vote t k x).votes j ≡ vote_at t.votes j
unfolding vote_at
vote_other t k x j h d =
    ap (λ y. vote_at y.votes j) (written t k x h)
    ∙ simp (
      at_other t.votes.entries j k x.entry d,
      get_or-set_other t.votes.masks k j x.mask 0 d,
      get_or-set_other t.votes.views k j x.view.0 0 d,
      put_at t.votes.cast k x.cast j h,
      put_at t.votes.verified k x.verified j h,
      ne_eqb j k d,
    )
