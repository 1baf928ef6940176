-- The selection looks at nothing of a row but its vote's cast flag and, where that is set, its view and entry.
use Rattle.std.specs.Prelude.{ℕ, ◌<◌, ◌≡◌, refl, Bool, true, false, ◌&&◌, T, eqb, leb, ltb}
use Rattle.std.proofs.Math.Path.{ap, ap₂}
use Rattle.std.proofs.Common.{◌∙◌}
use Rattle.std.proofs.Math.Bool.{not, cond}
use Rattle.base.specs.Tests.{and_l, and_r}
use Rattle.entry.specs.declared.Entry.{Entry}
use Rattle.entry.specs.Entry.{same}
use Rattle.seats.specs.Sizes.{quorum}
use Rattle.seats.specs.Count.{count_ext, highest_ext}
use Rattle.votes.specs.declared.Vote.{Vote}
use Rattle.votes.specs.declared.Choice.{Choice}
use Rattle.votes.specs.Selection.{forced_to, is_cast, top_view, is_at, two_at, other_at, rows_for, after_two, at_top, selection, support}
use Rattle.votes.specs.Smallest.{smallest_ext}

-- Two votes that say the same: "Unused fields do not count."
pub record SameVote (x y : Vote) : Type 0 where
  pub cast : x.cast ≡ y.cast
  pub view : T x.cast → x.view.0 ≡ y.view.0
  pub entry : T x.cast → x.entry ≡ y.entry

-- What stands behind a test counts only where the test passes.
and_ext : {a a' b b' : Bool} → a ≡ a' → (T a → b ≡ b') → (a && b) ≡ (a' && b')
and_ext {a = true} e h = rw (← e) (h tt)
and_ext {a = false} e h = rw (← e) refl

cond_ext : {a a' : Bool} {x y : ℕ} → a ≡ a' → (T a → x ≡ y) → cond a x 0 ≡ cond a' y 0
cond_ext {a = true} e h = rw (← e) (h tt)
cond_ext {a = false} e h = rw (← e) refl

module _ (n f : ℕ) (has has' : ℕ → Bool) (vote vote' : ℕ → Vote)
    (eh : (k : ℕ) → k < n → has k ≡ has' k) (ev : (k : ℕ) → k < n → T (has k) → SameVote (vote k) (vote' k)) where
  cast_ext : (k : ℕ) → k < n → is_cast n f has vote k ≡ is_cast n f has' vote' k
  cast_ext k l = and_ext (eh k l) (λ t. (ev k l t).cast)

  of_cast : (k : ℕ) → k < n → T (is_cast n f has vote k) → ((vote k).view.0 ≡ (vote' k).view.0) × ((vote k).entry ≡ (vote' k).entry)
  of_cast k l t =
      let s = ev k l (and_l (has k) (vote k).cast t) in
      let c = and_r (has k) (vote k).cast t in
      (s.view c, s.entry c)

  top_ext : top_view n f has vote ≡ top_view n f has' vote'
  unfolding top_view
  top_ext = highest_ext _ _ n (λ k l. cond_ext (cast_ext k l) (λ t. (of_cast k l t).0))

  module _ (w : ℕ) where
    at_ext : (k : ℕ) → k < n → is_at n f has vote w k ≡ is_at n f has' vote' w k
    at_ext k l = and_ext (cast_ext k l) (λ t. ap (λ u. eqb u w) (of_cast k l t).0)

    entry_ext : (k : ℕ) → k < n → T (is_at n f has vote w k) → (vote k).entry ≡ (vote' k).entry
    entry_ext k l t = (of_cast k l (and_l (is_cast n f has vote k) _ t)).1

    two_ext : two_at n f has vote w ≡ two_at n f has' vote' w
    unfolding two_at
    two_ext = ap (ltb 0) (count_ext _ _ n (λ j m. ap (ltb 0) (count_ext _ _ n (λ k l. and_ext (and_ext (at_ext j m) (λ t. at_ext k l)) (λ t.
        ap₂ (λ x y. not (same x y)) (entry_ext j m (and_l (is_at n f has vote w j) _ t)) (entry_ext k l (and_r (is_at n f has vote w j) _ t)))))))

    other_ext : (k : ℕ) → k < n → other_at n f has vote w k ≡ other_at n f has' vote' w k
    other_ext k l = and_ext (at_ext k l) (λ t. refl)

    other_entry : (k : ℕ) → k < n → T (other_at n f has vote w k) → (vote k).entry ≡ (vote' k).entry
    other_entry k l t = entry_ext k l (and_l (is_at n f has vote w k) _ t)

    for_ext : (y : Entry) → rows_for n f has vote w y ≡ rows_for n f has' vote' w y
    unfolding rows_for
    for_ext y = count_ext _ _ n (λ k l. and_ext (other_ext k l) (λ t. ap (λ x. same x y) (other_entry k l t)))

    after_ext : after_two n f has vote w ≡ after_two n f has' vote' w
    unfolding after_two
    after_ext = ap₂ (λ c o. cond (ltb c (quorum n f)) Choice.Wait (forced_to o))
        (count_ext _ _ n (λ k l. and_ext (eh k l) (λ t. refl)))
        (smallest_ext _ _ _ _ n
        (λ k l. and_ext (other_ext k l) (λ t. ap (leb (support f)) (for_ext (vote k).entry ∙ ap (rows_for n f has' vote' w) (other_entry k l t))))
        (λ k l t. other_entry k l (and_l (other_at n f has vote w k) _ t)))

    top_choice_ext : at_top n f has vote w ≡ at_top n f has' vote' w
    unfolding at_top
    top_choice_ext = rw two_ext (ap₂ (λ c o. cond (two_at n f has' vote' w) c (forced_to o)) after_ext (smallest_ext _ _ _ _ n at_ext entry_ext))

  pub selection_ext : selection n f has vote ≡ selection n f has' vote'
  unfolding selection
  selection_ext = ap₂ (λ c d. cond (ltb c (quorum n f)) Choice.Wait d) (count_ext has has' n eh)
      (ap₂ (λ c d. cond (eqb c 0) Choice.Free d) (count_ext _ _ n cast_ext)
      (top_choice_ext (top_view n f has vote) ∙ ap (at_top n f has' vote') top_ext))
