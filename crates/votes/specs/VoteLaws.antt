-- What a valid vote that is not nil has.
use Rattle.std.specs.Prelude.{ℕ, ◌≤◌, ◌<◌, Bool, true, false, not, ◌&&◌, ◌||◌, ◌↔◌, T}
use Rattle.std.proofs.Common.{arith, ltb→lt}
use Rattle.std.proofs.Math.Dec.{leb→le}
use Rattle.base.specs.Tests.{and_l, and_r, and_i}
use Rattle.entry.specs.Entry.{well_formed}
use Rattle.seats.specs.declared.View.{View}
use Rattle.seats.specs.Certificate.{good_certificate}
use Rattle.votes.specs.declared.Vote.{Vote}
use Rattle.votes.specs.Vote.{valid}

-- As a rule of `simp`, it takes a chain of tests apart without naming them.
both : (a b : Bool) → T (a && b) ↔ (T a × T b)
both a b = (λ t. (and_l a b t, and_r a b t), λ p. and_i a b p.0 p.1)

or_not : (a b : Bool) → T a → T (not a || b) → T b
or_not true b c t = t
or_not false b c t = absurd c

module _ (n f : ℕ) (v : View) (x : Vote) (t : T (valid n f v x)) (c : T x.cast) where
  -- "its view u has 1 ≤ u < v"
  pub valid_below : (1 ≤ x.view.0) × (x.view.0 < v.0)
  unfolding valid
  valid_below =
      let tests = simp both at (or_not x.cast _ c t) in
      omega (arith, leb→le, ltb→lt)

  -- "its entry is well formed"
  pub valid_formed : T (well_formed x.entry)
  unfolding valid
  valid_formed = let tests = or_not x.cast _ c t in search (and_l, and_r)

  -- "its certificate is good for u"
  pub valid_certificate : T (good_certificate n f x.view x.mask)
  unfolding valid
  valid_certificate = let tests = or_not x.cast _ c t in search (and_l, and_r)

  -- "its mark is `+`"
  pub valid_marked : T x.verified
  unfolding valid
  valid_marked = let tests = or_not x.cast _ c t in search and_r
