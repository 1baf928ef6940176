-- 01, "The selection": a vote, and when it is valid for a view.
use Rattle.std.specs.Prelude.{ℕ, Bool, not, ◌&&◌, ◌||◌, leb, ltb}
use Rattle.entry.specs.Entry.{well_formed}
use Rattle.seats.specs.declared.View.{View}
use Rattle.seats.specs.Certificate.{good_certificate}
use Rattle.votes.specs.declared.Vote.{Vote}

-- "A vote for view v is valid when it is nil, or its view u has 1 ≤ u < v, its entry is well formed, its certificate is good
-- for u and its mark is `+`."
unfoldable pub valid : ℕ → ℕ → View → Vote → Bool
valid n f v x =
    not x.cast
    || (leb 1 x.view.0 && (ltb x.view.0 v.0 && (well_formed x.entry && (good_certificate n f x.view x.mask && x.verified))))
