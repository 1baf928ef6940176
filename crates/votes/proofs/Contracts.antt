-- What each public function answers, of its contract as the toolchain holds it: nothing is asked, and this is the answer.
use borrow.Fn.World.{World}
use lib.Dec.{leb}
use mathlib.Core.Bool.{cond}
use mathlib.Core.Path.{refl}
use Rattle.base.specs.ExactContracts.{Exact, gives, becomes}
use Rattle.base.specs.Refusal.{judged}
use Rattle.seats.specs.Mask.{mask}
use Rattle.votes.specs.Request.{gathered_refusals, row_sent}
use Rattle.votes.specs.Rows.{added, chosen, gathered, has_row, no_rows, no_votes, selected, selected_from, with_vote}
use Rattle.votes.specs.Vote.{valid}
use Rattle.votes.specs.contracts as fn

module _ (w : World) where
  pub vote_rows_none_says : Exact w fn.VoteRows.none.ended fn.VoteRows.none.spec (λ κs _. gives no_votes)
  vote_rows_none_says κs a = refl

  pub put_says : Exact w fn.VoteRows.put.ended fn.VoteRows.put.spec (λ κs (self, (s, (x, _))). becomes (with_vote self.now s.0 x))
  put_says κs a = refl

  pub with_vote_says : Exact w fn.VoteRows.with_vote.ended fn.VoteRows.with_vote.spec (λ κs (self, (s, (x, _))). gives (with_vote self s.0 x))
  with_vote_says κs a = refl

  pub rows_none_says : Exact w fn.Rows.none.ended fn.Rows.none.spec (λ κs (n, (f, (v, _))). gives (no_rows n f v))
  rows_none_says κs a = refl

  pub add_says : Exact w fn.Rows.add.ended fn.Rows.add.spec (λ κs (self, (row, _)). gives (added self row))
  add_says κs a = refl

  pub select_says : Exact w fn.Rows.select.ended fn.Rows.select.spec (λ κs (self, _). gives (selected_from self))
  select_says κs a = refl

  pub check_request_says : Exact w fn.Rows.check_request.ended fn.Rows.check_request.spec
      (λ κs (self, (n, (f, (v, (e, _))))). gives (judged (gathered_refusals self n f v e)))
  check_request_says κs a = refl

  pub rows_held_says : Exact w fn.VoteRows.rows_held.ended fn.VoteRows.rows_held.spec
      (λ κs (self, (n, (f, (v, _)))).
      gives (cond (leb n 64) (mask (has_row n f v self.now) n) 0))
  rows_held_says κs a = refl

  pub row_held_says : Exact w fn.VoteRows.row_held.ended fn.VoteRows.row_held.spec
      (λ κs (self, (n, (f, (v, (s, _))))).
      gives (has_row n f v self.now s.0))
  row_held_says κs a = refl

  pub request_row_says : Exact w fn.VoteRows.request_row.ended fn.VoteRows.request_row.spec
      (λ κs (self, (n, (f, (v, (s, _))))).
      gives (row_sent n f v self.now s))
  request_row_says κs a = refl

  pub gather_over_says : Exact w fn.slice.gather_over.ended fn.slice.gather_over.spec
      (λ κs (n, (f, (v, (rows, _)))). gives (gathered (no_rows n f v) rows.now))
  gather_over_says κs a = refl

  pub select_over_says : Exact w fn.slice.select_over.ended fn.slice.select_over.spec
      (λ κs (n, (f, (v, (rows, _)))). gives (selected n f v rows.now))
  select_over_says κs a = refl

  pub choose_among_says : Exact w fn.VoteRows.choose_among.ended fn.VoteRows.choose_among.spec
      (λ κs (self, (n, (f, (v, _)))).
      gives (chosen n f v self.now))
  choose_among_says κs a = refl

  pub valid_says : Exact w fn.valid.valid.ended fn.valid.valid.spec (λ κs (n, (f, (v, (x, _)))). gives (valid n f v x))
  valid_says κs a = refl
