-- What each public function answers, of its contract as the toolchain holds it: nothing is asked, and this is the answer.
use borrow.Fn.World.{World}
use lib.ListN.{length}
use mathlib.Core.List.{[], ◌∷◌}
use mathlib.Core.Path.{refl}
use Rattle.base.specs.ExactContracts.{Exact, gives_and, value}
use Rattle.messages.specs.Writer.{afterwards, lent, written, written_length, written_number}
use Rattle.votes.specs.Rows.{number_of}
use Rattle.station.specs.Calls.{ran_by, selected_by, selected_words, setup_by}
use Rattle.station.specs.Words.{message_of, replica_of, scalars_of}
use Rattle.station.specs.contracts as fn

module _ (w : World) where
  pub luscarembo_setup_says : Exact w fn.calls.luscarembo_setup.ended fn.calls.luscarembo_setup.spec
      (λ κs (n, (f, (seat, (hi, (lo, _))))).
      let t = setup_by n f seat hi lo in
      (value t.number, (scalars_of t.next, (t.next.acks.entries, (t.next.acks.views, (t.next.votes.votes.entries, (t.next.votes.votes.masks, (t.next.votes.votes.views, tt))))))))
  luscarembo_setup_says κs a = refl

  pub luscarembo_events_says : Exact w fn.calls.luscarembo_events.ended fn.calls.luscarembo_events.spec
      (λ κs (scalars, (ack-entries, (ack-views, (vote-entries, (vote-masks, (vote-views, (text, (out, _)))))))).
      let t = ran_by (replica_of scalars.now ack-entries.now ack-views.now vote-entries.now vote-masks.now vote-views.now) text.now (length out.now) in
      (value (length t.text), (scalars_of t.state.replica, (t.state.replica.acks.entries, (t.state.replica.acks.views, (t.state.replica.votes.votes.entries, (t.state.replica.votes.votes.masks, (t.state.replica.votes.votes.views, (lent out.now t.text, tt)))))))))
  luscarembo_events_says κs a = refl

  pub luscarembo_select_says : Exact w fn.calls.luscarembo_select.ended fn.calls.luscarembo_select.spec
      (λ κs (n, (f, (view, (text, _)))). gives_and (number_of (selected_by n f view text.now)) (selected_words (selected_by n f view text.now)))
  luscarembo_select_says κs a = refl

  pub luscarembo_write_says : Exact w fn.calls.luscarembo_write.ended fn.calls.luscarembo_write.spec
      (λ κs (kind, (words, (buf, _))).
      let m = message_of kind words.now in
      (value (written_number (written buf.now m)), (afterwards buf.now m, (written_length (written buf.now m) ∷ [], tt))))
  luscarembo_write_says κs a = refl
