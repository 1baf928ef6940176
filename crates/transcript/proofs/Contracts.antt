-- What each public function answers, of its contract as the toolchain holds it: nothing is asked, and this is the answer.
use borrow.Fn.World.{World}
use lib.ListN.{length}
use mathlib.Core.Path.{refl}
use Rattle.base.specs.ExactContracts.{Exact, gives, gives_and}
use Rattle.messages.specs.Writer.{lent}
use Rattle.transcript.specs.Feeding.{begun_by, cut_state, fed_of, last_text, ran, resumed, within}
use Rattle.transcript.specs.LineEnds.{behind_line}
use Rattle.transcript.specs.Texts.{lines_of}
use Rattle.transcript.specs.Transcript.{bad_setup}
use Rattle.transcript.specs.contracts as fn

module _ (w : World) where
  pub replica_says : Exact w fn.State.replica.ended fn.State.replica.spec (λ κs (state, _). gives state.replica)
  replica_says κs a = refl

  pub resume_says : Exact w fn.begin.resume.ended fn.begin.resume.spec (λ κs (s, _). gives (resumed s))
  resume_says κs a = refl

  pub begin_says : Exact w fn.begin.begin.ended fn.begin.begin.spec (λ κs (line, _). gives (begun_by line.now))
  begin_says κs a = refl

  pub put_refusal_says : Exact w fn.begin.put_refusal.ended fn.begin.put_refusal.spec
      (λ κs (out, (number, _)).
      gives_and (length (within (length out.now) (bad_setup number))) (lent out.now (within (length out.now) (bad_setup number))))
  put_refusal_says κs a = refl

  pub feed_says : Exact w fn.feed.feed.ended fn.feed.feed.spec
      (λ κs (state, (s, (out, _))).
      gives_and (fed_of (ran state (lines_of s.now) (length out.now))) (lent out.now (ran state (lines_of s.now) (length out.now)).text))
  feed_says κs a = refl

  pub cut_line_says : Exact w fn.State.cut_line.ended fn.State.cut_line.spec (λ κs (state, _). gives (cut_state state))
  cut_line_says κs a = refl

  pub finish_says : Exact w fn.finish.finish.ended fn.finish.finish.spec
      (λ κs (state, (more, (out, _))).
      gives_and (length (within (length out.now) (last_text state more))) (lent out.now (within (length out.now) (last_text state more))))
  finish_says κs a = refl

  pub end_of_line_says : Exact w fn.lines.end_of_line.ended fn.lines.end_of_line.spec (λ κs (s, (from, _)). gives (behind_line s.now from))
  end_of_line_says κs a = refl
