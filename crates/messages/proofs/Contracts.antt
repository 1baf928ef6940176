-- What each public function answers, of its contract as the toolchain holds it: nothing is asked, and this is the answer.
use borrow.Fn.World.{World}
use mathlib.Core.Path.{refl}
use Rattle.base.specs.ExactContracts.{Exact, gives, gives_and}
use Rattle.messages.specs.Lines.{row_head}
use Rattle.messages.specs.Reader.{read_line}
use Rattle.messages.specs.Setup.{read_setup}
use Rattle.messages.specs.Writer.{afterwards, written}
use Rattle.messages.specs.contracts as fn

module _ (w : World) where
  pub of_says : Exact w fn.Head.of.ended fn.Head.of.spec (λ κs (r, _). gives (row_head r))
  of_says κs a = refl

  pub read_line_says : Exact w fn.read.read_line.ended fn.read.read_line.spec (λ κs (line, _). gives (read_line line.now))
  read_line_says κs a = refl

  pub read_setup_says : Exact w fn.setup.read_setup.ended fn.setup.read_setup.spec (λ κs (line, _). gives (read_setup line.now))
  read_setup_says κs a = refl

  pub write_line_says : Exact w fn.write.write_line.ended fn.write.write_line.spec
      (λ κs (buf, (m, _)). gives_and (written buf.now m) (afterwards buf.now m))
  write_line_says κs a = refl
