use Prim.Native.Nat.{◌+◌, ◌*◌, ◌≤◌, ◌<◌, ◌^◌}
use mathlib.Core.Bool.{Bool, cond}
use mathlib.Core.Path.{◌≡◌, sym, ap, ◌∙◌, subst}
use native.Mathlib.Omega.{arith}
use borrow.Author.Tests.{le-leb}
use Rattle.text.specs.PutLaws.{become}
use Rattle.votes.specs.Request.{rows_sent}
use Rattle.transcript.specs.Printed.{RowWritable}
use Rattle.transcript.specs.Rooms.{row_room}
use Rattle.transcript.proofs.SentRows.{lines_below, row_more, row_writable, rows_short}
use Rattle.transcript.proofs.print.put_rows.Goals as goal
use Rattle.transcript.proofs.print.put_rows.Goals.{After-rows_of-k-end, At-loop-k}

-- As many rows as seats are looked at.
all : (c : After-rows_of-k-end) → c.rows_of-k-end.result ≡ c.args.n
all c = c.rows_of-k-end.ensures ∙ ap (λ (b : Bool). cond b c.args.n 64) (le-leb _ 64 c.requires.0)

-- What was put is short.
short : (c : At-loop-k)
    → (c.loop-k.k ≤ 64) × (c.loop-k.p ≤ c.args.at + row_room * c.loop-k.k)
short c =
    let few : c.loop-k.k ≤ 64 = omega (arith, c.loop-k.auto, all (goal.at.At-loop-k c).After-rows_of-k-end, c.requires.0) in
    let v = c.args.v in
    let small : v.0 < 2 ^ 32 = omega (arith, c.well_formed.1.1.1.1.1.0) in
    (few, omega (arith, c.loop-k.invariant.place, rows_short c.args.n c.args.f v c.args.rows.now small c.loop-k.k few))

pub put_row-p-requires : goal.put_row-p-requires
put_row-p-requires c =
    let less = c.loop-k-test.true in
    let h = short (goal.at.put_row-p-requires c).At-loop-k in
    let can = row_writable c.args.n c.args.f c.args.v c.args.rows.now c.loop-k.k (omega arith) in (
      subst RowWritable (sym c.request_row-r.ensures) can,
      omega (arith, h, less, all (goal.at.put_row-p-requires c).After-rows_of-k-end, c.requires, c.loop-k.invariant.same),
    )

pub loop-k-preserved : goal.loop-k-preserved
loop-k-preserved c =
    row_more c.args.n c.args.f c.args.v c.args.rows.now _ _ c.loop-k.k _ _ _ _ _ c.loop-k.invariant
    c.request_row-r.ensures c.put_row-p.ensures

pub returns : goal.returns
unfolding rows_sent
returns c =
    let a = c.args in
    let end : c.loop-k.k ≡ a.n = omega (arith, c.loop-k.auto, c.loop-k-test.false, all (goal.at.returns c).After-rows_of-k-end) in (
      become _ _ _ _ _ _ (ap (lines_below a.n a.f a.v c.args.rows.now) end) c.loop-k.invariant,
      omega (arith, short (goal.at.returns c).At-loop-k),
    )
