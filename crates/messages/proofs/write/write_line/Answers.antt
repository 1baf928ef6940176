use Rattle.std.specs.Prelude.{Err}
use Rattle.std.proofs.Common.{◌≡◌, sym, ◌∙◌, rules}
use Rattle.messages.proofs.Writing.{line_put, line_refused, line_taken}
use Rattle.messages.proofs.write.write_line.Goals as goal

pub returns-in_err-check_line : goal.returns-in_err-check_line
returns-in_err-check_line c =
    let a = c.args in
    let why = c.in_err-check_line.field-0.0 in
    let is : c.from_residual.result ≡ Err why = search rules in
    let no = line_refused a.buf.now a.m _ _ why c.writable.ensures c.line_length-n.ensures (sym c.in_err-check_line.ensures) in
    (is ∙ no.0, no.1)

pub returns : goal.returns
returns c =
    let a = c.args in
    let yes = line_taken a.buf.now a.m _ _ _ c.writable.ensures c.line_length-n.ensures (sym c.in_ok-check_line.ensures) in
    let put = line_put _ a.m _ _ _ _ _ c.kind_of.ensures c.put_byte.ensures c.put_fields-end.ensures.0 c.put_byte-2.ensures yes.1.1 in
    (yes.0, put ∙ yes.1.0)
