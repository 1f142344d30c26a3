use Rattle.std.proofs.Common.{◌≤◌, length, sym, subst, arith}
use Rattle.std.proofs.lemmas.Result.{IfOk-weaker}
use Rattle.input_lines.specs.ScriptLines.{line_term}
use Rattle.json_face.specs.JsonLines.{IsJsonLine, IsJsonText}
use Rattle.json_face.proofs.parse.line_of.Goals as goal

pub returns-clause-found : goal.returns-clause-found
returns-clause-found c =
    let short : length c.args.bytes.now ≤ 1048576 = omega (arith, c.if-bytes-gt-LINE_BYTE_LIMIT.false) in
    IfOk-weaker c.text_asks.result (λ l. IsJsonText c.body_of.result.now (line_term l)) (λ l. IsJsonLine 1048576 c.args.bytes.now (line_term l))
    (λ l is. record { within = short; is = subst (λ t. IsJsonText t (line_term l)) c.body_of.ensures is }) c.text_asks.ensures.found

pub returns-clause-bad : goal.returns-clause-bad
returns-clause-bad c = λ e l h. c.text_asks.ensures.bad e l (subst (λ t. IsJsonText t l) (sym c.body_of.ensures) h.is)
