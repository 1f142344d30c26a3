use Rattle.std.specs.Prelude.{OnOk}
use Rattle.std.proofs.Common.{◌≡◌, ◌∷◌, ◌++◌, codes, map, ap, ◌∙◌, subst}
use Rattle.task_model.specs.Terms.Basic.{basic_term}
use Rattle.task_model.specs.Terms.Task.{body_term}
use Rattle.task_model.specs.Terms.Program.{param_term, def_body_term}
use Rattle.task_model.specs.Syntax.Printed.{basic_tokens, body_texts, parameters_tokens, definition_body}
use Rattle.reader_printer.proofs.ListLemmas.{line_written}
use Rattle.reader_printer.proofs.definitions.write_definition.Goals as goal

pub returns : goal.returns
returns c =
    let d = c.args.d.now in
    let front = d.name ∷ codes "(" ∷ parameters_tokens (map param_term d.params.list) ++ codes ")" ∷ codes ":"
    ∷ basic_tokens (basic_term d.result) in
    let body = definition_body (body_texts 0 (map body_term c.args.bodies.now)) (def_body_term d.what) in
    let line = line_written c.args.out.now c.put.new.self c.write_head.new.out c.write_body.new.out _ front body
    (c.in_ok-put.ensures ∙ ap (λ w. c.args.out.now ++ w) c.word.ensures) c.in_ok-write_head.ensures c.in_ok-write_body.ensures in
    subst (λ t. OnOk c.put-2.result (c.put-2.new.self ≡ t)) (ap (λ t. t ++ codes "\n") line) c.put-2.ensures
