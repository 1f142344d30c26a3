use Rattle.std.proofs.Common.{◌++◌, ap, ◌∙◌}
use Rattle.std.proofs.lemmas.Result.{IfOk-weaker}
use Rattle.task_model.specs.Terms.Value.{value_term}
use Rattle.task_model.specs.Syntax.Literal.{value_text}
use Rattle.literal_text.proofs.PrintLemmas.{printed_literal, printed_typed}
use Rattle.literal_text.proofs.print.print_value.Goals as goal

pub returns-clause-any : goal.returns-clause-any
returns-clause-any c =
    let written = c.in_ok-write_value.ensures.text ∙ ap (λ l. l ++ value_text (value_term c.args.v.now)) c.new-text.ensures.bytes in
    let held = c.in_ok-write_value.ensures.held in
    λ limits levels. IfOk-weaker _ _ _ (λ t is. printed_literal _ t (is ∙ written) held limits levels) c.of_string.ensures

pub returns-clause-typed : goal.returns-clause-typed
returns-clause-typed c =
    let written = c.in_ok-write_value.ensures.text ∙ ap (λ l. l ++ value_text (value_term c.args.v.now)) c.new-text.ensures.bytes in
    let held = c.in_ok-write_value.ensures.held in
    λ b small has. IfOk-weaker _ _ _ (λ t is. printed_typed _ t (is ∙ written) held b small has) c.of_string.ensures
