use Rattle.std.proofs.Common.{◌++◌, ap, ◌∙◌}
use Rattle.std.proofs.lemmas.Result.{IfOk-weaker}
use Rattle.task_model.specs.Terms.Basic.{basic_term}
use Rattle.task_model.specs.Syntax.Literal.{basic_text}
use Rattle.literal_text.proofs.PrintLemmas.{printed_name}
use Rattle.literal_text.proofs.print.print_basic.Goals as goal

pub returns-clause-small : goal.returns-clause-small
returns-clause-small c =
    let written = c.in_ok-write_basic.ensures ∙ ap (λ l. l ++ basic_text (basic_term c.args.b.now)) c.new-text.ensures.bytes in
    λ small. IfOk-weaker _ _ _ (λ t is. printed_name _ t (is ∙ written) small) c.of_string.ensures
