use Rattle.std.proofs.Common.{sym, ◌∙◌}
use Rattle.http_forms.proofs.FormLemmas.{no_memory}
use Rattle.http_forms.proofs.set_values.literal_value.Goals as goal

pub returns-in-Err-Bad-clause-err : goal.returns-in-Err-Bad-clause-err
returns-in-Err-Bad-clause-err c = λ b is. no_memory (sym c.in-Err-Bad.field-0-is ∙ c.in-Err-Bad.ensures.only b is)
