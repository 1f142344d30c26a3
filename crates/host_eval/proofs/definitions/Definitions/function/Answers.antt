use Rattle.std.proofs.Common.{map, refl, ap, ◌∙◌}
use Rattle.task_model.specs.Terms.Program.{param_term, def_body_term}
use Rattle.task_model.specs.Running.Checked.{function_of}
use Rattle.task_model.specs.declared.program.DefBody.{DefBody}
use Rattle.host_eval.specs.ValueWords.{option_then}
use Rattle.host_eval.proofs.DefinitionLemmas.{function_first}
use Rattle.host_eval.proofs.definitions.Definitions.function.Goals as goal

pub returns-in-Fun : goal.returns-in-Fun
returns-in-Fun c =
    function_first 0 _ c.args.name.now
    ∙ ap (λ o. option_then o (λ d. function_of d.def.params d.def.what)) c.in_ok-found.ensures
    ∙ ap (λ (w : DefBody). function_of (map param_term c.in_ok-found.found.def.now.params.list) (def_body_term w)) c.in-Fun.is
    ∙ rw (c.as_slice.ensures, c.deref.ensures) refl

pub returns-in-Task : goal.returns-in-Task
returns-in-Task c =
    function_first 0 _ c.args.name.now
    ∙ ap (λ o. option_then o (λ d. function_of d.def.params d.def.what)) c.in_ok-found.ensures
    ∙ ap (λ (w : DefBody). function_of (map param_term c.in_ok-found.found.def.now.params.list) (def_body_term w)) c.in-Task.is

pub returns-in_err-found : goal.returns-in_err-found
returns-in_err-found c =
    rw c.from_residual.ensures
    (function_first 0 _ c.args.name.now
    ∙ ap (λ o. option_then o (λ d. function_of d.def.params d.def.what)) c.in_err-found.ensures)
