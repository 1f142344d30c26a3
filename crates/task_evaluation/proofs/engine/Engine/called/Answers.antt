use Rattle.std.proofs.Common.{map, refl, sym, ap, ◌∙◌}
use Rattle.task_model.specs.Terms.Program.{param_term, program_term, def_body_term}
use Rattle.task_model.specs.Running.Checked.{SeenChecked, callee_of, counts_of, task_named}
use Rattle.task_model.specs.declared.program.DefBody.{DefBody}
use Rattle.host_eval.specs.Numbered.{numbered_term}
use Rattle.task_evaluation.specs.FirstParts.{what_parts}
use Rattle.task_evaluation.proofs.TableLemmas.{called_here, called_listed, called_is, called_fun, called_none}
use Rattle.task_evaluation.proofs.engine.Engine.called.Goals as goal

pub number_at-requires : goal.number_at-requires
number_at-requires c =
    rw (c.as_slice-in-Task.ensures, c.self.invariant.defined)
    (called_listed (program_term c.self.inside.definitions.program) c.args.name.now (numbered_term c.in_ok-found.found) c.in_ok-found.ensures)

pub parts_of_definition-requires : goal.parts_of_definition-requires
parts_of_definition-requires c =
    rw (← c.self.view_is) (rw (called_here (program_term c.self.inside.definitions.program) c.args.name.now
    (numbered_term c.in_ok-found.found) c.in_ok-found.ensures) refl)

pub returns-in-Fun-clause-named : goal.returns-in-Fun-clause-named
returns-in-Fun-clause-named c =
    sym (ap (λ (z : SeenChecked). task_named (program_term z.program) c.args.name.now) c.self.view_is)
    ∙ called_fun (program_term c.self.inside.definitions.program) c.args.name.now (numbered_term c.in_ok-found.found) c.in_ok-found.ensures
    _ (ap def_body_term c.in-Fun.is)

pub returns-in-Task-clause-named : goal.returns-in-Task-clause-named
returns-in-Task-clause-named c =
    let first = rw (c.as_slice-in-Task.ensures, c.self.invariant.defined) at c.number_at.ensures in
    sym (ap (λ (z : SeenChecked). task_named (program_term z.program) c.args.name.now) c.self.view_is)
    ∙ called_is (program_term c.self.inside.definitions.program) c.args.name.now (numbered_term c.in_ok-found.found) c.in_ok-found.ensures
    c.number_at.result first
    ∙ ap (λ (w : DefBody). callee_of (map param_term c.in_ok-found.found.def.now.params.list) c.number_at.result (def_body_term w))
    c.in-Task.is
    ∙ rw (c.as_slice.ensures, c.deref.ensures) refl

pub returns-in-Task-clause-parts : goal.returns-in-Task-clause-parts
returns-in-Task-clause-parts c =
    let here = rw c.self.view_is at (called_here (program_term c.self.inside.definitions.program) c.args.name.now
    (numbered_term c.in_ok-found.found) c.in_ok-found.ensures) in
    (rw here at c.parts_of_definition.ensures)
    ∙ ap (λ (w : DefBody). what_parts (counts_of (program_term c.args.self.now.program)) (def_body_term w)) c.in-Task.is
    ∙ rw c.deref.ensures refl

pub returns-in_err-found-clause-named : goal.returns-in_err-found-clause-named
returns-in_err-found-clause-named c =
    rw c.from_residual.ensures
    (sym (ap (λ (z : SeenChecked). task_named (program_term z.program) c.args.name.now) c.self.view_is)
    ∙ called_none (program_term c.self.inside.definitions.program) 0 0 _ c.args.name.now c.in_err-found.ensures)
