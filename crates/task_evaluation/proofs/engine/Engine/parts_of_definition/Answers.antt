use Rattle.std.proofs.Common.{length, refl}
use Rattle.std.proofs.lemmas.Option.{slice_get_read}
use Rattle.task_model.specs.Terms.Program.{program_term}
use Rattle.task_evaluation.proofs.PartLemmas.{definition_row}
use Rattle.task_evaluation.proofs.engine.Engine.parts_of_definition.Goals as goal

pub returns : goal.returns
returns c =
    let rows = c.self.inside.definition_parts.list in
    let there = slice_get_read rows (length rows) c.args.number c.in-Some.parts.now refl (rw c.as_slice.ensures at c.in-Some.ensures.lookup.3.0)
    (rw c.as_slice.ensures at c.in-Some.ensures.lookup.1) in
    rw (c.as_slice-in-Some.ensures, ← c.self.view_is)
    (definition_row (program_term c.self.inside.definitions.program) rows c.args.number c.in-Some.parts.now c.self.invariant.in_definitions
    there)
