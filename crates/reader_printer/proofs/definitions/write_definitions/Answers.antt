use Rattle.std.proofs.Common.{map, sym, ◌∙◌}
use Rattle.task_model.specs.Terms.Task.{body_term}
use Rattle.task_model.specs.Syntax.Printed.{body_texts}
use Rattle.reader_printer.proofs.ListLemmas.{definition_step}
use Rattle.reader_printer.proofs.definitions.write_definitions.Goals as goal

pub loop-d-preserved : goal.loop-d-preserved
loop-d-preserved c =
    sym (definition_step (body_texts 0 (map body_term c.args.bodies.now))
    c.loop-d.out c.write_definition.new.out c.args.defs.now c.loop-d.d-index c.d-item.result c.loop-d-test.true c.d-item.is
    c.in_ok-write_definition.ensures)
    ∙ c.loop-d.invariant
