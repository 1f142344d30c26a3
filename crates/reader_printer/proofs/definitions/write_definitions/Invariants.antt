use Rattle.std.proofs.Common.{◌≡◌, ◌++◌, map, drop}
use Rattle.task_model.specs.Terms.Task.{body_term}
use Rattle.task_model.specs.Terms.Program.{def_term}
use Rattle.task_model.specs.Syntax.Printed.{body_texts, definitions_text}
use Rattle.reader_printer.proofs.definitions.write_definitions.Given as goal

abbrev pub invariant-loop-d : goal.invariant-loop-d
invariant-loop-d l =
    l.out ++ definitions_text (body_texts 0 (map body_term l.bodies)) (map def_term (drop l.d-index l.defs)) ≡ l.fn.out
    ++ definitions_text (body_texts 0 (map body_term l.bodies)) (map def_term l.defs)
