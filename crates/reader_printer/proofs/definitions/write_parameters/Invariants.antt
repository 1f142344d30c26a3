use Rattle.std.proofs.Common.{◌≡◌, map, drop}
use Rattle.task_model.specs.Terms.Program.{param_term}
use Rattle.reader_printer.specs.Lines.{with_tokens}
use Rattle.task_model.specs.Syntax.Printed.{parameters_tokens}
use Rattle.reader_printer.proofs.ListLemmas.{parameters_left}
use Rattle.reader_printer.proofs.definitions.write_parameters.Given as goal

abbrev pub invariant-loop-q : goal.invariant-loop-q
invariant-loop-q l =
    with_tokens l.out (parameters_left l.first (map param_term (drop l.q-index l.params))) ≡ with_tokens l.fn.out
    (parameters_tokens (map param_term l.params))
