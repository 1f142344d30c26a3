use Rattle.std.proofs.Common.{sym, ◌∙◌}
use Rattle.reader_printer.proofs.ListLemmas.{parameter_step}
use Rattle.reader_printer.proofs.definitions.write_parameters.Goals as goal

pub loop-q-preserved : goal.loop-q-preserved
loop-q-preserved c =
    sym (parameter_step c.loop-q.first c.loop-q.out c.comma.new.self c.write_parameter.new.out c.args.params.now c.loop-q.q-index
    c.q-item.result c.loop-q-test.true c.q-item.is c.in_ok-comma.ensures c.in_ok-write_parameter.ensures)
    ∙ c.loop-q.invariant
