use Rattle.std.proofs.Common.{drop}
use Rattle.task_model.specs.Terms.Item.{history_term}
use Rattle.history_lines.proofs.EntryWriting.{HasWritten}
use Rattle.history_lines.proofs.writing.write_entries.Given as goal

abbrev pub invariant-loop-item : goal.invariant-loop-item
invariant-loop-item g l = HasWritten (g.O.Sink.taken l.initial.out) (g.O.Sink.taken l.out) (g.O.Sink.faults l.initial.out)
    (g.O.Sink.faults l.out) (g.O.Sink.beside l.initial.out) (g.O.Sink.beside l.out) (history_term l.items)
    (history_term (drop l.item-index l.items))
