use Rattle.history_lines.proofs.EntryWriting.{at_item, written_next, failed_next, ran_out_next}
use Rattle.history_lines.proofs.writing.write_entries.Goals as goal

pub loop-item-preserved : goal.loop-item-preserved
loop-item-preserved g c = written_next _ _ _ _ _ _ _ _ _ _ _ _ (at_item _ _ _ _ _ _ c.args.items.now c.loop-item.item-index
    c.item-item.result c.loop-item-test.true c.item-item.is c.loop-item.invariant)
    c.in-Whole.ensures.bytes c.in-Whole.ensures.exact c.in-Whole.ensures.beside

pub returns-in-Failed-clause-bytes : goal.returns-in-Failed-clause-bytes
returns-in-Failed-clause-bytes g c = failed_next _ _ _ _ _ _ _ _ _ _ (at_item _ _ _ _ _ _ c.args.items.now c.loop-item.item-index
    c.item-item.result c.loop-item-test.true c.item-item.is c.loop-item.invariant) c.in-Failed.ensures.bytes

pub returns-in-Memory-clause-bytes : goal.returns-in-Memory-clause-bytes
returns-in-Memory-clause-bytes g c = ran_out_next _ _ _ _ _ _ _ _ _ _ (at_item _ _ _ _ _ _ c.args.items.now c.loop-item.item-index
    c.item-item.result c.loop-item-test.true c.item-item.is c.loop-item.invariant) c.in-Memory.ensures.bytes
