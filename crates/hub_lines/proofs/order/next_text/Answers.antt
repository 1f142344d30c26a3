use Rattle.hub_lines.proofs.QueueLemmas.{popped, pops_none}
use Rattle.hub_lines.proofs.order.next_text.Goals as goal

pub returns-clause-some : goal.returns-clause-some
returns-clause-some c = popped c.pop_front.result c.args.at c.args.queues.now.items c.index_mut.result.now c.pop_front.new.self c.requires
    c.index_mut.ensures.value c.pop_front.ensures.items

pub returns-clause-none : goal.returns-clause-none
returns-clause-none c = pops_none c.pop_front.result c.args.at c.args.queues.now.items c.index_mut.result.now c.pop_front.new.self c.requires
    c.index_mut.ensures.value c.pop_front.ensures.items c.pop_front.ensures.cases
