use Rattle.std.proofs.Common.{sym, ap}
use Rattle.node_rows.proofs.NextLemmas.{run_grown}
use Rattle.node_rows.proofs.next.NextRows.take_over.Goals as goal

pub returns-then-from-self-clause-rows : goal.returns-then-from-self-clause-rows
returns-then-from-self-clause-rows c =
    rw (sym (ap (λ n. n.older) c.self.view_is)) (run_grown c.self.inside.rows c.take_signs.new.self c.args.self.now.rows
    c.self.inside.older.now c.self.inside.from c.self.inside.to c.args.from c.args.to c.self.invariant.0 c.if-from-self.true
    c.requires.order c.in_ok-take_signs.ensures (sym (ap (λ n. n.rows) c.self.view_is)))
