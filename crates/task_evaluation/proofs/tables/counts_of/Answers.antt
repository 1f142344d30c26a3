use Rattle.std.proofs.Common.{map, length, sym, ap, ◌∙◌, arith}
use Rattle.task_model.specs.Terms.Task.{body_term}
use Rattle.task_model.specs.Running.Checked.{counts_from}
use Rattle.task_evaluation.proofs.TableLemmas.{drop_past}
use Rattle.task_evaluation.proofs.tables.counts_of.Goals as goal

pub loop-at-init : goal.loop-at-init
loop-at-init c =
    let many = c.in_ok-counts.ensures in
    record {
      long = many;
      within = omega arith;
      counted =
          drop_past c.in_ok-counts.counts.items (length c.args.bodies.now) (omega (arith, many))
          ∙ sym (ap (λ l. counts_from (length c.args.bodies.now) (map body_term l))
          (drop_past c.args.bodies.now (length c.args.bodies.now) (omega arith)));
    }
