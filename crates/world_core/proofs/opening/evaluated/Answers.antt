use Rattle.std.proofs.Common.{map, ap}
use Rattle.task_model.specs.Terms.Value.{value_term}
use Rattle.task_model.specs.Terms.Task.{task_term}
use Rattle.task_model.specs.Terms.Tree.{tree_term, at}
use Rattle.task_model.specs.declared.tree.Tree.{Tree}
use Rattle.task_model.specs.Running.Checked.{checked_term}
use Rattle.host_eval.specs.NamesTerm.{names_term}
use Rattle.world_core.proofs.WorldLemmas.{opening_may, opening_is, opening_never}
use Rattle.world_core.proofs.opening.evaluated.Goals as goal

pub normalise-requires : goal.normalise-requires
normalise-requires c = record {
  may = opening_may (checked_term c.args.engine.now) (task_term c.args.call.now) (names_term c.of_params-names.result) _
      (rw c.checked.ensures at c.program-accepted.ensures.accepted) c.requires.main c.of_params-names.ensures
      (ap (map value_term) c.requires.empty);
}

pub returns-in-Ok-clause-ok : goal.returns-in-Ok-clause-ok
returns-in-Ok-clause-ok c =
    rw c.of.ensures (opening_is (λ (u : Tree). at (tree_term u) (map value_term c.normalise.new.store.list)) (checked_term c.args.engine.now) c.args.budget
    (task_term c.args.call.now) (names_term c.of_params-names.result) _ _ _ c.requires.main c.of_params-names.ensures
    (ap (map value_term) c.requires.empty) c.new.ensures.units c.new.ensures.height _ c.in-Ok.ensures.spends)

pub returns-in-Ok-clause-quiet : goal.returns-in-Ok-clause-quiet
returns-in-Ok-clause-quiet c = rw c.of.ensures (λ e. absurd cc)

pub returns-in-Err-Over-clause-over : goal.returns-in-Err-Over-clause-over
returns-in-Err-Over-clause-over c = λ _ s o.
    opening_never (λ (u : Tree). at (tree_term u) (map value_term c.normalise.new.store.list)) (checked_term c.args.engine.now)
    c.args.budget
    (task_term c.args.call.now) (names_term c.of_params-names.result) (map value_term c.args.store.now.list) c.new.result
    c.normalise.new.purse c.requires.main c.of_params-names.ensures (ap (map value_term) c.requires.empty) c.new.ensures.units
    c.new.ensures.height c.in-Err-Over.field-0 c.in-Err-Over.field-0-is c.in-Err-Over.ensures.spends s o
