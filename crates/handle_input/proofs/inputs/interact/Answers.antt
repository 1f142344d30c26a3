use Rattle.std.proofs.Common.{◌≡◌, ◌∙◌, List, true, refl, map, arith}
use Rattle.task_model.specs.Terms.Value.{value_term}
use Rattle.task_model.specs.declared.value.Value.{Value}
use Rattle.task_model.specs.Terms.Tree.{tree_term, at}
use Rattle.task_model.specs.Terms.Input.{input_term}
use Rattle.task_model.specs.Running.Checked.{checked_term}
use Rattle.task_engine.specs.Quiet.{FiresNothing}
use Rattle.handle_input.specs.declared.led.Led.{Led}
use Rattle.handle_input.proofs.EndLemmas.{outcome_ended, held_ended, each_ended, values_ended}
use Rattle.handle_input.proofs.inputs.interact.Goals as goal

pub interacted-answer-requires-clause-fits : goal.interacted-answer-requires-clause-fits
interacted-answer-requires-clause-fits c = rw c.in_ok-begin.ensures.list c.requires.fits

pub interacted-answer-requires-clause-quiet : goal.interacted-answer-requires-clause-quiet
interacted-answer-requires-clause-quiet c = rw c.in_ok-begin.ensures.list c.requires.quiet

pub ended-requires : goal.ended-requires
ended-requires c = rw (c.interacted-answer.ensures.layers, c.in_ok-begin.ensures.ok) (omega arith)

pub returns-clause-layers : goal.returns-clause-layers
returns-clause-layers c = c.ended.ensures.layers _ _ (c.interacted-answer.ensures.layers ∙ c.in_ok-begin.ensures.ok)

pub returns-clause-refused : goal.returns-clause-refused
returns-clause-refused c = c.ended.ensures.undone _ _ (c.interacted-answer.ensures.layers ∙ c.in_ok-begin.ensures.ok)

pub returns-clause-held : goal.returns-clause-held
returns-clause-held c = held_ended _ _ _ c.ended.ensures.answer c.interacted-answer.ensures.held

pub returns-clause-outcome : goal.returns-clause-outcome
returns-clause-outcome c =
    outcome_ended (checked_term c.args.engine.now) c.args.budget (at (tree_term c.args.t.now) (map value_term c.args.store.now.list))
    (input_term c.args.input.now) _ _ c.new.ensures.units c.new.ensures.height _ _ _ _ c.ended.ensures.answer c.ended.ensures.kept
    (rw c.in_ok-begin.ensures.list at c.interacted-answer.ensures.ran)

pub returns-clause-along : goal.returns-clause-along
returns-clause-along c = each_ended _ _ _ c.ended.ensures.answer c.interacted-answer.ensures.along

pub returns-clause-quiet : goal.returns-clause-quiet
returns-clause-quiet c =
    values_ended (λ (τ : List Value) (led : Led). led.quiet ≡ true → FiresNothing (tree_term led.tree) (map value_term τ)) _ _ _ _
    c.ended.ensures.answer c.ended.ensures.kept c.interacted-answer.ensures.quiet
