use Rattle.std.proofs.Common.{sym, ◌∙◌, map, subst, Err, arith}
use Rattle.task_model.specs.Terms.Value.{value_term}
use Rattle.task_model.specs.Terms.Tree.{tree_term, at}
use Rattle.task_model.specs.Terms.Input.{input_term}
use Rattle.task_model.specs.Running.Checked.{checked_term}
use Rattle.handle_input.specs.Answers.{TellsOutcome}
use Rattle.task_engine.proofs.StrideLemmas.{restored, same_store}
use Rattle.live_tree.specs.Live.{led_tree}
use Rattle.live_tree.proofs.LiveLemmas.{on_err, refusal_told}
use Rattle.live_tree.proofs.tree.LiveTree.apply.Goals as goal

pub returns-in_err-begin-clause-refused : goal.returns-in_err-begin-clause-refused
returns-in_err-begin-clause-refused c = on_err _ (same_store c.in_err-begin.ensures.list c.in_err-begin.ensures.err)

pub led-requires : goal.led-requires
led-requires c = record { fits = rw c.in_ok-begin.ensures.list c.requires.fits; quiet = rw c.in_ok-begin.ensures.list c.requires.quiet }

pub drop_layer-requires : goal.drop_layer-requires
drop_layer-requires c = rw (c.led.ensures.layers, c.in_ok-begin.ensures.ok) (omega arith)

pub returns-in-Err-clause-refused : goal.returns-in-Err-clause-refused
returns-in-Err-clause-refused c = restored (sym c.drop_layer.ensures ∙ c.led.ensures.layers ∙ c.in_ok-begin.ensures.ok)

pub returns-in-Err-clause-outcome : goal.returns-in-Err-clause-outcome
returns-in-Err-clause-outcome c =
    refusal_told (checked_term c.args.engine.now) c.args.budget (at (tree_term c.args.self.now.tree) (map value_term c.args.store.now.list))
    (input_term c.args.input.now) (map value_term c.led.new.store.list) (map value_term c.drop_layer.new.self.list)
    c.in-Err.stop
    (subst (λ σ. TellsOutcome (checked_term c.args.engine.now) c.args.budget (at (tree_term c.args.self.now.tree) (map value_term σ))
    (input_term c.args.input.now) (map value_term c.led.new.store.list) (led_tree (Err c.in-Err.stop))) c.in_ok-begin.ensures.list
    c.in-Err.ensures.outcome)

pub returns-in-Ok-clause-outcome : goal.returns-in-Ok-clause-outcome
returns-in-Ok-clause-outcome c = rw c.in_ok-begin.ensures.list at c.in-Ok.ensures.outcome
