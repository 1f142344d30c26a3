use Rattle.std.proofs.Common.{◌∙◌, arith}
use Rattle.task_engine.proofs.SignLemmas.{ran_spends}
use Rattle.task_model.specs.declared.tree.Tree.{Tree}
use Rattle.handle_input.proofs.EndLemmas.{ran_ended, held_ended}
use Rattle.handle_input.proofs.inputs.handle.Goals as goal

pub handled-answer-requires-clause-fits : goal.handled-answer-requires-clause-fits
handled-answer-requires-clause-fits c = rw c.in_ok-begin.ensures.list c.requires.fits

pub ended-requires : goal.ended-requires
ended-requires c = rw (c.handled-answer.ensures.layers, c.in_ok-begin.ensures.ok) (omega arith)

pub returns-clause-layers : goal.returns-clause-layers
returns-clause-layers c = c.ended.ensures.layers _ _ (c.handled-answer.ensures.layers ∙ c.in_ok-begin.ensures.ok)

pub returns-clause-refused : goal.returns-clause-refused
returns-clause-refused c = c.ended.ensures.undone _ _ (c.handled-answer.ensures.layers ∙ c.in_ok-begin.ensures.ok)

pub returns-clause-held : goal.returns-clause-held
returns-clause-held c = held_ended _ _ _ c.ended.ensures.answer c.handled-answer.ensures.held

pub returns-clause-handles : goal.returns-clause-handles
returns-clause-handles c =
    ran_spends (ran_ended (λ (t : Tree). t) _ _ _ _ c.ended.ensures.answer c.ended.ensures.kept
    (rw (c.in_ok-begin.ensures.list, c.as_slice-turns.ensures) at c.handled-answer.ensures.ran))
