use Rattle.std.proofs.Common.{refl}
use Rattle.task_laws.proofs.RanLemmas.{stopped, ran_give, ran_ask, ran_ask_stops}
use Rattle.host_eval.proofs.RunLemmas.{ran_known_ok}
use Rattle.host_eval.proofs.WellLemmas.{well_found}
use Rattle.typing_laws.proofs.CallLemmas.{well_ask, well_known}
use Rattle.task_evaluation.proofs.AskLemmas.{well_task}
use Rattle.task_evaluation.proofs.evaluation.edit_form.Goals as goal

pub node_type-requires : goal.node_type-requires
node_type-requires c = well_found _ _ (well_task _ c.requires.accepted c.requires.may)

pub host_value-requires-clause-may : goal.host_value-requires-clause-may
host_value-requires-clause-may c = well_ask (well_known _ _ _ c.in_ok-b.ensures (well_task _ c.requires.accepted c.requires.may))

pub returns-in_err-v-clause-ran : goal.returns-in_err-v-clause-ran
returns-in_err-v-clause-ran c =
    rw (stopped _ c.in_err-v.field-0.0 c.from_residual-in_err-v.ensures.1)
    (ran_known_ok _ c.in_ok-b.ensures (ran_ask_stops _ c.in_err-v.ensures.asked))

pub returns-clause-ran : goal.returns-clause-ran
returns-clause-ran c = ran_known_ok _ c.in_ok-b.ensures (ran_ask _ c.in_ok-v.ensures.asked (ran_give refl))
