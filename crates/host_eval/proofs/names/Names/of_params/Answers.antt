use Rattle.std.proofs.Common.{sym, map}
use Rattle.task_model.specs.Terms.Env.{slot_term}
use Rattle.host_eval.proofs.NameLemmas.{param_names-names}
use Rattle.host_eval.proofs.names.Names.of_params.Goals as goal

pub returns : goal.returns
returns c = λ i. record {
  names = sym (param_names-names c.args.params.now) i;
  slots = map slot_term c.args.slots.now;
  first = c.args.first;
}
