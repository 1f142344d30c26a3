use Rattle.std.specs.Prelude.{OnOk}
use Rattle.std.proofs.Common.{Result, Ok, Err}
use Rattle.task_model.specs.Terms.Input.{entry_term}
use Rattle.input_lines.proofs.EntryLemmas.{entry_again}
use Rattle.input_lines.proofs.print.print_entry.Goals as goal

where_ok : {X Y : Type 0} (P : Type 0) (r : Result X Y) → P → OnOk r P
where_ok P (Ok x) p = p
where_ok P (Err e) p = tt

pub returns-clause-again : goal.returns-clause-again
returns-clause-again c = λ seat limits. where_ok _ c.of_string.result
    (entry_again (entry_term c.args.e.now) seat (c.in_ok-push_act.ensures.literal limits))
