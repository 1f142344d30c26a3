use Rattle.tophat.proofs.WorkLemmas.{soak_written, soak_refused}
use Rattle.tophat.proofs.work.soak.Goals as goal

pub returns-in-Ok-clause-worked : goal.returns-in-Ok-clause-worked
returns-in-Ok-clause-worked g c = λ holds left.
    soak_written c.args.count c.args.seed holds left _ _ c.in-Ok.text c.write_text.result c.in-Ok.ensures.text c.in-Ok.ensures.verdict_is
    c.write_text.ensures.wrote

pub returns-in-Err-clause-worked : goal.returns-in-Err-clause-worked
returns-in-Err-clause-worked g c = λ holds left.
    soak_refused c.args.count c.args.seed holds left _ c.in-Err.why c.in-Err.ensures.text c.in-Err.ensures.verdict_is
