use Rattle.tophat.proofs.StatusLemmas.{all_written}
use Rattle.tophat.proofs.laws.all_was_written.Goals as goal

pub returns : goal.returns
returns k = λ l command file script before now status told fine verdict v report reports.
    all_written l command file script before now status told fine verdict v report reports
