use Rattle.http_requests.proofs.RefusalLemmas.{begun_of_check}
use Rattle.http_requests.proofs.laws.refusals_are_of_checks.Goals as goal

pub returns : goal.returns
returns c = begun_of_check
