use Rattle.http_requests.proofs.OneRequest.{one_request}
use Rattle.http_requests.proofs.laws.one_first_request.Goals as goal

pub returns : goal.returns
returns c = one_request
