use Rattle.http_requests.proofs.OneList.{one_list}
use Rattle.http_requests.proofs.laws.one_list_of_requests.Goals as goal

pub returns : goal.returns
returns c = λ bytes rs qs x y. one_list
