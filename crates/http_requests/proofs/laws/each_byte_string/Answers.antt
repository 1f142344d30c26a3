use Rattle.http_requests.proofs.EachBytes.{each_begun, idle_begun}
use Rattle.http_requests.proofs.laws.each_byte_string.Goals as goal

pub returns-clause-some : goal.returns-clause-some
returns-clause-some c = each_begun

pub returns-clause-idle : goal.returns-clause-idle
returns-clause-idle c = idle_begun
