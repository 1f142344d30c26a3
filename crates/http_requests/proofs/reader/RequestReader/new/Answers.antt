use Rattle.std.proofs.Common.{arith}
use Rattle.http_requests.proofs.reader.RequestReader.new.Goals as goal

pub returns : goal.returns
returns c = λ bytes. record {
  looked = c.new.ensures bytes;
  wanted = λ more ended short. absurd (omega (arith, short));
  enough = λ some. absurd (omega (arith, some));
}
