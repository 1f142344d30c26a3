use Rattle.std.proofs.Common.{refl}
use Rattle.session_gate.proofs.FirstRequests.{first_requests, only_requests}
use Rattle.session_gate.proofs.laws.answered_requests_come_first.Goals as goal

pub returns-clause-first : goal.returns-clause-first
returns-clause-first c = λ asked behind rs qs rest h p le. first_requests asked behind rs refl h p le

pub returns-clause-only : goal.returns-clause-only
returns-clause-only c = λ asked behind rs qs rest h p le none. only_requests asked behind rs refl h p le none
