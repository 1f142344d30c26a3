use Rattle.stride_bound.proofs.ExistLemmas.{bound_exists, bound_once}
use Rattle.stride_bound.proofs.laws.one_bound.Goals as goal

pub returns-clause-exists : goal.returns-clause-exists
returns-clause-exists c = bound_exists

pub returns-clause-only : goal.returns-clause-only
returns-clause-only c = bound_once
