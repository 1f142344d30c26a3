use Rattle.task_laws.proofs.MatchLemmas.{matched_exactly, lacking_exactly}
use Rattle.task_laws.proofs.laws.offered_or_not.Goals as goal

pub returns-clause-offered : goal.returns-clause-offered
returns-clause-offered k = λ c budget s i os h. matched_exactly c budget s.tree s.store os i.path i.act h

pub returns-clause-not_offered : goal.returns-clause-not_offered
returns-clause-not_offered k = λ c budget s i os h. lacking_exactly c budget s.tree s.store os i.path i.act h
