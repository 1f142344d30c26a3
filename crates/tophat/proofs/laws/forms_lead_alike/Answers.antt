use Rattle.tophat.proofs.SameHistories.{lines_lead, leads_alike, leads_once}
use Rattle.tophat.proofs.laws.forms_lead_alike.Goals as goal

pub returns-clause-lead : goal.returns-clause-lead
returns-clause-lead k = lines_lead

pub returns-clause-alike : goal.returns-clause-alike
returns-clause-alike k = leads_alike

pub returns-clause-same : goal.returns-clause-same
returns-clause-same k = leads_once
