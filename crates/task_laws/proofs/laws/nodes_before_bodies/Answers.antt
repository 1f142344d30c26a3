use Rattle.task_laws.proofs.TableLemmas.{nodes_before, entries}
use Rattle.task_laws.proofs.FrontLemmas.{fronts}
use Rattle.task_laws.proofs.laws.nodes_before_bodies.Goals as goal

pub returns-clause-entries : goal.returns-clause-entries
returns-clause-entries k = λ p w. entries p w

pub returns-clause-firsts : goal.returns-clause-firsts
returns-clause-firsts k = λ p w i n e. nodes_before p w i n e

pub returns-clause-parsed : goal.returns-clause-parsed
returns-clause-parsed k = λ ds. fronts ds
