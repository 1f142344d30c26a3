use Rattle.typing_laws.proofs.HistoryLemmas.{main_fits, opening_kept}
use Rattle.typing_laws.proofs.laws.opening_fits.Goals as goal

pub returns-clause-main : goal.returns-clause-main
returns-clause-main z = λ c accepted. main_fits c accepted

pub returns-clause-opening : goal.returns-clause-opening
returns-clause-opening z = λ c budget s accepted o. let k = opening_kept c accepted budget s o in (k.0, k.2)
