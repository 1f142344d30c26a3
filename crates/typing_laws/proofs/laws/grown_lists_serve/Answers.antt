use Rattle.typing_laws.proofs.FitLemmas.{env_grows, later_grows, tree_grows}
use Rattle.typing_laws.proofs.laws.grown_lists_serve.Goals as goal

pub returns-clause-names : goal.returns-clause-names
returns-clause-names z = λ Σ Σ' env s g h. env_grows Σ Σ' g env s h

pub returns-clause-conts : goal.returns-clause-conts
returns-clause-conts z = λ c Σ Σ' k a b g h. later_grows Σ Σ' g c k a b h

pub returns-clause-trees : goal.returns-clause-trees
returns-clause-trees z = λ c Σ Σ' t b g h. tree_grows Σ Σ' g c t b h
