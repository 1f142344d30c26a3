use Rattle.typing_laws.proofs.TreePlaceLemmas.{places_there}
use Rattle.typing_laws.proofs.laws.fitting_trees_have_their_places.Goals as goal

pub returns : goal.returns
returns z = λ c s h. places_there c s h
