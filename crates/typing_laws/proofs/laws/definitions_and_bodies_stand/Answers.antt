use Rattle.typing_laws.proofs.ProgramLemmas.{facts_of}
use Rattle.typing_laws.proofs.laws.definitions_and_bodies_stand.Goals as goal

pub returns : goal.returns
returns z = λ c accepted. facts_of c accepted
