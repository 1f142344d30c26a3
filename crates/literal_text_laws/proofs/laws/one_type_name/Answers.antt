use Rattle.exact_reading.proofs.Whole.{no_word}
use Rattle.literal_text_laws.proofs.Decided.{one_place}
use Rattle.literal_text_laws.proofs.TypeNames.{some_name, one_type}
use Rattle.literal_text_laws.proofs.laws.one_type_name.Goals as goal

pub returns-clause-some : goal.returns-clause-some
returns-clause-some c = some_name

pub returns-clause-types : goal.returns-clause-types
returns-clause-types c = one_type

pub returns-clause-places : goal.returns-clause-places
returns-clause-places c = λ t p q. one_place p q

pub returns-clause-apart : goal.returns-clause-apart
returns-clause-apart c = λ t b p h f. no_word f h tt
