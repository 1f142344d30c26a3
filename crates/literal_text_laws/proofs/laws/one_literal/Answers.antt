use Rattle.exact_reading.proofs.Whole.{no_word}
use Rattle.literal_text_laws.proofs.Decided.{one_place}
use Rattle.literal_text_laws.proofs.OneLiteral.{some_any, one_any}
use Rattle.literal_text_laws.proofs.laws.one_literal.Goals as goal

pub returns-clause-some : goal.returns-clause-some
returns-clause-some c = some_any

pub returns-clause-values : goal.returns-clause-values
returns-clause-values c = one_any

pub returns-clause-places : goal.returns-clause-places
returns-clause-places c = λ t p q. one_place p q

pub returns-clause-apart : goal.returns-clause-apart
returns-clause-apart c = λ t v p h f. no_word f h tt
