use Rattle.literal_text.proofs.SomeLiteral.{some_any, some_typed, some_name}
use Rattle.literal_text.proofs.laws.some_literal.Goals as goal

pub returns-clause-any : goal.returns-clause-any
returns-clause-any c = some_any

pub returns-clause-typed : goal.returns-clause-typed
returns-clause-typed c = some_typed

pub returns-clause-names : goal.returns-clause-names
returns-clause-names c = some_name
