use Rattle.json_face.proofs.AskedLemmas.{one_asked}
use Rattle.json_face.proofs.LineDecisions.{json_line_or_none}
use Rattle.json_face.proofs.laws.one_json_line.Goals as goal

pub returns-clause-some : goal.returns-clause-some
returns-clause-some c = json_line_or_none

pub returns-clause-meanings : goal.returns-clause-meanings
returns-clause-meanings c = one_asked
