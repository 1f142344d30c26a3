use Rattle.input_lines.proofs.Decisions.{line_or_place, one_line_meaning}
use Rattle.input_lines.proofs.LawLemmas.{one_place, line_is_good, of_front, to_front}
use Rattle.input_lines.proofs.laws.one_line.Goals as goal

pub returns-clause-places : goal.returns-clause-places
returns-clause-places c = one_place

pub returns-clause-apart : goal.returns-clause-apart
returns-clause-apart c = line_is_good

pub returns-clause-fronts : goal.returns-clause-fronts
returns-clause-fronts c = λ longest whole over place. (of_front longest whole over place, to_front longest whole over place)

pub returns-clause-some : goal.returns-clause-some
returns-clause-some c = λ longest t. line_or_place longest t

pub returns-clause-meanings : goal.returns-clause-meanings
returns-clause-meanings c = one_line_meaning
