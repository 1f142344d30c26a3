use Rattle.json_face.proofs.AskedLemmas.{only_one, has_seat}
use Rattle.json_face.proofs.parse.parse_json_line.Goals as goal

pub returns-clause-only : goal.returns-clause-only
returns-clause-only c = only_one c.args.bytes.now c.line_of.result c.line_of.ensures.found c.line_of.ensures.bad

pub returns-clause-seat : goal.returns-clause-seat
returns-clause-seat c = has_seat c.args.bytes.now c.line_of.result c.line_of.ensures.found
