use Rattle.json_face.proofs.OnePage.{only_page}
use Rattle.json_face.proofs.read.read_page.Goals as goal

pub returns-clause-only : goal.returns-clause-only
returns-clause-only c = only_page c.args.bytes.now c.page_in.result c.page_in.ensures.found c.page_in.ensures.bad
