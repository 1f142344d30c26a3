use Rattle.task_model.specs.Terms.Program.{program_term}
use Rattle.task_reader.proofs.WrittenLemmas.{written_result}
use Rattle.task_reader.proofs.read.read_program.Goals as goal

pub returns-clause-written : goal.returns-clause-written
returns-clause-written c = written_result c.args.bytes.now (λ r. program_term r.program) (λ r. r.places.list) c.read_program.result
    c.read_program.ensures.found
