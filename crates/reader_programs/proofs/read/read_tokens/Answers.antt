use Rattle.std.proofs.Common.{sym, ◌∙◌}
use Rattle.task_model.specs.Terms.Program.{program_term}
use Rattle.reader_programs.specs.declared.read.Read.{Read}
use Rattle.reader_programs.proofs.TextLemmas.{none_left, some_left, texts, only_texts, left_over, stopped, numbers}
use Rattle.reader_programs.proofs.read.read_tokens.Goals as goal

pub returns-then-is_empty-clause-found : goal.returns-then-is_empty-clause-found
returns-then-is_empty-clause-found c =
    texts c.args.source.now c.args.tokens.now c.requires.has (none_left c.in-Ok.rest.now (sym c.is_empty.ensures ∙ c.if-is_empty.true))
    c.in-Ok.ensures {R = Read} (λ r. program_term r.program) (λ r. r.places.list) c.requires.short c.read_of.result
    c.read_of.ensures.program
    c.read_of.ensures.places

pub returns-then-is_empty-clause-only : goal.returns-then-is_empty-clause-only
returns-then-is_empty-clause-only c =
    only_texts c.args.source.now c.args.tokens.now c.requires.has (none_left c.in-Ok.rest.now (sym c.is_empty.ensures ∙ c.if-is_empty.true))
    c.in-Ok.ensures {R = Read} (λ r. program_term r.program) (λ r. r.places.list) c.read_of.result c.read_of.ensures.program
    c.read_of.ensures.places

pub fault_of-requires-clause-first : goal.fault_of-requires-clause-first
fault_of-requires-clause-first c = left_over c.args.source.now c.args.tokens.now c.requires.has
    (some_left c.in-Ok.rest.now (sym c.is_empty.ensures ∙ c.if-is_empty.false)) c.in-Ok.ensures

pub fault_of-requires-in-Err-Fault-clause-first : goal.fault_of-requires-in-Err-Fault-clause-first
fault_of-requires-in-Err-Fault-clause-first c =
    stopped c.args.source.now c.args.tokens.now c.requires.has (rw c.in-Err-Fault.field-0-is at c.in-Err-Fault.ensures)

pub program-requires-clause-numbers : goal.program-requires-clause-numbers
program-requires-clause-numbers c = numbers c.args.source.now c.args.tokens.now c.requires.has c.requires.short
