use Rattle.std.proofs.Common.{map, ap, ◌∙◌, subst}
use Rattle.exact_reading.specs.Reading.{seen}
use Rattle.task_model.specs.Syntax.Grammar as grammar
use Rattle.reader_grammar.specs.Languages.{Reads}
use Rattle.reader_grammar.specs.Parts.{lexemes}
use Rattle.reader_tasks.specs.Tasks.{shown_task, parsed_task}
use Rattle.reader_programs.proofs.definition.body_of_task.Goals as goal

pub returns : goal.returns
returns c = subst (λ s. Reads grammar.task (shown_task s c.args.next) c.args.room (lexemes c.args.tokens.now)
    (seen (λ r. (parsed_task r.0, lexemes r.1.now)) c.task.result))
    (c.in_ok-scope.ensures.names ∙ ap (λ l. map (λ q. q.name) l) c.as_slice.ensures) c.task.ensures
