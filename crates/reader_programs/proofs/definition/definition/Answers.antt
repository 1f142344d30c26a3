use Rattle.std.proofs.Common.{◌∷◌, sym, subst}
use Rattle.exact_reading.specs.Reading.{seen}
use Rattle.task_model.specs.Syntax.Lexemes.{keyword}
use Rattle.task_model.specs.Syntax.Grammar as grammar
use Rattle.reader_grammar.specs.Languages.{Reads}
use Rattle.reader_grammar.specs.Parts.{lexemes}
use Rattle.reader_programs.specs.Definitions.{shown_meaning, shown_definition}
use Rattle.reader_programs.specs.DefinitionKeywords.{word_of}
use Rattle.reader_programs.proofs.definition.definition.Goals as goal

pub returns-in-Function : goal.returns-in-Function
returns-in-Function c = subst
    (λ k. Reads grammar.definition (shown_meaning c.args.next) c.args.room (keyword (word_of k) c.args.place ∷ lexemes c.args.tokens.now)
    (seen (λ r. (shown_definition r.0, lexemes r.1.now)) c.function.result)) (sym c.in-Function.is) (c.function.ensures c.args.next)

pub returns-in-Task : goal.returns-in-Task
returns-in-Task c = subst
    (λ k. Reads grammar.definition (shown_meaning c.args.next) c.args.room (keyword (word_of k) c.args.place ∷ lexemes c.args.tokens.now)
    (seen (λ r. (shown_definition r.0, lexemes r.1.now)) c.task_definition.result)) (sym c.in-Task.is) c.task_definition.ensures
