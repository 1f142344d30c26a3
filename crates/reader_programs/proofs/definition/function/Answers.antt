use Rattle.std.proofs.Common.{refl, sym, ◌∙◌, arith}
use Rattle.reader_grammar.proofs.Exits.{handed_on}
use Rattle.task_model.specs.Syntax.Grammar.{expression, definition}
use Rattle.reader_grammar.proofs.GrammarLemmas.{stops_within}
use Rattle.reader_grammar.proofs.PartlyRead.{begun, past_one, past_part, stop_one, stop_part, whole}
use Rattle.reader_programs.proofs.DefinitionRules as rules
use Rattle.reader_task_forms.proofs.ReadingLemmas.{level}
use Rattle.reader_programs.proofs.DefinitionLemmas.{function_shown}
use Rattle.reader_programs.proofs.definition.function.Goals as goal

pub returns-in_err-name : goal.returns-in_err-name
returns-in_err-name c = λ next.
    rw (handed_on c.from_residual.result c.from_residual.ensures.1) (record {
      by = stop_one (begun (rules.function_rule _) refl c.requires) c.in_err-name.ensures;
    })

pub returns-in_err-parameters : goal.returns-in_err-parameters
returns-in_err-parameters c = λ next.
    rw (handed_on c.from_residual-in_err-parameters.result c.from_residual-in_err-parameters.ensures.1) (record {
      by = stop_part (past_one (begun (rules.function_rule _) refl c.requires) c.in_ok-name.ensures) (λ p z. refl) level
          c.in_err-parameters.ensures.by;
    })

pub returns-in_err-rest : goal.returns-in_err-rest
returns-in_err-rest c = λ next.
    rw (handed_on c.from_residual-in_err-rest.result c.from_residual-in_err-rest.ensures.1) (record {
      by = stop_one (past_part (past_one (begun (rules.function_rule _) refl c.requires) c.in_ok-name.ensures) (λ p z. refl) level
          c.in_ok-parameters.ensures) c.in_err-rest.ensures;
    })

pub returns-in_err-result : goal.returns-in_err-result
returns-in_err-result c = λ next.
    rw (handed_on c.from_residual-in_err-result.result c.from_residual-in_err-result.ensures.1) (record {
      by = stop_part (past_one (past_part (past_one (begun (rules.function_rule _) refl c.requires) c.in_ok-name.ensures) (λ p z. refl)
          level c.in_ok-parameters.ensures) c.in_ok-rest.ensures) (λ p z. refl) level c.in_err-result.ensures.by;
    })

pub returns-in_err-rest-2 : goal.returns-in_err-rest-2
returns-in_err-rest-2 c = λ next.
    rw (handed_on c.from_residual-in_err-rest-2.result c.from_residual-in_err-rest-2.ensures.1) (record {
      by = stop_one (past_part (past_one (past_part (past_one (begun (rules.function_rule _) refl c.requires) c.in_ok-name.ensures)
          (λ p z. refl) level c.in_ok-parameters.ensures) c.in_ok-rest.ensures) (λ p z. refl) level c.in_ok-result.ensures)
          c.in_err-rest-2.ensures;
    })

pub returns-in_err-body : goal.returns-in_err-body
returns-in_err-body c = λ next.
    rw (handed_on c.from_residual-in_err-body.result c.from_residual-in_err-body.ensures.1) (record {
      by = stop_part (past_one (past_part (past_one (past_part (past_one (begun (rules.function_rule _) refl c.requires)
          c.in_ok-name.ensures) (λ p z. refl) level c.in_ok-parameters.ensures) c.in_ok-rest.ensures) (λ p z. refl) level
          c.in_ok-result.ensures) c.in_ok-rest-2.ensures) (stops_within expression definition (omega arith)) level
          c.in_err-body.ensures.by;
    })

pub returns : goal.returns
returns c = λ next.
    let (x1, s1, f1) = c.in_ok-parameters.ensures.by in
    let (x3, s3, f3) = c.in_ok-result.ensures.by in
    let (x5, s5, f5) = c.in_ok-body.ensures.by in
    record {
      by = (
        _,
        function_shown next _ _ 0 x1.0 0 x3.0 0 x5.0 s1 s3 s5 ∙ sym c.in_ok-read.ensures.shown,
        whole (past_part (past_one (past_part (past_one (past_part (past_one (begun (rules.function_rule _) refl c.requires)
            c.in_ok-name.ensures) (λ p z. refl) level c.in_ok-parameters.ensures) c.in_ok-rest.ensures) (λ p z. refl) level
            c.in_ok-result.ensures) c.in_ok-rest-2.ensures) (stops_within expression definition (omega arith)) level c.in_ok-body.ensures),
      );
    }
