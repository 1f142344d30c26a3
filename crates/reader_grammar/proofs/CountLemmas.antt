-- A fault's place, by the tokens of the code.
use Rattle.std.proofs.Common.{List, length, Err, subst}
use Rattle.std.proofs.lemmas.List.{length-map}
use Rattle.exact_reading.specs.declared.stop.FaultKind.{FaultKind}
use Rattle.exact_reading.specs.declared.stop.ParseStop.TheVariants.{Fault}
use Rattle.exact_reading.specs.Reading.{Language, Right}
use Rattle.reader_grammar.specs.declared.lexeme.PositionedToken.{PositionedToken}
use Rattle.task_model.specs.Syntax.Lexemes.{Lexeme}
use Rattle.reader_grammar.specs.Parts.{lexeme, lexemes}

pub counted : {X : Type 0} {A : Language Lexeme X} {F : X → Type 0} {E : List Lexeme → Type 0} {kind : FaultKind}
    (tokens : List PositionedToken)
    → Right A F E (lexemes tokens) (Err (Fault kind (length (lexemes tokens))))
    → Right A F E (lexemes tokens) (Err (Fault kind (length tokens)))
counted {A = A} {F = F} {E = E} {kind = kind} tokens right =
    subst (λ n. Right A F E (lexemes tokens) (Err (Fault kind n))) (length-map tokens lexeme) right
