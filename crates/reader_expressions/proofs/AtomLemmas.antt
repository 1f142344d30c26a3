-- Atoms by their first token.
use Rattle.std.proofs.Common.{◌≡◌, ℕ, ◌≤◌, ◌<◌, true, false, List, ◌∷◌, length, Ok, Err}
use Rattle.task_model.specs.Terms.Text.{Text}
use Rattle.task_model.specs.declared.keyword.Keyword.TheVariants as words
use Rattle.task_model.specs.declared.symbol.Symbol.TheVariants as signs
use Rattle.exact_reading.specs.declared.stop.ParseStop.TheVariants.{Fault}
use Rattle.exact_reading.specs.declared.stop.FaultKind.TheVariants.{Unexpected, TooNested}
use Rattle.exact_reading.specs.Reading.{IsWithinLevels, Right}
use Rattle.exact_reading.proofs.Symbols.{seq_done}
use Rattle.task_model.specs.Syntax.Lexemes.{Lexeme, keyword, symbol, name, number, quoted_text}
use Rattle.task_model.specs.Syntax.Grammar.{atom, Parse, digits, quoted, constant, nothing, named, content, call, group, pair, elements, nil}
use Rattle.reader_grammar.specs.Languages.{Of, EndsForm}
use Rattle.reader_grammar.proofs.GrammarLemmas.{grammar, head}
use Rattle.reader_grammar.proofs.RuleLemmas.{by_rule, too_deep, no_parse}
use Rattle.reader_grammar.proofs.ExpressionRules.{number_rule, quote_rule, truth_rule}
use Rattle.reader_expressions.specs.LiteralTokens.{Literal, a_number, a_text, a_truth, literal_token, literal_atom, NoLiteral, NoSimple}

-- ---- literals
pub literal_read : (l : Literal) (p : ℕ) {room : ℕ} {ts rest : List Lexeme} → ts ≡ literal_token l p ∷ rest → 1 ≤ room
    → Right (Of atom) (IsWithinLevels room) (EndsForm atom) ts (Ok ((literal_atom l p, 1), rest))
literal_read (a_number t) p e le = by_rule (number_rule t p) e le (seq_done grammar 1 le)
literal_read (a_text t v) p e le = by_rule (quote_rule t v p) e le (seq_done grammar 1 le)
literal_read (a_truth b) p e le = by_rule (truth_rule b p) e le (seq_done grammar 1 le)

pub literal_deep : (l : Literal) (p : ℕ) {room : ℕ} {ts rest : List Lexeme} → ts ≡ literal_token l p ∷ rest → room < 1
    → Right (Of atom) (IsWithinLevels room) (EndsForm atom) ts (Err (Fault TooNested (length ts)))
literal_deep (a_number t) p e lt = too_deep (number_rule t p) e lt
literal_deep (a_text t v) p e lt = too_deep (quote_rule t v p) e lt
literal_deep (a_truth b) p e lt = too_deep (truth_rule b p) e lt

pub no_literal : (ts : List Lexeme) → ((t : Text) (p : ℕ) (s : List Lexeme) → ts ≡ number t p ∷ s → ⊥)
    → ((t v : Text) (p : ℕ) (s : List Lexeme) → ts ≡ quoted_text t v p ∷ s → ⊥)
    → ((p : ℕ) (s : List Lexeme) → ts ≡ keyword words.True p ∷ s → ⊥)
    → ((p : ℕ) (s : List Lexeme) → ts ≡ keyword words.False p ∷ s → ⊥) → NoLiteral ts
no_literal ts n q t f (a_number d) p s e = n d p s e
no_literal ts n q t f (a_text d v) p s e = q d v p s e
no_literal ts n q t f (a_truth true) p s e = t p s e
no_literal ts n q t f (a_truth false) p s e = f p s e

-- ---- the tokens begin no atom
module _ (ts : List Lexeme) (simple : NoSimple ts) (no_name : (x : Text) (p : ℕ) (s : List Lexeme) → ts ≡ name x p ∷ s → ⊥)
    (no_open : (p : ℕ) (s : List Lexeme) → ts ≡ symbol signs.Open p ∷ s → ⊥)
    (no_bracket : (p : ℕ) (s : List Lexeme) → ts ≡ symbol signs.OpenBracket p ∷ s → ⊥) where
  none : (d : Parse atom) (s : List Lexeme) → ts ≡ head d ∷ s → ⊥
  none (digits t p) s e = simple.no_literal (a_number t) p s e
  none (quoted t v p) s e = simple.no_literal (a_text t v) p s e
  none (constant b p) s e = simple.no_literal (a_truth b) p s e
  none (nothing p q) s e = no_open p s e
  none (named x p) s e = no_name x p s e
  none (content p x q) s e = simple.no_content p s e
  none (call x p es) s e = no_name x p s e
  none (group p d q) s e = no_open p s e
  none (pair p a q b r) s e = no_open p s e
  none (elements p es q) s e = no_bracket p s e
  none (nil p b) s e = simple.no_nil p s e

  pub no_atom : {room : ℕ} → Right (Of atom) (IsWithinLevels room) (EndsForm atom) ts (Err (Fault Unexpected (length ts)))
  no_atom = no_parse tt ts none
