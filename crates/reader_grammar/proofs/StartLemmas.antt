-- Where parses start: a parse that begins with a part starts where the part does.
use Rattle.std.proofs.Common.{◌≡◌, ℕ, List, ◌++◌, sym, ap, ◌∙◌}
use Rattle.task_model.specs.Terms.Text.{Text}
use Rattle.task_model.specs.Syntax.Lexemes.{Lexeme, first_place}
use Rattle.task_model.specs.Syntax.Grammar.{Form, task, operand, listed, series, choice, sum, Series, part_of, Operator, Relation, Prefix, Parse, task_then, task_next, compared, cons, prefixed, joined, tokens}
use Rattle.task_model.specs.Syntax.Nodes.{start}
use Rattle.reader_grammar.proofs.GrammarLemmas.{Some, head_first}
use Rattle.reader_grammar.proofs.ExpressionRules.{prefix_place}

pub first_part : {f : Form} (d : Parse f) → Some f → (more : List Lexeme) → first_place (tokens d ++ more) ≡ start d
first_part d some more = let (w, e) = head_first d some in ap (λ ts. first_place (ts ++ more)) e ∙ sym (ap first_place e)

pub start_then : (t : Parse (series choice)) (p : ℕ) (x : Text) (q r : ℕ) (u : Parse task) → start (task_then t p x q r u) ≡ start t
start_then t p x q r u = first_part t tt _

pub start_next : (t : Parse (series choice)) (p : ℕ) (x : Text) (q r : ℕ) (u : Parse task) → start (task_next t p x q r u) ≡ start t
start_next t p x q r u = first_part t tt _

pub start_compared : (a : Parse listed) (o : Relation) (p : ℕ) (b : Parse listed) → start (compared a o p b) ≡ start a
start_compared a o p b = first_part a tt _

pub start_cons : (a : Parse (series sum)) (p : ℕ) (b : Parse listed) → start (cons a p b) ≡ start a
start_cons a p b = first_part a tt _

pub start_joined : (s : Series) (a : Parse (series s)) (o : Operator s) (p : ℕ) (b : Parse (part_of s)) → start (joined s a o p b) ≡ start a
start_joined s a o p b = first_part a tt _

pub start_prefixed : (o : Prefix) (p : ℕ) (a : Parse operand) → start (prefixed o p a) ≡ p
start_prefixed o p a = prefix_place o p
