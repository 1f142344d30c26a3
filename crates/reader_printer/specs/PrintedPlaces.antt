-- The nonterminals at which expressions and tasks stand, from the tightest: each at the number that is its place.
use Rattle.std.specs.Prelude.{◌≡◌, ℕ, zero, suc, nat_lt, true, List, [], ◌∷◌, ◌++◌}
use Rattle.task_model.specs.Terms.Host.{HostTerm}
use Rattle.task_model.specs.Terms.Task.{TaskTerm}
use Rattle.task_model.specs.declared.symbol.Symbol.TheVariants as signs
use Rattle.task_model.specs.Syntax.Lexemes.{Lexeme, symbol}
use Rattle.task_model.specs.Syntax.Grammar as grammar
use Rattle.task_model.specs.Syntax.Grammar.{Form, Parse, tokens}
use Rattle.task_model.specs.Syntax.Meaning.{meaning}
use Rattle.task_model.specs.Syntax.Printed.{place, expression_rank, task_rank}

abbrev pub form_at : ℕ → Form
form_at zero = grammar.atom
form_at (suc zero) = grammar.operand
form_at (suc (suc zero)) = grammar.series grammar.product
form_at (suc (suc (suc zero))) = grammar.series grammar.sum
form_at (suc (suc (suc (suc zero)))) = grammar.listed
form_at (suc (suc (suc (suc (suc zero))))) = grammar.comparison
form_at (suc (suc (suc (suc (suc (suc zero)))))) = grammar.series grammar.both
form_at (suc (suc (suc (suc (suc (suc (suc zero))))))) = grammar.series grammar.either
form_at (suc (suc (suc (suc (suc (suc (suc (suc p)))))))) = grammar.expression

-- the expression that a parse there stands for
abbrev pub term_at : (p : ℕ) → Parse (form_at p) → HostTerm
term_at zero d = meaning d
term_at (suc zero) d = meaning d
term_at (suc (suc zero)) d = meaning d
term_at (suc (suc (suc zero))) d = meaning d
term_at (suc (suc (suc (suc zero)))) d = meaning d
term_at (suc (suc (suc (suc (suc zero))))) d = meaning d
term_at (suc (suc (suc (suc (suc (suc zero)))))) d = meaning d
term_at (suc (suc (suc (suc (suc (suc (suc zero))))))) d = meaning d
term_at (suc (suc (suc (suc (suc (suc (suc (suc p)))))))) d = meaning d

abbrev pub task_form : ℕ → Form
task_form zero = grammar.task_atom
task_form (suc zero) = grammar.series grammar.chain
task_form (suc (suc zero)) = grammar.series grammar.choice
task_form (suc (suc (suc p))) = grammar.task

-- the task that a parse there stands for where its first body has this number
abbrev pub task_term_at : (p : ℕ) → Parse (task_form p) → ℕ → TaskTerm
task_term_at zero d = meaning d
task_term_at (suc zero) d = meaning d
task_term_at (suc (suc zero)) d = meaning d
task_term_at (suc (suc (suc p))) d = meaning d

-- tokens in parentheses
abbrev pub Encloses : List Lexeme → List Lexeme → Type 0
Encloses ts inner = (p : ℕ) × (q : ℕ) × (ts ≡ symbol signs.Open p ∷ inner ++ symbol signs.Close q ∷ [])

-- an expression whose own production can't be reached from its place stands in parentheses there
abbrev pub NeedsParentheses : (p : ℕ) → Parse (form_at p) → Type 0
NeedsParentheses p d = nat_lt (place (form_at p)) (expression_rank (term_at p d)) ≡ true
    → (e : Parse grammar.expression) × Encloses (tokens d) (tokens e) × (meaning e ≡ term_at p d)

-- and so does a task
abbrev pub TaskNeedsParentheses : (p : ℕ) → Parse (task_form p) → ℕ → Type 0
TaskNeedsParentheses p d next = nat_lt (place (task_form p)) (task_rank (task_term_at p d next)) ≡ true
    → (t : Parse grammar.task) × Encloses (tokens d) (tokens t) × (meaning t next ≡ task_term_at p d next)
