-- Parentheses that are needed: what can't be reached from a place stands in parentheses there.
use Rattle.std.proofs.Common.{◌≡◌, ℕ, zero, suc, ◌≤◌, true, refl, arith}
use Rattle.std.specs.Prelude.{nat_lt}
use Rattle.std.proofs.lemmas.Bool.Decides.{nat_tests}
use Rattle.task_model.specs.Syntax.Grammar as grammar
use Rattle.task_model.specs.Syntax.Grammar.{Parse}
use Rattle.reader_printer.specs.PrintedPlaces.{form_at, task_form, NeedsParentheses, TaskNeedsParentheses}

lower : (p q r : ℕ) → p ≤ q → nat_lt q r ≡ true → nat_lt p r ≡ true
lower p q r le h = grind (arith, nat_tests, h, le)

-- ---- expressions
atom_needs : (d : Parse grammar.atom) → NeedsParentheses 0 d
atom_needs (grammar.group p e q) h = (e, (p, q, refl), refl)
atom_needs d h = absurd cc

operand_needs : (d : Parse grammar.operand) → NeedsParentheses 1 d
operand_needs (grammar.unprefixed a) h = atom_needs a (lower 0 1 _ (omega arith) h)
operand_needs (grammar.prefixed grammar.negative p a) h = absurd cc
operand_needs (grammar.prefixed grammar.not p a) h = absurd cc
operand_needs (grammar.prefixed grammar.fst p a) h = absurd cc
operand_needs (grammar.prefixed grammar.snd p a) h = absurd cc
operand_needs (grammar.prefixed grammar.len p a) h = absurd cc

product_needs : (d : Parse (grammar.series grammar.product)) → NeedsParentheses 2 d
product_needs (grammar.single grammar.product a) h = operand_needs a (lower 1 2 _ (omega arith) h)
product_needs (grammar.joined grammar.product a grammar.times p b) h = absurd cc
product_needs (grammar.joined grammar.product a grammar.quot p b) h = absurd cc
product_needs (grammar.joined grammar.product a grammar.rem p b) h = absurd cc

sum_needs : (d : Parse (grammar.series grammar.sum)) → NeedsParentheses 3 d
sum_needs (grammar.single grammar.sum a) h = product_needs a (lower 2 3 _ (omega arith) h)
sum_needs (grammar.joined grammar.sum a grammar.plus p b) h = absurd cc
sum_needs (grammar.joined grammar.sum a grammar.minus p b) h = absurd cc
sum_needs (grammar.joined grammar.sum a grammar.join p b) h = absurd cc

listed_needs : (d : Parse grammar.listed) → NeedsParentheses 4 d
listed_needs (grammar.unlisted a) h = sum_needs a (lower 3 4 _ (omega arith) h)
listed_needs (grammar.cons a p b) h = absurd cc

comparison_needs : (d : Parse grammar.comparison) → NeedsParentheses 5 d
comparison_needs (grammar.uncompared a) h = listed_needs a (lower 4 5 _ (omega arith) h)
comparison_needs (grammar.compared a grammar.equal p b) h = absurd cc
comparison_needs (grammar.compared a grammar.unequal p b) h = absurd cc
comparison_needs (grammar.compared a grammar.less p b) h = absurd cc
comparison_needs (grammar.compared a grammar.less_equal p b) h = absurd cc
comparison_needs (grammar.compared a grammar.greater p b) h = absurd cc
comparison_needs (grammar.compared a grammar.greater_equal p b) h = absurd cc

both_needs : (d : Parse (grammar.series grammar.both)) → NeedsParentheses 6 d
both_needs (grammar.single grammar.both a) h = comparison_needs a (lower 5 6 _ (omega arith) h)
both_needs (grammar.joined grammar.both a grammar.and p b) h = absurd cc

either_needs : (d : Parse (grammar.series grammar.either)) → NeedsParentheses 7 d
either_needs (grammar.single grammar.either a) h = both_needs a (lower 6 7 _ (omega arith) h)
either_needs (grammar.joined grammar.either a grammar.or p b) h = absurd cc

expression_needs : (p : ℕ) (d : Parse grammar.expression) → NeedsParentheses (suc (suc (suc (suc (suc (suc (suc (suc p)))))))) d
expression_needs p (grammar.plain e) h = either_needs e (lower 7 _ _ (omega arith) h)
expression_needs p (grammar.let_in _ _ _ _ _ _ _) h = absurd (grind (arith, nat_tests, h))
expression_needs p (grammar.if_then _ _ _ _ _ _) h = absurd (grind (arith, nat_tests, h))
expression_needs p (grammar.case_of _ _ _ _ _ _ _ _ _ _ _ _ _ _ _) h = absurd (grind (arith, nat_tests, h))

pub needs_parentheses : (p : ℕ) (d : Parse (form_at p)) → NeedsParentheses p d
needs_parentheses zero d = atom_needs d
needs_parentheses (suc zero) d = operand_needs d
needs_parentheses (suc (suc zero)) d = product_needs d
needs_parentheses (suc (suc (suc zero))) d = sum_needs d
needs_parentheses (suc (suc (suc (suc zero)))) d = listed_needs d
needs_parentheses (suc (suc (suc (suc (suc zero))))) d = comparison_needs d
needs_parentheses (suc (suc (suc (suc (suc (suc zero)))))) d = both_needs d
needs_parentheses (suc (suc (suc (suc (suc (suc (suc zero))))))) d = either_needs d
needs_parentheses (suc (suc (suc (suc (suc (suc (suc (suc p)))))))) d = expression_needs p d

-- ---- tasks
task_atom_needs : (d : Parse grammar.task_atom) (next : ℕ) → TaskNeedsParentheses 0 d next
task_atom_needs (grammar.task_group p t q) next h = (t, (p, q, refl), refl)
task_atom_needs d next h = absurd cc

chain_needs : (d : Parse (grammar.series grammar.chain)) (next : ℕ) → TaskNeedsParentheses 1 d next
chain_needs (grammar.single grammar.chain a) next h = task_atom_needs a next (lower 0 1 _ (omega arith) h)
chain_needs (grammar.joined grammar.chain a o p b) next h = absurd cc

choice_needs : (d : Parse (grammar.series grammar.choice)) (next : ℕ) → TaskNeedsParentheses 2 d next
choice_needs (grammar.single grammar.choice a) next h = chain_needs a next (lower 1 2 _ (omega arith) h)
choice_needs (grammar.joined grammar.choice a grammar.internal p b) next h = absurd cc
choice_needs (grammar.joined grammar.choice a grammar.external p b) next h = absurd cc

task_needs : (p : ℕ) (d : Parse grammar.task) (next : ℕ) → TaskNeedsParentheses (suc (suc (suc p))) d next
task_needs p (grammar.task_plain t) next h = choice_needs t next (lower 2 _ _ (omega arith) h)
task_needs p (grammar.task_then _ _ _ _ _ _) next h = absurd (grind (arith, nat_tests, h))
task_needs p (grammar.task_next _ _ _ _ _ _) next h = absurd (grind (arith, nat_tests, h))
task_needs p (grammar.task_let _ _ _ _ _ _ _) next h = absurd (grind (arith, nat_tests, h))
task_needs p (grammar.task_if _ _ _ _ _ _) next h = absurd (grind (arith, nat_tests, h))
task_needs p (grammar.task_case _ _ _ _ _ _ _ _ _ _ _ _ _ _ _) next h = absurd (grind (arith, nat_tests, h))
task_needs p (grammar.task_new _ _ _ _ _ _ _) next h = absurd (grind (arith, nat_tests, h))
task_needs p (grammar.task_put _ _ _ _ _ _) next h = absurd (grind (arith, nat_tests, h))

pub task_needs_parentheses : (p : ℕ) (d : Parse (task_form p)) (next : ℕ) → TaskNeedsParentheses p d next
task_needs_parentheses zero d = task_atom_needs d
task_needs_parentheses (suc zero) d = chain_needs d
task_needs_parentheses (suc (suc zero)) d = choice_needs d
task_needs_parentheses (suc (suc (suc p))) d = task_needs p d
