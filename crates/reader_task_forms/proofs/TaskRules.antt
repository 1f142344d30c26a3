-- The productions of tasks that begin with a keyword or a parenthesis.
use Rattle.std.proofs.Common.{◌≡◌, ℕ, ◌+◌, List, [], ◌∷◌, length, Err, refl, sym, ap, ◌∙◌, arith}
use Rattle.task_model.specs.Terms.Text.{Text}
use Rattle.task_model.specs.declared.keyword.Keyword.TheVariants as words
use Rattle.task_model.specs.declared.symbol.Symbol.TheVariants as signs
use Rattle.exact_reading.specs.declared.stop.ParseStop.TheVariants.{Fault}
use Rattle.exact_reading.specs.declared.stop.FaultKind.TheVariants.{Unexpected}
use Rattle.exact_reading.specs.Reading.{IsWithinLevels, Right}
use Rattle.exact_reading.proofs.Symbols.{Sym, one, part, Values}
use Rattle.task_model.specs.Syntax.Lexemes.{Lexeme, keyword, symbol, name}
use Rattle.task_model.specs.Syntax.Grammar.{basic, task, task_atom, expression, atom, series, enclosed, arguments, choice, Parse, task_let, task_if, task_case, task_new, task_plain, task_then, task_next, task_edit, task_enter, task_share, task_fail, task_call, task_group, tokens, levels}
use Rattle.reader_grammar.specs.Languages.{Of, EndsForm}
use Rattle.reader_grammar.proofs.GrammarLemmas.{grammar, head, starts_not, a_sign, a_name}
use Rattle.reader_grammar.proofs.RuleLemmas.{Rule, tokens_of, most_of, no_parse}
use Rattle.reader_grammar.proofs.ExpressionRules.{binding_symbols, if_symbols, if_tokens, case_symbols, case_tokens}
use Rattle.reader_tasks.specs.declared.binding.Binding.{Binding}
use Rattle.reader_tasks.specs.declared.binding.Binding.TheVariants.{Let, New}
use Rattle.reader_tasks.specs.TaskOperators.{binding_keyword}

-- ---- let and new
-- the parse of a binding
abbrev pub binding_parse : Binding → ℕ → Text → ℕ → ℕ → Parse expression → ℕ → Parse task → Parse task
binding_parse Let p x q r e s t = task_let p x q r e s t
binding_parse New p x q r e s t = task_new p x q r e s t

abbrev pub binding_build : Binding → ℕ → Values grammar (binding_symbols task) → Parse task
binding_build b p vs = binding_parse b p vs.0.0 vs.0.1 vs.1.0 vs.1.1.0 vs.1.1.1.0 vs.1.1.1.1.0

not_bound : (b : Binding) (p : ℕ) (d : Parse (series choice)) → head d ≡ keyword (binding_keyword b) p → ⊥
not_bound Let p d h = starts_not d (keyword words.Let p) refl h
not_bound New p d h = starts_not d (keyword words.New p) refl h

pub binding_back : (b : Binding) (p : ℕ) (d : Parse task) → head d ≡ keyword (binding_keyword b) p
    → (vs : Values grammar (binding_symbols task)) × (binding_build b p vs ≡ d)
binding_back b p (task_plain t) h = absurd (not_bound b p t h)
binding_back b p (task_then t q x r s u) h = absurd (not_bound b p t h)
binding_back b p (task_next t q x r s u) h = absurd (not_bound b p t h)
binding_back Let p (task_let q x r s e t d) h = let same : q ≡ p = cc in
    (((x, r), (s, (e, (t, (d, tt))))), ap (λ n. task_let n x r s e t d) (sym same))
binding_back New p (task_new q x r s e t d) h = let same : q ≡ p = cc in
    (((x, r), (s, (e, (t, (d, tt))))), ap (λ n. task_new n x r s e t d) (sym same))
binding_back Let p d h = absurd cc
binding_back New p d h = absurd cc

pub binding_tokens : (b : Binding) (p : ℕ) (vs : Values grammar (binding_symbols task))
    → tokens (binding_build b p vs) ≡ keyword (binding_keyword b) p ∷ tokens_of (binding_symbols task) vs
binding_tokens Let p vs = refl
binding_tokens New p vs = refl

pub binding_levels : (b : Binding) (p : ℕ) (vs : Values grammar (binding_symbols task))
    → levels (binding_build b p vs) ≡ 1 + most_of (binding_symbols task) vs 0
binding_levels Let p vs = omega arith
binding_levels New p vs = omega arith

abbrev pub binding_rule : (b : Binding) (p : ℕ) → Rule task 1 (keyword (binding_keyword b) p)
binding_rule b p = record {
  some = tt;
  symbols = binding_symbols task;
  build = binding_build b p;
  tokens_are = binding_tokens b p;
  levels_are = binding_levels b p;
  back = binding_back b p;
}

-- ---- if
abbrev pub if_build : ℕ → Values grammar (if_symbols task) → Parse task
if_build p vs = task_if p vs.0 vs.1.0 vs.1.1.0 vs.1.1.1.0 vs.1.1.1.1.0

pub if_back : (p : ℕ) (d : Parse task) → head d ≡ keyword words.If p → (vs : Values grammar (if_symbols task)) × (if_build p vs ≡ d)
if_back p (task_if q e r a s b) h = let same : q ≡ p = cc in ((e, (r, (a, (s, (b, tt))))), ap (λ n. task_if n e r a s b) (sym same))
if_back p (task_plain t) h = absurd (starts_not t (keyword words.If p) refl h)
if_back p (task_then t q x r s u) h = absurd (starts_not t (keyword words.If p) refl h)
if_back p (task_next t q x r s u) h = absurd (starts_not t (keyword words.If p) refl h)
if_back p d h = absurd cc

abbrev pub if_rule : (p : ℕ) → Rule task 1 (keyword words.If p)
if_rule p = record {
  some = tt;
  symbols = if_symbols task;
  build = if_build p;
  tokens_are = if_tokens task p;
  levels_are = λ vs. omega arith;
  back = if_back p;
}

-- ---- case
abbrev pub case_build : ℕ → Values grammar (case_symbols task) → Parse task
case_build p vs =
    let after = vs.1.1.1.1.1.1 in
    task_case p vs.0 vs.1.0 vs.1.1.0 vs.1.1.1.0 vs.1.1.1.1.0 vs.1.1.1.1.1.0 after.0 after.1.0.0 after.1.0.1 after.1.1.0 after.1.1.1.0.0
    after.1.1.1.0.1 after.1.1.1.1.0 after.1.1.1.1.1.0

pub case_back : (p : ℕ) (d : Parse task) → head d ≡ keyword words.Case p → (vs : Values grammar (case_symbols task)) × (case_build p vs ≡ d)
case_back p (task_case o e q r s a d b x i j y k c u) h = let same : o ≡ p = cc in
    ((e, (q, (r, (s, (a, (d, (b, ((x, i), (j, ((y, k), (c, (u, tt)))))))))))), ap (λ n. task_case n e q r s a d b x i j y k c u) (sym same))
case_back p (task_plain t) h = absurd (starts_not t (keyword words.Case p) refl h)
case_back p (task_then t q x r s u) h = absurd (starts_not t (keyword words.Case p) refl h)
case_back p (task_next t q x r s u) h = absurd (starts_not t (keyword words.Case p) refl h)
case_back p d h = absurd cc

abbrev pub case_rule : (p : ℕ) → Rule task 1 (keyword words.Case p)
case_rule p = record {
  some = tt;
  symbols = case_symbols task;
  build = case_build p;
  tokens_are = case_tokens task p;
  levels_are = λ vs. omega arith;
  back = case_back p;
}

-- ---- atoms of tasks
abbrev pub edit_symbols : List (Sym grammar)
edit_symbols = part atom ∷ []

pub edit_back : (p : ℕ) (d : Parse task_atom) → head d ≡ keyword words.Edit p → (vs : Values grammar edit_symbols) × (task_edit p vs.0 ≡ d)
edit_back p (task_edit q e) h = let same : q ≡ p = cc in ((e, tt), ap (λ n. task_edit n e) (sym same))
edit_back p d h = absurd cc

abbrev pub edit_rule : (p : ℕ) → Rule task_atom 1 (keyword words.Edit p)
edit_rule p = record {
  some = tt;
  symbols = edit_symbols;
  build = λ vs. task_edit p vs.0;
  tokens_are = λ vs. refl;
  levels_are = λ vs. omega arith;
  back = edit_back p;
}

abbrev pub type_symbols : List (Sym grammar)
type_symbols = part basic ∷ []

pub enter_back : (p : ℕ) (d : Parse task_atom) → head d ≡ keyword words.Enter p → (vs : Values grammar type_symbols)
    × (task_enter p vs.0 ≡ d)
enter_back p (task_enter q b) h = let same : q ≡ p = cc in ((b, tt), ap (λ n. task_enter n b) (sym same))
enter_back p d h = absurd cc

abbrev pub enter_rule : (p : ℕ) → Rule task_atom 1 (keyword words.Enter p)
enter_rule p = record {
  some = tt;
  symbols = type_symbols;
  build = λ vs. task_enter p vs.0;
  tokens_are = λ vs. refl;
  levels_are = λ vs. omega arith;
  back = enter_back p;
}

pub fail_back : (p : ℕ) (d : Parse task_atom) → head d ≡ keyword words.Fail p → (vs : Values grammar type_symbols) × (task_fail p vs.0 ≡ d)
fail_back p (task_fail q b) h = let same : q ≡ p = cc in ((b, tt), ap (λ n. task_fail n b) (sym same))
fail_back p d h = absurd cc

abbrev pub fail_rule : (p : ℕ) → Rule task_atom 1 (keyword words.Fail p)
fail_rule p = record {
  some = tt;
  symbols = type_symbols;
  build = λ vs. task_fail p vs.0;
  tokens_are = λ vs. refl;
  levels_are = λ vs. omega arith;
  back = fail_back p;
}

abbrev pub share_symbols : List (Sym grammar)
share_symbols = one a_name ∷ []

pub share_back : (p : ℕ) (d : Parse task_atom) → head d ≡ keyword words.Share p → (vs : Values grammar share_symbols)
    × (task_share p vs.0.0 vs.0.1 ≡ d)
share_back p (task_share q x r) h = let same : q ≡ p = cc in (((x, r), tt), ap (λ n. task_share n x r) (sym same))
share_back p d h = absurd cc

abbrev pub share_rule : (p : ℕ) → Rule task_atom 1 (keyword words.Share p)
share_rule p = record {
  some = tt;
  symbols = share_symbols;
  build = λ vs. task_share p vs.0.0 vs.0.1;
  tokens_are = λ vs. refl;
  levels_are = λ vs. refl;
  back = share_back p;
}

abbrev pub call_symbols : List (Sym grammar)
call_symbols = part (enclosed arguments) ∷ []

pub call_back : (x : Text) (p : ℕ) (d : Parse task_atom) → head d ≡ name x p → (vs : Values grammar call_symbols) × (task_call x p vs.0 ≡ d)
call_back x p (task_call y q es) h = let e : y ≡ x = cc in let e' : q ≡ p = cc in
    ((es, tt), sym (ap (λ n. task_call n q es) e ∙ ap (λ n. task_call x n es) e'))
call_back x p d h = absurd cc

abbrev pub call_rule : (x : Text) (p : ℕ) → Rule task_atom 1 (name x p)
call_rule x p = record {
  some = tt;
  symbols = call_symbols;
  build = λ vs. task_call x p vs.0;
  tokens_are = λ vs. refl;
  levels_are = λ vs. omega arith;
  back = call_back x p;
}

abbrev pub group_symbols : List (Sym grammar)
group_symbols = part task ∷ one (a_sign signs.Close) ∷ []

pub group_back : (p : ℕ) (d : Parse task_atom) → head d ≡ symbol signs.Open p → (vs : Values grammar group_symbols)
    × (task_group p vs.0 vs.1.0 ≡ d)
group_back p (task_group q t r) h = let same : q ≡ p = cc in ((t, (r, tt)), ap (λ n. task_group n t r) (sym same))
group_back p d h = absurd cc

abbrev pub group_rule : (p : ℕ) → Rule task_atom 1 (symbol signs.Open p)
group_rule p = record {
  some = tt;
  symbols = group_symbols;
  build = λ vs. task_group p vs.0 vs.1.0;
  tokens_are = λ vs. refl;
  levels_are = λ vs. omega arith;
  back = group_back p;
}

-- the tokens begin no atom of a task
module _ (ts : List Lexeme) (no_edit : (p : ℕ) (s : List Lexeme) → ts ≡ keyword words.Edit p ∷ s → ⊥) (no_enter : (p : ℕ) (s : List Lexeme)
    → ts ≡ keyword words.Enter p ∷ s → ⊥) (no_share : (p : ℕ) (s : List Lexeme) → ts ≡ keyword words.Share p ∷ s → ⊥)
    (no_fail : (p : ℕ) (s : List Lexeme) → ts ≡ keyword words.Fail p ∷ s → ⊥) (no_name : (x : Text) (p : ℕ) (s : List Lexeme)
    → ts ≡ name x p ∷ s → ⊥) (no_open : (p : ℕ) (s : List Lexeme) → ts ≡ symbol signs.Open p ∷ s → ⊥) where
  none : (d : Parse task_atom) (s : List Lexeme) → ts ≡ head d ∷ s → ⊥
  none (task_edit p e) s h = no_edit p s h
  none (task_enter p b) s h = no_enter p s h
  none (task_share p x q) s h = no_share p s h
  none (task_fail p b) s h = no_fail p s h
  none (task_call x p es) s h = no_name x p s h
  none (task_group p t q) s h = no_open p s h

  pub no_task_atom : {room : ℕ} → Right (Of task_atom) (IsWithinLevels room) (EndsForm task_atom) ts (Err (Fault Unexpected (length ts)))
  no_task_atom = no_parse tt ts none
