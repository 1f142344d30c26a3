-- Each production of types and expressions, as it is printed from its parts.
use Rattle.std.proofs.Common.{◌≡◌, ℕ, suc, ◌+◌, max, Bool, true, false, List, [], ◌∷◌, ◌++◌, refl, sym, ap, ◌∙◌, subst, arith}
use Rattle.std.specs.Prelude.{codes, pos}
use Rattle.std.specs.Fmt.{decimal}
use Rattle.task_model.specs.Terms.Text.{Text}
use Rattle.task_model.specs.Terms.Token.{number_from}
use Rattle.task_model.specs.Terms.Basic.{BasicTerm}
use Rattle.task_model.specs.Terms.Basic as types
use Rattle.task_model.specs.Terms.Value.{text_value}
use Rattle.task_model.specs.Syntax.Literal.{value_text}
use Rattle.task_model.specs.Terms.Host.{HostTerm, unit_expr, bool_expr, int_expr, text_expr, name_expr, read_expr, call_expr, pair_expr, list_expr, nil_expr, neg_expr, not_expr, fst_expr, snd_expr, len_expr, op_expr, let_expr, if_expr, case_expr, as_exprs}
use Rattle.task_model.specs.declared.host.Op.TheVariants as ops
use Rattle.task_model.specs.declared.keyword.Keyword.TheVariants as words
use Rattle.task_model.specs.declared.symbol.Symbol.TheVariants as signs
use Rattle.task_model.specs.Syntax.Spelling.{symbol_spelling}
use Rattle.task_model.specs.Syntax.Lexemes.{keyword, symbol, name, number, quoted_text}
use Rattle.task_model.specs.Syntax.Grammar as grammar
use Rattle.task_model.specs.Syntax.Grammar.{Parse, tokens, levels}
use Rattle.task_model.specs.Syntax.Meaning.{meaning, relation_of, unary_expression, scalar_of}
use Rattle.reader_printer.specs.PrintedPlaces.{term_at}
use Rattle.task_model.specs.Syntax.Printed.{basic_tokens, expression_at, listed_tokens}
use Rattle.reader_printer.proofs.ListLemmas.{listed_more}
use Rattle.reader_printer.proofs.Placing.{IsSpelled}
use Rattle.reader_printer.proofs.Showing.{Shown, looser, one_token, two_tokens, part_alone, token_and_part, token_between, tokens_around, tokens_around_two, three_tokens_and_two_parts, token_before_each, word_spelled, sign_spelled}
use Rattle.reader_printer.proofs.LongShowing.{case_of_three_parts}
use Rattle.reader_printer.proofs.ExpressionPlaces.{Own, own_here, at_place}

-- ---- types
abbrev pub type_of : Parse grammar.basic → BasicTerm
type_of d = meaning d

abbrev pub ShownType : BasicTerm → ℕ → Type 0
ShownType b k = Shown type_of b k (basic_tokens b)

pub scalar_shown : (s : grammar.Scalar) → ShownType (scalar_of s) 1
scalar_shown grammar.unit = one_token (keyword words.Unit 0) (word_spelled words.Unit 0) (λ n. grammar.scalar_type grammar.unit n)
    (λ n. refl)
    (λ n. refl) (λ n. omega arith)
scalar_shown grammar.bool = one_token (keyword words.Bool 0) (word_spelled words.Bool 0) (λ n. grammar.scalar_type grammar.bool n)
    (λ n. refl)
    (λ n. refl) (λ n. omega arith)
scalar_shown grammar.int = one_token (keyword words.Int 0) (word_spelled words.Int 0) (λ n. grammar.scalar_type grammar.int n) (λ n. refl)
    (λ n. refl) (λ n. omega arith)
scalar_shown grammar.text = one_token (keyword words.Text 0) (word_spelled words.Text 0) (λ n. grammar.scalar_type grammar.text n)
    (λ n. refl)
    (λ n. refl) (λ n. omega arith)

pub pair_type_shown : {a b : BasicTerm} {j k : ℕ} → ShownType a j → ShownType b k → ShownType (types.pair_type a b) (suc (max j k))
pair_type_shown {a} {b} s t =
    tokens_around_two (symbol signs.Open 0) (symbol signs.Comma 0) (symbol signs.Close 0) (sign_spelled signs.Open 0)
    (sign_spelled signs.Comma 0)
    (sign_spelled signs.Close 0)
    (λ n x o y p. grammar.pair_type n x o y p) (λ n x o y p. refl)
    (λ n x o y p e f. ap (λ z. types.pair_type z (meaning y)) e ∙ ap (λ z. types.pair_type a z) f) (λ n x o y p. refl) s t

pub list_type_shown : {a : BasicTerm} {k : ℕ} → ShownType a k → ShownType (types.list_type a) (suc k)
list_type_shown s =
    looser (omega arith) (tokens_around 1 (symbol signs.OpenBracket 0) (symbol signs.CloseBracket 0) (sign_spelled signs.OpenBracket 0)
    (sign_spelled signs.CloseBracket 0)
    (λ n d m. grammar.list_type n d m) (λ n d m. refl) (λ n d m e. ap types.list_type e) (λ n d m. omega arith) s)

-- ---- lists
abbrev pub terms_of : Parse (grammar.series (grammar.list grammar.arguments)) → List HostTerm
terms_of d = meaning d

abbrev pub arguments_of : Parse (grammar.enclosed grammar.arguments) → List HostTerm
arguments_of d = meaning d

abbrev pub ShownList : List HostTerm → ℕ → Type 0
ShownList es k = Shown terms_of es k (listed_tokens (as_exprs es))

abbrev pub ShownArguments : List HostTerm → ℕ → Type 0
ShownArguments es k = Shown arguments_of es k (codes "(" ∷ listed_tokens (as_exprs es) ++ codes ")" ∷ [])

pub one_shown : {e : HostTerm} {k : ℕ} → Own 8 e k → ShownList (e ∷ []) k
one_shown {e} o = part_alone (λ d. grammar.single (grammar.list grammar.arguments) d) (λ d. refl) (λ d e. ap (λ x. x ∷ []) e) (λ d. refl)
    (at_place 8 e (omega arith) o)

pub more_shown : {e : HostTerm} {es : List HostTerm} {d : HostTerm} {j k : ℕ} → ShownList (e ∷ es) j → Own 8 d k
    → ShownList ((e ∷ es) ++ d ∷ []) (max j k)
more_shown {e} {es} {d} {j} {k} s o =
    subst (λ ts. Shown terms_of ((e ∷ es) ++ d ∷ []) (max j k) ts) (sym (listed_more e es d))
    (looser (omega arith) (token_between 0 (symbol signs.Comma 0) (sign_spelled signs.Comma 0)
    (λ a n b. grammar.joined (grammar.list grammar.arguments) a (grammar.comma grammar.arguments) n b) (λ a n b. refl)
    (λ a n b p q. ap (λ x. x ++ meaning b ∷ []) p ∙ ap (λ x. (e ∷ es) ++ x ∷ []) q) (λ a n b. refl) s (at_place 8 d (omega arith) o)))

pub no_arguments : ShownArguments [] 0
no_arguments = two_tokens 0 (symbol signs.Open 0) (symbol signs.Close 0) (sign_spelled signs.Open 0) (sign_spelled signs.Close 0)
    (λ n m. grammar.empty grammar.arguments n m) (λ n m. refl) (λ n m. refl) (λ n m. omega arith)

pub some_arguments : {es : List HostTerm} {k : ℕ} → ShownList es k → ShownArguments es k
some_arguments s =
    looser (omega arith) (tokens_around 0 (symbol signs.Open 0) (symbol signs.Close 0) (sign_spelled signs.Open 0)
    (sign_spelled signs.Close 0)
    (λ n d m. grammar.full grammar.arguments n d m) (λ n d m. refl) (λ n d m e. e) (λ n d m. omega arith) s)

-- ---- atoms
pub own_number : (n : ℕ) → IsSpelled (number (decimal n) 0) → number_from 0 (decimal n) ≡ n → Own 0 (int_expr (pos n)) 1
own_number n s is = own_here 0 (int_expr (pos n)) refl
    (one_token (number (decimal n) 0) s (λ p. grammar.digits (decimal n) p) (λ p. refl) (λ p. ap (λ m. int_expr (pos m)) is)
    (λ p. omega arith))

pub own_text : (v : Text) → IsSpelled (quoted_text (value_text (text_value v)) v 0) → Own 0 (text_expr v) 1
own_text v s = own_here 0 (text_expr v) refl (one_token (quoted_text (value_text (text_value v)) v 0) s
    (λ p. grammar.quoted (value_text (text_value v)) v p) (λ p. refl) (λ p. refl) (λ p. omega arith))

pub own_bool : (b : Bool) → Own 0 (bool_expr b) 1
own_bool true = own_here 0 (bool_expr true) refl
    (one_token (keyword words.True 0) (word_spelled words.True 0) (λ p. grammar.constant true p) (λ p. refl) (λ p. refl) (λ p. omega arith))
own_bool false = own_here 0 (bool_expr false) refl
    (one_token (keyword words.False 0) (word_spelled words.False 0) (λ p. grammar.constant false p) (λ p. refl) (λ p. refl)
    (λ p. omega arith))

pub own_unit : Own 0 unit_expr 1
own_unit = own_here 0 unit_expr refl (two_tokens 1 (symbol signs.Open 0) (symbol signs.Close 0) (sign_spelled signs.Open 0)
    (sign_spelled signs.Close 0) (λ n m. grammar.nothing n m) (λ n m. refl) (λ n m. refl) (λ n m. omega arith))

pub own_name : (x : Text) → IsSpelled (name x 0) → Own 0 (name_expr x) 1
own_name x s = own_here 0 (name_expr x) refl (one_token (name x 0) s (λ p. grammar.named x p) (λ p. refl) (λ p. refl) (λ p. omega arith))

pub own_read : (x : Text) → IsSpelled (name x 0) → Own 0 (read_expr x) 1
own_read x s = own_here 0 (read_expr x) refl (two_tokens 1 (symbol signs.Bang 0) (name x 0) (sign_spelled signs.Bang 0) s
    (λ n m. grammar.content n x m) (λ n m. refl) (λ n m. refl) (λ n m. omega arith))

pub own_call : (x : Text) {es : List HostTerm} {k : ℕ} → IsSpelled (name x 0) → ShownArguments es k
    → Own 0 (call_expr x (as_exprs es)) (suc k)
own_call x {es} s a = own_here 0 (call_expr x (as_exprs es)) refl
    (token_and_part (name x 0) s (λ n d. grammar.call x n d) (λ n d. refl) (λ n d e. ap (λ l. call_expr x (as_exprs l)) e) (λ n d. refl) a)

pub own_pair : {a b : HostTerm} {j k : ℕ} → Own 8 a j → Own 8 b k → Own 0 (pair_expr a b) (suc (max j k))
own_pair {a} {b} o q =
    own_here 0 (pair_expr a b) refl
    (tokens_around_two (symbol signs.Open 0) (symbol signs.Comma 0) (symbol signs.Close 0) (sign_spelled signs.Open 0)
    (sign_spelled signs.Comma 0)
    (sign_spelled signs.Close 0)
    (λ n x o y p. grammar.pair n x o y p) (λ n x o y p. refl)
    (λ n x o y p e f. ap (λ z. pair_expr z (meaning y)) e ∙ ap (λ z. pair_expr a z) f) (λ n x o y p. refl)
    (at_place 8 a (omega arith) o) (at_place 8 b (omega arith) q))

pub own_list : {es : List HostTerm} {k : ℕ} → ShownList es k → Own 0 (list_expr (as_exprs es)) (suc k)
own_list {es} s =
    own_here 0 (list_expr (as_exprs es)) refl
    (looser (omega arith) (tokens_around 1 (symbol signs.OpenBracket 0) (symbol signs.CloseBracket 0) (sign_spelled signs.OpenBracket 0)
    (sign_spelled signs.CloseBracket 0)
    (λ n d m. grammar.elements n d m) (λ n d m. refl) (λ n d m e. ap (λ l. list_expr (as_exprs l)) e) (λ n d m. omega arith) s))

pub own_nil : {b : BasicTerm} {k : ℕ} → ShownType b k → Own 0 (nil_expr b) (suc k)
own_nil {b} s = own_here 0 (nil_expr b) refl (token_and_part (keyword words.Nil 0) (word_spelled words.Nil 0) (λ n d. grammar.nil n d)
    (λ n d. refl)
    (λ n d e. ap nil_expr e) (λ n d. refl) s)

-- ---- operands
pub own_prefixed : (o : grammar.Prefix) {a : HostTerm} {k : ℕ} → Own 1 a k → Own 1 (unary_expression o a) (suc k)
own_prefixed grammar.negative {a} o = own_here 1 (neg_expr a) refl
    (token_and_part (symbol signs.Minus 0) (sign_spelled signs.Minus 0) (λ n d. grammar.prefixed grammar.negative n d) (λ n d. refl)
    (λ n d e. ap neg_expr e) (λ n d. refl) (at_place 1 a (omega arith) o))
own_prefixed grammar.not {a} o = own_here 1 (not_expr a) refl
    (token_and_part (keyword words.Not 0) (word_spelled words.Not 0) (λ n d. grammar.prefixed grammar.not n d) (λ n d. refl)
    (λ n d e. ap not_expr e)
    (λ n d. refl) (at_place 1 a (omega arith) o))
own_prefixed grammar.fst {a} o = own_here 1 (fst_expr a) refl
    (token_and_part (keyword words.Fst 0) (word_spelled words.Fst 0) (λ n d. grammar.prefixed grammar.fst n d) (λ n d. refl)
    (λ n d e. ap fst_expr e)
    (λ n d. refl) (at_place 1 a (omega arith) o))
own_prefixed grammar.snd {a} o = own_here 1 (snd_expr a) refl
    (token_and_part (keyword words.Snd 0) (word_spelled words.Snd 0) (λ n d. grammar.prefixed grammar.snd n d) (λ n d. refl)
    (λ n d e. ap snd_expr e)
    (λ n d. refl) (at_place 1 a (omega arith) o))
own_prefixed grammar.len {a} o = own_here 1 (len_expr a) refl
    (token_and_part (keyword words.Len 0) (word_spelled words.Len 0) (λ n d. grammar.prefixed grammar.len n d) (λ n d. refl)
    (λ n d e. ap len_expr e)
    (λ n d. refl) (at_place 1 a (omega arith) o))

-- ---- operators
both_are : (o : _) {a b x y : HostTerm} → x ≡ a → y ≡ b → op_expr o x y ≡ op_expr o a b
both_are o {a} {b} {x} {y} e f = ap (λ z. op_expr o z y) e ∙ ap (λ z. op_expr o a z) f

pub own_times : {a b : HostTerm} {j k : ℕ} → Own 2 a j → Own 1 b k → Own 2 (op_expr ops.Mul a b) (1 + max j k)
own_times {a} {b} o q = own_here 2 (op_expr ops.Mul a b) refl
    (token_between 1 (symbol signs.Star 0) (sign_spelled signs.Star 0) (λ x n y. grammar.joined grammar.product x grammar.times n y)
    (λ x n y. refl)
    (λ x n y e f. both_are ops.Mul e f) (λ x n y. refl) (at_place 2 a (omega arith) o) (at_place 1 b (omega arith) q))

pub own_quot : {a b : HostTerm} {j k : ℕ} → Own 2 a j → Own 1 b k → Own 2 (op_expr ops.Quot a b) (1 + max j k)
own_quot {a} {b} o q = own_here 2 (op_expr ops.Quot a b) refl
    (token_between 1 (keyword words.Quot 0) (word_spelled words.Quot 0) (λ x n y. grammar.joined grammar.product x grammar.quot n y)
    (λ x n y. refl)
    (λ x n y e f. both_are ops.Quot e f) (λ x n y. refl) (at_place 2 a (omega arith) o) (at_place 1 b (omega arith) q))

pub own_rem : {a b : HostTerm} {j k : ℕ} → Own 2 a j → Own 1 b k → Own 2 (op_expr ops.Rem a b) (1 + max j k)
own_rem {a} {b} o q = own_here 2 (op_expr ops.Rem a b) refl (token_between 1 (keyword words.Rem 0) (word_spelled words.Rem 0)
    (λ x n y. grammar.joined grammar.product x grammar.rem n y) (λ x n y. refl) (λ x n y e f. both_are ops.Rem e f) (λ x n y. refl)
    (at_place 2 a (omega arith) o) (at_place 1 b (omega arith) q))

pub own_plus : {a b : HostTerm} {j k : ℕ} → Own 3 a j → Own 2 b k → Own 3 (op_expr ops.Add a b) (1 + max j k)
own_plus {a} {b} o q = own_here 3 (op_expr ops.Add a b) refl
    (token_between 1 (symbol signs.Plus 0) (sign_spelled signs.Plus 0) (λ x n y. grammar.joined grammar.sum x grammar.plus n y)
    (λ x n y. refl)
    (λ x n y e f. both_are ops.Add e f) (λ x n y. refl) (at_place 3 a (omega arith) o) (at_place 2 b (omega arith) q))

pub own_minus : {a b : HostTerm} {j k : ℕ} → Own 3 a j → Own 2 b k → Own 3 (op_expr ops.Sub a b) (1 + max j k)
own_minus {a} {b} o q = own_here 3 (op_expr ops.Sub a b) refl
    (token_between 1 (symbol signs.Minus 0) (sign_spelled signs.Minus 0) (λ x n y. grammar.joined grammar.sum x grammar.minus n y)
    (λ x n y. refl)
    (λ x n y e f. both_are ops.Sub e f) (λ x n y. refl) (at_place 3 a (omega arith) o) (at_place 2 b (omega arith) q))

pub own_join : {a b : HostTerm} {j k : ℕ} → Own 3 a j → Own 2 b k → Own 3 (op_expr ops.Join a b) (1 + max j k)
own_join {a} {b} o q = own_here 3 (op_expr ops.Join a b) refl
    (token_between 1 (symbol signs.Join 0) (sign_spelled signs.Join 0) (λ x n y. grammar.joined grammar.sum x grammar.join n y)
    (λ x n y. refl)
    (λ x n y e f. both_are ops.Join e f) (λ x n y. refl) (at_place 3 a (omega arith) o) (at_place 2 b (omega arith) q))

pub own_cons : {a b : HostTerm} {j k : ℕ} → Own 3 a j → Own 4 b k → Own 4 (op_expr ops.Cons a b) (1 + max j k)
own_cons {a} {b} o q = own_here 4 (op_expr ops.Cons a b) refl
    (token_between 1 (symbol signs.Cons 0) (sign_spelled signs.Cons 0) (λ x n y. grammar.cons x n y) (λ x n y. refl)
    (λ x n y e f. both_are ops.Cons e f) (λ x n y. omega arith) (at_place 3 a (omega arith) o) (at_place 4 b (omega arith) q))

compared_shown : (r : grammar.Relation) {a b : HostTerm} {j k : ℕ} → Own 4 a j → Own 4 b k
    → Shown (term_at 5) (op_expr (relation_of r) a b) (1 + max j k)
    (expression_at 4 a ++ symbol_spelling (grammar.relation r) ∷ expression_at 4 b)
compared_shown r {a} {b} o q =
    token_between 1 (symbol (grammar.relation r) 0) (sign_spelled (grammar.relation r) 0) (λ x n y. grammar.compared x r n y)
    (λ x n y. refl)
    (λ x n y e f. both_are (relation_of r) e f) (λ x n y. omega arith)
    (at_place 4 a (omega arith) o) (at_place 4 b (omega arith) q)

pub own_compared : (r : grammar.Relation) {a b : HostTerm} {j k : ℕ} → Own 4 a j → Own 4 b k
    → Own 5 (op_expr (relation_of r) a b) (1 + max j k)
own_compared grammar.equal {a} {b} o q = own_here 5 (op_expr ops.Eq a b) refl (compared_shown grammar.equal o q)
own_compared grammar.unequal {a} {b} o q = own_here 5 (op_expr ops.Ne a b) refl (compared_shown grammar.unequal o q)
own_compared grammar.less {a} {b} o q = own_here 5 (op_expr ops.Lt a b) refl (compared_shown grammar.less o q)
own_compared grammar.less_equal {a} {b} o q = own_here 5 (op_expr ops.Le a b) refl (compared_shown grammar.less_equal o q)
own_compared grammar.greater {a} {b} o q = own_here 5 (op_expr ops.Gt a b) refl (compared_shown grammar.greater o q)
own_compared grammar.greater_equal {a} {b} o q = own_here 5 (op_expr ops.Ge a b) refl (compared_shown grammar.greater_equal o q)

pub own_and : {a b : HostTerm} {j k : ℕ} → Own 6 a j → Own 5 b k → Own 6 (op_expr ops.And a b) (1 + max j k)
own_and {a} {b} o q = own_here 6 (op_expr ops.And a b) refl (token_between 1 (symbol signs.And 0) (sign_spelled signs.And 0)
    (λ x n y. grammar.joined grammar.both x grammar.and n y) (λ x n y. refl) (λ x n y e f. both_are ops.And e f) (λ x n y. refl)
    (at_place 6 a (omega arith) o) (at_place 5 b (omega arith) q))

pub own_or : {a b : HostTerm} {j k : ℕ} → Own 7 a j → Own 6 b k → Own 7 (op_expr ops.Or a b) (1 + max j k)
own_or {a} {b} o q = own_here 7 (op_expr ops.Or a b) refl
    (token_between 1 (symbol signs.Or 0) (sign_spelled signs.Or 0) (λ x n y. grammar.joined grammar.either x grammar.or n y) (λ x n y. refl)
    (λ x n y e f. both_are ops.Or e f) (λ x n y. refl) (at_place 7 a (omega arith) o) (at_place 6 b (omega arith) q))

-- ---- expressions
pub own_let : (x : Text) {a b : HostTerm} {j k : ℕ} → IsSpelled (name x 0) → Own 8 a j → Own 8 b k → Own 8 (let_expr x a b) (suc (max j k))
own_let x {a} {b} s o q =
    own_here 8 (let_expr x a b) refl
    (three_tokens_and_two_parts (keyword words.Let 0) (name x 0) (symbol signs.Define 0) (keyword words.In 0) (word_spelled words.Let 0) s
    (sign_spelled signs.Define 0)
    (word_spelled words.In 0)
    (λ n m r d p e. grammar.let_in n x m r d p e) (λ n m r d p e. refl)
    (λ n m r d p e f g. ap (λ z. let_expr x z (meaning e)) f ∙ ap (λ z. let_expr x a z) g) (λ n m r d p e. refl)
    (at_place 8 a (omega arith) o) (at_place 8 b (omega arith) q))

pub own_if : {c a b : HostTerm} {i j k : ℕ} → Own 8 c i → Own 8 a j → Own 8 b k → Own 8 (if_expr c a b) (suc (max i (max j k)))
own_if {c} {a} {b} p o q =
    own_here 8 (if_expr c a b) refl
    (token_before_each (keyword words.If 0) (keyword words.Then 0) (keyword words.Else 0) (word_spelled words.If 0)
    (word_spelled words.Then 0)
    (word_spelled words.Else 0)
    (λ n x m y r z. grammar.if_then n x m y r z) (λ n x m y r z. refl)
    (λ n x m y r z e f g. ap (λ w. if_expr w (meaning y) (meaning z)) e ∙ ap (λ w. if_expr c w (meaning z)) f
    ∙ ap (λ w. if_expr c a w) g) (λ n x m y r z. refl)
    (at_place 8 c (omega arith) p) (at_place 8 a (omega arith) o) (at_place 8 b (omega arith) q))

pub own_case : (x y : Text) {l a b : HostTerm} {i j k : ℕ} → IsSpelled (name x 0) → IsSpelled (name y 0) → Own 8 l i → Own 8 a j → Own 8 b k
    → Own 8 (case_expr l a x y b) (suc (max i (max j k)))
own_case x y {l} {a} {b} sx sy p o q =
    own_here 8 (case_expr l a x y b) refl
    (case_of_three_parts x y sx sy (λ n d o1 o2 o3 o4 e p1 p2 p3 p4 p5 z. grammar.case_of n d o1 o2 o3 o4 e p1 x p2 p3 y p4 p5 z)
    (λ n d o1 o2 o3 o4 e p1 p2 p3 p4 p5 z. refl)
    (λ n d o1 o2 o3 o4 e p1 p2 p3 p4 p5 z f g h. ap (λ w. case_expr w (meaning e) x y (meaning z)) f
    ∙ ap (λ w. case_expr l w x y (meaning z)) g ∙ ap (λ w. case_expr l a x y w) h)
    (λ n d o1 o2 o3 o4 e p1 p2 p3 p4 p5 z. refl) (at_place 8 l (omega arith) p) (at_place 8 a (omega arith) o)
    (at_place 8 b (omega arith) q))
