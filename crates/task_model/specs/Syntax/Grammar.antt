-- The grammar of programs, one case for each production (docs/LANGUAGE.md, "Grammar"), and the levels of what it reads ("Levels").
use Rattle.std.specs.Prelude.{ℕ, suc, ◌+◌, max, Bool, true, false, List, [], ◌∷◌, ◌++◌}
use Rattle.task_model.specs.Terms.Text.{Text}
use Rattle.task_model.specs.declared.keyword.Keyword.{Keyword}
use Rattle.task_model.specs.declared.keyword.Keyword.TheVariants as words
use Rattle.task_model.specs.declared.symbol.Symbol.{Symbol}
use Rattle.task_model.specs.declared.symbol.Symbol.TheVariants as signs
use Rattle.task_model.specs.Syntax.Lexemes.{Lexeme, keyword, symbol, name, number, quoted_text}

-- ---- forms
-- what stands between parentheses with commas between
pub data Listing : Type 0 where
  parameters : Listing
  arguments : Listing

-- the nonterminals of the grammar that are one or more of another one, with operators or commas between them
pub data Series : Type 0 where
  list : Listing → Series
  choice : Series
  chain : Series
  either : Series
  both : Series
  sum : Series
  product : Series

-- the nonterminals of the grammar; enclosed is a listing, or nothing, in parentheses
pub data Form : Type 0 where
  program : Form
  definition : Form
  parameter : Form
  basic : Form
  task : Form
  task_atom : Form
  expression : Form
  comparison : Form
  listed : Form
  operand : Form
  atom : Form
  series : Series → Form
  enclosed : Listing → Form

-- what a series is a series of
abbrev pub part_of : Series → Form
-- parameters = parameter { "," parameter }
part_of (list parameters) = parameter
-- choice = chain { ( "<|>" | "<?>" ) chain }
part_of choice = series chain
-- chain = task_atom { "<&>" task_atom }
part_of chain = task_atom
-- either = both { "||" both }
part_of either = series both
-- both = comparison { "&&" comparison }
part_of both = comparison
-- sum = product { ( "+" | "-" | "++" ) product }
part_of sum = series product
-- product = operand { ( "*" | "quot" | "rem" ) operand }
part_of product = operand
-- arguments = expression { "," expression }
part_of (list arguments) = expression

-- what stands between the parts of a series
pub data Operator : Series → Type 0 where
  comma : (l : Listing) → Operator (list l)
  internal : Operator choice
  external : Operator choice
  together : Operator chain
  or : Operator either
  and : Operator both
  plus : Operator sum
  minus : Operator sum
  join : Operator sum
  times : Operator product
  quot : Operator product
  rem : Operator product

-- the token of an operator, at its place
abbrev pub operator : {s : Series} → Operator s → ℕ → Lexeme
operator (comma l) p = symbol signs.Comma p
operator internal p = symbol signs.InternalChoice p
operator external p = symbol signs.ExternalChoice p
operator together p = symbol signs.Pair p
operator or p = symbol signs.Or p
operator and p = symbol signs.And p
operator plus p = symbol signs.Plus p
operator minus p = symbol signs.Minus p
operator join p = symbol signs.Join p
operator times p = symbol signs.Star p
operator quot p = keyword words.Quot p
operator rem p = keyword words.Rem p

-- "==" | "!=" | "<" | "<=" | ">" | ">="
pub data Relation : Type 0 where
  equal : Relation
  unequal : Relation
  less : Relation
  less_equal : Relation
  greater : Relation
  greater_equal : Relation

-- the symbol of a relation
abbrev pub relation : Relation → Symbol
relation equal = signs.Equal
relation unequal = signs.NotEqual
relation less = signs.Less
relation less_equal = signs.LessEqual
relation greater = signs.Greater
relation greater_equal = signs.GreaterEqual

-- "-" | "not" | "fst" | "snd" | "len", before an operand
pub data Prefix : Type 0 where
  negative : Prefix
  not : Prefix
  fst : Prefix
  snd : Prefix
  len : Prefix

-- the token of a prefix, at its place
abbrev pub prefix : Prefix → ℕ → Lexeme
prefix negative p = symbol signs.Minus p
prefix not p = keyword words.Not p
prefix fst p = keyword words.Fst p
prefix snd p = keyword words.Snd p
prefix len p = keyword words.Len p

-- "unit" | "bool" | "int" | "text"
pub data Scalar : Type 0 where
  unit : Scalar
  bool : Scalar
  int : Scalar
  text : Scalar

abbrev pub scalar : Scalar → Keyword
scalar unit = words.Unit
scalar bool = words.Bool
scalar int = words.Int
scalar text = words.Text

-- "true" | "false"
abbrev pub truth : Bool → Keyword
truth true = words.True
truth false = words.False

-- ---- parses
-- A constructor for each production. It keeps the places of its own tokens, and of these a name's bytes, a number's digits and a
-- text's spelling and content.
pub data Parse : Form → Type 0 where
  -- program = { definition }
  no_definitions : Parse program
  more_definitions : Parse program → Parse definition → Parse program
  -- definition = "fun" name "(" [ parameters ] ")" ":" type "=" expression
  --            | "task" name "(" [ parameters ] ")" ":" type "=" task
  function : ℕ → Text → ℕ → Parse (enclosed parameters) → ℕ → Parse basic → ℕ → Parse expression → Parse definition
  task_named : ℕ → Text → ℕ → Parse (enclosed parameters) → ℕ → Parse basic → ℕ → Parse task → Parse definition
  -- parameter = name ":" [ "ref" ] type
  value_named : Text → ℕ → ℕ → Parse basic → Parse parameter
  reference_named : Text → ℕ → ℕ → ℕ → Parse basic → Parse parameter
  -- type = "unit" | "bool" | "int" | "text" | "(" type "," type ")" | "[" type "]"
  scalar_type : Scalar → ℕ → Parse basic
  pair_type : ℕ → Parse basic → ℕ → Parse basic → ℕ → Parse basic
  list_type : ℕ → Parse basic → ℕ → Parse basic
  -- task = "let" name "=" expression "in" task
  --      | "if" expression "then" task "else" task
  --      | "case" expression "of" "[" "]" "->" task "|" name "::" name "->" task
  --      | "new" name "=" expression "in" task
  --      | name ":=" expression ";" task
  --      | choice [ ">>=" name "." task | ">>?" name "." task ]
  task_let : ℕ → Text → ℕ → ℕ → Parse expression → ℕ → Parse task → Parse task
  task_if : ℕ → Parse expression → ℕ → Parse task → ℕ → Parse task → Parse task
  task_case : ℕ → Parse expression → ℕ → ℕ → ℕ → ℕ → Parse task → ℕ → Text → ℕ → ℕ → Text → ℕ → ℕ → Parse task → Parse task
  task_new : ℕ → Text → ℕ → ℕ → Parse expression → ℕ → Parse task → Parse task
  task_put : Text → ℕ → ℕ → Parse expression → ℕ → Parse task → Parse task
  task_plain : Parse (series choice) → Parse task
  task_then : Parse (series choice) → ℕ → Text → ℕ → ℕ → Parse task → Parse task
  task_next : Parse (series choice) → ℕ → Text → ℕ → ℕ → Parse task → Parse task
  -- task_atom = "edit" atom | "enter" type | "share" name | "fail" type
  --           | name "(" [ arguments ] ")" | "(" task ")"
  task_edit : ℕ → Parse atom → Parse task_atom
  task_enter : ℕ → Parse basic → Parse task_atom
  task_share : ℕ → Text → ℕ → Parse task_atom
  task_fail : ℕ → Parse basic → Parse task_atom
  task_call : Text → ℕ → Parse (enclosed arguments) → Parse task_atom
  task_group : ℕ → Parse task → ℕ → Parse task_atom
  -- expression = "let" name "=" expression "in" expression
  --            | "if" expression "then" expression "else" expression
  --            | "case" expression "of" "[" "]" "->" expression "|" name "::" name "->" expression
  --            | either
  let_in : ℕ → Text → ℕ → ℕ → Parse expression → ℕ → Parse expression → Parse expression
  if_then : ℕ → Parse expression → ℕ → Parse expression → ℕ → Parse expression → Parse expression
  case_of : ℕ → Parse expression → ℕ → ℕ → ℕ → ℕ → Parse expression → ℕ → Text → ℕ → ℕ → Text → ℕ → ℕ → Parse expression → Parse expression
  plain : Parse (series either) → Parse expression
  -- comparison = listed [ ( "==" | "!=" | "<" | "<=" | ">" | ">=" ) listed ]
  uncompared : Parse listed → Parse comparison
  compared : Parse listed → Relation → ℕ → Parse listed → Parse comparison
  -- listed = sum [ "::" listed ]
  unlisted : Parse (series sum) → Parse listed
  cons : Parse (series sum) → ℕ → Parse listed → Parse listed
  -- operand = ( "-" | "not" | "fst" | "snd" | "len" ) operand | atom
  prefixed : Prefix → ℕ → Parse operand → Parse operand
  unprefixed : Parse atom → Parse operand
  -- atom = number | text | "true" | "false" | "(" ")" | name | "!" name
  --      | name "(" [ arguments ] ")" | "(" expression ")" | "(" expression "," expression ")"
  --      | "[" arguments "]" | "nil" type
  digits : Text → ℕ → Parse atom
  quoted : Text → Text → ℕ → Parse atom
  constant : Bool → ℕ → Parse atom
  nothing : ℕ → ℕ → Parse atom
  named : Text → ℕ → Parse atom
  content : ℕ → Text → ℕ → Parse atom
  call : Text → ℕ → Parse (enclosed arguments) → Parse atom
  group : ℕ → Parse expression → ℕ → Parse atom
  pair : ℕ → Parse expression → ℕ → Parse expression → ℕ → Parse atom
  elements : ℕ → Parse (series (list arguments)) → ℕ → Parse atom
  nil : ℕ → Parse basic → Parse atom
  -- each series: its part { operator part }, grouped to the left
  single : (s : Series) → Parse (part_of s) → Parse (series s)
  joined : (s : Series) → Parse (series s) → Operator s → ℕ → Parse (part_of s) → Parse (series s)
  -- "(" [ parameters ] ")" and "(" [ arguments ] ")"
  empty : (l : Listing) → ℕ → ℕ → Parse (enclosed l)
  full : (l : Listing) → ℕ → Parse (series (list l)) → ℕ → Parse (enclosed l)

-- ---- tokens
-- the tokens of a parse
abbrev pub tokens : {f : Form} → Parse f → List Lexeme
tokens no_definitions = []
tokens (more_definitions ds d) = tokens ds ++ tokens d
tokens (function p x q ps r b s e) =
    keyword words.Fun p ∷ name x q ∷ tokens ps ++ symbol signs.Colon r ∷ tokens b ++ symbol signs.Define s ∷ tokens e
tokens (task_named p x q ps r b s t) =
    keyword words.Task p ∷ name x q ∷ tokens ps ++ symbol signs.Colon r ∷ tokens b ++ symbol signs.Define s ∷ tokens t
tokens (value_named x p q b) = name x p ∷ symbol signs.Colon q ∷ tokens b
tokens (reference_named x p q r b) = name x p ∷ symbol signs.Colon q ∷ keyword words.Ref r ∷ tokens b
tokens (scalar_type b p) = keyword (scalar b) p ∷ []
tokens (pair_type p a q b r) = symbol signs.Open p ∷ tokens a ++ symbol signs.Comma q ∷ tokens b ++ symbol signs.Close r ∷ []
tokens (list_type p a q) = symbol signs.OpenBracket p ∷ tokens a ++ symbol signs.CloseBracket q ∷ []
tokens (task_let p x q r e s t) = keyword words.Let p ∷ name x q ∷ symbol signs.Define r ∷ tokens e ++ keyword words.In s ∷ tokens t
tokens (task_if p e q t r u) = keyword words.If p ∷ tokens e ++ keyword words.Then q ∷ tokens t ++ keyword words.Else r ∷ tokens u
tokens (task_case p e q r s a t b x i j y k c u) =
    keyword words.Case p ∷ tokens e ++ keyword words.Of q ∷ symbol signs.OpenBracket r ∷ symbol signs.CloseBracket s ∷ symbol signs.Arrow a
    ∷ tokens t
    ++ symbol signs.Bar b ∷ name x i ∷ symbol signs.Cons j ∷ name y k ∷ symbol signs.Arrow c ∷ tokens u
tokens (task_new p x q r e s t) = keyword words.New p ∷ name x q ∷ symbol signs.Define r ∷ tokens e ++ keyword words.In s ∷ tokens t
tokens (task_put x p q e r t) = name x p ∷ symbol signs.Assign q ∷ tokens e ++ symbol signs.Semicolon r ∷ tokens t
tokens (task_plain t) = tokens t
tokens (task_then t p x q r u) = tokens t ++ symbol signs.InternalStep p ∷ name x q ∷ symbol signs.Dot r ∷ tokens u
tokens (task_next t p x q r u) = tokens t ++ symbol signs.UserStep p ∷ name x q ∷ symbol signs.Dot r ∷ tokens u
tokens (task_edit p e) = keyword words.Edit p ∷ tokens e
tokens (task_enter p b) = keyword words.Enter p ∷ tokens b
tokens (task_share p x q) = keyword words.Share p ∷ name x q ∷ []
tokens (task_fail p b) = keyword words.Fail p ∷ tokens b
tokens (task_call x p es) = name x p ∷ tokens es
tokens (task_group p t q) = symbol signs.Open p ∷ tokens t ++ symbol signs.Close q ∷ []
tokens (let_in p x q r e s d) = keyword words.Let p ∷ name x q ∷ symbol signs.Define r ∷ tokens e ++ keyword words.In s ∷ tokens d
tokens (if_then p e q a r b) = keyword words.If p ∷ tokens e ++ keyword words.Then q ∷ tokens a ++ keyword words.Else r ∷ tokens b
tokens (case_of p e q r s a d b x i j y k c u) =
    keyword words.Case p ∷ tokens e ++ keyword words.Of q ∷ symbol signs.OpenBracket r ∷ symbol signs.CloseBracket s ∷ symbol signs.Arrow a
    ∷ tokens d
    ++ symbol signs.Bar b ∷ name x i ∷ symbol signs.Cons j ∷ name y k ∷ symbol signs.Arrow c ∷ tokens u
tokens (plain e) = tokens e
tokens (uncompared a) = tokens a
tokens (compared a o p b) = tokens a ++ symbol (relation o) p ∷ tokens b
tokens (unlisted a) = tokens a
tokens (cons a p b) = tokens a ++ symbol signs.Cons p ∷ tokens b
tokens (prefixed o p a) = prefix o p ∷ tokens a
tokens (unprefixed a) = tokens a
tokens (digits t p) = number t p ∷ []
tokens (quoted t v p) = quoted_text t v p ∷ []
tokens (constant b p) = keyword (truth b) p ∷ []
tokens (nothing p q) = symbol signs.Open p ∷ symbol signs.Close q ∷ []
tokens (named x p) = name x p ∷ []
tokens (content p x q) = symbol signs.Bang p ∷ name x q ∷ []
tokens (call x p es) = name x p ∷ tokens es
tokens (group p e q) = symbol signs.Open p ∷ tokens e ++ symbol signs.Close q ∷ []
tokens (pair p a q b r) = symbol signs.Open p ∷ tokens a ++ symbol signs.Comma q ∷ tokens b ++ symbol signs.Close r ∷ []
tokens (elements p es q) = symbol signs.OpenBracket p ∷ tokens es ++ symbol signs.CloseBracket q ∷ []
tokens (nil p b) = keyword words.Nil p ∷ tokens b
tokens (single s a) = tokens a
tokens (joined s a o p b) = tokens a ++ operator o p ∷ tokens b
tokens (empty l p q) = symbol signs.Open p ∷ symbol signs.Close q ∷ []
tokens (full l p es q) = symbol signs.Open p ∷ tokens es ++ symbol signs.Close q ∷ []

-- ---- levels
-- how many levels the next operator of a series puts above its parts: a listing is no node
abbrev pub above : Series → ℕ
above (list l) = 0
above choice = 1
above chain = 1
above either = 1
above both = 1
above sum = 1
above product = 1

-- How many levels a parse has: each part is one level below its node, and so is what stands in parentheses. A definition's body and the
-- types of its head are at level 1.
abbrev pub levels : {f : Form} → Parse f → ℕ
levels no_definitions = 0
levels (more_definitions ds d) = max (levels ds) (levels d)
levels (function p x q ps r b s e) = max (levels ps) (max (levels b) (levels e))
levels (task_named p x q ps r b s t) = max (levels ps) (max (levels b) (levels t))
levels (value_named x p q b) = levels b
levels (reference_named x p q r b) = levels b
levels (scalar_type b p) = 1
levels (pair_type p a q b r) = suc (max (levels a) (levels b))
levels (list_type p a q) = suc (levels a)
levels (task_let p x q r e s t) = suc (max (levels e) (levels t))
levels (task_if p e q t r u) = suc (max (levels e) (max (levels t) (levels u)))
levels (task_case p e q r s a t b x i j y k c u) = suc (max (levels e) (max (levels t) (levels u)))
levels (task_new p x q r e s t) = suc (max (levels e) (levels t))
levels (task_put x p q e r t) = suc (max (levels e) (levels t))
levels (task_plain t) = levels t
levels (task_then t p x q r u) = suc (max (levels t) (levels u))
levels (task_next t p x q r u) = suc (max (levels t) (levels u))
levels (task_edit p e) = suc (levels e)
levels (task_enter p b) = suc (levels b)
levels (task_share p x q) = 1
levels (task_fail p b) = suc (levels b)
levels (task_call x p es) = suc (levels es)
levels (task_group p t q) = suc (levels t)
levels (let_in p x q r e s d) = suc (max (levels e) (levels d))
levels (if_then p e q a r b) = suc (max (levels e) (max (levels a) (levels b)))
levels (case_of p e q r s a d b x i j y k c u) = suc (max (levels e) (max (levels d) (levels u)))
levels (plain e) = levels e
levels (uncompared a) = levels a
levels (compared a o p b) = suc (max (levels a) (levels b))
levels (unlisted a) = levels a
levels (cons a p b) = suc (max (levels a) (levels b))
levels (prefixed o p a) = suc (levels a)
levels (unprefixed a) = levels a
levels (digits t p) = 1
levels (quoted t v p) = 1
levels (constant b p) = 1
levels (nothing p q) = 1
levels (named x p) = 1
levels (content p x q) = 1
levels (call x p es) = suc (levels es)
levels (group p e q) = suc (levels e)
levels (pair p a q b r) = suc (max (levels a) (levels b))
levels (elements p es q) = suc (levels es)
levels (nil p b) = suc (levels b)
levels (single s a) = levels a
levels (joined s a o p b) = above s + max (levels a) (levels b)
levels (empty l p q) = 0
levels (full l p es q) = levels es
