-- The tokens of the code, and what it reads, as the grammar's.
use Rattle.std.specs.Prelude.{◌≡◌, ℕ, ◌+◌, max, List, [], ◌∷◌, ◌++◌, map}
use Rattle.task_model.specs.Terms.Basic.{BasicTerm, basic_term}
use Rattle.reader_grammar.specs.declared.lexeme.Lexeme.{Lexeme}
use Rattle.reader_grammar.specs.declared.lexeme.Lexeme.TheVariants as codes
use Rattle.reader_grammar.specs.declared.lexeme.PositionedToken.{PositionedToken}
use Rattle.reader_grammar.specs.declared.measured.Measured.{Measured}
use Rattle.task_model.specs.Syntax.Lexemes as terms
use Rattle.reader_grammar.specs.declared.parsed.Parsed.{Parsed}
use Rattle.reader_grammar.specs.declared.parts.Parts.{Parts}
use Rattle.reader_grammar.specs.declared.items.Items.{Items}
use Rattle.reader_grammar.specs.declared.series.Level.{Level}
use Rattle.reader_grammar.specs.declared.series.Level.TheVariants as codes_of
use Rattle.task_model.specs.Terms.Host.{HostTerm, host_term}
use Rattle.task_model.specs.declared.host.Host as host
use Rattle.task_model.specs.Terms.Task.{BodyTerm, body_term}
use Rattle.task_model.specs.declared.host.Op.{Op}
use Rattle.task_model.specs.declared.host.Op.TheVariants as ops
use Rattle.task_model.specs.Syntax.Grammar.{Series, list, choice, chain, either, both, sum, product, Operator, or, and, plus, minus, join, times, quot, rem, operator, Form, basic, series, part_of, Parse, levels}
use Rattle.task_model.specs.Syntax.Meaning.{Meaning, meaning}
use Rattle.task_model.specs.Syntax.Nodes.{start, places}

-- ---- tokens
abbrev pub lexeme_at : Lexeme → ℕ → terms.Lexeme
lexeme_at (codes.Keyword k) p = terms.keyword k p
lexeme_at (codes.Symbol s) p = terms.symbol s p
lexeme_at (codes.Name x) p = terms.name x.now p
lexeme_at (codes.Number n) p = terms.number n.digits.now p
lexeme_at (codes.Text q) p = terms.quoted_text q.spelling.now q.content.now p

abbrev pub lexeme : PositionedToken → terms.Lexeme
lexeme t = lexeme_at t.lexeme t.from

-- the tokens of the code, as those of the grammar
abbrev pub lexemes : List PositionedToken → List terms.Lexeme
lexemes ts = map lexeme ts

-- ---- types, with their levels
-- a type and its levels
abbrev pub measured : Measured → BasicTerm × ℕ
measured m = (basic_term m.basic, m.levels)

-- what is said of a parse of a type: the type, and its levels
abbrev pub shown_type : Parse basic → BasicTerm × ℕ
shown_type d = (meaning d, levels d)

-- ---- parsed terms
-- What a reader hands on of a form: what it stands for, its levels, the place of its first token, the places of its nodes in pre-order, and
-- its bodies in the order in which their texts begin.
pub record ParsedTerm (V : Type 0) : Type 0 where
  pub term : V
  pub levels : ℕ
  pub start : ℕ
  pub places : List ℕ
  pub bodies : List BodyTerm

-- a parse that stands for this, with these bodies
abbrev pub parsed : {f : Form} {V : Type 0} → V → List BodyTerm → Parse f → ParsedTerm V
parsed term bodies d = record { term = term; levels = levels d; start = start d; places = places d; bodies = bodies }

-- a parse of a form that holds no bodies
abbrev pub shown : {f : Form} → Parse f → ParsedTerm (Meaning f)
shown d = parsed (meaning d) [] d

-- what the code says of an expression that it read
abbrev pub shown_host : Parsed host.Host → ParsedTerm HostTerm
shown_host n = record {
  term = host_term n.term.value;
  levels = n.levels;
  start = n.start;
  places = n.places.items;
  bodies = map body_term n.bodies.items;
}

-- ---- listings
-- what a reader hands on of arguments or elements: a listing is no node, and starts nowhere
pub record Listed (V : Type 0) : Type 0 where
  pub list : V
  pub levels : ℕ
  pub places : List ℕ

-- what is said of a parse of arguments or elements
abbrev pub shown_list : {f : Form} → Parse f → Listed (Meaning f)
shown_list d = record { list = meaning d; levels = levels d; places = places d }

-- what the code says of arguments or elements that it read
abbrev pub shown_items : Items → Listed (List HostTerm)
shown_items r = record { list = map host_term r.list.list; levels = r.levels; places = r.places.items }

-- no argument, and no element
abbrev pub no_items : Listed (List HostTerm)
no_items = record { list = []; levels = 0; places = [] }

-- one argument or element
abbrev pub one_item : ParsedTerm HostTerm → Listed (List HostTerm)
one_item a = record { list = a.term ∷ []; levels = a.levels; places = a.places }

-- one more behind them
abbrev pub more_items : Listed (List HostTerm) → ParsedTerm HostTerm → Listed (List HostTerm)
more_items l a = record { list = l.list ++ a.term ∷ []; levels = max l.levels a.levels; places = l.places ++ a.places }

-- ---- the levels of operators that group to the left
-- the series of a level of operators
abbrev pub series_of : Level → Series
series_of codes_of.Either = either
series_of codes_of.Both = both
series_of codes_of.Sum = sum
series_of codes_of.Product = product

-- an operator of expressions is this one of the code
abbrev pub IsOperation : (s : Series) → Operator s → Op → Type 0
IsOperation (list l) o op = ⊥
IsOperation choice o op = ⊥
IsOperation chain o op = ⊥
IsOperation either or op = op ≡ ops.Or
IsOperation both and op = op ≡ ops.And
IsOperation sum plus op = op ≡ ops.Add
IsOperation sum minus op = op ≡ ops.Sub
IsOperation sum join op = op ≡ ops.Join
IsOperation product times op = op ≡ ops.Mul
IsOperation product quot op = op ≡ ops.Quot
IsOperation product rem op = op ≡ ops.Rem

-- a series and its parts, as expressions
abbrev pub shown_series : (l : Level) → Parse (series (series_of l)) → ParsedTerm HostTerm
shown_series codes_of.Either d = shown d
shown_series codes_of.Both d = shown d
shown_series codes_of.Sum d = shown d
shown_series codes_of.Product d = shown d

abbrev pub shown_part : (l : Level) → Parse (part_of (series_of l)) → ParsedTerm HostTerm
shown_part codes_of.Either d = shown d
shown_part codes_of.Both d = shown d
shown_part codes_of.Sum d = shown d
shown_part codes_of.Product d = shown d

-- ---- parsed terms from their parts
-- what is said of the parts of a node: the most levels of one, the places of their nodes in pre-order, and their bodies
pub record PartsTerm : Type 0 where
  pub levels : ℕ
  pub places : List ℕ
  pub bodies : List BodyTerm

-- what the code says of parts
abbrev pub parts_term : Parts → PartsTerm
parts_term p = record { levels = p.levels; places = p.places.items; bodies = map body_term p.bodies.items }

-- no part
abbrev pub no_parts : PartsTerm
no_parts = record { levels = 0; places = []; bodies = [] }

abbrev pub one_part : {V : Type 0} → ParsedTerm V → PartsTerm
one_part a = record { levels = a.levels; places = a.places; bodies = a.bodies }

-- something that was read, as a part
abbrev pub parts_of : {T : Type 0} → Parsed T → PartsTerm
parts_of n = record { levels = n.levels; places = n.places.items; bodies = map body_term n.bodies.items }

-- the parts of both
abbrev pub both_parts : PartsTerm → PartsTerm → PartsTerm
both_parts a b = record { levels = max a.levels b.levels; places = a.places ++ b.places; bodies = a.bodies ++ b.bodies }

-- a node of these parts, which begins here
abbrev pub node : {V : Type 0} → V → ℕ → PartsTerm → ParsedTerm V
node term p parts = record { term = term; levels = 1 + parts.levels; start = p; places = p ∷ parts.places; bodies = parts.bodies }

abbrev pub leaf : {V : Type 0} → V → ℕ → ParsedTerm V
leaf term p = node term p no_parts

-- a node over a type, which begins here
abbrev pub over_type : {V : Type 0} → (BasicTerm → V) → ℕ → BasicTerm × ℕ → ParsedTerm V
over_type make p b = node (make b.0) p (record { levels = b.1; places = []; bodies = [] })

-- a node over a listing, which begins here
abbrev pub over_list : {V : Type 0} → (List HostTerm → V) → ℕ → Listed (List HostTerm) → ParsedTerm V
over_list make p l = node (make l.list) p (record { levels = l.levels; places = l.places; bodies = [] })

-- a node over one part, which begins here
abbrev pub over_one : {U V : Type 0} → (U → V) → ℕ → ParsedTerm U → ParsedTerm V
over_one make p a = node (make a.term) p (one_part a)

-- a node over two parts, which begins here
abbrev pub over_two : {T U V : Type 0} → (T → U → V) → ℕ → ParsedTerm T → ParsedTerm U → ParsedTerm V
over_two make p a b = node (make a.term b.term) p (both_parts (one_part a) (one_part b))

-- a node over three parts, which begins here
abbrev pub over_three : {S T U V : Type 0} → (S → T → U → V) → ℕ → ParsedTerm S → ParsedTerm T → ParsedTerm U → ParsedTerm V
over_three make p a b c = node (make a.term b.term c.term) p (both_parts (one_part a) (both_parts (one_part b) (one_part c)))

-- a part in parentheses, the first of which stands here
abbrev pub grouped : {V : Type 0} → ℕ → ParsedTerm V → ParsedTerm V
grouped p a = record { term = a.term; levels = 1 + a.levels; start = p; places = a.places; bodies = a.bodies }

-- no operator of the series stands first
abbrev pub NoOperator : Series → List terms.Lexeme → Type 0
NoOperator s ts = (o : Operator s) (p : ℕ) (rest : List terms.Lexeme) → ts ≡ operator o p ∷ rest → ⊥

-- this operator of the code stands first, as one of the series, and the rest follows it
abbrev pub Operated : Series → List terms.Lexeme → Op → List terms.Lexeme → Type 0
Operated s ts op rest = (o : Operator s) × (p : ℕ) × (ts ≡ operator o p ∷ rest) × IsOperation s o op
