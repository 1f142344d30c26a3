-- What the readers inside read: each form of the grammar as a language, and what may follow it.
use Rattle.std.specs.Prelude.{◌≡◌, ℕ, zero, suc, nat_lt, Bool, true, List, [], ◌∷◌, Result, Ok, Err}
use Rattle.task_model.specs.Terms.Text.{Text}
use Rattle.task_model.specs.declared.keyword.Keyword.{Keyword}
use Rattle.task_model.specs.declared.keyword.Keyword.TheVariants as words
use Rattle.task_model.specs.declared.symbol.Symbol.{Symbol}
use Rattle.task_model.specs.declared.symbol.Symbol.TheVariants as signs
use Rattle.exact_reading.specs.declared.stop.ParseStop.{ParseStop}
use Rattle.exact_reading.specs.Reading.{Language, IsWithinLevels, Right}
use Rattle.task_model.specs.Syntax.Lexemes.{Lexeme, keyword, symbol, name, number, quoted_text}
use Rattle.task_model.specs.Syntax.Grammar.{arguments, list, choice, chain, either, both, sum, product, Form, program, definition, parameter, basic, task, task_atom, expression, comparison, listed, operand, atom, series, enclosed, Parse, tokens, levels}

-- ---- forms
-- the tokens of a parse stand for it; it comes with its levels
abbrev pub Of : (f : Form) → Language Lexeme (Parse f × ℕ)
Of f ts x = (tokens x.0 ≡ ts) × (levels x.0 ≡ x.1)

-- ---- what may follow
-- how loosely the loosest token holds that a form may go on with; 0 where it goes on with none
abbrev pub reach : Form → ℕ
reach parameter = 0
reach basic = 0
reach (enclosed l) = 0
reach atom = 1
reach operand = 1
reach task_atom = 1
reach (series product) = 2
reach (series sum) = 3
reach listed = 4
reach comparison = 5
reach (series both) = 6
reach (series either) = 7
reach expression = 7
reach (series chain) = 8
reach (series choice) = 9
reach task = 10
reach definition = 10
reach (series (list l)) = 11
reach program = 12

-- how loosely a token holds what stands on its left, by a form that it goes on with; 0 where it goes on with nothing
abbrev pub sign_rank : Symbol → ℕ
sign_rank signs.Open = reach atom
sign_rank signs.Star = reach (series product)
sign_rank signs.Plus = reach (series sum)
sign_rank signs.Minus = reach (series sum)
sign_rank signs.Join = reach (series sum)
sign_rank signs.Cons = reach listed
sign_rank signs.Equal = reach comparison
sign_rank signs.NotEqual = reach comparison
sign_rank signs.Less = reach comparison
sign_rank signs.LessEqual = reach comparison
sign_rank signs.Greater = reach comparison
sign_rank signs.GreaterEqual = reach comparison
sign_rank signs.And = reach (series both)
sign_rank signs.Or = reach (series either)
sign_rank signs.Pair = reach (series chain)
sign_rank signs.InternalChoice = reach (series choice)
sign_rank signs.ExternalChoice = reach (series choice)
sign_rank signs.InternalStep = reach task
sign_rank signs.UserStep = reach task
sign_rank signs.Comma = reach (series (list arguments))
sign_rank signs.Close = 0
sign_rank signs.OpenBracket = 0
sign_rank signs.CloseBracket = 0
sign_rank signs.Colon = 0
sign_rank signs.Assign = 0
sign_rank signs.Semicolon = 0
sign_rank signs.Dot = 0
sign_rank signs.Define = 0
sign_rank signs.Bang = 0
sign_rank signs.Arrow = 0
sign_rank signs.Bar = 0

abbrev pub word_rank : Keyword → ℕ
word_rank words.Quot = reach (series product)
word_rank words.Rem = reach (series product)
word_rank words.Fun = reach program
word_rank words.Task = reach program
word_rank words.Unit = 0
word_rank words.Bool = 0
word_rank words.Int = 0
word_rank words.Text = 0
word_rank words.Ref = 0
word_rank words.Let = 0
word_rank words.In = 0
word_rank words.If = 0
word_rank words.Then = 0
word_rank words.Else = 0
word_rank words.Case = 0
word_rank words.Of = 0
word_rank words.New = 0
word_rank words.Edit = 0
word_rank words.Enter = 0
word_rank words.Share = 0
word_rank words.Fail = 0
word_rank words.True = 0
word_rank words.False = 0
word_rank words.Not = 0
word_rank words.Fst = 0
word_rank words.Snd = 0
word_rank words.Len = 0
word_rank words.Nil = 0

abbrev pub rank : Lexeme → ℕ
rank (keyword k p) = word_rank k
rank (symbol s p) = sign_rank s
rank (name x p) = 0
rank (number t p) = 0
rank (quoted_text t v p) = 0

abbrev pub stops_at : ℕ → ℕ → Bool
stops_at most zero = true
stops_at most (suc n) = nat_lt most (suc n)

-- nothing that a form goes on with
abbrev pub EndsForm : Form → List Lexeme → Type 0
EndsForm f [] = Unit {0}
EndsForm f (t ∷ ts) = stops_at (reach f) (rank t) ≡ true

-- ---- single tokens
-- a keyword, and its place
abbrev pub KeywordToken : Keyword → Language Lexeme ℕ
KeywordToken k ts p = ts ≡ keyword k p ∷ []

-- a symbol, and its place
abbrev pub SymbolToken : Symbol → Language Lexeme ℕ
SymbolToken s ts p = ts ≡ symbol s p ∷ []

-- a name and its place
abbrev pub NameToken : Language Lexeme (Text × ℕ)
NameToken ts x = ts ≡ name x.0 x.1 ∷ []

-- ---- answers
abbrev pub AnswersAs : {X Y : Type 0} → Language Lexeme X → (X → Type 0) → (List Lexeme → Type 0) → (X → Y) → List Lexeme
    → Result (Y × List Lexeme) ParseStop → Type 0
AnswersAs {X} A Fits Ends show ts (Ok r) = (x : X) × (show x ≡ r.0) × Right A Fits Ends ts (Ok (x, r.1))
AnswersAs A Fits Ends show ts (Err e) = Right A Fits Ends ts (Err e)

-- What was read is what a parse shows, and that parse is the right answer; or the fault is.
pub record ReadsAs {X Y : Type 0} (A : Language Lexeme X) (Fits : X → Type 0) (Ends : List Lexeme → Type 0) (show : X → Y)
    (ts : List Lexeme) (r : Result (Y × List Lexeme) ParseStop) : Type 0 where
  pub by : AnswersAs A Fits Ends show ts r

-- the same of a form within so many levels
abbrev pub Reads : {Y : Type 0} → (f : Form) → (Parse f → Y) → ℕ → List Lexeme → Result (Y × List Lexeme) ParseStop → Type 0
Reads f show room ts r = ReadsAs (Of f) (IsWithinLevels room) (EndsForm f) (λ x. show x.0) ts r
