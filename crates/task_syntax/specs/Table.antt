-- The first of some texts that another begins with, and the symbols by their first character.
use Rattle.std.specs.Prelude.{ℕ, ◌==◌, if◌then◌else◌, ◌≡◌, List, [], ◌∷◌, ◌++◌}
use Rattle.task_model.specs.Terms.Text.{Text}
use Rattle.task_model.specs.declared.symbol.Symbol.{Symbol}
use Rattle.task_model.specs.declared.symbol.Symbol.TheVariants as signs

-- a text begins with none of these
abbrev pub NoneBegins : Text → List Text → Type 0
NoneBegins text [] = Unit {0}
NoneBegins text (t ∷ ts) = ((rest : Text) → text ≡ t ++ rest → ⊥) × NoneBegins text ts

-- a text begins with this one, and with none before it
pub record FirstBegins (text : Text) (table : List Text) (first rest : Text) : Type 0 where
  pub before : List Text
  pub after : List Text
  pub split : table ≡ before ++ first ∷ after
  pub none : NoneBegins text before
  pub begins : text ≡ first ++ rest

-- the symbols that begin with this character, longer ones first
abbrev pub symbols_with : ℕ → List Symbol
symbols_with c =
    if c == 40 then signs.Open ∷ []
    else if c == 41 then signs.Close ∷ []
    else if c == 91 then signs.OpenBracket ∷ []
    else if c == 93 then signs.CloseBracket ∷ []
    else if c == 44 then signs.Comma ∷ []
    else if c == 58 then signs.Assign ∷ signs.Cons ∷ signs.Colon ∷ []
    else if c == 59 then signs.Semicolon ∷ []
    else if c == 46 then signs.Dot ∷ []
    else if c == 61 then signs.Equal ∷ signs.Define ∷ []
    else if c == 33 then signs.NotEqual ∷ signs.Bang ∷ []
    else if c == 60 then signs.Pair ∷ signs.InternalChoice ∷ signs.ExternalChoice ∷ signs.LessEqual ∷ signs.Less ∷ []
    else if c == 62 then signs.InternalStep ∷ signs.UserStep ∷ signs.GreaterEqual ∷ signs.Greater ∷ []
    else if c == 43 then signs.Join ∷ signs.Plus ∷ []
    else if c == 45 then signs.Arrow ∷ signs.Minus ∷ []
    else if c == 42 then signs.Star ∷ []
    else if c == 124 then signs.Or ∷ signs.Bar ∷ []
    else if c == 38 then signs.And ∷ []
    else []
