-- What stands first in the rest of a source.
use Rattle.std.specs.Prelude.{◌≡◌, ℕ, ◌+◌, ◌++◌, length}
use Rattle.task_model.specs.Terms.Text.{Text}
use Rattle.task_model.specs.Terms.Token.{TokenKindTerm, Spells, IsWithinTokenLimits, IsLongest}
use Rattle.task_syntax.specs.declared.token.TokenKind.{TokenKind}
use Rattle.task_syntax.specs.declared.stop.Stop.{Stop}
use Rattle.task_syntax.specs.declared.stop.Stop.TheVariants as stops
use Rattle.task_syntax.specs.Tokens.{IsKind}
use Rattle.task_syntax.specs.Fault.{IsFaultAt}

-- a token stands first, and the rest follows it
pub record Leads (text : Text) (kind : TokenKind) (rest : Text) : Type 0 where
  pub spelling : Text
  pub term : TokenKindTerm
  pub split : text ≡ spelling ++ rest
  pub spells : Spells spelling term
  pub within : IsWithinTokenLimits term
  pub longest : IsLongest spelling rest
  pub is : IsKind kind term spelling

-- a fault stands in what comes first, and this follows its place
abbrev pub LexStopsAt : Text → Stop → Type 0
LexStopsAt text (stops.Fault kind rest) = (inside : ℕ) × IsFaultAt text kind inside × (length rest.now + inside ≡ length text)
LexStopsAt text stops.Memory = Unit {0}
