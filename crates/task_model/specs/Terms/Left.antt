-- What a purse has left (docs/RULES.md, "Units and heights").
use Rattle.std.specs.Prelude.{ℕ}

-- units, and rules that may still be nested
pub record Left : Type 0 where
  pub units : ℕ
  pub height : ℕ
