-- A line as it is written, token by token.
use Rattle.std.specs.Prelude.{List, [], ◌∷◌, ◌++◌, codes}
use Rattle.task_model.specs.Terms.Text.{Text}

-- a text with these tokens behind it, each behind a space
abbrev pub with_tokens : Text → List Text → Text
with_tokens text [] = text
with_tokens text (t ∷ ts) = with_tokens (text ++ codes " " ++ t) ts
