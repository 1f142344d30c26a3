-- Texts between tags and in attributes (docs/FORMATS.md, "HTML pages").
use Rattle.std.specs.Prelude.{◌≡◌, ℕ, ◌<◌, ◌==◌, ◌&&◌, ◌||◌, not, Bool, true, [], ◌∷◌, length, take, slice_index, codes}
use Rattle.std.specs.Str.{bytes_eq}
use Rattle.task_model.specs.Terms.Text.{Text}
use Rattle.task_model.specs.Showing.Html.{entity, html_escaped}

-- the bytes up to this place are written as they are, and the byte there as this entity
pub record EscapesAt (bytes : Text) (place : ℕ) (written : Text) : Type 0 where
  pub within : place < length bytes
  pub before : html_escaped (take place bytes) ≡ take place bytes
  pub byte : entity (slice_index bytes place) ≡ written
  pub ascii : slice_index bytes place < 128

-- one of the four entities stands in front
abbrev pub begins_entity : Text → Bool
begins_entity t = bytes_eq (take 5 t) (codes "&amp;")
    || (bytes_eq (take 4 t) (codes "&lt;") || (bytes_eq (take 4 t) (codes "&gt;") || bytes_eq (take 6 t) (codes "&quot;")))

-- nothing of a text is read as markup: it has no `<`, no `>` and no `"`, and each `&` begins one of the four entities
abbrev pub is_inert : Text → Bool
is_inert [] = true
is_inert (byte ∷ bytes) = not (byte == 60) && (not (byte == 62) && (not (byte == 34)
    && ((not (byte == 38) || begins_entity (byte ∷ bytes)) && is_inert bytes)))
