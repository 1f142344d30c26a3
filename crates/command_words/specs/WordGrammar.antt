-- The words after a command's name once more, as a grammar with a rule for each thing that they may do.
use Rattle.std.specs.Prelude.{◌≡◌, ◌++◌, ◌&&◌, nat_lt, not, Bool, true, false, List, ◌∷◌, length, []}
use Rattle.std.specs.List.{list_any}
use Rattle.task_model.specs.Terms.Text.{Text}
use Rattle.command_words.specs.WordReading.{Use, begins_with_dash, has, is_equals, without}

-- a character or more, and no `=`
abbrev pub is_option_name : Text → Bool
is_option_name name = nat_lt 0 (length name) && not (list_any is_equals name)

-- each word fills the next argument
pub data Fills : List Text → List Text → List Use → Type 0 where
  none : Fills [] [] []
  one : {argument word : Text} {arguments words : List Text} {uses : List Use} → Fills arguments words uses
      → Fills (argument ∷ arguments) (word ∷ words) ((argument, word) ∷ uses)

-- the words fill these arguments, use of these options each at most once, and make these uses
pub data Follows : List Text → List Text → List Text → List Use → Type 0 where
  -- no argument is left where the words end
  ended : {options : List Text} → Follows [] options [] []
  -- `--`
  stopped : {arguments options words : List Text} {uses : List Use} {word : Text}
      → word ≡ 45 ∷ 45 ∷ [] → Fills arguments words uses → Follows arguments options (word ∷ words) uses
  -- `--NAME VALUE`
  apart : {arguments options words : List Text} {uses : List Use} {word value name : Text}
      → word ≡ 45 ∷ 45 ∷ name → has name options ≡ true → begins_with_dash value ≡ false
      → Follows arguments (without name options) words uses
      → Follows arguments options (word ∷ value ∷ words) ((name, value) ∷ uses)
  -- `--NAME=VALUE`
  together : {arguments options words : List Text} {uses : List Use} {word value name : Text}
      → word ≡ 45 ∷ 45 ∷ (name ++ 61 ∷ value) → has name options ≡ true
      → Follows arguments (without name options) words uses
      → Follows arguments options (word ∷ words) ((name, value) ∷ uses)
  -- a word that doesn't begin with `-`
  placed : {argument word : Text} {arguments options words : List Text} {uses : List Use}
      → begins_with_dash word ≡ false → Follows arguments options words uses
      → Follows (argument ∷ arguments) options (word ∷ words) ((argument, word) ∷ uses)
  -- the word `-`
  placed_dash : {argument word : Text} {arguments options words : List Text} {uses : List Use}
      → word ≡ 45 ∷ [] → Follows arguments options words uses
      → Follows (argument ∷ arguments) options (word ∷ words) ((argument, word) ∷ uses)
