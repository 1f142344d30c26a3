-- What the words after a command's name say, where the command takes a value for each of its arguments
-- and may have options with a value each.
use Rattle.std.specs.Prelude.{◌==◌, ◌&&◌, ℕ, Bool, true, false, not, List, ◌∷◌, Option, Some, None, []}
use Rattle.std.specs.Prelude.{if◌then◌else◌, option_map}
use Rattle.std.specs.List.{after_first, before_first, filter, find, list_any}
use Rattle.std.specs.Str.{bytes_eq}
use Rattle.task_model.specs.Terms.Text.{Text}

-- the text is among the texts
abbrev pub has : Text → List Text → Bool
has name names = list_any (λ x. bytes_eq x name) names

-- no text stands twice
abbrev pub is_distinct : List Text → Bool
is_distinct [] = true
is_distinct (n ∷ ns) = not (has n ns) && is_distinct ns

-- the texts but this one
abbrev pub without : Text → List Text → List Text
without name names = filter (λ x. not (bytes_eq x name)) names

-- ---- one word

-- what a word is before a word `--`: that word, `--NAME`, `--NAME=VALUE`, another word of two or more
-- characters that begins with `-`, or a value
pub data WordKind : Type 0 where
  stop : WordKind
  named : Text → WordKind
  joined : Text → Text → WordKind
  refused : WordKind
  plain : WordKind

-- the character `=`
abbrev pub is_equals : ℕ → Bool
is_equals c = c == 61

-- what a word is whose first two characters are `-`, by those behind them
abbrev pub word_after_two : Text → WordKind
word_after_two [] = stop
word_after_two (c ∷ cs) = if list_any is_equals (c ∷ cs)
    then joined (before_first is_equals (c ∷ cs)) (after_first is_equals (c ∷ cs))
    else named (c ∷ cs)

-- what a word is whose first character is `-`, by those behind it
abbrev pub word_after_dash : Text → WordKind
word_after_dash [] = plain
word_after_dash (c ∷ cs) = if c == 45 then word_after_two cs else refused

-- what a word is before a word `--`
abbrev pub kind_of_word : Text → WordKind
kind_of_word [] = plain
kind_of_word (c ∷ cs) = if c == 45 then word_after_dash cs else plain

-- the word begins with `-`
abbrev pub begins_with_dash : Text → Bool
begins_with_dash [] = false
begins_with_dash (c ∷ cs) = c == 45

-- ---- all words

-- an argument or an option, and the value that it got
abbrev pub Use : Type 0
Use = Text × Text

-- one more use in front, where there are uses at all
abbrev pub with_use : Text → Text → Option (List Use) → Option (List Use)
with_use name value None = None
with_use name value (Some uses) = Some ((name, value) ∷ uses)

-- each word fills an argument, and no argument is left
abbrev pub filled : List Text → List Text → Option (List Use)
filled [] [] = Some []
filled (p ∷ ps) [] = None
filled [] (w ∷ ws) = None
filled (p ∷ ps) (w ∷ ws) = with_use p w (filled ps ws)

-- one word, where `next` reads the words after it with the arguments and the options that are left and
-- the option that waits for its value
abbrev pub read_word : List Text → List Text → WordKind → Text → List Text
    → (List Text → List Text → Option Text → Option (List Use)) → Option (List Use)
read_word arguments options stop w ws next = filled arguments ws
read_word arguments options (named n) w ws next =
    if has n options then next arguments (without n options) (Some n) else None
read_word arguments options (joined n v) w ws next =
    if has n options then with_use n v (next arguments (without n options) None) else None
read_word arguments options refused w ws next = None
read_word [] options plain w ws next = None
read_word (p ∷ ps) options plain w ws next = with_use p w (next ps options None)

-- the uses that the words make, in order: each argument is filled from the left, each option stands at
-- most once, and the value of `--NAME` is the next word, which may not begin with `-`
abbrev pub read : List Text → List Text → List Text → Option Text → Option (List Use)
read [] [] options None = Some []
read [] (p ∷ ps) options None = None
read [] arguments options (Some n) = None
read (w ∷ ws) arguments options None =
    read_word arguments options (kind_of_word w) w ws (read ws)
read (w ∷ ws) arguments options (Some n) =
    if begins_with_dash w then None else with_use n w (read ws arguments options None)

-- the value of an argument or an option
abbrev pub value_given : Text → List Use → Option Text
value_given name uses = option_map (λ u. u.1) (find (λ u. bytes_eq u.0 name) uses)
