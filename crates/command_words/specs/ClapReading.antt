-- The same words as `clap` reads them: the word `-` is a value of an option too.
use Rattle.std.specs.Prelude.{List, [], ◌∷◌, Option, Some, None}
use Rattle.task_model.specs.Terms.Text.{Text}
use Rattle.command_words.specs.WordReading.{Use, WordKind, read_word, with_use, kind_of_word}
use Rattle.command_words.specs.WordReading.WordKind.{plain}

-- the value of the option that waits: any word that is a value, `-` too
abbrev pub clap_value : WordKind → Text → Text → Option (List Use) → Option (List Use)
clap_value plain name w uses = with_use name w uses
clap_value _ name w uses = None

-- the uses that the words make, as `read` says them but for that
abbrev pub clap_read : List Text → List Text → List Text → Option Text → Option (List Use)
clap_read [] [] options None = Some []
clap_read [] (p ∷ ps) options None = None
clap_read [] arguments options (Some n) = None
clap_read (w ∷ ws) arguments options None =
    read_word arguments options (kind_of_word w) w ws (clap_read ws)
clap_read (w ∷ ws) arguments options (Some n) =
    clap_value (kind_of_word w) n w (clap_read ws arguments options None)
