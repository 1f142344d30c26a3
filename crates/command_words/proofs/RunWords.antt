-- The words of a run are read as that run, and those of a serving with no options as the usual one.
use Rattle.std.proofs.Common.{◌≡◌, ◌∙◌, ap, refl, ℕ, List, [], ◌∷◌, Some, true, false, ◌<◌, ◌^◌, arith}
use Rattle.std.specs.Prelude.{codes, decimal}
use Rattle.std.specs.Char.{is_ascii_digit}
use Rattle.std.specs.List.{list_all}
use Rattle.std.specs.Str.Parse.{AllDigits}
use Rattle.std.proofs.lemmas.Bool.{and_parts}
use Rattle.std.proofs.lemmas.Bool.Decides.{nat_tests}
use Rattle.std.proofs.lemmas.Fmt.{decimal_is_IsNumeral, length-decimal-le}
use Rattle.task_model.specs.Terms.Text.{Text}
use Rattle.task_model.specs.Running.State.{IsBudget}
use Rattle.command_words.specs.Commands.{command_of, file_argument, looked_up, run, run_in, run_options, run_with, serve, serve_in, serve_options}
use Rattle.command_words.specs.WordNumbers.{number_in}
use Rattle.command_words.specs.WordReading.{Use, begins_with_dash}
use Rattle.command_words.specs.WordGrammar.{Follows}
use Rattle.command_words.specs.WordGrammar.Fills.{none, one}
use Rattle.command_words.specs.WordGrammar.Follows.{apart, ended, placed, stopped}
use Rattle.command_words.proofs.GrammarLemmas.{reading_is_the_grammar}
use Rattle.command_words.proofs.NumberLemmas.{in_range}

all_digits : (t : Text) → AllDigits 10 t → list_all is_ascii_digit t ≡ true
all_digits [] h = refl
all_digits (c ∷ cs) h =
    let here : is_ascii_digit c ≡ true = grind (arith, nat_tests) in
    rw here (all_digits cs h.1)

dashless : (t : Text) → list_all is_ascii_digit t ≡ true → begins_with_dash t ≡ false
dashless [] h = refl
dashless (c ∷ cs) h = let here = (and_parts (is_ascii_digit c) (list_all is_ascii_digit cs) h).0 in grind (arith, nat_tests)

-- a budget in decimal
module _ (n : ℕ) (within : IsBudget n) where
  small : n < 2 ^ 64
  small = let below = within.1 in omega arith

  digits : list_all is_ascii_digit (decimal n) ≡ true
  digits = all_digits (decimal n) (decimal_is_IsNumeral n small).0.1

  budget_is : number_in 1 1000000 (decimal n) ≡ Some n
  budget_is =
      let d = decimal_is_IsNumeral n small in
      let low = within.0 in
      let high = within.1 in
      let is = d.1 in
      let short = length-decimal-le 7 n (omega arith) (omega arith) small in
      in_range (decimal n) digits (omega arith) 1 1000000 d.0.0 (omega arith) (omega arith) ∙ ap Some is

  pub plain_run : (file : Text) → begins_with_dash file ≡ false
      → command_of (codes "run" ∷ file ∷ codes "--budget" ∷ decimal n ∷ []) ≡ Some (run file n)
  plain_run file bare =
      let uses : List Use = (codes "FILE", file) ∷ (codes "budget", decimal n) ∷ [] in
      let words : List Text = file ∷ codes "--budget" ∷ decimal n ∷ [] in
      let follows : Follows file_argument run_options words uses = placed bare (apart refl refl (dashless (decimal n) digits) ended) in
      ap (looked_up run_in) ((reading_is_the_grammar file_argument run_options words uses refl).1 follows)
      ∙ ap (run_with (Some file)) budget_is

  pub dashed_run : (file : Text)
      → command_of (codes "run" ∷ codes "--budget" ∷ decimal n ∷ codes "--" ∷ file ∷ []) ≡ Some (run file n)
  dashed_run file =
      let uses : List Use = (codes "budget", decimal n) ∷ (codes "FILE", file) ∷ [] in
      let words : List Text = codes "--budget" ∷ decimal n ∷ codes "--" ∷ file ∷ [] in
      let follows : Follows file_argument run_options words uses = apart refl refl (dashless (decimal n) digits) (stopped refl (one none)) in
      ap (looked_up run_in) ((reading_is_the_grammar file_argument run_options words uses refl).1 follows)
      ∙ ap (run_with (Some file)) budget_is

pub served_as_usual : (file : Text) → begins_with_dash file ≡ false
    → command_of (codes "serve" ∷ file ∷ [])
    ≡ Some (serve file (record { budget = 10000; seats = 8; workers = 4; port = 8080; connections = 1000000 }))
served_as_usual file bare =
    let uses : List Use = (codes "FILE", file) ∷ [] in
    let follows : Follows file_argument serve_options (file ∷ []) uses = placed bare ended in
    ap (looked_up serve_in) ((reading_is_the_grammar file_argument serve_options (file ∷ []) uses refl).1 follows)
