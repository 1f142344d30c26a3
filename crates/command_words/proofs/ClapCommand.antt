-- The command with arguments and options, as `clap` takes it.
use Rattle.std.proofs.Common.{◌≡◌, ◌∙◌, ap, sym, refl, ℕ, true, false, List, ◌∷◌, map, length, None, ◌<◌, []}
use Rattle.std.specs.Prelude.{not}
use Rattle.std.specs.List.{list_all, list_any}
use Rattle.clap.specs.Walk.{is_early_multiple, nothing_held, walk_from}
use Rattle.clap.specs.Simple.{filled_from, is_simple, matches_of}
use Rattle.clap.specs.Faults.{fault_of, is_simple_and_free}
use Rattle.clap.proofs.FaultLemmas.{leaf_fault}
use Rattle.command_words.specs.CommandTables.{app_with, option_rule, rules_for}
use Rattle.task_model.specs.Terms.Text.{Text}
use Rattle.command_words.specs.WordReading.{has, is_distinct}
use Rattle.command_words.specs.ClapReading.{clap_read}
use Rattle.command_words.proofs.Rules.{built_rules, filled-rules, next_index, arguments_at}
use Rattle.command_words.proofs.Turns.{last, shape_with, total}
use Rattle.command_words.proofs.ClapReads.{Agrees, AreTexts, agrees-as, reads, taken_by}
use Rattle.command_words.proofs.Names.{Left}

options_are_simple : (options : List Text) → list_all (λ a. a.is_simple) (map option_rule options) ≡ true
options_are_simple [] = refl
options_are_simple (o ∷ os) = options_are_simple os

rules_are_simple : (arguments options : List Text) → list_all (λ a. a.is_simple) (rules_for arguments options) ≡ true
rules_are_simple [] options = options_are_simple options
rules_are_simple (p ∷ ps) options = rules_are_simple ps options

built_are_simple : (i : ℕ) (arguments options : List Text) → list_all (λ a. a.is_simple) (built_rules i arguments options) ≡ true
built_are_simple i [] [] = refl
built_are_simple i [] (o ∷ os) = built_are_simple i [] os
built_are_simple i (p ∷ ps) options = built_are_simple (next_index i) ps options

built_are_free : (i : ℕ) (arguments options : List Text) → list_all (λ a. a.is_free) (built_rules i arguments options) ≡ true
built_are_free i [] [] = refl
built_are_free i [] (o ∷ os) = built_are_free i [] os
built_are_free i (p ∷ ps) options = built_are_free (next_index i) ps options

built_are_ordered : (n i : ℕ) (arguments options : List Text) → list_any (is_early_multiple n) (built_rules i arguments options) ≡ false
built_are_ordered n i [] [] = refl
built_are_ordered n i [] (o ∷ os) = built_are_ordered n i [] os
built_are_ordered n i (p ∷ ps) options = built_are_ordered n (next_index i) ps options

module _ (name : Text) (arguments options : List Text) where
  pub is_simple_command : is_simple_and_free (app_with name (rules_for arguments options)) ≡ true
  is_simple_command = rw (rules_are_simple, filled-rules, built_are_simple, built_are_ordered, built_are_free) refl

  pub simple : is_simple (app_with name (rules_for arguments options)) ≡ true
  simple = rw (rules_are_simple, filled-rules, built_are_simple, built_are_ordered) refl

  -- what `clap` takes and finds is what the reading says
  pub command_reads : is_distinct arguments ≡ true → ((n : Text) → has n arguments ≡ true → has n options ≡ false) → length arguments < 1000
      → (words : List Text) → AreTexts words
      → Agrees (clap_read words arguments options None) [] (fault_of (app_with name (rules_for arguments options)) words)
      (matches_of (app_with name (rules_for arguments options)) words)
  command_reads distinct apart few words texts =
      let app = app_with name (rules_for arguments options) in
      let built = shape_with name (built_rules 1 arguments options) in
      let faults : fault_of app words ≡ total built (walk_from nothing_held) words =
      leaf_fault (record { top = shape_with name (filled_from 1 (rules_for arguments options)); subs = [] }) nothing_held words refl
      ∙ ap (λ rules. total (shape_with name rules) (walk_from nothing_held) words) (filled-rules 1 arguments options) in
      let rows : matches_of app words ≡ last built (walk_from nothing_held) words =
      ap (λ rules. last (shape_with name rules) (walk_from nothing_held) words) (filled-rules 1 arguments options) in
      let start : Left arguments options (built_rules 1 arguments options) arguments options 1 (taken_by None []) = record {
        at = arguments_at arguments options few;
        distinct = distinct;
        arguments_left = λ n e. sym (ap not e);
        of_arguments = λ n e. e;
        options_left = λ n e. sym (ap not e);
        of_options = λ n e. e;
      } in
      agrees-as (clap_read words arguments options None) [] _ _ _ _ faults rows
      (reads name arguments options apart words texts arguments options None [] nothing_held 1
      (record { fault = refl; rows = refl; skip = refl }) start)
