-- From what `clap` says of its answer to what the reading says.
use Rattle.std.proofs.Common.{◌≡◌, ◌∙◌, ap, sym, refl, suc, Bool, true, false, cond, List, ◌∷◌, length, Option, Some, None, arith, true≢false, []}
use Rattle.std.proofs.lemmas.Bool.{and_parts, ltb-true, not-true}
use Rattle.std.proofs.lemmas.Slice.Eq.{bytes_eq-Decides}
use Rattle.std.specs.Prelude.{◌||◌, not, find, option_and_then, option_map, slice_get}
use Rattle.std.specs.List.{All, list_all}
use Rattle.std.specs.Borrow.{Bor}
use Rattle.std.specs.Str.{IsUtf8, bytes_eq}
use Rattle.clap.specs.Kinds.{Kinds}
use Rattle.clap.specs.Matches.{found_of}
use Rattle.clap.specs.Walk.{Row, first_of, rows_of, texts}
use Rattle.clap.specs.Simple.{App, matches_of}
use Rattle.clap.specs.Faults.{fault_of}
use Rattle.clap.specs.declared.parser.matches.ArgMatches.{ArgMatches}
use Rattle.clap.proofs.WalkLemmas.{first_value-rows}
use Rattle.task_model.specs.Terms.Text.{Text}
use Rattle.command_words.specs.WordReading.{Use, has, is_distinct, value_given}
use Rattle.command_words.specs.ClapReading.{clap_read}
use Rattle.command_words.specs.CommandTables.{HasUses, app_with, is_table, rules_for}
use Rattle.command_words.proofs.Turns.{row_for, rows_for}
use Rattle.command_words.proofs.ClapReads.{Agrees, AreTexts}
use Rattle.command_words.proofs.ClapCommand.{command_reads}

pub are_texts : (xs : List (Bor Text)) → All (λ w. IsUtf8 w.now) xs → AreTexts (texts xs)
are_texts [] h = tt
are_texts (x ∷ xs) h = (h 0 x (omega arith), are_texts xs (λ k d lt. h (suc k) d (omega arith)))

first_of-rows_for : (name : Text) (uses : List Use) → first_of name (rows_for uses) ≡ value_given name uses
first_of-rows_for name [] = refl
first_of-rows_for name (u ∷ us) = go (bytes_eq u.0 name) (first_of-rows_for name us)
  where
    go : (b : Bool) → first_of name (rows_for us) ≡ value_given name us
        → option_and_then (λ (r : Row). slice_get r.values 0)
        (cond b (Some (row_for u)) (find (λ (r : Row). bytes_eq r.id name) (rows_for us)))
        ≡ option_map (λ (x : Use). x.1) (cond b (Some u) (find (λ (x : Use). bytes_eq x.0 name) us))
    go true later = refl
    go false later = later

has_uses : (o : Option (List Use)) (kinds : Kinds) (rows : List Row) (m : ArgMatches) → Agrees o [] kinds rows → kinds ≡ []
    → rows_of (found_of m) ≡ rows → HasUses o m
has_uses None kinds rows m h none is = h none
has_uses (Some vs) kinds rows m h none is = λ name. first_value-rows (found_of m) name ∙ ap (first_of name) (is ∙ h.1)
    ∙ first_of-rows_for name vs

no_uses : (o : Option (List Use)) (kinds : Kinds) (rows : List Row) → Agrees o [] kinds rows → (kinds ≡ [] → ⊥) → o ≡ None
no_uses None kinds rows h bad = refl
no_uses (Some vs) kinds rows h bad = absurd (bad h.0)

pub apart : (arguments options : List Text) → list_all (λ p. not (has p options)) arguments ≡ true → (n : Text) → has n arguments ≡ true
    → has n options ≡ false
apart [] options e n h = absurd (true≢false (sym h))
apart (p ∷ ps) options e n h = go (bytes_eq p n) refl (and_parts (not (has p options)) _ e) h
    (λ later. apart ps options (and_parts (not (has p options)) _ e).1 n later)
  where
    go : (b : Bool) → bytes_eq p n ≡ b → (not (has p options) ≡ true) × (list_all (λ q. not (has q options)) ps ≡ true)
        → (b || has n ps) ≡ true
        → (has n ps ≡ true → has n options ≡ false) → has n options ≡ false
    go true t parts h later = ap (λ x. has x options) (sym ((bytes_eq-Decides p n).0 t)) ∙ not-true _ parts.0
    go false t parts h later = later h

module _ (name : Text) (arguments options : List Text) (table : is_table arguments options ≡ true) (words : List (Bor Text))
    (text : All (λ w. IsUtf8 w.now) words) where
  agrees : Agrees (clap_read (texts words) arguments options None) [] (fault_of (app_with name (rules_for arguments options)) (texts words))
      (matches_of (app_with name (rules_for arguments options)) (texts words))
  agrees =
      let parts = and_parts (is_distinct arguments) _ table in
      let more = and_parts (list_all (λ p. not (has p options)) arguments) _ parts.1 in
      command_reads name arguments options parts.0 (apart arguments options more.0) (ltb-true (length arguments) 1000 more.1) (texts words)
      (are_texts words text)

  pub found : (m : ArgMatches) (app : App) → app ≡ app_with name (rules_for arguments options) → fault_of app (texts words) ≡ []
      → rows_of (found_of m) ≡ matches_of app (texts words)
      → HasUses (clap_read (texts words) arguments options None) m
  found m app is none rows =
      has_uses _ _ _ m agrees (ap (λ a. fault_of a (texts words)) (sym is) ∙ none) (rows ∙ ap (λ a. matches_of a (texts words)) is)

  pub outside : (app : App) → app ≡ app_with name (rules_for arguments options) → (fault_of app (texts words) ≡ [] → ⊥)
      → clap_read (texts words) arguments options None ≡ None
  outside app is bad = no_uses _ _ _ agrees (λ none. bad (ap (λ a. fault_of a (texts words)) is ∙ none))
