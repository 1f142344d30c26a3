-- What `clap` does after the words: nothing has a default, and each argument needs a value.
use Rattle.std.proofs.Common.{◌≡◌, ◌∙◌, ap, ap₂, sym, refl, ℕ, Bool, true, false, cond, List, ◌∷◌, Some, true≢false, []}
use Rattle.std.specs.Prelude.{◌&&◌, ◌||◌, not}
use Rattle.std.specs.Str.{bytes_eq}
use Rattle.std.specs.List.{find, fold, list_any}
use Rattle.std.specs.Option.{option_map_or}
use Rattle.std.proofs.lemmas.Bool.{or_right}
use Rattle.clap.specs.Facts.{explicit_source}
use Rattle.clap.specs.Walk.{Row, Rule, has_row, with_default}
use Rattle.clap.specs.Takes.{is_given}
use Rattle.clap.specs.Faults.{default_fault, defaults_fault, given_default_fault}
use Rattle.task_model.specs.Terms.Text.{Text}
use Rattle.command_words.specs.WordReading.{Use, has}
use Rattle.command_words.proofs.Rules.{AreOurs, IsOurs, built_options, built_rules, next_index}
use Rattle.command_words.proofs.Turns.{row_for, rows_for, with_none}
use Rattle.command_words.proofs.Names.{has-head, is_name}

pub no_default : (rows : List Row) (a : Rule) → IsOurs a → with_default rows a ≡ rows
no_default rows a own =
    let none : a.defaults ≡ [] = ap (λ r. r.defaults) own.is in
    rw none (go (has_row a.id rows))
  where
    go : (b : Bool) → cond b rows rows ≡ rows
    go true = refl
    go false = refl

pub no_fault : (rows : List Row) (a : Rule) → IsOurs a → default_fault rows a ≡ []
no_fault rows a own =
    let none : a.defaults ≡ [] = ap (λ r. r.defaults) own.is in
    rw none (go (has_row a.id rows))
  where
    go : (b : Bool) → cond (b || true) [] (given_default_fault a []) ≡ []
    go true = refl
    go false = refl

pub finished-is : (rows : List Row) (rules : List Rule) → AreOurs rules → fold with_default rows rules ≡ rows
finished-is rows [] own = refl
finished-is rows (a ∷ rest) own = ap (λ rs. fold with_default rs rest) (no_default rows a own.0) ∙ finished-is rows rest own.1

pub no_default_fault : (rows : List Row) (rules : List Rule) → AreOurs rules → defaults_fault rows rules ≡ []
unfolding defaults_fault
no_default_fault rows [] own = refl
no_default_fault rows (a ∷ rest) own =
    with_none _ _ (no_fault rows a own.0) ∙ ap (λ rs. defaults_fault rs rest) (no_default rows a own.0) ∙ no_default_fault rows rest own.1

pub is_given-rows : (name : Text) (us : List Use) → is_given name (rows_for us) ≡ has_row name (rows_for us)
is_given-rows name [] = refl
is_given-rows name (u ∷ us) = go (bytes_eq u.0 name) (is_given-rows name us)
  where
    go : (b : Bool) → is_given name (rows_for us) ≡ has_row name (rows_for us)
        → option_map_or (λ (r : Row). explicit_source r.source)
        (cond b (Some (row_for u)) (find (λ (r : Row). bytes_eq r.id name) (rows_for us))) false ≡ (b || has_row name (rows_for us))
    go true later = refl
    go false later = later

-- an argument that has no value
abbrev pub lacks : List Use → Text → Bool
lacks us p = not (has_row p (rows_for us))

abbrev lacks_required : List Row → Rule → Bool
lacks_required rows a = a.required && not (is_given a.id rows)

no_option_lacks : (rows : List Row) (options : List Text) → list_any (lacks_required rows) (built_options options) ≡ false
no_option_lacks rows [] = refl
no_option_lacks rows (o ∷ os) = no_option_lacks rows os

pub missing-is : (i : ℕ) (us : List Use) (arguments options : List Text)
    → list_any (lacks_required (rows_for us)) (built_rules i arguments options) ≡ list_any (lacks us) arguments
missing-is i us [] options = no_option_lacks (rows_for us) options
missing-is i us (p ∷ ps) options = ap₂ (λ a b. not a || b) (is_given-rows p us) (missing-is (next_index i) us ps options)

pub none_lacks : (us : List Use) (arguments : List Text) → ((n : Text) → has n arguments ≡ true → has_row n (rows_for us) ≡ true)
    → list_any (lacks us) arguments ≡ false
none_lacks us [] h = refl
none_lacks us (p ∷ ps) h = rw (h p (has-head p ps)) (none_lacks us ps (λ n e. h n (or_right (bytes_eq p n) (has n ps) e)))

pub some_lacks : (us : List Use) (p : Text) (arguments : List Text) → has p arguments ≡ true → has_row p (rows_for us) ≡ false
    → list_any (lacks us) arguments ≡ true
some_lacks us p [] h none = absurd (true≢false (sym h))
some_lacks us p (x ∷ xs) h none = go (bytes_eq x p) refl h (λ e. some_lacks us p xs e none)
  where
    go : (b : Bool) → bytes_eq x p ≡ b → (b || has p xs) ≡ true → (has p xs ≡ true → list_any (lacks us) xs ≡ true)
        → list_any (lacks us) (x ∷ xs) ≡ true
    go true e h later =
        let gone : has_row x (rows_for us) ≡ false = ap (λ n. has_row n (rows_for us)) (is_name x p e) ∙ none in
        rw gone refl
    go false e h later = or_right (lacks us x) _ (later h)
