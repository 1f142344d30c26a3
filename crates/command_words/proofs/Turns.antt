-- What one word does in `clap`'s walk over the words of a command with arguments and options.
use Rattle.std.proofs.Common.{◌≡◌, ◌∙◌, ◌⊎◌, inl, inr, ap, sym, subst, refl, ℕ, Bool, true, false, List, ◌∷◌, ◌++◌, map, Option, Some, None, append-nil, []}
use Rattle.std.specs.Prelude.{◌&&◌, ◌||◌}
use Rattle.std.specs.Str.{IsUtf8, bytes_eq}
use Rattle.std.specs.List.{fold}
use Rattle.std.proofs.lemmas.Slice.Eq.{bytes_eq-Decides}
use Rattle.clap.specs.Lexer.{long_of, short_of}
use Rattle.clap.specs.Kinds.{Kinds, or_else}
use Rattle.clap.specs.Walk.{Held, Row, Rule, Step, Waiting, Walk, after_step, arg_by_id, arg_by_index, arg_by_long, arg_by_short, at_row, finished, has_row, is_pending, settled, subcommand_met, subcommand_or_other, takes_several, used, walked, with_values}
use Rattle.clap.specs.Walk.Waiting.{idle, option, positional}
use Rattle.clap.specs.Walk.Step.{next, value}
use Rattle.clap.specs.Walk as walk
use Rattle.clap.specs.Simple.{Shape}
use Rattle.clap.specs.Faults.{bundle_fault, check_fault, defaults_fault, flags_fault, long_fault, other_fault, repeat_fault, settle_fault, step_fault, turn_fault, use_fault, walk_fault}
use Rattle.clap.specs.declared.builder.value_parser.Reading.TheVariants.{AsWritten}
use Rattle.clap.specs.declared.parser.matches.ValueSource.TheVariants.{CommandLine}
use Rattle.clap.specs.declared.error.kind.ErrorKind.TheVariants as kind
use Rattle.task_model.specs.Terms.Text.{Text}
use Rattle.command_words.specs.WordReading.{Use}
use Rattle.command_words.proofs.ClapWords.{dashes, has_character}
use Rattle.command_words.proofs.Rules.{IsOurs, IsRuleOf, next_index, rule_with}

-- the command, as it is built
abbrev pub shape_with : Text → List Rule → Shape
shape_with name rules = record {
  name = name;
  aliases = [];
  rules = rules;
  is_plain = true;
  is_leaf = true;
  no_binary_name = true;
  disable_help_flag = true;
  disable_help_subcommand = true;
  disable_version_flag = false;
  propagate_version = false;
  has_version = false;
  has_long_version = false;
  args_override_self = false;
  arg_required_else_help = false;
  subcommand_required = false;
  subcommand_negates_reqs = false;
  is_built = true;
}

-- ---- faults

pub first_is_none : (a b : Kinds) → or_else a b ≡ [] → a ≡ []
first_is_none [] b e = refl
first_is_none (k ∷ ks) b e = cc

pub second_is_none : (a b : Kinds) → or_else a b ≡ [] → b ≡ []
second_is_none [] b e = e
second_is_none (k ∷ ks) b e = cc

pub with_none : (a b : Kinds) → a ≡ [] → or_else a b ≡ b
with_none a b e = ap (λ x. or_else x b) e

pub or_none : (a : Kinds) → or_else a [] ≡ a
or_none [] = refl
or_none (k ∷ ks) = refl

or_false : (b : Bool) → (b || false) ≡ b
or_false true = refl
or_false false = refl

-- ---- one use of a rule with one value

-- the row of a use
abbrev pub row_for : Use → Row
row_for u = record { id = u.0; values = u.1 ∷ []; count = None; source = Some CommandLine; reading = AsWritten }

abbrev pub rows_for : List Use → List Row
rows_for = map row_for

pub one_value : (name : Text) (l : Option Text) (i : Option ℕ) (r : Bool) (v : Text) (rows : List Row)
    → use_fault false (rule_with name l i r) (v ∷ []) rows ≡ repeat_fault false name rows
one_value name l i r v rows = or_none (repeat_fault false name rows)

pub no_value : (name : Text) (l : Option Text) (i : Option ℕ) (r : Bool) (rows : List Row)
    → use_fault false (rule_with name l i r) [] rows ≡ [] → ⊥
no_value name l i r rows e = cc

at_row-fresh : (id : Text) (change : Row → List Row) (missing rows : List Row) → has_row id rows ≡ false
    → at_row id change missing rows ≡ rows ++ missing
at_row-fresh id change missing [] e = refl
at_row-fresh id change missing (r ∷ rs) e = go (bytes_eq r.id id) refl e (λ h. at_row-fresh id change missing rs h)
  where
    go : (b : Bool) → bytes_eq r.id id ≡ b → (b || has_row id rs) ≡ false
        → (has_row id rs ≡ false → at_row id change missing rs ≡ rs ++ missing) → at_row id change missing (r ∷ rs) ≡ r ∷ (rs ++ missing)
    go true t h later = cc
    go false t h later = rw t (ap (λ x. r ∷ x) (later h))

map-append : (us : List Use) (u : Use) → rows_for us ++ row_for u ∷ [] ≡ rows_for (us ++ u ∷ [])
map-append [] u = refl
map-append (x ∷ us) u = ap (λ rs. row_for x ∷ rs) (map-append us u)

pub used-fresh : (name : Text) (l : Option Text) (i : Option ℕ) (r : Bool) (v : Text) (us : List Use) → has_row name (rows_for us) ≡ false
    → used (rule_with name l i r) (v ∷ []) (rows_for us) ≡ rows_for (us ++ (name, v) ∷ [])
used-fresh name l i r v us e =
    let row = row_for (name, v) in
    let gone : walk.without name (rows_for us) ≡ rows_for us = at_row-fresh name (λ _. []) [] (rows_for us) e ∙ append-nil (rows_for us) in
    ap (with_values name AsWritten CommandLine (v ∷ [])) gone
    ∙ at_row-fresh name (walk.more_values CommandLine (v ∷ [])) (row ∷ []) (rows_for us) e ∙ map-append us (name, v)

pub has_row-more : (name : Text) (us : List Use) (u : Use)
    → has_row name (rows_for (us ++ u ∷ [])) ≡ (has_row name (rows_for us) || bytes_eq u.0 name)
has_row-more name [] u = or_false (bytes_eq u.0 name)
has_row-more name (x ∷ us) u = ap (λ b. bytes_eq x.0 name || b) (has_row-more name us u) ∙ assoc (bytes_eq x.0 name)
  where
    assoc : (b : Bool) → (b || (has_row name (rows_for us) || bytes_eq u.0 name)) ≡ ((b || has_row name (rows_for us)) || bytes_eq u.0 name)
    assoc true = refl
    assoc false = refl

-- ---- the walk from one word to the next

-- between two words, with no subcommand met
abbrev pub at : Held → Waiting → ℕ → Bool → Walk
at h waiting i is_trailing = record { held = h; waiting = waiting; position = i; is_trailing = is_trailing; stopped = None }

-- what fails after the words
abbrev pub ends : Shape → Held → Kinds
ends s h = or_else (settle_fault s.rules false h)
    (or_else (defaults_fault (settled s.rules h).rows s.rules) (check_fault s (finished s.rules h) false))

-- what fails from here on
abbrev pub total : Shape → Walk → List Text → Kinds
total s w words = or_else (walk_fault s [] w words) (ends s (fold (walked s.rules []) w words).held)

-- the rows in the end
abbrev pub last : Shape → Walk → List Text → List Row
last s w words = finished s.rules (fold (walked s.rules []) w words).held

pub total-nil : (s : Shape) (w : Walk) → total s w [] ≡ ends s w.held
unfolding walk_fault
total-nil s w = refl

pub total-cons : (s : Shape) (w after : Walk) (word : Text) (rest : List Text) → turn_fault s [] w word ≡ []
    → walked s.rules [] w word ≡ after → total s w (word ∷ rest) ≡ total s after rest
unfolding walk_fault
total-cons s w after word rest passed moved =
    λ i. or_else (or_else (passed i) (walk_fault s [] (moved i) rest)) (ends s (fold (walked s.rules []) (moved i) rest).held)

pub last-cons : (s : Shape) (w after : Walk) (word : Text) (rest : List Text) → walked s.rules [] w word ≡ after
    → last s w (word ∷ rest) ≡ last s after rest
last-cons s w after word rest moved = λ i. finished s.rules (fold (walked s.rules []) (moved i) rest).held

pub turn_fails : (s : Shape) (w : Walk) (word : Text) (rest : List Text) → (turn_fault s [] w word ≡ [] → ⊥) → total s w (word ∷ rest) ≡ []
    → ⊥
unfolding walk_fault
turn_fails s w word rest bad e = bad (first_is_none _ _ (first_is_none _ _ e))

pub end_fails : (s : Shape) (w : Walk) → (settle_fault s.rules false w.held ≡ [] → ⊥) → total s w [] ≡ [] → ⊥
unfolding walk_fault
end_fails s w bad e = bad (first_is_none _ _ e)

-- ---- the turn of a word before `--`

no_subcommand : (waiting : Waiting) (word : Text) → subcommand_met [] waiting word ≡ None
no_subcommand idle word = refl
no_subcommand (option n) word = refl
no_subcommand positional word = refl

-- a settled row takes no more values
not_several : (a : Rule) → IsOurs a → takes_several a ≡ false
not_several a own = ap takes_several own.is

and_false : (b : Bool) → (b && false) ≡ false
and_false true = refl
and_false false = refl

-- ---- a word that fills an argument

-- what is held after the argument got the word
abbrev pub placed : List Rule → Text → Text → Held → Held
placed rules p word h = record { rows = (settled rules h).rows; pending = Some (p, word ∷ []); skip = h.skip }

module _ (name : Text) (rules : List Rule) (h : Held) (i : ℕ) where
  -- no argument is left
  pub stray_fails : arg_by_index rules i ≡ None → step_fault (shape_with name rules) i h value ≡ [] → ⊥
  stray_fails none e =
      let bad : kind.UnknownArgument ∷ [] ≡ [] = rw none at e in
      cc

  argument_fault : (a : Rule) → IsOurs a → arg_by_index rules i ≡ Some a
      → step_fault (shape_with name rules) i h value ≡ settle_fault rules false h
  argument_fault a own found =
      let none : (is_pending a h.pending && takes_several a) ≡ false = rw (not_several a own) (and_false (is_pending a h.pending)) in
      rw found (rw none refl)

  -- the value before it does not pass
  pub argument_fails : (arg_by_index rules i ≡ None) ⊎ ((a : Rule) × (arg_by_index rules i ≡ Some a) × IsOurs a)
      → (settle_fault rules false h ≡ [] → ⊥)
      → step_fault (shape_with name rules) i h value ≡ [] → ⊥
  argument_fails (inl none) bad e = stray_fails none e
  argument_fails (inr found) bad e = bad (sym (argument_fault found.0 found.2 found.1) ∙ e)

  -- the word fills the argument p
  module _ (p : Text) (found : arg_by_index rules i ≡ Some (rule_with p None (Some i) true)) where
    pub argument_passes : settle_fault rules false h ≡ [] → step_fault (shape_with name rules) i h value ≡ []
    argument_passes e = argument_fault (rule_with p None (Some i) true)
        (record { long = None; index = Some i; required = true; is = refl; own = λ l k. (cc) }) found ∙ e

    pub argument_moves : (word : Text) (waiting : Waiting) (is_trailing : Bool)
        → after_step rules word (at h waiting i is_trailing) h value ≡ at (placed rules p word h) idle (next_index i) is_trailing
    argument_moves word waiting is_trailing =
        let none = and_false (is_pending (rule_with p None (Some i) true) h.pending) in
        let same = or_false is_trailing in
        rw (found, none, same) refl

-- ---- the turn of a word before `--`

module _ (name : Text) (rules : List Rule) (h : Held) (waiting : Waiting) (i : ℕ) (word : Text) where
  abbrev s : Shape
  s = shape_with name rules

  abbrev met : Held × Step
  met = subcommand_or_other rules None waiting i word h

  turn_is : turn_fault s [] (at h waiting i false) word ≡ or_else (other_fault s None word h) (step_fault s i met.0 met.1)
  turn_is = ap (λ o. or_else (other_fault s o word h)
      (step_fault s i (subcommand_or_other rules o waiting i word h).0 (subcommand_or_other rules o waiting i word h).1))
      (no_subcommand waiting word)

  moved_is : walked rules [] (at h waiting i false) word ≡ after_step rules word (at h waiting i false) met.0 met.1
  unfolding walked
  moved_is = ap (λ o. after_step rules word (at h waiting i false) (subcommand_or_other rules o waiting i word h).0
      (subcommand_or_other rules o waiting i word h).1) (no_subcommand waiting word)

  -- the word `--`
  pub stop_passes : bytes_eq word dashes ≡ true → turn_fault s [] (at h waiting i false) word ≡ []
  stop_passes e = turn_is ∙ rw e refl

  pub stop_moves : bytes_eq word dashes ≡ true → walked rules [] (at h waiting i false) word ≡ at h waiting i true
  stop_moves e = moved_is ∙ rw e refl

  -- `--NAME` and `--NAME=VALUE`
  module _ (n : Text) (v : Option Text) (differs : bytes_eq word dashes ≡ false) (long : long_of word ≡ Some (n, v)) where
    long_turn : or_else (long_fault rules false (arg_by_long rules n) v h) (step_fault s i met.0 met.1)
        ≡ turn_fault s [] (at h waiting i false) word
    long_turn = sym (turn_is ∙ rw (differs, long) refl)

    pub unknown_fails : arg_by_long rules n ≡ None → turn_fault s [] (at h waiting i false) word ≡ [] → ⊥
    unknown_fails none e =
        let first = first_is_none _ _ (long_turn ∙ e) in
        let bad : kind.UnknownArgument ∷ [] ≡ [] = ap (λ o. long_fault rules false o v h) (sym none) ∙ first in
        cc

    -- the value before it does not pass
    pub known_fails : IsRuleOf n (arg_by_long rules n) → (settle_fault rules false h ≡ [] → ⊥)
        → turn_fault s [] (at h waiting i false) word ≡ [] → ⊥
    known_fails found bad e = go v (ap (λ o. long_fault rules false o v h) (sym found.3) ∙ first_is_none _ _ (long_turn ∙ e))
      where
        go : (o : Option Text) → long_fault rules false (Some (rule_with n found.0 found.1 found.2)) o h ≡ [] → ⊥
        go None k = bad k
        go (Some x) k = bad (first_is_none _ _ k)

  -- any other word that begins with `-` and goes on
  pub refused_fails : IsUtf8 word → bytes_eq word dashes ≡ false → long_of word ≡ None → (x : ℕ) (xs : Text) → word ≡ 45 ∷ x ∷ xs
      → short_of word ≡ Some (x ∷ xs)
      → ((y : ℕ) → arg_by_short rules y ≡ None) → h.skip ≡ 0 → turn_fault s [] (at h waiting i false) word ≡ [] → ⊥
  unfolding flags_fault
  refused_fails u differs long x xs is short none skip e =
      let y = has_character x xs (subst IsUtf8 is u) in
      let turn : turn_fault s [] (at h waiting i false) word
      ≡ or_else (bundle_fault rules false (x ∷ xs) h) (step_fault s i met.0 met.1) = turn_is ∙ rw (differs, long, short) refl in
      let first : bundle_fault rules false (x ∷ xs) h ≡ [] = first_is_none _ _ (sym turn ∙ e) in
      let bad : kind.UnknownArgument ∷ [] ≡ [] = rw (y.1, skip, none y.0) at first in
      cc

  -- a value, where no option waits for one
  pub plain_turn : bytes_eq word dashes ≡ false → long_of word ≡ None → short_of word ≡ None → waiting ≡ idle
      → turn_fault s [] (at h waiting i false) word ≡ step_fault s i h value
  plain_turn differs long short none = turn_is ∙ rw (differs, long, short, none) refl

  pub plain_moves : bytes_eq word dashes ≡ false → long_of word ≡ None → short_of word ≡ None → waiting ≡ idle
      → walked rules [] (at h waiting i false) word ≡ after_step rules word (at h waiting i false) h value
  plain_moves differs long short none = moved_is ∙ rw (differs, long, short, none) refl

  -- a value for the option that waits
  pub waited_turn : bytes_eq word dashes ≡ false → long_of word ≡ None → short_of word ≡ None → (n : Text) → waiting ≡ option n
      → turn_fault s [] (at h waiting i false) word ≡ []
  waited_turn differs long short n waits = turn_is ∙ rw (differs, long, short, waits) refl

  pub waited_moves : bytes_eq word dashes ≡ false → long_of word ≡ None → short_of word ≡ None → (n : Text) → waiting ≡ option n
      → IsRuleOf n (arg_by_id rules n) → h.pending ≡ Some (n, [])
      → walked rules [] (at h waiting i false) word ≡ at (record h { pending = Some (n, word ∷ []) }) idle i false
  waited_moves differs long short n waits found pending =
      let same : bytes_eq n n ≡ true = (bytes_eq-Decides n n).1 refl in
      moved_is ∙ rw (differs, long, short, waits, found.3, pending, same) refl

  -- an option of the command, where what stands before it passes
  module _ (n : Text) (differs : bytes_eq word dashes ≡ false) (found : IsRuleOf n (arg_by_long rules n)) where
    pub named_turn : long_of word ≡ Some (n, None) → settle_fault rules false h ≡ [] → turn_fault s [] (at h waiting i false) word ≡ []
    named_turn long passed = turn_is ∙ rw (differs, long, found.3, passed) refl

    pub named_moves : long_of word ≡ Some (n, None)
        → walked rules [] (at h waiting i false) word ≡ at (record { rows = (settled rules h).rows; pending = Some (n, []); skip = h.skip })
        (option n) i false
    named_moves long = moved_is ∙ rw (differs, long, found.3) refl

    -- with its value, where it was not used before
    pub joined_turn : (v : Text) → long_of word ≡ Some (n, Some v) → settle_fault rules false h ≡ []
        → turn_fault s [] (at h waiting i false) word ≡ repeat_fault false n (settled rules h).rows
    joined_turn v long passed = turn_is ∙ rw (differs, long, found.3, passed)
        (or_none (use_fault false (rule_with n found.0 found.1 found.2) (v ∷ []) (settled rules h).rows)
        ∙ one_value n found.0 found.1 found.2 v (settled rules h).rows)

    pub joined_moves : (v : Text) → long_of word ≡ Some (n, Some v)
        → walked rules [] (at h waiting i false) word
        ≡ at (record { rows = used (rule_with n found.0 found.1 found.2) (v ∷ []) (settled rules h).rows; pending = None; skip = h.skip })
        idle i false
    joined_moves v long = moved_is ∙ rw (differs, long, found.3) refl
