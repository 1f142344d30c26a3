-- What `clap` takes of the words of a command with arguments and options, and what it finds.
use Rattle.std.proofs.Common.{◌≡◌, ◌∙◌, ◌⊎◌, inl, inr, ap, sym, refl, ℕ, Bool, true, false, cond, List, ◌∷◌, ◌++◌, Option, Some, None, true≢false, append_assoc, append-nil, []}
use Rattle.std.specs.Prelude.{◌||◌, not}
use Rattle.std.specs.Str.{IsUtf8, bytes_eq}
use Rattle.std.specs.List.{list_any}
use Rattle.std.proofs.lemmas.Bool.{or_left, or_right}
use Rattle.clap.specs.Lexer.{long_of}
use Rattle.clap.specs.Kinds.{Kinds}
use Rattle.clap.specs.Walk.{Held, Row, Rule, Waiting, arg_by_id, arg_by_index, has_row, settled, used, walked}
use Rattle.clap.specs.Walk.Waiting.{idle, option}
use Rattle.clap.specs.Walk.Step.{value}
use Rattle.clap.specs.Simple.{Shape}
use Rattle.clap.specs.Faults.{check_fault, repeat_fault, settle_fault, step_fault, turn_fault, use_fault}
use Rattle.clap.specs.declared.error.kind.ErrorKind.TheVariants as kind
use Rattle.task_model.specs.Terms.Text.{Text}
use Rattle.command_words.specs.WordReading.{Use, WordKind, filled, has, read_word, with_use, without, kind_of_word}
use Rattle.command_words.specs.ClapReading.{clap_read, clap_value}
use Rattle.command_words.specs.WordReading.WordKind.{joined, named, plain, refused, stop}
use Rattle.command_words.proofs.ClapWords.{Looks, dashes, looks}
use Rattle.command_words.proofs.Rules.{Finds, IsOurs, IsRuleOf, at_index, built_rules, found_or_none, next_index, none_by_long, none_by_short, ours, rule_by_id, rule_by_long, rule_with}
use Rattle.command_words.proofs.Turns.{at, ends, end_fails, has_row-more, known_fails, last, last-cons, no_value, one_value, argument_fails, argument_moves, argument_passes, placed, plain_moves, plain_turn, refused_fails, rows_for, shape_with, stop_moves, stop_passes, stray_fails, total, total-cons, total-nil, turn_fails, unknown_fails, used-fresh, waited_moves, waited_turn, with_none, named_turn, named_moves, joined_turn, joined_moves}
use Rattle.command_words.proofs.Names.{Left, and_taken, has-head, left_as, take_option, take_argument}
use Rattle.command_words.proofs.AfterWords.{finished-is, lacks, missing-is, no_default_fault, none_lacks, some_lacks}

abbrev pub AreTexts : List Text → Type 0
AreTexts [] = Unit {0}
AreTexts (w ∷ ws) = IsUtf8 w × AreTexts ws

-- ---- where nothing more can pass

-- a use that stands in argument of the value that an option waits for, and what it is held with
pub record Settles (rules : List Rule) (h : Held) (us : List Use) : Type 0 where
  pub fault : settle_fault rules false h ≡ []
  pub rows : (settled rules h).rows ≡ rows_for us
  pub skip : h.skip ≡ 0

pub record Waits (rules : List Rule) (name : Text) (h : Held) (us : List Use) : Type 0 where
  pub pending : h.pending ≡ Some (name, [])
  pub rows : h.rows ≡ rows_for us
  pub skip : h.skip ≡ 0

-- nothing passes where the reading fails, and else what it says is found after what was found before
abbrev pub Agrees : Option (List Use) → List Use → Kinds → List Row → Type 0
Agrees None us kinds rows = kinds ≡ [] → ⊥
Agrees (Some vs) us kinds rows = (kinds ≡ []) × (rows ≡ rows_for (us ++ vs))

agrees-use : (o : Option (List Use)) (us : List Use) (n v : Text) (kinds : Kinds) (rows : List Row)
    → Agrees o (us ++ (n, v) ∷ []) kinds rows → Agrees (with_use n v o) us kinds rows
agrees-use None us n v kinds rows h = h
agrees-use (Some vs) us n v kinds rows h = (h.0, h.1 ∙ ap rows_for (append_assoc us ((n, v) ∷ []) vs))

pub agrees-as : (o : Option (List Use)) (us : List Use) (kinds other : Kinds) (rows others : List Row) → kinds ≡ other → rows ≡ others
    → Agrees o us other others → Agrees o us kinds rows
agrees-as None us kinds other rows others k r h = λ e. h (sym k ∙ e)
agrees-as (Some vs) us kinds other rows others k r h = (k ∙ h.0, r ∙ h.1)

-- what the reading waits for
abbrev pub waiting_for : Option Text → Waiting
waiting_for None = idle
waiting_for (Some n) = option n

abbrev pub taken_by : Option Text → List Use → Text → Bool
taken_by None us n = has_row n (rows_for us)
taken_by (Some name) us n = has_row n (rows_for us) || bytes_eq name n

-- the word is no value
abbrev pub is_flag : WordKind → Bool
is_flag plain = false
is_flag _ = true

module _ (name : Text) (arguments options : List Text) where
  abbrev rules : List Rule
  rules = built_rules 1 arguments options

  abbrev s : Shape
  s = shape_with name rules

  argument_found : (i : ℕ) → (arg_by_index rules i ≡ None) ⊎ ((a : Rule) × (arg_by_index rules i ≡ Some a) × IsOurs a)
  argument_found i = go (found_or_none (at_index i) rules (ours 1 arguments options))
    where
      go : (arg_by_index rules i ≡ None) ⊎ Finds (at_index i) (arg_by_index rules i)
          → (arg_by_index rules i ≡ None) ⊎ ((a : Rule) × (arg_by_index rules i ≡ Some a) × IsOurs a)
      go (inl none) = inl none
      go (inr found) = inr (found.rule, found.is, found.ours)

  trailing_turn : (h : Held) (waiting : Waiting) (i : ℕ) (word : Text) → turn_fault s [] (at h waiting i true) word ≡ step_fault s i h value
  trailing_turn h waiting i word = refl

  trailing_fails : (words : List Text) (h : Held) (waiting : Waiting) (i : ℕ) → (settle_fault rules false h ≡ [] → ⊥)
      → total s (at h waiting i true) words ≡ [] → ⊥
  trailing_fails [] h waiting i bad = end_fails s (at h waiting i true) bad
  trailing_fails (w ∷ ws) h waiting i bad =
      turn_fails s (at h waiting i true) w ws (λ e. argument_fails name rules h i (argument_found i) bad (sym (trailing_turn h waiting i w) ∙ e))

  long_fails : (w : Text) (ws : List Text) (n : Text) (v : Option Text) (h : Held) (waiting : Waiting) (i : ℕ) → bytes_eq w dashes ≡ false
      → long_of w ≡ Some (n, v)
      → (settle_fault rules false h ≡ [] → ⊥) → total s (at h waiting i false) (w ∷ ws) ≡ [] → ⊥
  long_fails w ws n v h waiting i differs long bad = turn_fails s (at h waiting i false) w ws (go (has n options) refl)
    where
      go : (b : Bool) → has n options ≡ b → turn_fault s [] (at h waiting i false) w ≡ [] → ⊥
      go true e = known_fails name rules h waiting i w n v differs long (rule_by_long 1 arguments options n e) bad
      go false e = unknown_fails name rules h waiting i w n v differs long (none_by_long 1 arguments options n e)

  -- an option's value is missing or is a second one, and the word is no value
  pub flag_fails : (w : Text) (ws : List Text) (k : WordKind) (h : Held) (waiting : Waiting) (i : ℕ) → IsUtf8 w → Looks k w
      → is_flag k ≡ true → h.skip ≡ 0 → (settle_fault rules false h ≡ [] → ⊥)
      → total s (at h waiting i false) (w ∷ ws) ≡ [] → ⊥
  flag_fails w ws stop h waiting i u look flag skip bad e =
      trailing_fails ws h waiting i bad
      (sym (total-cons s (at h waiting i false) (at h waiting i true) w ws (stop_passes name rules h waiting i w look)
      (stop_moves name rules h waiting i w look)) ∙ e)
  flag_fails w ws (named n) h waiting i u look flag skip bad e = long_fails w ws n None h waiting i look.0 look.1 bad e
  flag_fails w ws (joined n v) h waiting i u look flag skip bad e = long_fails w ws n (Some v) h waiting i look.0 look.1 bad e
  flag_fails w ws refused h waiting i u look flag skip bad e =
      turn_fails s (at h waiting i false) w ws
      (refused_fails name rules h waiting i w u look.0 look.1 look.2.0 look.2.1 look.2.2 look.2.3 (none_by_short 1 arguments options) skip) e
  flag_fails w ws plain h waiting i u look flag skip bad e = absurd (true≢false (sym flag))

  -- a second use stands before the words, where no option waits
  repeat_fails : (words : List Text) (h : Held) (i : ℕ) → AreTexts words → h.skip ≡ 0 → (settle_fault rules false h ≡ [] → ⊥)
      → total s (at h idle i false) words ≡ [] → ⊥
  repeat_fails [] h i texts skip bad e = end_fails s (at h idle i false) bad e
  repeat_fails (w ∷ ws) h i texts skip bad e = go (kind_of_word w) (looks w) (is_flag (kind_of_word w)) refl
    where
      go : (k : WordKind) → Looks k w → (b : Bool) → is_flag k ≡ b → ⊥
      go k look true flag = flag_fails w ws k h idle i texts.0 look flag skip bad e
      go plain look false flag =
          turn_fails s (at h idle i false) w ws
          (λ t. argument_fails name rules h i (argument_found i) bad (sym (plain_turn name rules h idle i w look.0 look.1 look.2 refl) ∙ t)) e
      go stop look false flag = absurd (true≢false flag)
      go (named n) look false flag = absurd (true≢false flag)
      go (joined n v) look false flag = absurd (true≢false flag)
      go refused look false flag = absurd (true≢false flag)

  -- what settling what is pending asks
  pending_fault : (h : Held) (n : Text) (vs : List Text) (found : IsRuleOf n (arg_by_id rules n)) → h.pending ≡ Some (n, vs)
      → settle_fault rules false h ≡ use_fault false (rule_with n found.0 found.1 found.2) vs h.rows
  pending_fault h n vs found pending = rw (pending, found.3) refl

  known : (n : Text) → has n options ≡ true → IsRuleOf n (arg_by_id rules n)
  known n opt = rule_by_id 1 arguments options n (or_right (has n arguments) (has n options) opt)

  no_value_yet : (h : Held) (n : Text) → has n options ≡ true → h.pending ≡ Some (n, []) → settle_fault rules false h ≡ [] → ⊥
  no_value_yet h n opt pending e =
      let found = known n opt in
      no_value n found.0 found.1 found.2 h.rows (sym (pending_fault h n [] found pending) ∙ e)

  is_repeat : (n : Text) (rows : List Row) → has_row n rows ≡ true → repeat_fault false n rows ≡ [] → ⊥
  is_repeat n rows has e =
      let bad : kind.ArgumentConflict ∷ [] ≡ [] = rw has at e in
      cc

  -- an option that was used waits for a value
  used_fails : (words : List Text) (h : Held) (i : ℕ) (n : Text) → AreTexts words → has n options ≡ true → h.pending ≡ Some (n, [])
      → has_row n h.rows ≡ true → h.skip ≡ 0
      → total s (at h (option n) i false) words ≡ [] → ⊥
  used_fails [] h i n texts opt pending used skip e = end_fails s (at h (option n) i false) (no_value_yet h n opt pending) e
  used_fails (w ∷ ws) h i n texts opt pending used skip e = go (kind_of_word w) (looks w) (is_flag (kind_of_word w)) refl
    where
      after : Held
      after = record h { pending = Some (n, w ∷ []) }

      twice : settle_fault rules false after ≡ [] → ⊥
      twice k =
          let found = known n opt in
          is_repeat n h.rows used (sym (one_value n found.0 found.1 found.2 w h.rows) ∙ sym (pending_fault after n (w ∷ []) found refl) ∙ k)

      go : (k : WordKind) → Looks k w → (b : Bool) → is_flag k ≡ b → ⊥
      go k look true flag = flag_fails w ws k h (option n) i texts.0 look flag skip (no_value_yet h n opt pending) e
      go plain look false flag =
          repeat_fails ws after i texts.1 skip twice
          (sym (total-cons s (at h (option n) i false) (at after idle i false) w ws
          (waited_turn name rules h (option n) i w look.0 look.1 look.2 n refl)
          (waited_moves name rules h (option n) i w look.0 look.1 look.2 n refl (known n opt) pending)) ∙ e)
      go stop look false flag = absurd (true≢false flag)
      go (named m) look false flag = absurd (true≢false flag)
      go (joined m v) look false flag = absurd (true≢false flag)
      go refused look false flag = absurd (true≢false flag)

  -- ---- the end of the words

  ends_is : (h : Held) (us : List Use) → Settles rules h us → ends s h ≡ check_fault s (rows_for us) false
  ends_is h us st =
      with_none _ _ st.fault ∙ with_none _ _ (no_default_fault (settled rules h).rows rules (ours 1 arguments options))
      ∙ ap (λ rows. check_fault s rows false) (finished-is (settled rules h).rows rules (ours 1 arguments options) ∙ st.rows)

  check_is : (us : List Use) (b : Bool) → list_any (lacks us) arguments ≡ b
      → check_fault s (rows_for us) false ≡ cond b (kind.MissingRequiredArgument ∷ []) []
  check_is us b e = ap (λ (x : Bool). cond x (kind.MissingRequiredArgument ∷ []) []) (missing-is 1 us arguments options ∙ e)

  pub ended : (ps os : List Text) (us : List Use) (h : Held) (i : ℕ) (waiting : Waiting) (t : Bool) → Settles rules h us
      → Left arguments options rules ps os i (taken_by None us)
      → Agrees (filled ps []) us (total s (at h waiting i t) []) (last s (at h waiting i t) [])
  ended [] os us h i waiting t st left =
      let all = none_lacks us arguments (λ n e. left.arguments_left n e) in (
        total-nil s (at h waiting i t) ∙ ends_is h us st ∙ check_is us false all,
        finished-is (settled rules h).rows rules (ours 1 arguments options) ∙ st.rows ∙ ap rows_for (sym (append-nil us)),
      )
  ended (p ∷ ps) os us h i waiting t st left = λ e.
      let known = left.of_arguments p (has-head p ps) in
      let fresh : has_row p (rows_for us) ≡ false = left.arguments_left p known ∙ ap not (has-head p ps) in
      let bad : kind.MissingRequiredArgument ∷ []
      ≡ [] = sym (total-nil s (at h waiting i t) ∙ ends_is h us st ∙ check_is us true (some_lacks us p arguments known fresh)) ∙ e in
      cc

  -- ---- one more use

  settles_pending : (h : Held) (n v : Text) (us : List Use) → IsRuleOf n (arg_by_id rules n) → h.pending ≡ Some (n, v ∷ [])
      → h.rows ≡ rows_for us
      → has_row n (rows_for us) ≡ false → h.skip ≡ 0 → Settles rules h (us ++ (n, v) ∷ [])
  settles_pending h n v us found pending rows fresh skip =
      let gone : has_row n h.rows ≡ false = ap (has_row n) rows ∙ fresh in
      record {
        fault = pending_fault h n (v ∷ []) found pending ∙ one_value n found.0 found.1 found.2 v h.rows ∙ rw gone refl;
        rows = rw (pending, found.3)
            (ap (used (rule_with n found.0 found.1 found.2) (v ∷ [])) rows ∙ used-fresh n found.0 found.1 found.2 v us fresh);
        skip = skip;
      }

  argument_known : (n : Text) → has n arguments ≡ true → IsRuleOf n (arg_by_id rules n)
  argument_known n pl = rule_by_id 1 arguments options n (or_left (has n arguments) (has n options) pl)

  -- the word fills the argument
  module _ (p : Text) (ps os : List Text) (us : List Use) (h : Held) (i : ℕ) (w : Text) (st : Settles rules h us)
      (left : Left arguments options rules (p ∷ ps) os i (taken_by None us)) where
    fresh_argument : has_row p (rows_for us) ≡ false
    fresh_argument = left.arguments_left p (left.of_arguments p (has-head p ps)) ∙ ap not (has-head p ps)

    pub argument_settles : Settles rules (placed rules p w h) (us ++ (p, w) ∷ [])
    argument_settles = settles_pending (placed rules p w h) p w us
        (argument_known p (left.of_arguments p (has-head p ps))) refl st.rows fresh_argument st.skip

    pub argument_left : ((n : Text) → has n arguments ≡ true → has n options ≡ false)
        → Left arguments options rules ps os (next_index i) (taken_by None (us ++ (p, w) ∷ []))
    argument_left apart =
        left_as arguments options rules ps os (next_index i) (and_taken (taken_by None us) p) (taken_by None (us ++ (p, w) ∷ []))
        (λ n. has_row-more n us (p, w))
        (take_argument arguments options rules apart p ps os i (taken_by None us) left)

  -- after `--` each word fills an argument
  pub fills : (words : List Text) (ps os : List Text) (us : List Use) (h : Held) (i : ℕ) (waiting : Waiting)
      → ((n : Text) → has n arguments ≡ true → has n options ≡ false)
      → Settles rules h us → Left arguments options rules ps os i (taken_by None us)
      → Agrees (filled ps words) us (total s (at h waiting i true) words) (last s (at h waiting i true) words)
  unfolding walked
  fills [] ps os us h i waiting apart st left = ended ps os us h i waiting true st left
  fills (w ∷ ws) [] os us h i waiting apart st left = turn_fails s (at h waiting i true) w ws (stray_fails name rules h i left.at)
  fills (w ∷ ws) (p ∷ ps) os us h i waiting apart st left =
      let after = at (placed rules p w h) idle (next_index i) true in
      let moved : walked rules [] (at h waiting i true) w ≡ after = argument_moves name rules h i p left.at.0 w waiting true in
      let later = fills ws ps os (us ++ (p, w) ∷ []) (placed rules p w h) (next_index i) idle apart (argument_settles p ps os us h i w st left)
      (argument_left p ps os us h i w st left apart) in
      agrees-as (with_use p w (filled ps ws)) us _ _ _ _
      (total-cons s (at h waiting i true) after w ws (argument_passes name rules h i p left.at.0 st.fault) moved)
      (last-cons s (at h waiting i true) after w ws moved)
      (agrees-use (filled ps ws) us p w _ _ later)

  -- ---- all words

  -- where the walk stands, by the option that waits
  abbrev pub Stands : Option Text → Held → List Use → Type 0
  Stands None h us = Settles rules h us
  Stands (Some n) h us = Waits rules n h us × (has n options ≡ true) × (has_row n (rows_for us) ≡ false)

  abbrev pub Follows : List Text → Type 0
  Follows ws = (ps os : List Text) (waits : Option Text) (us : List Use) (h : Held) (i : ℕ) → Stands waits h us
      → Left arguments options rules ps os i (taken_by waits us)
      → Agrees (clap_read ws ps os waits) us (total s (at h (waiting_for waits) i false) ws) (last s (at h (waiting_for waits) i false) ws)

  module _ (apart : (n : Text) → has n arguments ≡ true → has n options ≡ false) (w : Text) (ws : List Text) (texts : AreTexts (w ∷ ws))
      (follows : Follows ws) where
    -- the word has an option's name
    module _ (ps os : List Text) (us : List Use) (h : Held) (i : ℕ) (st : Settles rules h us)
        (left : Left arguments options rules ps os i (taken_by None us)) (n : Text)
        (differs : bytes_eq w dashes ≡ false) where
      fresh_option : has n os ≡ true → has_row n (rows_for us) ≡ false
      fresh_option e = left.options_left n (left.of_options n e) ∙ ap not e

      used_option : has n os ≡ false → has n options ≡ true → has_row n (rows_for us) ≡ true
      used_option e opt = left.options_left n opt ∙ ap not e

      abbrev names_held : Held
      names_held = record { rows = (settled rules h).rows; pending = Some (n, []); skip = h.skip }

      names : long_of w ≡ Some (n, None) → (b : Bool) → has n os ≡ b
          → Agrees (cond b (clap_read ws ps (without n os) (Some n)) None) us (total s (at h idle i false) (w ∷ ws))
          (last s (at h idle i false) (w ∷ ws))
      names long true e =
          let opt = left.of_options n e in
          let found = rule_by_long 1 arguments options n opt in
          let after = at names_held (option n) i false in
          let moved = named_moves name rules h idle i w n differs found long in
          agrees-as (clap_read ws ps (without n os) (Some n)) us _ _ _ _
          (total-cons s (at h idle i false) after w ws (named_turn name rules h idle i w n differs found long st.fault) moved)
          (last-cons s (at h idle i false) after w ws moved)
          (follows ps (without n os) (Some n) us names_held i
          (record { pending = refl; rows = st.rows; skip = st.skip }, opt, fresh_option e)
          (take_option arguments options rules apart ps os i (taken_by None us) n left e))
      names long false e = λ t. go (has n options) refl t
        where
          go : (b : Bool) → has n options ≡ b → total s (at h idle i false) (w ∷ ws) ≡ [] → ⊥
          go true opt t =
              let found = rule_by_long 1 arguments options n opt in
              let used : has_row n (settled rules h).rows ≡ true = ap (has_row n) st.rows ∙ used_option e opt in
              used_fails ws names_held i n texts.1 opt refl used st.skip
              (sym (total-cons s (at h idle i false) (at names_held (option n) i false) w ws
              (named_turn name rules h idle i w n differs found long st.fault)
              (named_moves name rules h idle i w n differs found long)) ∙ t)
          go false none t = turn_fails s (at h idle i false) w ws
              (unknown_fails name rules h idle i w n None differs long (none_by_long 1 arguments options n none)) t

      joins : (v : Text) → long_of w ≡ Some (n, Some v) → (b : Bool) → has n os ≡ b
          → Agrees (cond b (with_use n v (clap_read ws ps (without n os) None)) None) us (total s (at h idle i false) (w ∷ ws))
          (last s (at h idle i false) (w ∷ ws))
      joins v long true e =
          let opt = left.of_options n e in
          let found = rule_by_long 1 arguments options n opt in
          let rule = rule_with n found.0 found.1 found.2 in
          let held : Held = record { rows = used rule (v ∷ []) (settled rules h).rows; pending = None; skip = h.skip } in
          let after = at held idle i false in
          let moved = joined_moves name rules h idle i w n differs found v long in
          let gone : has_row n (settled rules h).rows ≡ false = ap (has_row n) st.rows ∙ fresh_option e in
          let passed : turn_fault s [] (at h idle i false) w ≡ [] = joined_turn name rules h idle i w n differs found v long st.fault
          ∙ rw gone refl in
          let settles : Settles rules held (us ++ (n, v) ∷ []) = record {
            fault = refl;
            rows = ap (used rule (v ∷ [])) st.rows ∙ used-fresh n found.0 found.1 found.2 v us (fresh_option e);
            skip = st.skip;
          } in
          let rest = left_as arguments options rules ps (without n os) i (and_taken (taken_by None us) n) (taken_by None (us ++ (n, v) ∷ []))
          (λ m. has_row-more m us (n, v))
          (take_option arguments options rules apart ps os i (taken_by None us) n left e) in
          agrees-as (with_use n v (clap_read ws ps (without n os) None)) us _ _ _ _
          (total-cons s (at h idle i false) after w ws passed moved)
          (last-cons s (at h idle i false) after w ws moved)
          (agrees-use (clap_read ws ps (without n os) None) us n v _ _
          (follows ps (without n os) None (us ++ (n, v) ∷ []) held i settles rest))
      joins v long false e = λ t. turn_fails s (at h idle i false) w ws (go (has n options) refl) t
        where
          go : (b : Bool) → has n options ≡ b → turn_fault s [] (at h idle i false) w ≡ [] → ⊥
          go true opt k =
              let found = rule_by_long 1 arguments options n opt in
              let used : has_row n (settled rules h).rows ≡ true = ap (has_row n) st.rows ∙ used_option e opt in
              is_repeat n (settled rules h).rows used (sym (joined_turn name rules h idle i w n differs found v long st.fault) ∙ k)
          go false none k = unknown_fails name rules h idle i w n (Some v) differs long (none_by_long 1 arguments options n none) k

    -- the word fills the next argument
    plainly : (ps os : List Text) (us : List Use) (h : Held) (i : ℕ) → Looks plain w → Settles rules h us
        → Left arguments options rules ps os i (taken_by None us)
        → Agrees (read_word ps os plain w ws (clap_read ws)) us (total s (at h idle i false) (w ∷ ws)) (last s (at h idle i false) (w ∷ ws))
    plainly [] os us h i look st left =
        turn_fails s (at h idle i false) w ws
        (λ t. stray_fails name rules h i left.at (sym (plain_turn name rules h idle i w look.0 look.1 look.2 refl) ∙ t))
    plainly (p ∷ ps) os us h i look st left =
        let after = at (placed rules p w h) idle (next_index i) false in
        let moved : walked rules [] (at h idle i false) w ≡ after = plain_moves name rules h idle i w look.0 look.1 look.2 refl
        ∙ argument_moves name rules h i p left.at.0 w idle false in
        let passed = plain_turn name rules h idle i w look.0 look.1 look.2 refl ∙ argument_passes name rules h i p left.at.0 st.fault in
        agrees-as (with_use p w (clap_read ws ps os None)) us _ _ _ _
        (total-cons s (at h idle i false) after w ws passed moved)
        (last-cons s (at h idle i false) after w ws moved)
        (agrees-use (clap_read ws ps os None) us p w _ _
        (follows ps os None (us ++ (p, w) ∷ []) (placed rules p w h) (next_index i) (argument_settles p ps os us h i w st left)
        (argument_left p ps os us h i w st left apart)))

    -- a word where no option waits
    reads_word : (ps os : List Text) (us : List Use) (h : Held) (i : ℕ) (k : WordKind) → Looks k w → Settles rules h us
        → Left arguments options rules ps os i (taken_by None us)
        → Agrees (read_word ps os k w ws (clap_read ws)) us (total s (at h idle i false) (w ∷ ws)) (last s (at h idle i false) (w ∷ ws))
    reads_word ps os us h i stop look st left =
        let moved = stop_moves name rules h idle i w look in
        agrees-as (filled ps ws) us _ _ _ _
        (total-cons s (at h idle i false) (at h idle i true) w ws (stop_passes name rules h idle i w look) moved)
        (last-cons s (at h idle i false) (at h idle i true) w ws moved)
        (fills ws ps os us h i idle apart st left)
    reads_word ps os us h i (named n) look st left = names ps os us h i st left n look.0 look.1 (has n os) refl
    reads_word ps os us h i (joined n v) look st left = joins ps os us h i st left n look.0 v look.1 (has n os) refl
    reads_word ps os us h i refused look st left =
        turn_fails s (at h idle i false) w ws
        (refused_fails name rules h idle i w texts.0 look.0 look.1 look.2.0 look.2.1 look.2.2 look.2.3
        (none_by_short 1 arguments options) st.skip)
    reads_word ps os us h i plain look st left = plainly ps os us h i look st left

    -- a word where an option waits
    reads_value : (ps os : List Text) (us : List Use) (h : Held) (i : ℕ) (n : Text) (k : WordKind) → Looks k w → Stands (Some n) h us
        → Left arguments options rules ps os i (taken_by (Some n) us)
        → Agrees (clap_value k n w (clap_read ws ps os None)) us (total s (at h (option n) i false) (w ∷ ws))
        (last s (at h (option n) i false) (w ∷ ws))
    reads_value ps os us h i n plain look st left =
        let found = known n st.1 in
        let held : Held = record h { pending = Some (n, w ∷ []) } in
        let after = at held idle i false in
        let moved = waited_moves name rules h (option n) i w look.0 look.1 look.2 n refl found st.0.pending in
        let settles = settles_pending held n w us found refl st.0.rows st.2 st.0.skip in
        let rest = left_as arguments options rules ps os i (taken_by (Some n) us) (taken_by None (us ++ (n, w) ∷ []))
        (λ m. has_row-more m us (n, w)) left in
        agrees-as (with_use n w (clap_read ws ps os None)) us _ _ _ _
        (total-cons s (at h (option n) i false) after w ws (waited_turn name rules h (option n) i w look.0 look.1 look.2 n refl) moved)
        (last-cons s (at h (option n) i false) after w ws moved)
        (agrees-use (clap_read ws ps os None) us n w _ _ (follows ps os None (us ++ (n, w) ∷ []) held i settles rest))
    reads_value ps os us h i n stop look st left = flag_fails w ws stop h (option n) i texts.0 look refl st.0.skip
        (no_value_yet h n st.1 st.0.pending)
    reads_value ps os us h i n (named m) look st left = flag_fails w ws (named m) h (option n) i texts.0 look refl st.0.skip
        (no_value_yet h n st.1 st.0.pending)
    reads_value ps os us h i n (joined m v) look st left = flag_fails w ws (joined m v) h (option n) i texts.0 look refl st.0.skip
        (no_value_yet h n st.1 st.0.pending)
    reads_value ps os us h i n refused look st left = flag_fails w ws refused h (option n) i texts.0 look refl st.0.skip
        (no_value_yet h n st.1 st.0.pending)

  pub reads : ((n : Text) → has n arguments ≡ true → has n options ≡ false) → (words : List Text) → AreTexts words → Follows words
  reads apart [] texts [] os None us h i st left = ended [] os us h i idle false st left
  reads apart [] texts (p ∷ ps) os None us h i st left = ended (p ∷ ps) os us h i idle false st left
  reads apart [] texts [] os (Some n) us h i st left = end_fails s (at h (option n) i false) (no_value_yet h n st.1 st.0.pending)
  reads apart [] texts (p ∷ ps) os (Some n) us h i st left = end_fails s (at h (option n) i false) (no_value_yet h n st.1 st.0.pending)
  reads apart (w ∷ ws) texts ps os None us h i st left = reads_word apart w ws texts (reads apart ws texts.1) ps os us h i (kind_of_word w)
      (looks w) st left
  reads apart (w ∷ ws) texts ps os (Some n) us h i st left = reads_value apart w ws texts (reads apart ws texts.1) ps os us h i n
      (kind_of_word w) (looks w) st left
