-- The rules that `clap` reads of a command with arguments and options, and the look-ups in them.
use Rattle.std.proofs.Common.{◌≡◌, ◌∙◌, ◌⊎◌, inl, inr, ap, ap₂, sym, subst, refl, ℕ, Bool, true, false, cond, List, ◌∷◌, ◌++◌, map, Option, Some, None, arith, true≢false, append_assoc, length, ◌≤◌, ◌<◌, []}
use Rattle.std.specs.Prelude.{◌==◌, ◌+◌, ◌&&◌, ◌||◌, not, find, min, is_some}
use Rattle.std.specs.Str.{bytes_eq}
use Rattle.std.specs.List.{list_any}
use Rattle.std.specs.Option.{option_map_or}
use Rattle.std.proofs.lemmas.Bool.{eq-eqb, ne_eqb, or_parts}
use Rattle.std.proofs.lemmas.Slice.Eq.{bytes_eq-Decides}
use Rattle.clap.specs.Lexer.{usize_max}
use Rattle.clap.specs.Walk.{Rule, arg_by_id, arg_by_index, arg_by_long, arg_by_short, has_long, has_short}
use Rattle.clap.specs.Simple.{filled_from}
use Rattle.clap.specs.declared.builder.action.ArgAction.TheVariants.{Set}
use Rattle.clap.specs.declared.builder.value_parser.ValueParser.TheVariants as vp
use Rattle.command_words.specs.CommandTables.{option_rule, rules_for}
use Rattle.task_model.specs.Terms.Text.{Text}
use Rattle.command_words.specs.WordReading.{has}

-- a rule that takes one value
abbrev pub rule_with : Text → Option Text → Option ℕ → Bool → Rule
rule_with id long index required = record {
  id = id;
  long = long;
  aliases = [];
  short = None;
  short_aliases = [];
  index = index;
  action = Some Set;
  range = Some (record { start_inclusive = 1; end_inclusive = 1 });
  value_names = 0;
  defaults = [];
  missing = [];
  trailing_var_arg = false;
  parser = Some vp.String;
  ignore_case = false;
  required = required;
  is_simple = true;
  is_free = true;
}

-- as they are when the command is built
abbrev pub next_index : ℕ → ℕ
next_index i = min (i + 1) usize_max

abbrev pub built_options : List Text → List Rule
built_options = map (λ o. rule_with o (Some o) None false)

abbrev pub built_rules : ℕ → List Text → List Text → List Rule
built_rules i [] options = built_options options
built_rules i (p ∷ ps) options = rule_with p None (Some i) true ∷ built_rules (next_index i) ps options

filled-options : (i : ℕ) (options : List Text) → filled_from i (map option_rule options) ≡ built_options options
filled-options i [] = refl
filled-options i (o ∷ os) = ap (λ rs. rule_with o (Some o) None false ∷ rs) (filled-options i os)

pub filled-rules : (i : ℕ) (arguments options : List Text) → filled_from i (rules_for arguments options) ≡ built_rules i arguments options
filled-rules i [] options = filled-options i options
filled-rules i (p ∷ ps) options = ap (λ rs. rule_with p None (Some i) true ∷ rs) (filled-rules (next_index i) ps options)

-- ---- each is a rule of that form

pub record IsOurs (a : Rule) : Type 0 where
  pub long : Option Text
  pub index : Option ℕ
  pub required : Bool
  pub is : a ≡ rule_with a.id long index required
  pub own : (l : Text) → long ≡ Some l → l ≡ a.id

abbrev pub AreOurs : List Rule → Type 0
AreOurs [] = Unit {0}
AreOurs (a ∷ rest) = IsOurs a × AreOurs rest

ours_options : (options : List Text) → AreOurs (built_options options)
ours_options [] = tt
ours_options (o ∷ os) = (record { long = Some o; index = None; required = false; is = refl; own = λ l e. (cc) }, ours_options os)

pub ours : (i : ℕ) (arguments options : List Text) → AreOurs (built_rules i arguments options)
ours i [] options = ours_options options
ours i (p ∷ ps) options =
    (record { long = None; index = Some i; required = true; is = refl; own = λ l e. (cc) }, ours (next_index i) ps options)

-- what a look-up finds passes its test
pub record Finds (test : Rule → Bool) (found : Option Rule) : Type 0 where
  pub rule : Rule
  pub is : found ≡ Some rule
  pub passes : test rule ≡ true
  pub ours : IsOurs rule

pub found_or_none : (test : Rule → Bool) (rules : List Rule) → AreOurs rules → (find test rules ≡ None) ⊎ Finds test (find test rules)
found_or_none test [] h = inl refl
found_or_none test (a ∷ rest) h = go (test a) refl (found_or_none test rest h.1)
  where
    go : (b : Bool) → test a ≡ b → (find test rest ≡ None) ⊎ Finds test (find test rest)
        → (find test (a ∷ rest) ≡ None) ⊎ Finds test (find test (a ∷ rest))
    go true e later = inr (record { rule = a; is = ap (λ b. cond b (Some a) (find test rest)) e; passes = e; ours = h.0 })
    go false e later = rw e later

-- a look-up finds where one passes, and finds nothing where none does
pub found_where : (test : Rule → Bool) (rules : List Rule) → AreOurs rules → list_any test rules ≡ true → Finds test (find test rules)
found_where test [] h e = absurd (true≢false (sym e))
found_where test (a ∷ rest) h e = go (test a) refl (λ later. found_where test rest h.1 later) e
  where
    go : (b : Bool) → test a ≡ b → (list_any test rest ≡ true → Finds test (find test rest)) → (b || list_any test rest) ≡ true
        → Finds test (find test (a ∷ rest))
    go true t later e = record { rule = a; is = ap (λ b. cond b (Some a) (find test rest)) t; passes = t; ours = h.0 }
    go false t later e = rw t (later e)

pub none_where : (test : Rule → Bool) (rules : List Rule) → list_any test rules ≡ false → find test rules ≡ None
none_where test [] e = refl
none_where test (a ∷ rest) e =
    let parts = or_parts (test a) (list_any test rest) e in
    rw parts.0 (none_where test rest parts.1)

-- ---- by name

-- the tests of the look-ups
abbrev pub named_id : Text → Rule → Bool
named_id name a = bytes_eq a.id name

abbrev pub named_long : Text → Rule → Bool
named_long name a = not (is_some a.index) && has_long a name

abbrev pub named_short : ℕ → Rule → Bool
named_short x a = not (is_some a.index) && has_short a x

any_option_id : (options : List Text) (name : Text) → list_any (named_id name) (built_options options) ≡ has name options
any_option_id [] name = refl
any_option_id (o ∷ os) name = ap (λ b. bytes_eq o name || b) (any_option_id os name)

pub any_id : (i : ℕ) (arguments options : List Text) (name : Text)
    → list_any (named_id name) (built_rules i arguments options) ≡ (has name arguments || has name options)
any_id i [] options name = any_option_id options name
any_id i (p ∷ ps) options name =
    ap (λ b. bytes_eq p name || b) (any_id (next_index i) ps options name) ∙ assoc (bytes_eq p name)
  where
    assoc : (b : Bool) → (b || (has name ps || has name options)) ≡ ((b || has name ps) || has name options)
    assoc true = refl
    assoc false = refl

any_option_long : (options : List Text) (name : Text) → list_any (named_long name) (built_options options) ≡ has name options
any_option_long [] name = refl
any_option_long (o ∷ os) name = ap₂ (λ a b. a || b) (no_alias (bytes_eq o name)) (any_option_long os name)
  where
    no_alias : (b : Bool) → (b || false) ≡ b
    no_alias true = refl
    no_alias false = refl

pub any_long : (i : ℕ) (arguments options : List Text) (name : Text)
    → list_any (named_long name) (built_rules i arguments options) ≡ has name options
any_long i [] options name = any_option_long options name
any_long i (p ∷ ps) options name = any_long (next_index i) ps options name

no_option_short : (options : List Text) (x : ℕ) → list_any (named_short x) (built_options options) ≡ false
no_option_short [] x = refl
no_option_short (o ∷ os) x = no_option_short os x

pub any_short : (i : ℕ) (arguments options : List Text) (x : ℕ) → list_any (named_short x) (built_rules i arguments options) ≡ false
any_short i [] options x = no_option_short options x
any_short i (p ∷ ps) options x = any_short (next_index i) ps options x

-- the rule of this id that was found
abbrev pub IsRuleOf : Text → Option Rule → Type 0
IsRuleOf name found = (l : Option Text) × (i : Option ℕ) × (r : Bool) × (found ≡ Some (rule_with name l i r))

rule_of_id : (name : Text) (found : Option Rule) (a : Rule) → found ≡ Some a → IsOurs a → a.id ≡ name → IsRuleOf name found
rule_of_id name found a is own same =
    (own.long, own.index, own.required, is ∙ ap Some (own.is ∙ ap (λ t. rule_with t own.long own.index own.required) same))

pub rule_by_id : (i : ℕ) (arguments options : List Text) (name : Text) → (has name arguments || has name options) ≡ true
    → IsRuleOf name (arg_by_id (built_rules i arguments options) name)
rule_by_id i arguments options name e =
    let f = found_where (named_id name) (built_rules i arguments options) (ours i arguments options) (any_id i arguments options name ∙ e) in
    rule_of_id name _ f.rule f.is f.ours ((bytes_eq-Decides f.rule.id name).0 f.passes)

long_is_id : (name : Text) (a : Rule) → IsOurs a → named_long name a ≡ true → a.id ≡ name
long_is_id name a own e = go own.long refl (subst (λ b. named_long name b ≡ true) own.is e)
  where
    or_false : (b : Bool) → (b || false) ≡ true → b ≡ true
    or_false true h = refl
    or_false false h = h

    and_right_part : (x y : Bool) → (x && y) ≡ true → y ≡ true
    and_right_part true y h = h
    and_right_part false y h = absurd (true≢false (sym h))

    go : (l : Option Text) → own.long ≡ l → named_long name (rule_with a.id own.long own.index own.required) ≡ true → a.id ≡ name
    go None is h =
        let both = and_right_part (not (is_some own.index)) _ h in
        let bad : false ≡ true = rw is at both in
        absurd (true≢false (sym bad))
    go (Some l) is h =
        let both = and_right_part (not (is_some own.index)) _ h in
        let long : (bytes_eq l name || false) ≡ true = rw is at both in
        sym (own.own l is) ∙ (bytes_eq-Decides l name).0 (or_false _ long)

pub rule_by_long : (i : ℕ) (arguments options : List Text) (name : Text) → has name options ≡ true
    → IsRuleOf name (arg_by_long (built_rules i arguments options) name)
rule_by_long i arguments options name e =
    let f = found_where (named_long name) (built_rules i arguments options) (ours i arguments options) (any_long i arguments options name ∙ e) in
    rule_of_id name _ f.rule f.is f.ours (long_is_id name f.rule f.ours f.passes)

pub none_by_long : (i : ℕ) (arguments options : List Text) (name : Text) → has name options ≡ false
    → arg_by_long (built_rules i arguments options) name ≡ None
none_by_long i arguments options name e = none_where (named_long name) (built_rules i arguments options) (any_long i arguments options name ∙ e)

pub none_by_short : (i : ℕ) (arguments options : List Text) (x : ℕ) → arg_by_short (built_rules i arguments options) x ≡ None
none_by_short i arguments options x = none_where (named_short x) (built_rules i arguments options) (any_short i arguments options x)

-- ---- by argument

abbrev pub at_index : ℕ → Rule → Bool
at_index i a = option_map_or (λ k. k == i) a.index false

-- from index i on stand these arguments, and no more
abbrev pub IsAt : List Rule → ℕ → List Text → Type 0
IsAt rules i [] = arg_by_index rules i ≡ None
IsAt rules i (p ∷ ps) = (arg_by_index rules i ≡ Some (rule_with p None (Some i) true)) × IsAt rules (next_index i) ps

find-append : (test : Rule → Bool) (xs ys : List Rule) → find test xs ≡ None → find test (xs ++ ys) ≡ find test ys
find-append test [] ys e = refl
find-append test (x ∷ xs) ys e = go (test x) refl e (λ h. find-append test xs ys h)
  where
    go : (b : Bool) → test x ≡ b → cond b (Some x) (find test xs) ≡ None → (find test xs ≡ None → find test (xs ++ ys) ≡ find test ys)
        → find test (x ∷ (xs ++ ys)) ≡ find test ys
    go true t e later = cc
    go false t e later = rw t (later e)

no_option_index : (options : List Text) (j : ℕ) → find (at_index j) (built_options options) ≡ None
no_option_index [] j = refl
no_option_index (o ∷ os) j = no_option_index os j

next-is : (i : ℕ) → i < usize_max → next_index i ≡ i + 1
next-is i lt = omega arith

arguments_from : (before : List Rule) (i : ℕ) (arguments options : List Text) → i + length arguments < usize_max
    → ((j : ℕ) → i ≤ j → find (at_index j) before ≡ None)
    → IsAt (before ++ built_rules i arguments options) i arguments
arguments_from before i [] options lt none = find-append (at_index i) before (built_options options) (none i (omega arith))
    ∙ no_option_index options i
arguments_from before i (p ∷ ps) options lt none =
    let rule = rule_with p None (Some i) true in
    let here : arg_by_index (rule ∷ built_rules (next_index i) ps options) i ≡ Some rule = rw (eq-eqb i i refl) refl in
    let next = next-is i (omega arith) in
    let later : (j : ℕ) → next_index i ≤ j → find (at_index j) (before ++ rule ∷ []) ≡ None = λ j le.
    find-append (at_index j) before (rule ∷ []) (none j (omega arith)) ∙ rw (ne_eqb i j (λ e. omega arith)) refl in (
      find-append (at_index i) before _ (none i (omega arith)) ∙ here,
      subst (λ rules. IsAt rules (next_index i) ps) (append_assoc before (rule ∷ []) (built_rules (next_index i) ps options))
          (arguments_from (before ++ rule ∷ []) (next_index i) ps options (omega arith) later),
    )

pub arguments_at : (arguments options : List Text) → length arguments < 1000 → IsAt (built_rules 1 arguments options) 1 arguments
arguments_at arguments options lt = arguments_from [] 1 arguments options (omega arith) (λ j le. refl)
