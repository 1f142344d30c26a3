-- Commands as tables of arguments and options, and what `clap` is to find in the words.
use Rattle.std.specs.Prelude.{◌≡◌, ◌++◌, ◌&&◌, nat_lt, not, Bool, true, List, map, length, Option, Some, None, Result, Ok, Err, []}
use Rattle.std.specs.List.{list_all}
use Rattle.clap.specs.Walk.{Rule}
use Rattle.clap.specs.Simple.{App, new_rule, new_shape}
use Rattle.clap.specs.Matches.{first_value, found_of}
use Rattle.clap.specs.declared.parser.matches.ArgMatches.{ArgMatches}
use Rattle.task_model.specs.Terms.Text.{Text}
use Rattle.command_words.specs.WordReading.{Use, has, is_distinct, value_given}
use Rattle.command_words.specs.declared.stop.WordStop.{WordStop}
use Rattle.command_words.specs.declared.stop.WordStop.TheVariants.{Memory, Outside}

-- the rule of an argument: a value must stand there
abbrev pub argument_rule : Text → Rule
argument_rule id = record (new_rule id) { required = true }

-- the rule of an option: a value may stand behind `--` and its name
abbrev pub option_rule : Text → Rule
option_rule id = record (new_rule id) { long = Some id }

-- the rules of a table, arguments first
abbrev pub rules_for : List Text → List Text → List Rule
rules_for arguments options = map argument_rule arguments ++ map option_rule options

-- a command with these rules, no help and no name of the program among its words
abbrev pub app_with : Text → List Rule → App
app_with name rules = record {
  top = record (new_shape name) { no_binary_name = true; disable_help_flag = true; rules = rules };
  subs = [];
}

-- the names of arguments and options differ
abbrev pub is_table : List Text → List Text → Bool
is_table arguments options = is_distinct arguments
    && (list_all (λ p. not (has p options)) arguments && nat_lt (length arguments) 1000)

-- the matches have the values of these uses
abbrev pub HasUses : Option (List Use) → ArgMatches → Type 0
HasUses None m = ⊥
HasUses (Some uses) m = (name : Text) → first_value (found_of m) name ≡ value_given name uses

-- a value is found as it is, there is none, or memory ran out
abbrev pub IsReadAs : {T : Type 0} → Option T → Result T WordStop → Type 0
IsReadAs value (Ok v) = value ≡ Some v
IsReadAs value (Err Outside) = value ≡ None
IsReadAs value (Err Memory) = Unit {0}

-- what the words mean by `clap` is found, or they mean nothing
abbrev pub Finds : Option (List Use) → Result ArgMatches WordStop → Type 0
Finds uses (Ok m) = HasUses uses m
Finds uses (Err Outside) = uses ≡ None
Finds uses (Err Memory) = Unit {0}
