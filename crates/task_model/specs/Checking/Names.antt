-- The names in scope with what each stands for, and the definitions that may be called (docs/LANGUAGE.md, "Types of expressions and
-- tasks").
use Rattle.std.specs.Prelude.{ℕ, suc, Bool, true, List, [], ◌∷◌, ◌++◌, ◌-◌, length, nat_le, nat_lt, Option, Some, None, if◌then◌else◌}
use Rattle.std.specs.Option.{option_or}
use Rattle.task_model.specs.Terms.Text.{Text, same_text}
use Rattle.task_model.specs.Terms.Basic.{BasicTerm, unit_type}
use Rattle.task_model.specs.Terms.Program.{KindTerm, plain_kind, ref_kind, ParamTerm, DefTerm}

-- What a name stands for, the innermost one of its spelling. A scope has its names outermost first, hidden ones included.
abbrev pub kind_in : List ParamTerm → Text → Option KindTerm
kind_in [] x = None
kind_in (q ∷ qs) x = option_or (kind_in qs x) (if same_text q.name x then Some q.kind else None)

-- the scope with one name more, of a value
abbrev pub bind_value : List ParamTerm → Text → BasicTerm → List ParamTerm
bind_value s x b = s ++ record { name = x; kind = plain_kind b } ∷ []

-- the scope with one name more, of a reference
abbrev pub bind_place : List ParamTerm → Text → BasicTerm → List ParamTerm
bind_place s x b = s ++ record { name = x; kind = ref_kind b } ∷ []

-- whether so many names more leave at most 200 in scope
abbrev pub has_room : List ParamTerm → ℕ → Bool
has_room s more = nat_le (length s) (200 - more)

-- the type of what a parameter of this kind takes
abbrev pub basic_of : KindTerm → BasicTerm
basic_of (plain_kind b) = b
basic_of (ref_kind b) = b

-- the type of what a name stands for; unit where there is no such name
abbrev pub named_type : Option KindTerm → BasicTerm
named_type None = unit_type
named_type (Some k) = basic_of k

-- ---- definitions
-- a definition and its number
pub record Numbered : Type 0 where
  pub index : ℕ
  pub def : DefTerm

-- the first definition of a name, where the list has those from number i on
abbrev pub first_named : ℕ → List DefTerm → Text → Option Numbered
first_named i [] f = None
first_named i (d ∷ ds) f = if same_text d.name f then Some (record { index = i; def = d }) else first_named (suc i) ds f

-- What may be called: of all definitions those before this number, or every one.
pub record CallsTerm : Type 0 where
  pub defs : List DefTerm
  pub below : Option ℕ

-- whether the definition of this number may be called
abbrev pub is_open : Option ℕ → ℕ → Bool
is_open None index = true
is_open (Some n) index = nat_lt index n

-- the definition that a call names: the first one of its name
abbrev pub called_definition : CallsTerm → Text → Option Numbered
called_definition k f = first_named 0 k.defs f

-- every definition may be called
abbrev pub all_open : CallsTerm → CallsTerm
all_open k = record { defs = k.defs; below = None }

-- the parameters of a definition; none where there is none
abbrev pub params_of : Option Numbered → List ParamTerm
params_of None = []
params_of (Some d) = d.def.params

-- the result type of a definition; unit where there is none
abbrev pub result_of : Option Numbered → BasicTerm
result_of None = unit_type
result_of (Some d) = d.def.result
