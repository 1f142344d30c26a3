-- Words for the parts of a check.
use Rattle.std.specs.Prelude.{◌≡◌, ℕ, suc, ◌+◌, not, is_some, List, ◌++◌, length, None, Result, MatchResult, map}
use Rattle.task_model.specs.Terms.Basic.{BasicTerm}
use Rattle.task_model.specs.Terms.Program.{ParamTerm, DefBodyTerm, DefTerm, ProgramTerm, def_term}
use Rattle.task_model.specs.Terms.Task.{body_term}
use Rattle.task_model.specs.Checking.Names.{kind_in, basic_of}
use Rattle.task_model.specs.Checking.TypeFault.{Demands, ◌⨾◌, first_fault, demanded, duplicate, sized}
use Rattle.task_model.specs.Checking.Demands.{has_place}
use Rattle.task_model.specs.Checking.TaskDemands.{fault_of, body_demands, definition_nodes, what_types, from_parameters, definition}
use Rattle.host_types.specs.Answer.{StopsBy, IsStop, IsTaskPassed}
use Rattle.host_types.specs.declared.definitions.Definitions.{Definitions}
use Rattle.task_model.specs.declared.task.Body.{Body}
use Rattle.host_types.specs.declared.fault.CheckStop.{CheckStop}

-- what is demanded of a parameter behind these
abbrev pub new_parameter : List ParamTerm → ℕ → ParamTerm → Demands
new_parameter s n p = demanded (not (is_some (kind_in s p.name))) n duplicate ⨾ has_place n s 1 ⨾ sized n (basic_of p.kind)

-- the program that these are the definitions and bodies of
abbrev pub seen_program : Definitions → List Body → ProgramTerm
seen_program d bodies = record { defs = map def_term d.defs.now; bodies = map body_term bodies }

-- the node and kind of the first demand that isn't met, or want of memory
pub record IsFirstTypeFault (p : ProgramTerm) (e : CheckStop) : Type 0 where
  pub by : StopsBy (fault_of p) e

-- all of this is met, and these are the types so far
pub record IsChecked (ds : Demands) (all now : List BasicTerm) : Type 0 where
  pub none : first_fault ds ≡ None
  pub types : now ≡ all

module _ (p : ProgramTerm) where
  -- the body of definition i, of the written type b, was checked
  abbrev pub ChecksBody : ℕ → List ParamTerm → ℕ → BasicTerm → DefBodyTerm → List BasicTerm → List BasicTerm → Result ℕ CheckStop → Type 0
  ChecksBody i s n b what old new r =
      MatchResult r (IsTaskPassed (body_demands p i s n b what) (n + definition_nodes p what) (old ++ what_types p s what) new)
      (IsStop (body_demands p i s n b what))

  -- definition i of node number m was checked, from these parameters on
  abbrev pub ChecksParameters : ℕ → ℕ → DefTerm → List ParamTerm → ℕ → List ParamTerm → List BasicTerm → List BasicTerm
      → Result ℕ CheckStop → Type 0
  ChecksParameters i m d s n ps old new r =
      MatchResult r (IsTaskPassed (from_parameters p i m d s n ps) (n + length ps + definition_nodes p d.what)
      (old ++ what_types p (s ++ ps) d.what) new) (IsStop (from_parameters p i m d s n ps))

  -- definition i of node number n was checked
  abbrev pub ChecksDefinition : ℕ → ℕ → DefTerm → List BasicTerm → List BasicTerm → Result ℕ CheckStop → Type 0
  ChecksDefinition i n d old new r =
      MatchResult r (IsTaskPassed (definition p i n d) (suc n + length d.params + definition_nodes p d.what)
      (old ++ what_types p d.params d.what) new) (IsStop (definition p i n d))
