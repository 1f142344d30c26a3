-- Programs as plain terms (docs/RULES.md, "Programs").
use Rattle.std.specs.Prelude.{List, map, codes}
use Rattle.task_model.specs.Terms.Text.{Text}
use Rattle.task_model.specs.Terms.Basic.{BasicTerm, basic_term}
use Rattle.task_model.specs.Terms.Host.{HostTerm, host_term}
use Rattle.task_model.specs.Terms.Task.{TaskTerm, task_term, BodyTerm, body_term}
use Rattle.task_model.specs.declared.program.Kind.{Kind}
use Rattle.task_model.specs.declared.program.Param.{Param}
use Rattle.task_model.specs.declared.program.DefBody.{DefBody}
use Rattle.task_model.specs.declared.program.Def.{Def}
use Rattle.task_model.specs.declared.program.Program.{Program}
use Rattle.task_model.specs.declared.program.Kind.TheVariants as kinds
use Rattle.task_model.specs.declared.program.DefBody.TheVariants as bodies

-- what a parameter takes: a value, or a reference
pub data KindTerm : Type 0 where
  plain_kind : BasicTerm → KindTerm
  ref_kind : BasicTerm → KindTerm

abbrev pub kind_term : Kind → KindTerm
kind_term (kinds.Plain b) = plain_kind (basic_term b)
kind_term (kinds.Ref b) = ref_kind (basic_term b)

-- a parameter: its name, and what it takes
pub record ParamTerm : Type 0 where
  pub name : Text
  pub kind : KindTerm

-- a parameter as a plain term
abbrev pub param_term : Param → ParamTerm
param_term q = record { name = q.name; kind = kind_term q.kind }

-- the body of a function or of a task
pub data DefBodyTerm : Type 0 where
  fun_body : HostTerm → DefBodyTerm
  task_body : TaskTerm → DefBodyTerm

abbrev pub def_body_term : DefBody → DefBodyTerm
def_body_term (bodies.Fun e) = fun_body (host_term e.value)
def_body_term (bodies.Task t) = task_body (task_term t.value)

-- a definition: its name, parameters, result and body
pub record DefTerm : Type 0 where
  pub name : Text
  pub params : List ParamTerm
  pub result : BasicTerm
  pub what : DefBodyTerm

-- a definition as a plain term
abbrev pub def_term : Def → DefTerm
def_term d = record { name = d.name; params = map param_term d.params.list; result = basic_term d.result; what = def_body_term d.what }

-- definitions in the order of the text, and the unevaluated bodies by their numbers
pub record ProgramTerm : Type 0 where
  pub defs : List DefTerm
  pub bodies : List BodyTerm

-- a program as a plain term
abbrev pub program_term : Program → ProgramTerm
program_term p = record { defs = map def_term p.defs.list; bodies = map body_term p.bodies.list }

-- the name of the task that is opened
abbrev pub main_name : Text
main_name = codes "main"
