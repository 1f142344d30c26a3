-- Definitions and programs as their readers hand them on.
use Rattle.std.specs.Prelude.{ℕ, List, [], ◌∷◌, ◌++◌, map}
use Rattle.task_model.specs.Terms.Task.{TaskTerm, BodyTerm, body_term}
use Rattle.task_model.specs.Terms.Text.{Text}
use Rattle.task_model.specs.Terms.Basic.{BasicTerm}
use Rattle.task_model.specs.Terms.Host.{HostTerm}
use Rattle.task_model.specs.Terms.Program.{ParamTerm, param_term, DefBodyTerm, DefTerm, def_term, fun_body, task_body}
use Rattle.reader_grammar.specs.Parts.{ParsedTerm, PartsTerm, one_part}
use Rattle.reader_programs.specs.declared.parameters.Parameters.{Parameters}
use Rattle.reader_programs.specs.declared.definition.ReadDefinition.{ReadDefinition}
use Rattle.reader_programs.specs.declared.program.Definitions.{Definitions}
use Rattle.task_model.specs.Syntax.Grammar.{program, definition, parameter, series, list, enclosed, parameters, Parse}
use Rattle.task_model.specs.Syntax.Meaning.{meaning, bodies_of}
use Rattle.task_model.specs.Syntax.Nodes.{start, places}

-- ---- parameters, with their places
abbrev pub shown_parameter : Parse parameter → ParamTerm × ℕ
shown_parameter d = (meaning d, start d)

abbrev pub shown_parameter_list : Parse (series (list parameters)) → List ParamTerm × List ℕ
shown_parameter_list d = (meaning d, places d)

abbrev pub shown_enclosed : Parse (enclosed parameters) → List ParamTerm × List ℕ
shown_enclosed d = (meaning d, places d)

abbrev pub shown_parameters : Parameters → List ParamTerm × List ℕ
shown_parameters r = (map param_term r.list.list, r.places.items)

-- ---- a definition, with its places and its bodies, the first of which has this number
pub record ShownDefinition : Type 0 where
  pub def : DefTerm
  pub places : List ℕ
  pub bodies : List BodyTerm

abbrev pub shown_meaning : ℕ → Parse definition → ShownDefinition
shown_meaning next d = record { def = meaning d next; places = places d; bodies = bodies_of d [] next }

abbrev pub shown_definition : ReadDefinition → ShownDefinition
shown_definition r = record { def = def_term r.def; places = r.places.items; bodies = map body_term r.bodies.items }

-- definitions from their parts
abbrev pub definition_of : ℕ → Text → List ParamTerm × List ℕ → BasicTerm × ℕ → DefBodyTerm → PartsTerm → ShownDefinition
definition_of p x ps b what parts = record {
  def = record { name = x; params = ps.0; result = b.0; what = what };
  places = p ∷ (ps.1 ++ parts.places);
  bodies = parts.bodies;
}

abbrev pub function_definition : ℕ → Text → List ParamTerm × List ℕ → BasicTerm × ℕ → ParsedTerm HostTerm → ShownDefinition
function_definition p x ps b e = definition_of p x ps b (fun_body e.term) (one_part e)

abbrev pub task_definition : ℕ → Text → List ParamTerm × List ℕ → BasicTerm × ℕ → ParsedTerm TaskTerm → ShownDefinition
task_definition p x ps b t = definition_of p x ps b (task_body t.term) (one_part t)

-- ---- a program
pub record ShownProgram : Type 0 where
  pub defs : List DefTerm
  pub places : List ℕ
  pub bodies : List BodyTerm

abbrev pub shown_program : Parse program → ShownProgram
shown_program d = record { defs = meaning d; places = places d; bodies = bodies_of d [] 0 }

abbrev pub shown_definitions : Definitions → ShownProgram
shown_definitions r = record { defs = map def_term r.defs.list; places = r.places.items; bodies = map body_term r.bodies.items }

-- one more definition
abbrev pub more_shown : ShownProgram → ShownDefinition → ShownProgram
more_shown r d = record { defs = r.defs ++ d.def ∷ []; places = r.places ++ d.places; bodies = r.bodies ++ d.bodies }
