-- The lines of each of several worlds, and the texts that stand at them (docs/RULES.md, "Several worlds").
use Rattle.std.specs.Prelude.{ℕ, ◌==◌, List, [], ◌∷◌, if◌then◌else◌}
use Rattle.task_model.specs.Terms.Text.{Text}
use Rattle.input_lines.specs.ScriptLines.{LineTerm, line_term}
use Rattle.hub_lines.specs.declared.hub_line.HubLine.{HubLine}

-- the number of a world, and what a line asks for there
pub record AddressedTerm : Type 0 where
  pub world : ℕ
  pub line : LineTerm

-- the same of a line of the code
abbrev pub addressed : HubLine → AddressedTerm
addressed l = record { world = l.world; line = line_term l.line }

-- the lines of one world, in order
abbrev pub own_lines : ℕ → List AddressedTerm → List LineTerm
own_lines k [] = []
own_lines k (l ∷ lines) = if l.world == k then l.line ∷ own_lines k lines else own_lines k lines

-- those of some texts, one for each line, that stand at the lines of one world
abbrev pub own_texts : ℕ → List AddressedTerm → List Text → List Text
own_texts k [] texts = []
own_texts k (l ∷ lines) [] = []
own_texts k (l ∷ lines) (text ∷ texts) = if l.world == k then text ∷ own_texts k lines texts else own_texts k lines texts
