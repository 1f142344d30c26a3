-- Which bytes are a line of a script for several worlds, and what it asks for (docs/FORMATS.md, "Hub lines").
use Rattle.std.specs.Prelude.{◌≡◌, ℕ, ◌≤◌, Bool, ◌∷◌, ◌++◌, length, decimal, Option, None, Some}
use Rattle.task_model.specs.Terms.Text.{Text}
use Rattle.input_lines.specs.ScriptLines.{LineTerm, IsScriptLine, HasSeat, line_term, return_text}
use Rattle.hub_lines.specs.declared.hub_line.HubLine.{HubLine}

-- there are 1 to 16 worlds
abbrev pub IsWorldCount : ℕ → Type 0
IsWorldCount worlds = (1 ≤ worlds) × (worlds ≤ 16)

-- the number of one of so many worlds, which counts from 1
abbrev pub IsWorldNumber : ℕ → ℕ → Type 0
IsWorldNumber worlds number = (1 ≤ number) × (number ≤ worlds)

-- what a line asks for: nothing of any world, or this of the world of this number
pub data HubTerm : Type 0 where
  no_world : HubTerm
  at_world : ℕ → LineTerm → HubTerm

-- what a line asks for, as a plain term
abbrev pub hub_term : Option HubLine → HubTerm
hub_term None = no_world
hub_term (Some l) = at_world l.world (line_term l.line)

-- One case for each line. A world's number is written in decimal, with no leading zero.
pub data HubParse (worlds : ℕ) : Type 0 where
  -- nothing at all, with a CR at its end or not
  unnamed : Bool → HubParse worlds
  -- "#" any bytes
  remark : Text → HubParse worlds
  -- number " " line
  named : (number : ℕ) → IsWorldNumber worlds number → (line : Text) → (l : LineTerm) → IsScriptLine line l → HubParse worlds

abbrev pub hub_bytes : {worlds : ℕ} → HubParse worlds → Text
hub_bytes (unnamed returned) = return_text returned
hub_bytes (remark bytes) = 35 ∷ bytes
hub_bytes (named number is line l asks) = decimal number ++ (32 ∷ line)

abbrev pub parsed_hub : {worlds : ℕ} → HubParse worlds → HubTerm
parsed_hub (unnamed returned) = no_world
parsed_hub (remark bytes) = no_world
parsed_hub (named number is line l asks) = at_world number l

-- the bytes are a line of any length for one of so many worlds, which asks for this
pub record IsHubLine (worlds : ℕ) (t : Text) (h : HubTerm) : Type 0 where
  pub parse : HubParse worlds
  pub are : t ≡ hub_bytes parse
  pub stands_for : h ≡ parsed_hub parse

-- such a line of at most so many bytes, all told
abbrev pub IsHubLineWithin : (worlds longest : ℕ) → Text → HubTerm → Type 0
IsHubLineWithin worlds longest t h = IsHubLine worlds t h × (length t ≤ longest)

-- a world that is named is one of so many, and a seat that is named there is a seat
abbrev pub NamesWorld : ℕ → HubTerm → Type 0
NamesWorld worlds no_world = Unit {0}
NamesWorld worlds (at_world number l) = IsWorldNumber worlds number × HasSeat l
