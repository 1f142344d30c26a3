-- Tasks as their readers hand them on, once the names in scope and the number of their first body are known.
use Rattle.std.specs.Prelude.{◌≡◌, ℕ, suc, ◌+◌, Option, None, Some, List, ◌∷◌, length, map, Result}
use Rattle.task_model.specs.Terms.Text.{Text}
use Rattle.task_model.specs.Terms.Task.{TaskTerm, or_task, xor_task, task_term, body_term}
use Rattle.task_model.specs.declared.task.Task as task_code
use Rattle.task_model.specs.declared.keyword.Keyword.{Keyword}
use Rattle.task_model.specs.declared.symbol.Symbol.{Symbol}
use Rattle.task_model.specs.Syntax.Lexemes.{Lexeme, keyword, symbol}
use Rattle.task_model.specs.Syntax.Grammar.{task, task_atom, series, choice, chain, Operator, internal, external, Parse, task_let, task_if, task_case, task_new, task_put, task_plain, task_then, task_next}
use Rattle.task_model.specs.Syntax.Meaning.{meaning, bodies_of}
use Rattle.exact_reading.specs.declared.stop.ParseStop.{ParseStop}
use Rattle.exact_reading.specs.Reading.{Language, IsWithinLevels}
use Rattle.reader_grammar.specs.declared.parsed.Parsed.{Parsed}
use Rattle.reader_grammar.specs.Languages.{Of, EndsForm, ReadsAs}
use Rattle.reader_grammar.specs.Parts.{ParsedTerm, PartsTerm, parsed, one_part, both_parts, node, over_two}
use Rattle.reader_tasks.specs.declared.step.Step.{Step}
use Rattle.reader_tasks.specs.TaskOperators.{stepped}
use Rattle.reader_tasks.specs.Numbers.{parsed_renumbered}

-- ---- what was read
abbrev pub parsed_task : Parsed task_code.Task → ParsedTerm TaskTerm
parsed_task w = record {
  term = task_term w.term.value;
  levels = w.levels;
  start = w.start;
  places = w.places.items;
  bodies = map body_term w.bodies.items;
}

abbrev pub shown_task : List Text → ℕ → Parse task → ParsedTerm TaskTerm
shown_task scope next d = parsed (meaning d next) (bodies_of d scope next) d

abbrev pub shown_atom : List Text → ℕ → Parse task_atom → ParsedTerm TaskTerm
shown_atom scope next d = parsed (meaning d next) (bodies_of d scope next) d

abbrev pub shown_chain : List Text → ℕ → Parse (series chain) → ParsedTerm TaskTerm
shown_chain scope next d = parsed (meaning d next) (bodies_of d scope next) d

abbrev pub shown_choice : List Text → ℕ → Parse (series choice) → ParsedTerm TaskTerm
shown_choice scope next d = parsed (meaning d next) (bodies_of d scope next) d

-- ---- the tasks that are a choice, perhaps with a step
abbrev pub IsStepping : Parse task → Type 0
IsStepping (task_plain t) = Unit {0}
IsStepping (task_then t p x q r u) = Unit {0}
IsStepping (task_next t p x q r u) = Unit {0}
IsStepping (task_let p x q r e s t) = ⊥
IsStepping (task_if p e q t r u) = ⊥
IsStepping (task_case p e q r s a t b x i j y k c u) = ⊥
IsStepping (task_new p x q r e s t) = ⊥
IsStepping (task_put x p q e r t) = ⊥

-- they as a language, and what their reader owes
abbrev pub Stepping : Language Lexeme (Parse task × ℕ)
Stepping ts x = Of task ts x × IsStepping x.0

abbrev pub Steps : List Text → ℕ → ℕ → List Lexeme → Result (ParsedTerm TaskTerm × List Lexeme) ParseStop → Type 0
Steps scope next room ts r = ReadsAs Stepping (IsWithinLevels room) (EndsForm task) (λ x. shown_task scope next x.0) ts r

-- ---- what stands first
-- this keyword doesn't, and this symbol doesn't
abbrev pub NoWord : Keyword → List Lexeme → Type 0
NoWord k ts = (p : ℕ) (rest : List Lexeme) → ts ≡ keyword k p ∷ rest → ⊥

abbrev pub NoSign : Symbol → List Lexeme → Type 0
NoSign s ts = (p : ℕ) (rest : List Lexeme) → ts ≡ symbol s p ∷ rest → ⊥

-- this symbol does
abbrev pub StartsWith : Symbol → List Lexeme → Type 0
StartsWith s ts = (p : ℕ) × (rest : List Lexeme) × (ts ≡ symbol s p ∷ rest)

-- ---- tasks with bodies, from their parts
-- a part that is a body, with the names in scope there and the name that a step binds: it stands before the bodies inside it
abbrev pub body_part : List Text → Option Text → ParsedTerm TaskTerm → PartsTerm
body_part scope binder t = record {
  levels = t.levels;
  places = t.places;
  bodies = record { scope = scope; binder = binder; task = t.term } ∷ t.bodies;
}

-- two tasks that are both bodies: the left one was read with the number that its body takes now
abbrev pub external_choice : List Text → ℕ → ParsedTerm TaskTerm → ParsedTerm TaskTerm → ParsedTerm TaskTerm
external_choice scope next t u =
    node (xor_task next (suc (next + length t.bodies))) t.start
    (both_parts (body_part scope None (parsed_renumbered t)) (body_part scope None u))

-- a choice, with the number of the first body of both
abbrev pub chosen_task : List Text → ℕ → Operator choice → ParsedTerm TaskTerm → ParsedTerm TaskTerm → ParsedTerm TaskTerm
chosen_task scope next internal t u = over_two or_task t.start t u
chosen_task scope next external t u = external_choice scope next t u

-- the number of the first body of the right side of a choice, where the left side has so many
abbrev pub choice_number : Operator choice → ℕ → ℕ → ℕ
choice_number internal next many = next + many
choice_number external next many = suc (suc (next + many))

-- a step: what comes next is a body
abbrev pub followed_task : List Text → ℕ → Step → Text → ParsedTerm TaskTerm → ParsedTerm TaskTerm → ParsedTerm TaskTerm
followed_task scope next o x t u =
    node (stepped o t.term (next + length t.bodies)) t.start (both_parts (one_part t) (body_part scope (Some x) u))
