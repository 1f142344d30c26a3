-- Each body that the tokens can hold has a number: what was read leaves fewer of them, by its own bodies.
use Rattle.std.proofs.Common.{ℕ, suc, ◌+◌, ◌<◌, ◌≤◌, List, length, Ok, sym, ap, ◌∙◌, arith}
use Rattle.task_model.specs.Terms.Text.{Text}
use Rattle.task_model.specs.Terms.Task.{TaskTerm}
use Rattle.task_model.specs.Syntax.Lexemes.{Lexeme}
use Rattle.task_model.specs.Syntax.Grammar.{task, series, choice, chain, Operator, internal, external}
use Rattle.task_model.proofs.BodyCounts.{bodies_count}
use Rattle.reader_grammar.specs.Languages.{Reads}
use Rattle.reader_grammar.specs.Parts.{ParsedTerm}
use Rattle.reader_grammar.proofs.BodyTokens.{bodies_left, room_left}
use Rattle.reader_grammar.proofs.GrammarLemmas.{least_levels}
use Rattle.reader_grammar.proofs.SeriesReading.{Going}
use Rattle.reader_tasks.specs.Tasks.{shown_task, shown_chain, shown_choice, choice_number}

module _ (scope : List Text) (next : ℕ) {room : ℕ} {ts rest : List Lexeme} {left : ParsedTerm TaskTerm} where
  -- of a task, and of a choice
  pub task_left : Reads task (shown_task scope next) room ts (Ok (left, rest)) → 1 + length left.bodies + length rest ≤ length ts
  task_left h = bodies_left (λ w. length w.bodies) (λ d. bodies_count d scope next) h

  pub choice_left : Reads (series choice) (shown_choice scope next) room ts (Ok (left, rest))
      → 1 + length left.bodies + length rest ≤ length ts
  choice_left h = bodies_left (λ w. length w.bodies) (λ d. bodies_count d scope next) h

  -- a choice has levels, and where the code counts fewer than there is room for, there is room for one more
  pub choice_levels : (h : Reads (series choice) (shown_choice scope next) room ts (Ok (left, rest))) → left.levels < room
      → (1 ≤ h.by.0.1) × (suc h.by.0.1 ≤ room)
  choice_levels h lt =
      let (x, shows, right) = h.by in
      let same = right.by.found.1 in
      let counted = ap (λ q. q.levels) shows in
      let some = least_levels x.0 in (omega (arith, same, some), omega (arith, same, counted, lt))

  -- of the parts so far of a choice and of a chain
  pub choice_going : Going choice (shown_choice scope next) room ts left rest → 1 + length left.bodies + length rest ≤ length ts
  choice_going g = room_left g.parse.0 ts rest (length left.bodies)
      (ap (λ w. length w.bodies) (sym g.shows) ∙ bodies_count g.parse.0 scope next) g.split

  pub chain_going : Going chain (shown_chain scope next) room ts left rest → 1 + length left.bodies + length rest ≤ length ts
  chain_going g = room_left g.parse.0 ts rest (length left.bodies)
      (ap (λ w. length w.bodies) (sym g.shows) ∙ bodies_count g.parse.0 scope next) g.split

-- a choice numbers at most two bodies
pub choice_number_most : (o : Operator choice) (next many : ℕ) → choice_number o next many ≤ suc (suc (next + many))
choice_number_most internal next many = omega arith
choice_number_most external next many = omega arith
