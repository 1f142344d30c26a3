-- What `soak` reports (docs/FORMATS.md, "The soak generator").
use Rattle.std.specs.Prelude.{ℕ, zero, suc, ◌+◌, ◌≡◌, ◌++◌, codes, decimal}
use Rattle.task_model.specs.Terms.Text.{Text}
use Rattle.task_model.specs.Syntax.Literal.{value_text}
use Rattle.task_model.specs.Showing.Widget.{stored}
use Rattle.task_model.specs.Terms.Input.{EntryTerm}
use Rattle.task_model.specs.Running.Outcome.{Outcome, IsOutcome, taken, not_offered, over_budget}
use Rattle.world_core.specs.World.{WorldTerm}
use Rattle.node_rows.specs.TreeNodes.{tree_nodes}
use Rattle.input_lines.specs.Soak.{soak_next, soak_entry_of}
use Rattle.tophat.specs.declared.soak.Tally.{Tally}
use Rattle.world_answers.specs.LineAnswers.{world_after}

-- how many inputs were taken, refused, and over the budget
pub record TallyTerm : Type 0 where
  pub taken : ℕ
  pub refused : ℕ
  pub over : ℕ

abbrev pub tally_term : Tally → TallyTerm
tally_term t = record { taken = t.taken; refused = t.refused; over = t.over }

abbrev pub no_inputs : TallyTerm
no_inputs = record { taken = 0; refused = 0; over = 0 }

-- one input more with this outcome
abbrev pub counted : TallyTerm → Outcome → TallyTerm
counted t (taken s) = record { taken = t.taken + 1; refused = t.refused; over = t.over }
counted t not_offered = record { taken = t.taken; refused = t.refused + 1; over = t.over }
counted t over_budget = record { taken = t.taken; refused = t.refused; over = t.over + 1 }

-- how many inputs were counted
abbrev pub all_inputs : TallyTerm → ℕ
all_inputs t = t.taken + t.refused + t.over

-- an input leads from one world to another by its outcome, and is counted
abbrev pub CountsInput : WorldTerm → TallyTerm → EntryTerm → WorldTerm → TallyTerm → Type 0
CountsInput w t e u r =
    (o : Outcome) × IsOutcome w.checked w.budget w.state e.input o × (u ≡ world_after w e o) × (r ≡ counted t o)

-- So many inputs of the generator, from a state of it on, lead from one world to another, and are counted.
abbrev pub Soaks : ℕ → ℕ → WorldTerm → TallyTerm → WorldTerm → TallyTerm → Type 0
Soaks zero s w t u r = (u ≡ w) × (r ≡ t)
Soaks (suc n) s w t u r =
    (o : Outcome) × IsOutcome w.checked w.budget w.state (soak_entry_of (soak_next s)).input o
    × Soaks n (soak_next s) (world_after w (soak_entry_of (soak_next s)) o) (counted t o) u r

-- the line that is written in the end
abbrev pub summary_text : ℕ → TallyTerm → WorldTerm → Text
summary_text n t w =
    codes "soak inputs " ++ decimal n ++ (codes " taken " ++ decimal t.taken ++ (codes " refused " ++ decimal t.refused
    ++ (codes " over " ++ decimal t.over ++ (codes " nodes " ++ decimal (tree_nodes w.state.tree)
    ++ (codes " a " ++ value_text (stored w.state.store 0) ++ (codes " b " ++ value_text (stored w.state.store 1) ++ codes "\n"))))))

-- this is the line in the end, of so many inputs from a state of the generator on
abbrev pub IsSummary : ℕ → ℕ → WorldTerm → Text → Type 0
IsSummary n s w text = (u : WorldTerm) × (t : TallyTerm) × Soaks n s w no_inputs u t × (text ≡ summary_text n t u)
