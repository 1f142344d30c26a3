-- What each world has answered to its own lines.
use Rattle.std.specs.Prelude.{◌≡◌, ℕ, ◌+◌, List, [], ◌∷◌, map, None}
use Rattle.task_model.specs.Terms.Text.{Text}
use Rattle.task_model.specs.Terms.Item.{history_term}
use Rattle.task_model.specs.Running.State.{IsLegal}
use Rattle.world_core.specs.World.{SeenWorld, world_term}
use Rattle.world_answers.specs.LineAnswers.{AnswersInTurn}
use Rattle.world_answers.specs.declared.line_form.LineForm.TheVariants.{Script}
use Rattle.hub_lines.specs.OwnLines.{AddressedTerm, own_lines}
use Rattle.world_hub.specs.declared.own.Numbered.{Numbered}
use Rattle.world_hub.specs.declared.own.Share.{Share}

-- worlds with their numbers, the first of which is this one
abbrev pub numbered_from : ℕ → List SeenWorld → List Numbered
numbered_from k [] = []
numbered_from k (w ∷ ws) = record { number = k; world = w } ∷ numbered_from (k + 1) ws

-- the texts that a world has answered
abbrev pub share_texts : Share → List Text
share_texts s = map (λ t. t.list) s.texts.items

-- a world has answered its own lines
pub record HasAnsweredOwn (lines : List AddressedTerm) (job : Numbered) (share : Share) : Type 0 where
  pub answers : AnswersInTurn Script (world_term job.world) (own_lines job.number lines) (share_texts share) (world_term share.world)
  pub rest : share.world.next ≡ None
  pub legal : IsLegal (history_term share.world.history)

-- each world has, in order
abbrev pub HaveAnsweredOwn : List AddressedTerm → List Numbered → List Share → Type 0
HaveAnsweredOwn lines [] [] = Unit {0}
HaveAnsweredOwn lines [] (s ∷ ss) = ⊥
HaveAnsweredOwn lines (j ∷ js) [] = ⊥
HaveAnsweredOwn lines (j ∷ js) (s ∷ ss) = HasAnsweredOwn lines j s × HaveAnsweredOwn lines js ss
