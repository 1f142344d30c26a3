-- What several worlds answer, each to its own lines (docs/RULES.md, "Several worlds").
use Rattle.std.specs.Prelude.{◌≡◌, ℕ, zero, suc, ◌+◌, List, [], ◌∷◌, length, Option, None, slice_get}
use Rattle.std.specs.List.{All}
use Rattle.task_model.specs.Terms.Text.{Text}
use Rattle.world_core.specs.World.{SeenWorld, WorldTerm}
use Rattle.world_answers.specs.LineAnswers.{AnswersInTurn}
use Rattle.world_answers.specs.declared.line_form.LineForm.TheVariants.{Script}
use Rattle.hub_lines.specs.HubLines.{IsWorldCount}
use Rattle.hub_lines.specs.OwnLines.{AddressedTerm, own_lines, own_texts}

-- there are 1 to 16 worlds, and nothing is prepared in them
pub record AreWorlds (worlds : List SeenWorld) : Type 0 where
  pub count : IsWorldCount (length worlds)
  pub rest : All (λ w. w.next ≡ None) worlds

-- the world of a number, which counts from 1
abbrev pub world_numbered : List SeenWorld → ℕ → Option SeenWorld
world_numbered worlds zero = None
world_numbered worlds (suc k) = slice_get worlds k

-- each world, the first of which has this number, answers its own lines in turn, by the texts that stand at them
abbrev pub EachAnswersOwn : ℕ → List WorldTerm → List AddressedTerm → List Text → List WorldTerm → Type 0
EachAnswersOwn k [] lines texts [] = Unit {0}
EachAnswersOwn k [] lines texts (next ∷ nexts) = ⊥
EachAnswersOwn k (w ∷ worlds) lines texts [] = ⊥
EachAnswersOwn k (w ∷ worlds) lines texts (next ∷ nexts) =
    AnswersInTurn Script w (own_lines k lines) (own_texts k lines texts) next × EachAnswersOwn (k + 1) worlds lines texts nexts

-- There is one text for each line, and at the lines of each world stand the texts by which it answers those alone.
pub record AreHubTexts (worlds : List WorldTerm) (lines : List AddressedTerm) (texts : List Text) (after : List WorldTerm) : Type 0 where
  pub count : length texts ≡ length lines
  pub each : EachAnswersOwn 1 worlds lines texts after
