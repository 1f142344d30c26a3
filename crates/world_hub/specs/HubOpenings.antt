-- Several programs that are opened (docs/RULES.md, "Several worlds").
use Rattle.std.specs.Prelude.{◌≡◌, ℕ, ◌+◌, List, [], ◌∷◌, ◌++◌, length, None}
use Rattle.task_model.specs.Terms.Tree.{State}
use Rattle.task_model.specs.Terms.Item.{opened}
use Rattle.task_model.specs.Running.Checked.{CheckedTerm}
use Rattle.task_model.specs.Running.State.{IsOpening}
use Rattle.world_core.specs.World.{WorldTerm}

-- a world of this program, opened within the budget
pub record IsOpenedWorld (budget : ℕ) (c : CheckedTerm) (w : WorldTerm) : Type 0 where
  pub checked : w.checked ≡ c
  pub within : w.budget ≡ budget
  pub history : w.history ≡ opened c.program budget ∷ []
  pub state : IsOpening c budget w.state
  pub rest : w.next ≡ None

-- a world of each program, in order
abbrev pub AreOpenedWorlds : ℕ → List CheckedTerm → List WorldTerm → Type 0
AreOpenedWorlds budget [] [] = Unit {0}
AreOpenedWorlds budget [] (w ∷ ws) = ⊥
AreOpenedWorlds budget (c ∷ cs) [] = ⊥
AreOpenedWorlds budget (c ∷ cs) (w ∷ ws) = IsOpenedWorld budget c w × AreOpenedWorlds budget cs ws

-- The first program that has no opening within the budget has this number, which counts from 1.
pub record IsFirstOver (budget : ℕ) (cs : List CheckedTerm) (number : ℕ) : Type 0 where
  pub before : List CheckedTerm
  pub over : CheckedTerm
  pub behind : List CheckedTerm
  pub split : cs ≡ before ++ over ∷ behind
  pub at : number ≡ length before + 1
  pub worlds : List WorldTerm
  pub open_before : AreOpenedWorlds budget before worlds
  pub none : (s : State) → IsOpening over budget s → ⊥
