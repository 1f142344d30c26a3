-- Worlds that were opened, one after the other.
use Rattle.std.proofs.Common.{ℕ, List, [], ◌∷◌, ◌++◌}
use Rattle.task_model.specs.Running.Checked.{CheckedTerm}
use Rattle.world_core.specs.World.{WorldTerm}
use Rattle.world_hub.specs.HubOpenings.{IsOpenedWorld, AreOpenedWorlds}

-- one more
pub opened_more : (budget : ℕ) (cs : List CheckedTerm) (ws : List WorldTerm) (c : CheckedTerm) (w : WorldTerm) → AreOpenedWorlds budget cs ws
    → IsOpenedWorld budget c w → AreOpenedWorlds budget (cs ++ c ∷ []) (ws ++ w ∷ [])
opened_more budget [] [] c w h is = (is, tt)
opened_more budget [] (v ∷ ws) c w h is = absurd h
opened_more budget (d ∷ cs) [] c w h is = absurd h
opened_more budget (d ∷ cs) (v ∷ ws) c w h is = (h.0, opened_more budget cs ws c w h.1 is)
