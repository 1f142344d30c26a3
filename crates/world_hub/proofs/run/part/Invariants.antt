use Rattle.std.proofs.Common.{◌≡◌, ◌++◌, length, map}
use Rattle.world_hub.specs.Shares.{share_texts}
use Rattle.world_hub.proofs.run.part.Given as goal

abbrev pub invariant-loop-share : goal.invariant-loop-share
invariant-loop-share l =
    (map (λ s. s.world) l.fn.shares.items ≡ l.worlds.items ++ map (λ s. s.world) l.rest.items)
    × (map share_texts l.fn.shares.items ≡ map (λ q. map (λ t. t.list) q.items) l.texts.items ++ map share_texts l.rest.items)

abbrev pub decreases-loop-share : goal.decreases-loop-share
decreases-loop-share l = length l.rest.items
