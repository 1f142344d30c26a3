-- The texts of each world, on their way to where its lines stand.
use Rattle.std.specs.Prelude.{◌≡◌, ℕ, zero, suc, ◌+◌, List, [], ◌∷◌, length}
use Rattle.task_model.specs.Terms.Text.{Text}
use Rattle.hub_lines.specs.OwnLines.{AddressedTerm, own_lines, own_texts}

-- each world, the first of which has this number, has as many texts as lines of its own
abbrev pub AreCounted : ℕ → List (List Text) → List AddressedTerm → Type 0
AreCounted k [] lines = Unit {0}
AreCounted k (queue ∷ queues) lines = (length queue ≡ length (own_lines k lines)) × AreCounted (k + 1) queues lines

-- the texts of each world, the first of which has this number, stand at its own lines
abbrev pub StandAtOwn : ℕ → List (List Text) → List AddressedTerm → List Text → Type 0
StandAtOwn k [] lines texts = Unit {0}
StandAtOwn k (queue ∷ queues) lines texts = (own_texts k lines texts ≡ queue) × StandAtOwn (k + 1) queues lines texts

-- this text was taken from the front of the queue at this place
abbrev pub TookAt : ℕ → (old new : List (List Text)) → Text → Type 0
TookAt at [] new text = ⊥
TookAt at (queue ∷ queues) [] text = ⊥
TookAt zero (queue ∷ queues) (left ∷ others) text = (queue ≡ text ∷ left) × (queues ≡ others)
TookAt (suc at) (queue ∷ queues) (left ∷ others) text = (queue ≡ left) × TookAt at queues others text
