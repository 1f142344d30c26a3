-- What contracts see of a desk, and what its calls do to it (docs/RULES.md, "Desks").
use Rattle.std.specs.Prelude.{◌≡◌, ℕ, ◌+◌, ◌≤◌, List, [], ◌∷◌, ◌++◌}
use mathlib.Core.List.{IsPrefix}
use Rattle.task_model.specs.Terms.Input.{InputTerm, EntryTerm}
use Rattle.task_model.specs.Terms.Item.{ItemTerm, took}
use Rattle.task_model.specs.Running.State.{IsLegal, IsPage, version_of}
use Rattle.task_model.specs.declared.widget.Face.{Face}
use Rattle.html_pages.specs.Fragments.{PageTerm}

-- A desk: its seat, the history that it has seen, its own entries, how many entries its `page` was refused, and how often its `page_at`
-- was called, up to the greatest count.
pub record DeskTerm : Type 0 where
  pub seat : ℕ
  pub seen : List ItemTerm
  pub own : List EntryTerm
  pub refusals : ℕ
  pub page_at_calls : ℕ

-- An input of a seat.
abbrev pub seat_entry : ℕ → InputTerm → EntryTerm
seat_entry seat input = record { seat = seat; input = input }

-- The history ends with this item.
abbrev pub EndsWith : ItemTerm → List ItemTerm → Type 0
EndsWith item history = (before : List ItemTerm) × (history ≡ before ++ item ∷ [])

-- The page of a history for a seat, with its version.
abbrev pub ShowsPage : Face → List ItemTerm → ℕ → PageTerm → Type 0
ShowsPage face history seat page = (page.version ≡ version_of history) × IsPage face history seat page.text

-- The seat stays. The history that is seen is legal, and goes on from the one seen before. No count falls.
pub record GoesOn (old new : DeskTerm) : Type 0 where
  pub seat : new.seat ≡ old.seat
  pub later : IsPrefix old.seen new.seen
  pub legal : IsLegal new.seen
  pub refusals : old.refusals ≤ new.refusals

-- The own entries stay, and `page_at` has then been called so often.
pub record KeepsEntries (old new : DeskTerm) (count : ℕ) : Type 0 where
  pub on : GoesOn old new
  pub own : new.own ≡ old.own
  pub calls : new.page_at_calls ≡ count

-- The input was taken: it is the last entry of what is then seen, whose version this is, and of the own entries.
pub record IsTakenBy (old new : DeskTerm) (input : InputTerm) (told : ℕ) : Type 0 where
  pub on : GoesOn old new
  pub own : new.own ≡ old.own ++ seat_entry old.seat input ∷ []
  pub calls : new.page_at_calls ≡ old.page_at_calls
  pub ends : EndsWith (took (seat_entry old.seat input)) new.seen
  pub version : told ≡ version_of new.seen
