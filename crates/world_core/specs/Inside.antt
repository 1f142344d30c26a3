-- How a world's fields hold what contracts see of it.
use Rattle.std.specs.Prelude.{◌≡◌, ℕ, ◌<◌, Bool, false, List, [], ◌∷◌, map, Option, None, Some, is_some}
use Rattle.task_model.specs.Terms.Rowed.{Rowed}
use Rattle.task_model.specs.Terms.Value.{value_term}
use Rattle.task_model.specs.Terms.Tree.{tree_term}
use Rattle.task_model.specs.Running.Checked.{SeenChecked, CheckedTerm, checked_term}
use Rattle.task_model.specs.declared.value.Value.{Value}
use Rattle.task_model.specs.declared.item.Item.{Item}
use Rattle.shared_store.specs.Layered.{Layered}
use Rattle.live_tree.specs.Live.{SeenLive, IsLive, QuietAsTold, DiffersAsTold}
use Rattle.world_core.specs.World.{SeenNext, SeenWorld, world_term, IsStanding}
use Rattle.world_core.specs.declared.prepared.Prepared.{Prepared}

-- the newest layer
abbrev pub newest_layer : List (List Value) → List Value
newest_layer [] = []
newest_layer (σ ∷ below) = σ

-- the values of the present state: while an entry is prepared they are a layer
abbrev pub present_values : Option Prepared → Layered Value → List Value
present_values None s = s.list
present_values (Some p) s = newest_layer s.layers

-- what is prepared, over the values that it leads to
abbrev pub seen_next : Option Prepared → List Value → Option SeenNext
seen_next None σ = None
seen_next (Some p) σ = Some (record { item = p.item; tree = p.live.tree; store = σ })

-- whether the table of what is prepared was made
abbrev pub next_made : Option Prepared → Bool
next_made None = false
next_made (Some p) = is_some p.live.rows

abbrev pub seen_world : SeenChecked → ℕ → List Item → SeenLive → Layered Value → Option Prepared → SeenWorld
seen_world c budget history live store next = record {
  checked = c;
  budget = budget;
  history = history;
  tree = live.tree;
  store = present_values next store;
  next = seen_next next store.list;
  drawn = is_some live.rows;
  next_drawn = next_made next;
}

-- one layer stands exactly while an entry is prepared, for which the history has room
abbrev pub HasRoom : Option Prepared → Rowed Item → Layered Value → Type 0
HasRoom None history store = store.layers ≡ []
HasRoom (Some p) history store = (0 < history.spare) × (store.layers ≡ newest_layer store.layers ∷ [])

-- the rows of what is prepared, if anything is, are those of its tree over the values that it leads to
abbrev pub NextIsLive : CheckedTerm → ℕ → Option Prepared → List Value → Type 0
NextIsLive c budget None σ = Unit {0}
NextIsLive c budget (Some p) σ = IsLive c budget (map value_term σ) p.live

-- nothing fires in the tree of what is prepared, if anything is, over the values that it leads to, if that is told
abbrev pub NextIsQuiet : Option Prepared → List Value → Type 0
NextIsQuiet None σ = Unit {0}
NextIsQuiet (Some p) σ = QuietAsTold (map value_term σ) p.live

-- the tree of what is prepared, if anything is, differs from the present one along the path that it tells, if it tells one
abbrev pub NextDiffers : Option Prepared → SeenLive → Type 0
NextDiffers None live = Unit {0}
NextDiffers (Some p) live = DiffersAsTold (tree_term live.tree) p.live

-- what the fields of every world keep: the rows are those of the present state
pub record FieldsAgree (c : SeenChecked) (budget : ℕ) (history : Rowed Item) (live : SeenLive) (store : Layered Value)
    (next : Option Prepared) : Type 0 where
  pub standing : IsStanding (world_term (seen_world c budget history.list live store next))
  pub room : HasRoom next history store
  pub rows : IsLive (checked_term c) budget (map value_term (present_values next store)) live
  pub next_rows : NextIsLive (checked_term c) budget next store.list
  pub next_differs : NextDiffers next live
  pub quiet : QuietAsTold (map value_term (present_values next store)) live
  pub next_quiet : NextIsQuiet next store.list
