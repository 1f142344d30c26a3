-- The widgets of a tree whose table was made, and of the present state.
use Rattle.std.proofs.Common.{◌≡◌, ℕ, List, map, Option, Some, None, Result, sym, subst}
use Rattle.std.specs.Prelude.{IfOk}
use Rattle.task_model.specs.Terms.Rowed.{Rowed}
use Rattle.std.proofs.lemmas.Result.{IfOk-weaker}
use Rattle.task_model.specs.Terms.Value.{ValueTerm, value_term}
use Rattle.task_model.specs.Terms.Tree.{tree_term}
use Rattle.task_model.specs.Running.Checked.{SeenChecked, CheckedTerm, checked_term}
use Rattle.task_model.specs.Showing.Widget.{AreWidgets, widget_term}
use Rattle.task_model.specs.declared.tree.Tree.{Tree}
use Rattle.task_model.specs.declared.value.Value.{Value}
use Rattle.task_model.specs.declared.item.Item.{Item}
use Rattle.task_model.specs.declared.widget.Widget.{Widget}
use Rattle.shared_store.specs.Layered.{Layered}
use Rattle.live_tree.specs.Live.{SeenLive, IsLive}
use Rattle.world_core.specs.Pages.{AreWorldWidgets}
use Rattle.world_core.specs.declared.prepared.Prepared.{Prepared}
use Rattle.world_core.proofs.KeptLemmas.{world}

-- the widgets of a tree whose table was made are those of the tree before over its values
pub widgets_of : {E : Type 0} (c : CheckedTerm) (budget : ℕ) (before live : SeenLive) (σ τ : List ValueTerm) (r : Result (Rowed Widget) E)
    → live.tree ≡ before.tree → τ ≡ σ → IsLive c budget σ live
    → IfOk r (λ ws. (p : CheckedTerm) (b : ℕ) → IsLive p b τ live → AreWidgets p b (tree_term live.tree) τ (map widget_term ws.list))
    → IfOk r (λ ws. AreWidgets c budget (tree_term before.tree) σ (map widget_term ws.list))
widgets_of c budget before live σ τ r tree same live_is p =
    IfOk-weaker r (λ ws. (p : CheckedTerm) (b : ℕ) → IsLive p b τ live → AreWidgets p b (tree_term live.tree) τ (map widget_term ws.list))
    (λ ws. AreWidgets c budget (tree_term before.tree) σ (map widget_term ws.list))
    (λ ws q. subst (λ (t : Tree). AreWidgets c budget (tree_term t) σ (map widget_term ws.list)) tree
    (subst (λ ρ. AreWidgets c budget (tree_term live.tree) ρ (map widget_term ws.list)) same
    (q c budget (subst (λ ρ. IsLive c budget ρ live) (sym same) live_is)))) p

-- the widgets of the present state are the world's
pub widgets_shown : (c : SeenChecked) (budget : ℕ) (h : Rowed Item) (live : SeenLive) (s : Layered Value) {E : Type 0} (next : Option Prepared)
    (r : Result (Rowed Widget) E) → next ≡ None
    → IfOk r (λ ws. AreWidgets (checked_term c) budget (tree_term live.tree) (map value_term s.list) (map widget_term ws.list))
    → IfOk r (λ ws. AreWorldWidgets (world c budget h live s next) (map widget_term ws.list))
widgets_shown c budget h live s None r e p = p
widgets_shown c budget h live s (Some n) r e p = absurd cc
