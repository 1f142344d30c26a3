-- Steps of trees that fit.
use Rattle.std.proofs.Common.{◌≡◌, true, List, Some, subst}
use Rattle.task_model.specs.Terms.Basic.{BasicTerm}
use Rattle.task_model.specs.Terms.Value.{ValueTerm, value_has}
use Rattle.task_model.specs.Terms.Tree.{LaterTerm, TreeTerm, then_tree, next_tree, and_tree, or_tree, at}
use Rattle.task_model.specs.Running.Checked.{CheckedTerm}
use Rattle.task_model.specs.Checking.Fits.{Fits, TreeHas, LaterHas}
use Rattle.task_engine.specs.Fitting.{ContFits}
use Rattle.testing_engine.specs.StepFits.{StepFits}

-- the editor of a tree has this type
abbrev pub IsTyped : TreeTerm → BasicTerm → Type 0
IsTyped t b = (c : CheckedTerm) (Σ : List BasicTerm) (a : BasicTerm) → TreeHas c Σ t a → a ≡ b

-- the step of a tree
abbrev pub HasStep : TreeTerm → LaterTerm → BasicTerm → Type 0
HasStep t k b = (c : CheckedTerm) (σ : List ValueTerm) → Fits c (at t σ) → StepFits c k b σ

pub then_step : (t : TreeTerm) (k : LaterTerm) (b : BasicTerm) → IsTyped t b → HasStep (then_tree t k) k b
then_step t k b e c σ f = record {
  places = f.0;
  gives = f.1;
  cont = subst (λ a. LaterHas c f.0 k (Some a) f.1) (e c f.0 f.2.tree.0 f.2.tree.1) f.2.tree.2;
  store = f.2.store;
}

pub next_step : (t : TreeTerm) (k : LaterTerm) (b : BasicTerm) → IsTyped t b → HasStep (next_tree t k) k b
next_step t k b e c σ f = record {
  places = f.0;
  gives = f.1;
  cont = subst (λ a. LaterHas c f.0 k (Some a) f.1) (e c f.0 f.2.tree.0 f.2.tree.1) f.2.tree.2;
  store = f.2.store;
}

pub in_then : (t : TreeTerm) (j k : LaterTerm) (b : BasicTerm) → HasStep t k b → HasStep (then_tree t j) k b
in_then t j k b h c σ f = h c σ (f.0, f.2.tree.0, record { store = f.2.store; tree = f.2.tree.1 })

pub in_next : (t : TreeTerm) (j k : LaterTerm) (b : BasicTerm) → HasStep t k b → HasStep (next_tree t j) k b
in_next t j k b h c σ f = h c σ (f.0, f.2.tree.0, record { store = f.2.store; tree = f.2.tree.1 })

pub in_first : (t u : TreeTerm) (k : LaterTerm) (b : BasicTerm) → HasStep t k b → HasStep (and_tree t u) k b
in_first t u k b h c σ f = h c σ (f.0, f.2.tree.0, record { store = f.2.store; tree = f.2.tree.3 })

pub in_second : (t u : TreeTerm) (k : LaterTerm) (b : BasicTerm) → HasStep u k b → HasStep (and_tree t u) k b
in_second t u k b h c σ f = h c σ (f.0, f.2.tree.1, record { store = f.2.store; tree = f.2.tree.4 })

pub in_left : (t u : TreeTerm) (k : LaterTerm) (b : BasicTerm) → HasStep t k b → HasStep (or_tree t u) k b
in_left t u k b h c σ f = h c σ (f.0, f.1, record { store = f.2.store; tree = f.2.tree.0 })

pub in_right : (t u : TreeTerm) (k : LaterTerm) (b : BasicTerm) → HasStep u k b → HasStep (or_tree t u) k b
in_right t u k b h c σ f = h c σ (f.0, f.1, record { store = f.2.store; tree = f.2.tree.1 })

pub cont_fits : {c : CheckedTerm} {k : LaterTerm} {b : BasicTerm} {σ : List ValueTerm} {v : ValueTerm} → StepFits c k b σ
    → value_has v b ≡ true → ContFits c k v σ
cont_fits {b = b} f h = record { places = f.places; takes = b; gives = f.gives; cont = f.cont; value = h; store = f.store }
