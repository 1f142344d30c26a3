-- What fits where a user step stops at the value of its left, and at the sides of a choice.
use Rattle.std.proofs.Common.{◌≡◌, List, Some}
use Rattle.task_model.specs.Terms.Value.{ValueTerm}
use Rattle.task_model.specs.Terms.Tree.{LaterTerm, TreeTerm, next_tree, xor_tree, at}
use Rattle.task_model.specs.Running.Checked.{CheckedTerm}
use Rattle.task_model.specs.Running.Rules.{value_of}
use Rattle.task_model.specs.Checking.Fits.{Fits}
use Rattle.typing_laws.proofs.TreeLemmas.{value_typed}
use Rattle.task_engine.specs.Fitting.{ContFits, SideFits}

module _ (c : CheckedTerm) (σ : List ValueTerm) where
  pub step_fits : (t : TreeTerm) (k : LaterTerm) (v : ValueTerm) → Fits c (at (next_tree t k) σ) → value_of t σ ≡ Some v → ContFits c k v σ
  step_fits t k v f e = record {
    places = f.0;
    takes = f.2.tree.0;
    gives = f.1;
    cont = f.2.tree.2;
    value = value_typed c f.0 (at t σ) f.2.tree.0 v (record { store = f.2.store; tree = f.2.tree.1 }) e;
    store = f.2.store;
  }

  pub left_fits : (j k : LaterTerm) → Fits c (at (xor_tree j k) σ) → SideFits c j σ
  left_fits j k f = record { places = f.0; gives = f.1; side = f.2.tree.0; store = f.2.store }

  pub right_fits : (j k : LaterTerm) → Fits c (at (xor_tree j k) σ) → SideFits c k σ
  right_fits j k f = record { places = f.0; gives = f.1; side = f.2.tree.1; store = f.2.store }
