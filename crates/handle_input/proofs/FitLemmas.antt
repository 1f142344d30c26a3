-- What fits where an input goes on.
use Rattle.std.proofs.Common.{◌≡◌, ℕ, ◌<◌, List, [], ◌∷◌, ◌++◌, length, map, Option, Ok, subst, arith}
use Rattle.std.proofs.lemmas.List.{length-map}
use Rattle.std.proofs.lemmas.Option.{slice_get_within}
use Rattle.task_model.specs.Terms.Left.{Left}
use Rattle.task_model.specs.Terms.Basic.{BasicTerm}
use Rattle.task_model.specs.Terms.Value.{ValueTerm, value_term}
use Rattle.task_model.specs.Terms.Env.{plain_slot}
use Rattle.task_model.specs.Terms.Tree.{LaterTerm, TreeTerm, share_tree, State, at}
use Rattle.task_model.specs.Terms.Input.{InputTerm}
use Rattle.task_model.specs.Running.Checked.{CheckedTerm}
use Rattle.task_model.specs.Running.Handling.{unless_failing, handles, settled, interacts}
use Rattle.task_model.specs.Syntax.Calls.{RunsPlan}
use Rattle.task_model.specs.Checking.Accepted.{IsAccepted}
use Rattle.task_model.specs.Checking.Fits.{Fits}
use Rattle.task_model.specs.declared.value.Value.{Value}
use Rattle.typing_laws.specs.Assumed.{Assumed, Guaranteed}
use Rattle.typing_laws.specs.Well.{Well}
use Rattle.typing_laws.proofs.GoodLemmas.{good_any}
use Rattle.typing_laws.proofs.ValueLemmas.{good_branch}
use Rattle.typing_laws.proofs.TreeLemmas.{good_trial, good_side}
use Rattle.typing_laws.proofs.ProgramLemmas.{facts_of}
use Rattle.typing_laws.proofs.HandlingLemmas.{interacts_good}
use Rattle.typing_laws.proofs.CallLemmas.{well_after}
use Rattle.task_engine.specs.Fitting.{ContFits, SideFits}
use Rattle.task_evaluation.specs.Kinds.{pair_tree}
use Rattle.task_evaluation.specs.declared.kinds.PairKind.{PairKind}
use Rattle.task_evaluation.specs.declared.kinds.PairKind.TheVariants as pairs
use Rattle.task_evaluation.proofs.AskLemmas.{types_long}

-- ---- parts of a tree that fits
module _ {c : CheckedTerm} {σ : List ValueTerm} where
  pub fits_is : {t u : TreeTerm} → t ≡ u → Fits c (at t σ) → Fits c (at u σ)
  fits_is e f = subst (λ z. Fits c (at z σ)) e f

  pub fits_pair_first : (kind : PairKind) (t u : TreeTerm) → Fits c (at (pair_tree kind t u) σ) → Fits c (at t σ)
  fits_pair_first pairs.And t u f = (f.0, f.2.tree.0, record { store = f.2.store; tree = f.2.tree.3 })
  fits_pair_first pairs.Or t u f = (f.0, f.1, record { store = f.2.store; tree = f.2.tree.0 })

  pub fits_pair_second : (kind : PairKind) (t u : TreeTerm) → Fits c (at (pair_tree kind t u) σ) → Fits c (at u σ)
  fits_pair_second pairs.And t u f = (f.0, f.2.tree.1, record { store = f.2.store; tree = f.2.tree.4 })
  fits_pair_second pairs.Or t u f = (f.0, f.1, record { store = f.2.store; tree = f.2.tree.1 })

-- the place of a shared editor is one of the store
pub share_within : {c : CheckedTerm} {b : BasicTerm} {n : ℕ} (values : List Value) → Fits c (at (share_tree b n) (map value_term values))
    → n < length values
share_within {n = n} values f =
    let within = slice_get_within f.0 n f.1 f.2.tree.1 in
    let long = types_long (map value_term values) f.0 f.2.store in
    let same = length-map values value_term in
    omega (arith, within, long, same)

-- ---- plans that go well
pub step_well : {c : CheckedTerm} {k : LaterTerm} {v : ValueTerm} {σ : List ValueTerm} → IsAccepted c → ContFits c k v σ
    → Well c (unless_failing c k.body (k.slots ++ plain_slot v ∷ []) σ)
step_well {c = c} {k = k} {v = v} {σ = σ} accepted f = record {
  good = good_trial c (facts_of c accepted) f.places k v σ f.takes f.gives _ (λ x. Unit {0}) f.cont f.value f.store
      (λ s no kept. good_branch c no _ _ (λ x. Unit {0}) tt tt);
}

pub side_well : {c : CheckedTerm} {k : LaterTerm} {σ : List ValueTerm} → IsAccepted c → SideFits c k σ
    → Well c (unless_failing c k.body k.slots σ)
side_well {c = c} {k = k} {σ = σ} accepted f = record {
  good = good_side c (facts_of c accepted) f.places k σ f.gives _ (λ x. Unit {0}) f.side f.store
      (λ s no kept. good_branch c no _ _ (λ x. Unit {0}) tt tt);
}

-- what an input led to may settle
pub settling_well : {c : CheckedTerm} {s : State} (i : InputTerm) {X : Type 0} {view : X → Option State} {old new : Left} {x : X}
    → IsAccepted c → Fits c s → RunsPlan c (handles c s i) view old new (Ok x) → Well c (settled (view x))
settling_well {c = c} {s = s} i accepted f a =
    well_after (handles c s i) settled accepted
    (record { good = good_any (Assumed c) (Guaranteed c) (interacts c s i) _ (interacts_good c (facts_of c accepted) f.0 f.1 s i f.2) }) a
