-- Which trees have a value: of a tree that fits, the tree alone tells it, whatever the values of the store's places.
use Rattle.std.proofs.Common.{◌≡◌, ℕ, Bool, true, false, cond, List, Option, Some, None, Ok, refl, sym, ap, ◌∙◌}
use Rattle.std.specs.Prelude.{slice_get}
use Rattle.std.specs.Option.{is_some, option_or}
use Rattle.task_model.specs.Terms.Left.{Left}
use Rattle.task_model.specs.Terms.Basic.{BasicTerm}
use Rattle.task_model.specs.Terms.Value.{ValueTerm}
use Rattle.task_model.specs.Terms.Tree.{TreeTerm, edit_tree, enter_tree, share_tree, then_tree, next_tree, fail_tree, and_tree, or_tree, xor_tree, State, at}
use Rattle.task_model.specs.Running.Checked.{CheckedTerm}
use Rattle.task_model.specs.Running.Plan.{strides}
use Rattle.task_model.specs.Running.Rules.{value_of}
use Rattle.task_model.specs.Syntax.Calls.{RunsJudgement}
use Rattle.task_model.specs.Checking.Accepted.{IsAccepted}
use Rattle.task_model.specs.Checking.Fits.{StoreHas, TreeHas}
use Rattle.typing_laws.specs.Well.{MayAsk}
use Rattle.typing_laws.proofs.OperatorLemmas.{SomeHas}
use Rattle.typing_laws.proofs.FitLemmas.{store_get, tree_grows}
use Rattle.typing_laws.proofs.ValueLemmas.{types_at}
use Rattle.typing_laws.proofs.RuleLemmas.{derives_typed}
use Rattle.task_engine.proofs.QuietLemmas.{both}

-- whether a tree has a value where each place that it shares is there
abbrev valued : TreeTerm → Bool
valued (edit_tree b v) = true
valued (enter_tree b) = false
valued (share_tree b n) = true
valued (then_tree t k) = false
valued (next_tree t k) = false
valued fail_tree = false
valued (and_tree t u) = cond (valued t) (valued u) false
valued (or_tree t u) = cond (valued t) true (valued u)
valued (xor_tree j k) = false

either : (o p : Option ValueTerm) → cond (is_some o) true (is_some p) ≡ is_some (option_or o p)
either None p = refl
either (Some v) p = refl

there : (o : Option ValueTerm) (b : BasicTerm) → SomeHas o b → is_some o ≡ true
there None b h = absurd h
there (Some v) b h = refl

module _ (c : CheckedTerm) where
  valued_is : (Σ : List BasicTerm) (t : TreeTerm) (σ : List ValueTerm) (b : BasicTerm) → StoreHas σ Σ → TreeHas c Σ t b
      → is_some (value_of t σ) ≡ valued t
  valued_is Σ (edit_tree a v) σ b s h = refl
  valued_is Σ (enter_tree a) σ b s h = refl
  valued_is Σ (share_tree a n) σ b s h = there (slice_get σ n) b (store_get σ Σ n b s h.1)
  valued_is Σ (then_tree t k) σ b s h = refl
  valued_is Σ (next_tree t k) σ b s h = refl
  valued_is Σ fail_tree σ b s h = refl
  valued_is Σ (and_tree t u) σ b s h =
      sym (both (value_of t σ) (value_of u σ))
      ∙ ap (λ z. cond z (is_some (value_of u σ)) false) (valued_is Σ t σ h.0 s h.3)
      ∙ ap (λ z. cond (valued t) z false) (valued_is Σ u σ h.1 s h.4)
  valued_is Σ (or_tree t u) σ b s h =
      sym (either (value_of t σ) (value_of u σ))
      ∙ ap (λ z. cond z true (is_some (value_of u σ))) (valued_is Σ t σ b s h.0)
      ∙ ap (λ z. cond (valued t) true z) (valued_is Σ u σ b s h.1)
  valued_is Σ (xor_tree j k) σ b s h = refl

-- a place that is shared is there
pub share_valued : {c : CheckedTerm} {σ : List ValueTerm} (b : BasicTerm) (n : ℕ) → MayAsk c (strides (at (share_tree b n) σ))
    → true ≡ is_some (slice_get σ n)
share_valued {c = c} {σ = σ} b n m =
    sym (valued_is c m.typing.places (share_tree b n) σ m.typing.type m.assumed.store m.assumed.tree)

-- While the second of two parts strides, the first has a value or none as before.
module _ {c : CheckedTerm} {X Y : Type 0} {view : X → State} {view' : Y → State} {old new old' new' : Left} {x : X} {y : Y} where
  stays : {σ : List ValueTerm} (Σ : List BasicTerm) (t u : TreeTerm) (a d : BasicTerm) → IsAccepted c → StoreHas σ Σ → TreeHas c Σ t a
      → TreeHas c Σ u d → RunsJudgement c (strides (at t σ)) view old new (Ok x)
      → RunsJudgement c (strides (at u (view x).store)) view' old' new' (Ok y)
      → is_some (value_of (view x).tree (view x).store) ≡ is_some (value_of (view x).tree (view' y).store)
  stays {σ = σ} Σ t u a d accepted s h q one two =
      let first = derives_typed c accepted old.height (types_at Σ a) (strides (at t σ)) (record { store = s; tree = h }) (view x) one.runs.0
      one.runs.1 one.runs.2 in
      let second = derives_typed c accepted old'.height (types_at first.0 d) (strides (at u (view x).store))
      (record { store = first.2.store; tree = tree_grows Σ first.0 first.1 c u d q }) (view' y) two.runs.0 two.runs.1 two.runs.2 in
      valued_is c first.0 (view x).tree (view x).store a first.2.store first.2.tree
      ∙ sym (valued_is c second.0 (view x).tree (view' y).store a second.2.store
      (tree_grows first.0 second.0 second.1 c (view x).tree a first.2.tree))

  pub stays_in_and : {σ : List ValueTerm} (t u : TreeTerm) → IsAccepted c → MayAsk c (strides (at (and_tree t u) σ))
      → RunsJudgement c (strides (at t σ)) view old new (Ok x)
      → RunsJudgement c (strides (at u (view x).store)) view' old' new' (Ok y)
      → is_some (value_of (view x).tree (view x).store) ≡ is_some (value_of (view x).tree (view' y).store)
  stays_in_and t u accepted m one two =
      let h = m.assumed.tree in stays m.typing.places t u h.0 h.1 accepted m.assumed.store h.3 h.4 one two

  pub stays_in_or : {σ : List ValueTerm} (t u : TreeTerm) → IsAccepted c → MayAsk c (strides (at (or_tree t u) σ))
      → RunsJudgement c (strides (at t σ)) view old new (Ok x)
      → RunsJudgement c (strides (at u (view x).store)) view' old' new' (Ok y)
      → is_some (value_of (view x).tree (view x).store) ≡ is_some (value_of (view x).tree (view' y).store)
  stays_in_or t u accepted m one two =
      let h = m.assumed.tree in stays m.typing.places t u m.typing.type m.typing.type accepted m.assumed.store h.0 h.1 one two
