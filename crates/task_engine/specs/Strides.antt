-- What strides and trials answer.
use Rattle.std.specs.Prelude.{◌≡◌, ℕ, List, map, Option, Some, None, Result, Ok, Err, ◌⊎◌, slice_get, IsSome}
use Rattle.std.specs.Option.{is_some}
use Rattle.shared_store.specs.Layered.{Layered}
use Rattle.task_model.specs.Terms.Left.{Left}
use Rattle.task_model.specs.Terms.Value.{ValueTerm, value_term}
use Rattle.task_model.specs.declared.value.Value.{Value}
use Rattle.task_model.specs.declared.purse.Stop.{Stop}
use Rattle.task_model.specs.declared.purse.Stop.TheVariants.{Memory}
use Rattle.task_model.specs.Terms.Task.{BodyTerm}
use Rattle.task_model.specs.Terms.Tree.{LaterTerm, TreeTerm, then_tree, tree_term, State, at}
use Rattle.task_model.specs.Running.Checked.{CheckedTerm, SeenChecked, checked_term}
use Rattle.task_model.specs.Running.Plan.{fails, strides, Plan, give, ask}
use Rattle.task_model.specs.Running.Rules.{branch, applied, stride_rule, value_of}
use Rattle.task_model.specs.Syntax.Calls.{RunsPlan}
use Rattle.task_model.specs.declared.tree.Tree.{Tree}
use Rattle.typing_laws.specs.Well.{MayAsk}
use Rattle.task_evaluation.specs.Stores.{values_in}
use Rattle.task_engine.specs.declared.strode.Strode.{Strode}

-- the tree after a stride: where nothing is answered it is the one that stood there
abbrev pub after_stride : TreeTerm → Option Tree → TreeTerm
after_stride t None = t
after_stride t (Some u) = tree_term u

-- the stride tells whether the tree that it leads to has a value over these values
abbrev pub TellsValue : TreeTerm → List ValueTerm → Strode → Type 0
TellsValue t σ s = s.valued ≡ is_some (value_of (after_stride t s.tree) σ)

-- a state where there is a tree
abbrev pub state_at : List ValueTerm → Option Tree → Option State
state_at σ None = None
state_at σ (Some u) = Some (at (tree_term u) σ)

-- a cont at a value, and none where what it leads to is failing
abbrev pub attempt : CheckedTerm → LaterTerm → ValueTerm → List ValueTerm → Plan (Option State)
attempt c k v σ = applied c k v σ (λ s. ask (fails s) (λ no. branch no (give None) (give (Some s))))

-- what becomes of an internal step by such an answer
abbrev pub after_attempt : LaterTerm → State → Option State → Plan State
after_attempt k s None = give (at (then_tree s.tree k) s.store)
after_attempt k s (Some s') = give s'

-- the body of a step binds a name, and the body of a side of a choice none
abbrev pub Binds : CheckedTerm → ℕ → Type 0
Binds c i = (b : BodyTerm) → slice_get c.program.bodies i ≡ Some b → IsSome b.binder

abbrev pub BindsNone : CheckedTerm → ℕ → Type 0
BindsNone c i = (b : BodyTerm) → slice_get c.program.bodies i ≡ Some b → b.binder ≡ None

-- what is answered of a stride from a tree over these values: nothing where tree and values are as they were. Whether they are may need
-- more memory than there is.
abbrev pub AnswersStride : TreeTerm → List Value → List Value → Result (Option Tree) Stop → Result (Option Tree) Stop → Type 0
AnswersStride t σ τ (Err s) r = r ≡ Err s
AnswersStride t σ τ (Ok None) r = r ≡ Ok None
AnswersStride t σ τ (Ok (Some u)) r =
    ((r ≡ Ok None) × (at (tree_term u) (map value_term τ) ≡ at t (map value_term σ)))
    ⊎ ((r ≡ Ok (Some u)) × (at (tree_term u) (map value_term τ) ≡ at t (map value_term σ) → ⊥))
    ⊎ (r ≡ Err Memory)

-- the state behind a stride from a tree
abbrev pub state_after : TreeTerm → Layered Value → Option Tree → State
state_after t s o = at (after_stride t o) (values_in s)

-- a tree may stride
abbrev pub MayStride : SeenChecked → TreeTerm → Layered Value → Type 0
MayStride c t s = MayAsk (checked_term c) (strides (at t (values_in s)))

-- a tree strode by its rule, from a store to another
abbrev pub RunsStride : SeenChecked → TreeTerm → Layered Value → Layered Value → Left → Left → Result Strode Stop → Type 0
RunsStride c t s s' = RunsPlan (checked_term c) (stride_rule (checked_term c) t (values_in s)) (λ o. state_after t s' o.tree)
