-- Plans that go well: what is guaranteed of the judgements that they ask for is enough for their result.
use Rattle.task_model.specs.Terms.Tree.{State}
use Rattle.task_model.specs.Running.Plan.{Judgement, strides, Derived, Plan, give, stuck, ask, unit, stride_on}

-- Where `Assumed i q` holds, the result of q has `Guaranteed i q`; i is what both speak of, as the types of the store's places.
module _ {I : Type 0} (Assumed : I → Judgement → Type 0) (Guaranteed : I → (q : Judgement) → Derived q → Type 0) where
  -- the plan never gets stuck, asks only for what may be asked for, and its result has P
  abbrev pub Good : {A : Type 0} → Plan A → (A → Type 0) → Type 0
  Good (give x) P = P x
  Good stuck P = ⊥
  Good (ask q f) P = (i : I) × Assumed i q × ((r : Derived q) → Guaranteed i q r → Good (f r) P)
  Good (unit p) P = Good p P
  Good (stride_on s f) P = (i : I) × Assumed i (strides s) × ((t : State) → Guaranteed i (strides s) t → Good (f t) P)

  -- after a stride more may follow, and what is guaranteed of them is guaranteed of all
  abbrev pub Chains : Type 0
  Chains = (i : I) (s t : State) → Assumed i (strides s) → Guaranteed i (strides s) t
      → (j : I) × Assumed j (strides t) × ((u : State) → Guaranteed j (strides t) u → Guaranteed i (strides s) u)
