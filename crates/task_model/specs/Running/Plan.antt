-- Judgements, and what a rule does with its parts: the derivations that it asks for, in order, and what it makes of their
-- results (docs/RULES.md, "Units and heights").
use Rattle.std.specs.Prelude.{◌≡◌, ◌≢◌, ℕ, zero, suc, ◌+◌, max, Bool, List, Option, Some, None}
use Rattle.task_model.specs.Terms.Value.{ValueTerm}
use Rattle.task_model.specs.Terms.Env.{EnvTerm}
use Rattle.task_model.specs.Terms.Host.{HostTerm}
use Rattle.task_model.specs.Terms.Task.{TaskTerm}
use Rattle.task_model.specs.Terms.Tree.{State}
use Rattle.task_model.specs.Running.Work.{Work, never, gives, then_on, rule, unit_and}

-- What may be derived: an expression gives a value; a task evaluates to a state; a state is failing or not, strides on or settles;
-- a task is normalised. A list of values is the store.
pub data Judgement : Type 0 where
  gives_value : HostTerm → EnvTerm → List ValueTerm → Judgement
  evaluates : TaskTerm → EnvTerm → List ValueTerm → Judgement
  fails : State → Judgement
  strides : State → Judgement
  settles : State → Judgement
  normal : TaskTerm → EnvTerm → List ValueTerm → Judgement

-- what a judgement gives where it is derived: a value, a state, or whether it fails
abbrev pub Derived : Judgement → Type 0
Derived (gives_value e env σ) = ValueTerm
Derived (evaluates t env σ) = State
Derived (fails s) = Bool
Derived (strides s) = State
Derived (settles s) = State
Derived (normal t env σ) = State

-- what the rules of a judgement do, step by step: what is derived, what is paid, and the result
pub data Plan (A : Type 0) : Type 0 where
  -- the rule's result
  give : A → Plan A
  -- no rule fits
  stuck : Plan A
  -- a derivation, and what follows from its result
  ask : (q : Judgement) → (Derived q → Plan A) → Plan A
  -- one unit
  unit : Plan A → Plan A
  -- strides until one changes nothing, and then with the last state
  stride_on : State → (State → Plan A) → Plan A

-- one plan and then another
abbrev pub after : {A B : Type 0} → Plan A → (A → Plan B) → Plan B
after (give x) f = f x
after stuck f = stuck
after (ask q g) f = ask q (λ r. after (g r) f)
after (unit p) f = unit (after p f)
after (stride_on s g) f = stride_on s (λ t. after (g t) f)

-- what there is, or no rule
abbrev pub known : {X A : Type 0} → Option X → (X → Plan A) → Plan A
known None f = stuck
known (Some x) f = f x

-- A nonempty list of strides: the last one changes neither tree nor store, and every other one changes something. Each costs one
-- unit besides its own.
pub data StrideList (one : State → Work State) : State → State → ℕ → ℕ → Type 0 where
  last_stride : (s s' : State) (n m h : ℕ) → one s s' n h → s' ≡ s → m ≡ suc n → StrideList one s s' m h
  more_strides : (s s1 s' : State) (n n' m h h' g : ℕ) → one s s1 n h → s1 ≢ s → StrideList one s1 s' n' h' → m ≡ suc (n + n')
      → g ≡ max h h' → StrideList one s s' m g

abbrev pub Parts : Type 1
Parts = (q : Judgement) → Work (Derived q)

-- the work of a plan over the derivations of its parts: units are summed, and the height is the greatest
abbrev pub plan_work : {A : Type 0} → Parts → Plan A → Work A
plan_work part (give x) = gives x
plan_work part stuck = never
plan_work part (ask q f) = then_on (part q) (λ r. plan_work part (f r))
plan_work part (unit p) = unit_and (plan_work part p)
plan_work part (stride_on s f) = then_on (StrideList (λ t. part (strides t)) s) (λ t. plan_work part (f t))

-- derivations of a height of at most k, where `step` has the rule of each judgement
abbrev pub derives_at : ((q : Judgement) → Plan (Derived q)) → ℕ → (q : Judgement) → Work (Derived q)
derives_at step zero q = never
derives_at step (suc k) q = rule (plan_work (derives_at step k) (step q))

-- q has this result, these units and this height
abbrev pub Derives : ((q : Judgement) → Plan (Derived q)) → (q : Judgement) → Work (Derived q)
Derives step q r n h = (k : ℕ) × derives_at step k q r n h
