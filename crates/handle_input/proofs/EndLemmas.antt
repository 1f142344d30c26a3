-- The end of an input: what its layer was kept or dropped for, and the outcome that is told.
use Rattle.std.proofs.Common.{◌≡◌, ◌≤◌, ◌+◌, ℕ, List, map, Option, Some, None, Result, Ok, Err, sym, subst, arith}
use Rattle.std.specs.Option.{option_map}
use Rattle.std.specs.Prelude.{OnOk, IfOk, IfSome}
use Rattle.task_model.specs.Terms.Left.{Left}
use Rattle.task_model.specs.Terms.Value.{value_term}
use Rattle.task_model.specs.Terms.Tree.{tree_term, State, at}
use Rattle.task_model.specs.Terms.Input.{InputTerm}
use Rattle.task_model.specs.Running.Checked.{CheckedTerm}
use Rattle.task_model.specs.Running.Plan.{Plan}
use Rattle.task_model.specs.Running.Spends.{Spends}
use Rattle.task_model.specs.Syntax.Calls.{RunsPlan}
use Rattle.task_model.specs.Running.Judgements.{IsWithinBudget}
use Rattle.task_model.specs.Running.Handling.{interacts, Interacts}
use Rattle.task_model.specs.declared.purse.Stop.{Stop}
use Rattle.task_model.specs.declared.stops.ActStop.{ActStop}
use Rattle.task_model.specs.declared.stops.ActStop.TheVariants as acts
use Rattle.task_model.specs.declared.tree.Tree.{Tree}
use Rattle.task_model.specs.declared.value.Value.{Value}
use Rattle.task_laws.proofs.OutcomeLemmas.{none_lacks, lacks_none}
use Rattle.task_engine.proofs.SignLemmas.{ran_spends}
use Rattle.handle_input.specs.Answers.{plan_answer, told_tree, TellsOutcome}
use Rattle.handle_input.specs.declared.led.Led.{Led}

module _ {X : Type 0} (f : X → Tree) where
  abbrev pub over : List Value → Option X → Option State
  over τ = option_map (λ x. at (tree_term (f x)) (map value_term τ))

  -- what is answered at the end of the layer
  pub ran_ended : {c : CheckedTerm} {p : Plan (Option State)} {old new : Left} (τ τ' : List Value) (r : Result X ActStop)
      (answer : Result (Option X) Stop) → plan_answer r ≡ answer → OnOk r (τ' ≡ τ) → RunsPlan c p (over τ) old new answer
      → RunsPlan c p (over τ') old new (plan_answer r)
  ran_ended {c = c} {p = p} {old = old} {new = new} τ τ' (Ok t) answer e same a =
      subst (λ z. RunsPlan c p (over z) old new (Ok (Some t))) (sym same) (subst (RunsPlan c p (over τ) old new) (sym e) a)
  ran_ended {c = c} {p = p} {old = old} {new = new} τ τ' (Err acts.NotOffered) answer e same a =
      record { runs = (subst (RunsPlan c p (over τ) old new) (sym e) a).runs }
  ran_ended {c = c} {p = p} {old = old} {new = new} τ τ' (Err acts.Over) answer e same a =
      record { runs = (subst (RunsPlan c p (over τ) old new) (sym e) a).runs }
  ran_ended τ τ' (Err acts.Memory) answer e same a = record { runs = tt }

-- what holds of what an input led to holds of what is told
pub each_ended : {X : Type 0} (P : X → Type 0) (r : Result X ActStop) (answer : Result (Option X) Stop) → plan_answer r ≡ answer
    → IfOk answer (λ o. IfSome o P) → IfOk r P
each_ended P (Ok x) answer e h = subst (λ z. IfOk z (λ o. IfSome o P)) (sym e) h
each_ended P (Err s) answer e h = tt

-- the same of what is said over values that stay
pub values_ended : {X : Type 0} (P : List Value → X → Type 0) (τ τ' : List Value) (r : Result X ActStop) (answer : Result (Option X) Stop)
    → plan_answer r ≡ answer → OnOk r (τ' ≡ τ) → IfOk answer (λ o. IfSome o (P τ)) → IfOk r (P τ')
values_ended P τ τ' (Ok x) answer e same h = subst (λ z. P z x) (sym same) (subst (λ z. IfOk z (λ o. IfSome o (P τ))) (sym e) h)
values_ended P τ τ' (Err s) answer e same h = tt

pub held_ended : {X : Type 0} (P : Type 0) (r : Result X ActStop) (answer : Result (Option X) Stop) → plan_answer r ≡ answer
    → IfOk answer (λ o. IfSome o (λ x. P)) → OnOk r P
held_ended P (Ok x) answer e h = subst (λ z. IfOk z (λ o. IfSome o (λ x. P))) (sym e) h
held_ended P (Err s) answer e h = tt

abbrev tree_led : Led → Tree
tree_led led = led.tree

module _ (c : CheckedTerm) (budget : ℕ) (s : State) (i : InputTerm) (old new : Left) (units : old.units ≡ budget)
    (height : old.height ≡ 1000) where
  within : (n h : ℕ) → h ≤ old.height → old.units ≡ n + new.units → IsWithinBudget budget n h
  within n h le e = record { units = omega (arith, units, e); height = omega (arith, height, le) }

  -- the outcome that an answer within the budget tells
  outcome_told : (τ : List Value) (r : Result Led ActStop) → Spends (Interacts c s i) (over tree_led τ) old new (plan_answer r)
      → TellsOutcome c budget s i (map value_term τ) (told_tree r)
  outcome_told τ (Ok t) q = (q.0, q.1, q.2, within q.0 q.1 q.3 q.4)
  outcome_told τ (Err acts.NotOffered) q = none_lacks c budget s i q.0 q.1 q.2 (within q.0 q.1 q.3 q.4)
  outcome_told τ (Err acts.Over) q = (
    λ t d. let w = d.3 in let wu = w.units in let wh = w.height in
        q (Some t) d.0 d.1 d.2 (omega (arith, units, wu)) (omega (arith, height, wh)),
    λ d. let w = d.3 in let wu = w.units in let wh = w.height in
        q None d.0 d.1 (lacks_none c budget s i d.0 d.1 d.2) (omega (arith, units, wu)) (omega (arith, height, wh)),
  )
  outcome_told τ (Err acts.Memory) q = tt

  pub outcome_ended : (τ τ' : List Value) (r : Result Led ActStop) (answer : Result (Option Led) Stop) → plan_answer r ≡ answer
      → OnOk r (τ' ≡ τ) → RunsPlan c (interacts c s i) (over tree_led τ) old new answer
      → TellsOutcome c budget s i (map value_term τ') (told_tree r)
  outcome_ended τ τ' r answer e same a = outcome_told τ' r (ran_spends (ran_ended tree_led τ τ' r answer e same a))
