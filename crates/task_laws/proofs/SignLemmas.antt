-- A test within a budget has exactly one sign.
use Rattle.std.proofs.Common.{◌≡◌, ℕ, Bool, true, false, List, Option, Some, None, refl, sym, ◌∙◌}
use Rattle.task_model.specs.Terms.Value.{ValueTerm}
use Rattle.task_model.specs.Terms.Tree.{LaterTerm}
use Rattle.task_model.specs.Running.Checked.{CheckedTerm}
use Rattle.task_model.specs.Running.Plan.{Plan, Derives}
use Rattle.task_model.specs.Running.Rules.{trial, rule_of}
use Rattle.task_model.specs.Running.Judgements.{IsWithinBudget}
use Rattle.task_model.specs.Running.Sign.{IsSign, Test, IsStepSign}
use Rattle.task_model.specs.declared.widget.Sign.{Sign}
use Rattle.task_model.specs.declared.widget.Sign.TheVariants as signs
use Rattle.task_laws.proofs.WorkLemmas.{Agree}
use Rattle.task_laws.proofs.PlanLemmas.{agree_work, at_most_one}
use Rattle.task_laws.proofs.DecideLemmas.{Ends, ends, ends_never, plan_ends}
use Rattle.task_laws.proofs.EqualityLemmas.{same_state}

module _ (c : CheckedTerm) (budget : ℕ) where
  pub test_once : (p : Plan Bool) → Agree (Test c p) (Test c p)
  test_once p = agree_work (Derives (rule_of c)) (Derives (rule_of c)) (λ q. at_most_one (rule_of c) q) p

  -- what is failing within the budget has the sign No alone
  pub sign_failing : (p : Plan Bool) (n h : ℕ) (s : Sign) → Test c p true n h → IsWithinBudget budget n h → IsSign budget (Test c p) s
      → s ≡ signs.No
  sign_failing p n h signs.No d i r = refl
  sign_failing p n h signs.Yes d i r = let e = ((test_once p).by true false n r.0 h r.1 d r.2).0 in absurd (cc)
  sign_failing p n h signs.Over d i r = absurd (r true n h d i)

  pub sign_exists : (p : Plan Bool) → (s : Sign) × IsSign budget (Test c p) s
  sign_exists p = by_end (plan_ends same_state (rule_of c) 1000 budget p)
    where
      by_end : Ends (Test c p) budget 1000 → (s : Sign) × IsSign budget (Test c p) s
      by_end (ends true n h d l le) = (signs.No, (n, h, d, record { units = l; height = le }))
      by_end (ends false n h d l le) = (signs.Yes, (n, h, d, record { units = l; height = le }))
      by_end (ends_never none) = (signs.Over, λ b n h d w. none b n h d w.units w.height)

  pub sign_once : (p : Plan Bool) (s z : Sign) → IsSign budget (Test c p) s → IsSign budget (Test c p) z → s ≡ z
  sign_once p signs.No z d e = sym (sign_failing p d.0 d.1 z d.2 d.3 e)
  sign_once p signs.Yes signs.No d e = let f = ((test_once p).by true false e.0 d.0 e.1 d.1 e.2 d.2).0 in absurd (cc)
  sign_once p signs.Yes signs.Yes d e = refl
  sign_once p signs.Yes signs.Over d e = absurd (e false d.0 d.1 d.2 d.3)
  sign_once p signs.Over signs.No d e = absurd (d true e.0 e.1 e.2 e.3)
  sign_once p signs.Over signs.Yes d e = absurd (d false e.0 e.1 e.2 e.3)
  sign_once p signs.Over signs.Over d e = refl

  pub step_sign_exists : (o : Option ValueTerm) (k : LaterTerm) (σ : List ValueTerm) → (s : Sign) × IsStepSign c budget o k σ s
  step_sign_exists None k σ = (signs.No, refl)
  step_sign_exists (Some v) k σ = sign_exists (trial c k v σ)

  pub step_sign_once : (o : Option ValueTerm) (k : LaterTerm) (σ : List ValueTerm) (s z : Sign) → IsStepSign c budget o k σ s
      → IsStepSign c budget o k σ z → s ≡ z
  step_sign_once None k σ s z d e = d ∙ sym e
  step_sign_once (Some v) k σ s z d e = sign_once (trial c k v σ) s z d e
