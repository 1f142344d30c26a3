-- What the callers of trials and of tests are told.
use Rattle.std.proofs.Common.{◌≡◌, ℕ, Bool, true, false, Result, Ok, Err, IfOk, subst, sym, arith}
use Rattle.task_model.specs.Terms.Left.{Left}
use Rattle.task_model.specs.Running.Spends.{Spends}
use Rattle.task_model.specs.Running.Checked.{CheckedTerm}
use Rattle.task_model.specs.Running.Plan.{Plan, plan_work, derives_at, Derives}
use Rattle.task_model.specs.Running.Rules.{rule_of}
use Rattle.task_model.specs.Running.Judgements.{IsWithinBudget}
use Rattle.task_model.specs.Running.Sign.{IsSign, Test}
use Rattle.task_model.specs.Syntax.Calls.{RunsPlan}
use Rattle.task_model.specs.declared.purse.Stop.{Stop}
use Rattle.task_model.specs.declared.purse.Stop.TheVariants.{Over, Memory}
use Rattle.task_model.specs.declared.memory.OutOfMemory.{OutOfMemory}
use Rattle.task_model.specs.declared.widget.Sign.{Sign}
use Rattle.task_laws.proofs.PlanLemmas.{low_work, under_work, under_at, low_back, low_derives}
use Rattle.task_engine.specs.TestAnswers.{TellsSign}

-- what the callers of a plan that is no rule are told
pub ran_spends : {c : CheckedTerm} {A X : Type 0} {p : Plan A} {view : X → A} {old new : Left} {r : Result X Stop}
    → RunsPlan c p view old new r → Spends (plan_work (Derives (rule_of c)) p) view old new r
ran_spends {c = c} {p = p} {view = view} {old = old} {r = Ok x} a =
    let q = a.runs in
    let step = rule_of c in
    let H = old.height in
    let le = (under_work H (derives_at step H) (under_at step H) p).by (view x) q.0 q.1 q.2 in
    (q.0, q.1, (low_work H (derives_at step H) (Derives step) (low_back step H) p).by (view x) q.0 q.1 q.2 le, le, q.3, q.4)
ran_spends {c = c} {p = p} {old = old} {r = Err Over} a = λ v n h d le lh.
    let step = rule_of c in
    let H = old.height in
    a.runs v n h ((low_work H (Derives step) (derives_at step H) (low_derives step H) p).by v n h d lh) le
ran_spends {r = Err Memory} a = tt

-- a test that ends within a purse of the budget
within_purse : {c : CheckedTerm} (budget : ℕ) (p : Plan Bool) {old new : Left} (failing : Bool) → old.units ≡ budget → old.height ≡ 1000
    → RunsPlan c p (λ b. b) old new (Ok failing) → (n : ℕ) × (h : ℕ) × Test c p failing n h × IsWithinBudget budget n h
within_purse budget p failing u h a =
    let q = ran_spends a in
    let le = q.3 in
    let spent = q.4 in (
      q.0,
      q.1,
      q.2,
      record {
        units = omega (arith, u, spent);
        height = omega (arith, h, le);
      },
    )

-- the sign of a test that has a purse of its own
pub sign_is : {c : CheckedTerm} (budget : ℕ) (p : Plan Bool) {old new : Left} (r : Result Bool Stop) (s : Result Sign OutOfMemory)
    → old.units ≡ budget → old.height ≡ 1000 → RunsPlan c p (λ b. b) old new r → TellsSign r s → IfOk s (λ z. IsSign budget (Test c p) z)
sign_is {c = c} budget p (Ok true) s u h a e =
    subst (λ x. IfOk x (λ z. IsSign budget (Test c p) z)) (sym e) (within_purse budget p true u h a)
sign_is {c = c} budget p (Ok false) s u h a e =
    subst (λ x. IfOk x (λ z. IsSign budget (Test c p) z)) (sym e) (within_purse budget p false u h a)
sign_is {c = c} budget p {old = old} (Err Over) s u h a e =
    let q = ran_spends a in
    subst (λ x. IfOk x (λ z. IsSign budget (Test c p) z)) (sym e) (λ b n g d w. let wu = w.units in let wh = w.height in
    q b n g d (omega (arith, u, wu)) (omega (arith, h, wh)))
sign_is budget p (Err Memory) (Ok z) u h a e = absurd e
sign_is budget p (Err Memory) (Err x) u h a e = tt
