-- What bytes are opened to.
use Rattle.std.proofs.Common.{◌≡◌, ℕ, [], ◌∷◌, Some, None, refl, sym, ◌∙◌, ap, subst}
use Rattle.std.specs.Prelude.{Result, Ok, Err}
use Rattle.task_model.specs.Terms.Text.{Text}
use Rattle.task_model.specs.Terms.Item.{opened}
use Rattle.task_model.specs.Running.Checked.{CheckedTerm}
use Rattle.world_core.specs.World.{SeenWorld, WorldTerm}
use Rattle.tophat.specs.declared.no_world.NoWorld.{NoWorld}
use Rattle.tophat.specs.declared.no_world.NoWorld.TheVariants.{Refused, OverBudget, Memory}
use Rattle.tophat.specs.Verdict.{Verdict, refused, IsOnlyVerdict, HasVerdict, Judges}
use Rattle.tophat.specs.Top.{world_at}
use Rattle.tophat.specs.Worked.{Opens, OpensBytes, HasVerdictAfter}

-- the world at an opening
pub opened_world : (c : CheckedTerm) (budget : ℕ) (w : WorldTerm) → w.checked ≡ c → w.budget ≡ budget
    → w.history ≡ opened c.program budget ∷ [] → w.next ≡ None
    → w ≡ world_at c budget w.state
opened_world c budget w e b h r =
    ap (λ (z : CheckedTerm). record { checked = z; budget = w.budget; history = w.history; state = w.state; next = w.next }) e
    ∙ ap (λ (z : ℕ). record { checked = c; budget = z; history = w.history; state = w.state; next = w.next }) b
    ∙ ap (λ z. record { checked = c; budget = budget; history = z; state = w.state; next = w.next }) h
    ∙ ap (λ z. record { checked = c; budget = budget; history = opened c.program budget ∷ []; state = w.state; next = z }) r

-- what the one verdict on the bytes is opened to
pub only_opens : (budget : ℕ) (bytes : Text) (verdict : Verdict) (result : Result SeenWorld NoWorld) → IsOnlyVerdict bytes verdict
    → Opens budget verdict result → OpensBytes budget bytes result
only_opens budget bytes verdict result one o = λ other h. subst (λ (z : Verdict). Opens budget z result) (sym (one.only other h)) o

-- the bytes have no accepted program
pub refused_opens : (budget : ℕ) (bytes : Text) (why : NoWorld) → Judges bytes (Err why) → OpensBytes budget bytes (Err why)
refused_opens budget bytes (Refused place refusal) j =
    only_opens budget bytes (refused place refusal) (Err (Refused place refusal)) j refl
refused_opens budget bytes OverBudget j = absurd j
refused_opens budget bytes Memory j = λ verdict h. tt

pub verdict_after : {A : Type 0} (bytes : Text) (result : Result A NoWorld) → HasVerdict (Some bytes) → HasVerdictAfter result bytes
verdict_after bytes (Ok w) h = h
verdict_after bytes (Err Memory) h = tt
verdict_after bytes (Err (Refused place refusal)) h = h
verdict_after bytes (Err OverBudget) h = h

pub verdict_refused : (A : Type 0) (bytes : Text) (why : NoWorld) → Judges bytes (Err why) → HasVerdictAfter {A = A} (Err why) bytes
verdict_refused A bytes (Refused place refusal) j = (refused place refusal, j.is)
verdict_refused A bytes OverBudget j = absurd j
verdict_refused A bytes Memory j = tt

pub same_verdict_after : (A B : Type 0) (bytes : Text) (why : NoWorld) → HasVerdictAfter {A = A} (Err why) bytes
    → HasVerdictAfter {A = B} (Err why) bytes
same_verdict_after A B bytes Memory h = tt
same_verdict_after A B bytes (Refused place refusal) h = h
same_verdict_after A B bytes OverBudget h = h
