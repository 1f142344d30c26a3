-- The body of a function without parameters may be evaluated.
use Rattle.std.proofs.Common.{◌≡◌, ℕ, suc, Bool, true, false, cond, Option, Some, List, [], ◌∷◌, refl, ap, subst}
use Rattle.task_model.specs.Terms.Text.{Text, same_text}
use Rattle.task_model.specs.Terms.Env.{empty_env}
use Rattle.task_model.specs.Terms.Host.{HostTerm}
use Rattle.task_model.specs.Terms.Program.{ParamTerm, DefBodyTerm, fun_body, task_body, DefTerm}
use Rattle.task_model.specs.Running.Checked.{CheckedTerm, Function, function_of}
use Rattle.task_model.specs.Checking.Names.{Numbered, first_named}
use Rattle.task_model.specs.Running.Plan.{gives_value}
use Rattle.task_model.specs.Checking.Typing.{HasType}
use Rattle.task_model.specs.Checking.Accepted.{IsAccepted}
use Rattle.typing_laws.specs.Assumed.{calls_below}
use Rattle.typing_laws.specs.Well.{MayAsk}
use Rattle.typing_laws.proofs.ProgramLemmas.{facts_of}
use Rattle.host_eval.specs.ValueWords.{function_in, function_term}

-- the definition that a function's name means
record Named (o : Option Numbered) (g : Function) : Type 0 where
  def : Numbered
  is : o ≡ Some def
  what : def.def.what ≡ fun_body g.expr
  params : def.def.params ≡ g.params

of_function : (params : List ParamTerm) (w : DefBodyTerm) (g : Function) → function_of params w ≡ Some g
    → (w ≡ fun_body g.expr) × (params ≡ g.params)
of_function params (fun_body e) g q = let is : record { params = params; expr = e } ≡ g = cc in
    (ap (λ (z : Function). fun_body z.expr) is, ap (λ (z : Function). z.params) is)
of_function params (task_body t) g q = absurd (cc)

named : (i : ℕ) (ds : List DefTerm) (f : Text) (g : Function) → function_in ds f ≡ Some g → Named (first_named i ds f) g
named i [] f g e = absurd (cc)
named i (d ∷ ds) f g e = by_test (same_text d.name f) e (named (suc i) ds f g)
  where
    by_test : (b : Bool) → cond b (function_of d.params d.what) (function_in ds f) ≡ Some g
        → (function_in ds f ≡ Some g → Named (first_named (suc i) ds f) g)
        → Named (cond b (Some (record { index = i; def = d })) (first_named (suc i) ds f)) g
    by_test true e r = let h = of_function d.params d.what g e in
        record { def = record { index = i; def = d }; is = refl; what = h.0; params = h.1 }
    by_test false e r = r e

pub may_run : (c : CheckedTerm) → IsAccepted c → (f : Text) (e : HostTerm) → function_in c.program.defs f ≡ Some (function_term [] e)
    → MayAsk c (gives_value e empty_env [])
may_run c accepted f e q =
    let d = named 0 c.program.defs f (function_term [] e) q in
    let s = (facts_of c accepted).functions f d.def e d.is d.what in
    record {
      typing = record { places = []; type = d.def.def.result };
      assumed = record {
        below = s.below;
        scope = [];
        typed = subst (λ ps. HasType (calls_below c.program s.below) ps e d.def.def.result) d.params s.typed;
        texts = s.texts;
        names = record { names = refl; slots = tt };
        store = tt;
      };
    }
