-- Openings and the states of histories fit their programs.
use Rattle.std.proofs.Common.{◌≡◌, ℕ, suc, Bool, true, false, cond, List, [], ◌∷◌, ◌++◌, length, Option, Some, None, refl, sym, ap, ◌∙◌, subst, arith}
use Rattle.std.specs.Prelude.{◌==◌}
use Rattle.std.proofs.lemmas.Bool.Decides.{nat_tests}
use Rattle.std.proofs.lemmas.List.Elements.{All-nil}
use Rattle.task_model.specs.Terms.Text.{same_text}
use Rattle.task_model.specs.Terms.Basic.{BasicTerm}
use Rattle.task_model.specs.Terms.Env.{empty_env}
use Rattle.task_model.specs.Terms.Task.{TaskTerm, call_task}
use Rattle.task_model.specs.Terms.Tree.{State}
use Rattle.task_model.specs.Terms.Program.{ParamTerm, DefBodyTerm, fun_body, task_body, DefTerm, ProgramTerm, main_name}
use Rattle.task_model.specs.Terms.Item.{ItemTerm, opened, took}
use Rattle.task_model.specs.Running.Checked.{CheckedTerm}
use Rattle.task_model.specs.Checking.Names.{Numbered, first_named, result_of}
use Rattle.task_model.specs.Checking.TypeFault.{IsMet, arity}
use Rattle.task_model.specs.Checking.TaskDemands.{main_parameters, main_what, main_kind, from_parameters, definitions}
use Rattle.task_model.specs.Terms.Host.{no_exprs}
use Rattle.task_model.specs.Running.Plan.{normal}
use Rattle.task_model.specs.Checking.Typing.{HaveTypes}
use Rattle.task_model.specs.Running.State.{IsOpening, LeadTo, IsReached}
use Rattle.task_model.specs.Checking.Accepted.{IsAccepted}
use Rattle.task_model.specs.Checking.ProgramParts.{task_part, of_opening}
use Rattle.task_model.specs.Checking.Fits.{any_call, StateHas}
use Rattle.host_types.proofs.TypingLemmas.{first, second, no_unmet, demanded_true}
use Rattle.typing_laws.specs.Assumed.{IsListed, EvaluationFits, main_type}
use Rattle.typing_laws.proofs.ValueLemmas.{types_at}
use Rattle.typing_laws.proofs.TaskLemmas.{Keeps}
use Rattle.typing_laws.proofs.RuleLemmas.{derives_typed}
use Rattle.typing_laws.proofs.ProgramLemmas.{all_met}
use Rattle.typing_laws.proofs.HandlingLemmas.{interacts_typed}

module _ (p : ProgramTerm) where
  -- what is demanded last: that there is a task `main`
  last_met : (i n : ℕ) (ds : List DefTerm) → IsMet (definitions p i n ds) → (m : ℕ) × IsMet (main_kind m (first_named 0 p.defs main_name))
  last_met i n [] h = (n, h)
  last_met i n (d ∷ ds) h = last_met (suc i) _ ds (second h)

  no_parameters : (i m : ℕ) (d : DefTerm) (s : List ParamTerm) (n : ℕ) (qs : List ParamTerm) → IsMet (from_parameters p i m d s n qs)
      → IsMet (main_parameters m d.name (length d.params) d.what)
  no_parameters i m d s n [] h = first (second h)
  no_parameters i m d s n (q ∷ qs) h = no_parameters i m d (s ++ q ∷ []) (suc n) qs (second h)

  empty_parameters : (n : ℕ) (d : DefTerm) (t : TaskTerm) → d.what ≡ task_body t → same_text d.name main_name ≡ true
      → IsMet (main_parameters n d.name (length d.params) d.what) → d.params ≡ []
  empty_parameters n d t what name h =
      by_length d.params
      (ap (λ b. cond b (length d.params == 0) true) (sym name)
      ∙ demanded_true (cond (same_text d.name main_name) (length d.params == 0) true) n (arity 0 (length d.params))
      (subst (λ w. IsMet (main_parameters n d.name (length d.params) w)) what h))
    where
      by_length : (qs : List ParamTerm) → (length qs == 0) ≡ true → qs ≡ []
      by_length [] e = refl
      by_length (q ∷ qs) e = absurd (grind (arith, nat_tests))

  -- the definition that is found by the name of `main`
  main_params : (i n : ℕ) (ds : List DefTerm) → IsMet (definitions p i n ds) → (d : Numbered) (t : TaskTerm)
      → first_named i ds main_name ≡ Some d → d.def.what ≡ task_body t → d.def.params ≡ []
  main_params i n [] h d t e what = absurd (cc)
  main_params i n (x ∷ ds) h d t e what = by_test (same_text x.name main_name) refl e (λ z. main_params (suc i) _ ds (second h) d t z what)
    where
      by_test : (b : Bool) → same_text x.name main_name ≡ b → cond b (Some (record { index = i; def = x })) (first_named
          (suc i) ds main_name) ≡ Some d
          → (first_named (suc i) ds main_name ≡ Some d → d.def.params ≡ []) → d.def.params ≡ []
      by_test false name z rest = rest z
      by_test true name z rest =
          let here : record { index = i; def = x } ≡ d = cc in
          let def : x ≡ d.def = ap (λ (q : Numbered). q.def) here in
          subst (λ (q : DefTerm). q.params ≡ []) def
          (empty_parameters n x t (ap (λ (q : DefTerm). q.what) def ∙ what) name (no_parameters i n x [] (suc n) x.params (second
          (first h))))

  main_is_task : (n : ℕ) (w : DefBodyTerm) → IsMet (main_what n w) → (t : TaskTerm) × (w ≡ task_body t)
  main_is_task n (fun_body e) h = absurd (no_unmet h)
  main_is_task n (task_body t) h = (t, refl)

  main_there : (n : ℕ) (o : Option Numbered) → IsMet (main_kind n o) → (d : Numbered) × (o ≡ Some d) × (t : TaskTerm) ×
      (d.def.what ≡ task_body t)
  main_there n None h = absurd (no_unmet h)
  main_there n (Some d) h = let (t, e) = main_is_task n d.def.what h in (d, refl, t, e)

module _ (c : CheckedTerm) (accepted : IsAccepted c) where
  pub main_fits : EvaluationFits c (types_at [] (main_type c.program)) (call_task main_name []) empty_env []
  main_fits =
      let met = all_met c accepted in
      let last = last_met c.program 0 0 c.program.defs met in
      let (d, is, t, what) = main_there c.program last.0 (first_named 0 c.program.defs main_name) last.1 in
      let params = main_params c.program 0 0 c.program.defs met d t is what in
      record {
        scope = [];
        part = of_opening [] (task_part (call_task main_name [])) refl refl;
        fits = record {
          typed = (
            d,
            record { first = is; body = t; task = what; open' = refl },
            ap result_of is,
            subst (λ qs. HaveTypes (any_call c.program) [] no_exprs qs) (sym params) tt,
          );
          behind = c.types;
          lists = refl;
        };
        stands = record { placed = tt; starts = All-nil (IsListed c.program); sides = tt; texts = tt };
        names = record { names = refl; slots = tt };
        store = tt;
      }

  pub opening_kept : (budget : ℕ) (s : State) → IsOpening c budget s → Keeps c [] (main_type c.program) s
  opening_kept budget s o = let d = o.2 in derives_typed c accepted d.0 (types_at [] (main_type c.program)) (normal
      (call_task main_name []) empty_env []) main_fits s o.0 o.1 d.1

  led_kept : (budget : ℕ) (items : List ItemTerm) (Σ : List BasicTerm) (b : BasicTerm) (s t : State) → StateHas c Σ s b
      → LeadTo c budget s items t
      → (Σ' : List BasicTerm) × StateHas c Σ' t b
  led_kept budget [] Σ b s t h e = (Σ, subst (λ z. StateHas c Σ z b) (sym e) h)
  led_kept budget (opened p n ∷ items) Σ b s t h e = absurd e
  led_kept budget (took entry ∷ items) Σ b s t h e =
      let taken = e.1 in
      let k = interacts_typed c accepted Σ b s entry.input h e.0 taken.0 taken.1 taken.2 in
      led_kept budget items k.0 b e.0 t k.2 e.2

  pub reached_kept : (budget : ℕ) (items : List ItemTerm) (t : State) → IsReached c budget items t
      → (Σ : List BasicTerm) × StateHas c Σ t (main_type c.program)
  reached_kept budget items t r =
      let k = opening_kept budget r.0 r.1 in led_kept budget items k.0 (main_type c.program) r.0 t k.2 r.2
