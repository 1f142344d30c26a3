-- What the laws use of an accepted program holds of it.
use Rattle.std.proofs.Common.{◌≡◌, ℕ, suc, Bool, true, false, cond, List, [], ◌∷◌, ◌++◌, Some, sym, ap, ◌∙◌, subst}
use Rattle.std.specs.List.{All}
use Rattle.std.proofs.lemmas.List.Elements.{All-head, All-tail}
use Rattle.task_model.specs.Terms.Text.{Text, same_text}
use Rattle.task_model.specs.Terms.Host.{HostTerm}
use Rattle.task_model.specs.Terms.Task.{TaskTerm}
use Rattle.task_model.specs.Terms.Program.{fun_body, task_body, DefTerm}
use Rattle.task_model.specs.Running.Checked.{CheckedTerm, what_starts, param_names}
use Rattle.task_model.specs.Checking.Names.{Numbered, first_named}
use Rattle.task_model.specs.Checking.TypeFault.{IsMet}
use Rattle.task_model.specs.Checking.TaskDemands.{body_demands, demands_of, what_types}
use Rattle.task_model.specs.Checking.Placed.{IsPlacedIn}
use Rattle.task_model.specs.Checking.Accepted.{IsAccepted}
use Rattle.task_model.proofs.DemandLemmas.{first_unmet-listed}
use Rattle.task_laws.proofs.PlacedLemmas.{written_placed}
use Rattle.task_laws.proofs.TableLemmas.{starts_there}
use Rattle.typing_laws.specs.Assumed.{IsListed}
use Rattle.typing_laws.specs.ProgramFacts.{FunctionStands, CalleeStands, ProgramFacts}
use Rattle.typing_laws.proofs.DefinitionLemmas.{definition_met, function_typed, body_typed, function_found, task_found}
use Rattle.typing_laws.proofs.ParsedLemmas.{WhatStands, written_definitions, written_bodies}

-- what all definitions are, the first one of a name is
named_is : (P : DefTerm → Type 0) (i : ℕ) (ds : List DefTerm) (f : Text) (d : Numbered) → first_named i ds f ≡ Some d → All P ds → P d.def
named_is P i [] f d e h = absurd (cc)
named_is P i (x ∷ ds) f d e h =
    by_test (same_text x.name f) e (λ z. named_is P (suc i) ds f d z (All-tail P x ds h)) (All-head P x ds h)
  where
    by_test : (b : Bool) → cond b (Some (record { index = i; def = x })) (first_named (suc i) ds f) ≡ Some d
        → (first_named (suc i) ds f ≡ Some d → P d.def) → P x → P d.def
    by_test false z rest here = rest z
    by_test true z rest here =
        let same : record { index = i; def = x } ≡ d = cc in subst P (ap (λ (q : Numbered). q.def) same) here

module _ (c : CheckedTerm) (accepted : IsAccepted c) where
  pub all_met : IsMet (demands_of c.program)
  all_met = record { none = sym (first_unmet-listed (demands_of c.program)) ∙ accepted.met }

  stands_as : (f : Text) (d : Numbered) → first_named 0 c.program.defs f ≡ Some d → WhatStands c.program d.def.what
  stands_as f d e = named_is (λ x. WhatStands c.program x.what) 0 c.program.defs f d e (written_definitions c.program accepted.written)

  function_fact : (f : Text) (d : Numbered) (e : HostTerm) → first_named 0 c.program.defs f ≡ Some d → d.def.what ≡ fun_body e
      → FunctionStands c f d e
  function_fact f d e named what =
      let met = definition_met c.program 0 0 c.program.defs all_met f d named in
      record {
        named = function_found c.program 0 0 c.program.defs f d e named what;
        below = Some d.index;
        typed = function_typed c.program d.index met.0 d.def.params d.def.result e
            (subst (λ w. IsMet (body_demands c.program d.index d.def.params met.0 d.def.result w)) what met.1);
        texts = subst (WhatStands c.program) what (stands_as f d named);
      }

  task_fact : (f : Text) (d : Numbered) (t : TaskTerm) → first_named 0 c.program.defs f ≡ Some d → d.def.what ≡ task_body t
      → CalleeStands c f d t
  task_fact f d t named what =
      let met = definition_met c.program 0 0 c.program.defs all_met f d named in
      let found = task_found c.program c.types 0 0 c.program.defs f d t named what accepted.types
      (written_placed c.program accepted.written) (starts_there c.program accepted.written) in
      let as_written = subst (WhatStands c.program) what (stands_as f d named) in
      record {
        first = found.first;
        named = found.is;
        fits = record {
          typed = body_typed c.program d.index met.0 d.def.params d.def.result t
              (subst (λ w. IsMet (body_demands c.program d.index d.def.params met.0 d.def.result w)) what met.1);
          behind = found.behind;
          lists = found.lists ∙ ap (λ w. what_types c.program d.def.params w ++ found.behind) what;
        };
        stands = record {
          placed = subst (IsPlacedIn c.program (param_names d.def.params)) what found.placed;
          starts = subst (λ w. All (IsListed c.program) (what_starts c.program found.first w)) what found.starts;
          sides = as_written.0;
          texts = as_written.1;
        };
      }

  pub facts_of : ProgramFacts c
  facts_of = record { functions = function_fact; tasks = task_fact; bodies = written_bodies c.program accepted.written }
