-- What a bench starts with may be normalised: a call of `main`, and the task of the first definition, where that has no parameters.
use Rattle.std.proofs.Common.{◌≡◌, ℕ, true, Option, Some, None, List, [], ◌∷◌, map, length, slice_index_or, ◌≤◌, slice_get, refl, sym, ap, ◌∙◌, arith}
use Rattle.task_model.specs.declared.program.Def.{Def}
use Rattle.task_model.specs.Terms.Text.{Text, same_text}
use Rattle.task_model.specs.Terms.Value.{ValueTerm}
use Rattle.task_model.specs.Terms.Env.{EnvTerm, empty_env}
use Rattle.task_model.specs.Terms.Task.{TaskTerm, call_task}
use Rattle.task_model.specs.Terms.Program.{task_body, def_term, DefTerm, ProgramTerm, main_name}
use Rattle.task_model.specs.Running.Checked.{CheckedTerm, Callee, callee_of, def_in, task_named}
use Rattle.task_model.specs.Checking.Names.{first_named}
use Rattle.task_model.specs.Checking.ProgramParts.{task_part, what_part, of_definition}
use Rattle.task_model.specs.Running.Plan.{normal}
use Rattle.task_model.specs.Checking.Accepted.{IsAccepted}
use Rattle.typing_laws.specs.Assumed.{main_type}
use Rattle.typing_laws.specs.ProgramFacts.{CalleeStands}
use Rattle.typing_laws.specs.Well.{MayAsk}
use Rattle.typing_laws.proofs.HistoryLemmas.{main_fits}
use Rattle.typing_laws.proofs.ProgramLemmas.{facts_of}

pub main_may : (c : CheckedTerm) (t : TaskTerm) (env : EnvTerm) (σ : List ValueTerm) → IsAccepted c → t ≡ call_task main_name []
    → env ≡ empty_env → σ ≡ [] → MayAsk c (normal t env σ)
main_may c t env σ accepted a b d = rw (a, b, d) (record {
  typing = record { places = []; type = main_type c.program };
  assumed = main_fits c accepted;
})

-- ---- the first definition
pub first_there : (defs ds : List Def) (d : Def) → ds ≡ defs → 1 ≤ length ds → d ≡ slice_index_or ds 0 d
    → slice_get (map def_term defs) 0 ≡ Some (def_term d)
first_there defs [] d e le is = absurd (omega arith)
first_there defs (x ∷ ds) d e le is = ap (λ l. slice_get (map def_term l) 0) (sym e) ∙ ap (λ y. Some (def_term y)) (sym is)

same : (x : Text) → same_text x x ≡ true
same [] = refl
same (c ∷ x) = let rest = same x in grind (arith, rest)

first_is : (ds : List DefTerm) (d : DefTerm) → slice_get ds 0 ≡ Some d → first_named 0 ds d.name ≡ Some (record { index = 0; def = d })
first_is [] d e = absurd (cc)
first_is (x ∷ ds) d e =
    let is : x ≡ d = cc in
    rw (is, same d.name) refl

named_is : (p : ProgramTerm) (ds : List DefTerm) (d : DefTerm) (t : TaskTerm) → slice_get ds 0 ≡ Some d → d.what ≡ task_body t
    → def_in p (λ first x. callee_of x.params first x.what) 0 ds d.name ≡ Some (record { params = d.params; task = t; first = 0 })
named_is p [] d t e w = absurd (cc)
named_is p (x ∷ ds) d t e w =
    let is : x ≡ d = cc in
    rw (is, same d.name, w) refl

abbrev first_of : Option Callee → ℕ
first_of None = 0
first_of (Some d) = d.first

first_stands : (c : CheckedTerm) (d : DefTerm) (t : TaskTerm) → CalleeStands c d.name (record { index = 0; def = d }) t
    → task_named c.program d.name ≡ Some (record { params = d.params; task = t; first = 0 }) → d.params ≡ []
    → first_named 0 c.program.defs d.name ≡ Some (record { index = 0; def = d }) → d.what ≡ task_body t
    → MayAsk c (normal t empty_env [])
first_stands c d t s named none found w =
    let is : s.first ≡ 0 = ap first_of (sym s.named ∙ named) in
    record {
      typing = record { places = []; type = d.result };
      assumed = record {
        scope = [];
        part = of_definition [] (task_part t) d.name (record { index = 0; def = d }) found (sym none) (sym (ap what_part w));
        fits = rw (is, none) at s.fits;
        stands = rw (is, none) at s.stands;
        names = record { names = refl; slots = tt };
        store = tt;
      };
    }

pub first_may : (c : CheckedTerm) → IsAccepted c → (d : DefTerm) (t : TaskTerm) → slice_get c.program.defs 0 ≡ Some d → d.params ≡ []
    → d.what ≡ task_body t → MayAsk c (normal t empty_env [])
first_may c accepted d t e none w =
    let found = first_is c.program.defs d e in
    first_stands c d t ((facts_of c accepted).tasks d.name (record { index = 0; def = d }) t found w)
    (named_is c.program c.program.defs d t e w) none found w
