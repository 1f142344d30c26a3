-- The parts of an accepted program have types in their scopes, and short texts.
use Rattle.std.proofs.Common.{◌≡◌, ℕ, zero, suc, List, [], ◌∷◌, ◌++◌, Option, Some, None, refl, sym, ap, ◌∙◌, subst}
use Rattle.std.specs.Prelude.{slice_get}
use Rattle.task_model.specs.Terms.Text.{Text}
use Rattle.task_model.specs.Terms.Basic.{BasicTerm, bool_type}
use Rattle.task_model.specs.Terms.Value.{ValueTerm}
use Rattle.task_model.specs.Terms.Env.{EnvTerm, empty_env}
use Rattle.task_model.specs.Terms.Host.{HostTerm, as_exprs}
use Rattle.task_model.specs.Terms.Task.{TaskTerm, edit, enter, share, fail, call_task, then_task, next_task, and_task, or_task, xor_task, let_task, if_task, case_task, new_task, put_task}
use Rattle.task_model.specs.Terms.Program.{KindTerm, plain_kind, ref_kind, ParamTerm, DefBodyTerm, fun_body, task_body, main_name}
use Rattle.task_model.specs.Running.Checked.{CheckedTerm}
use Rattle.task_model.specs.Checking.Names.{bind_value, bind_place, Numbered, first_named, params_of}
use Rattle.task_model.specs.Running.Plan.{gives_value}
use Rattle.task_model.specs.Running.Rules.{bare_name}
use Rattle.task_model.specs.Checking.FullTask.{FullTask, FullBody, full_body_numbered, step_with, step_over, sides_of}
use Rattle.task_model.specs.Checking.TypeOf.{type_of}
use Rattle.task_model.specs.Checking.TaskDemands.{bodies_in_place}
use Rattle.task_model.specs.Checking.Typing.{HasType, HaveTypes, OfKind}
use Rattle.task_model.specs.Checking.TaskTyping.{HasTask}
use Rattle.task_model.specs.Checking.Accepted.{IsAccepted}
use Rattle.task_model.specs.Checking.ProgramParts.{ProgramPart, expression_part, task_part, body_part, PartIn, in_scope, argument_part, argument_parts, task_of_body, body_parts, what_part, type_there, task_parts, parts_in, IsPart, of_opening, of_definition, inside}
use Rattle.task_model.specs.Checking.Fits.{StoreHas, SlotsHave, EnvHas, any_call, BindsAs}
use Rattle.typing_laws.specs.Texts.{HasShortTexts, HaveShortTexts, TaskTextsAreShort}
use Rattle.typing_laws.specs.Assumed.{calls_below, task_in_place, EvaluationFits, main_type}
use Rattle.typing_laws.specs.Well.{MayAsk}
use Rattle.typing_laws.proofs.UniqueLemmas.{case_scope, type_is, task_type_is}
use Rattle.typing_laws.proofs.ValueLemmas.{types_at}
use Rattle.typing_laws.proofs.ProgramLemmas.{facts_of}
use Rattle.typing_laws.proofs.HistoryLemmas.{main_fits}

module _ (c : CheckedTerm) where
  abbrev Typed : List ParamTerm → FullTask → BasicTerm → Type 0
  Typed s t b = HasTask (any_call c.program) s t b

  abbrev body_at : ℕ → Option FullBody
  body_at j = full_body_numbered 0 (bodies_in_place c.program) j

  -- a part is typed in a scope
  abbrev pub IsTyped : List ParamTerm → ProgramPart → Type 0
  IsTyped s (expression_part e) =
      (b : BasicTerm) × (below : Option ℕ) × HasType (calls_below c.program below) s e b × HasShortTexts e
  IsTyped s (task_part t) = (b : BasicTerm) × Typed s (task_in_place c.program t) b × TaskTextsAreShort t
  IsTyped s (body_part j a) =
      (f : FullBody) × (body_at j ≡ Some f)
      × ((inner : List ParamTerm) → BindsAs s f.binder a inner → (b : BasicTerm) × Typed inner f.task b)

  abbrev AreTyped : List PartIn → Type 0
  AreTyped [] = Unit {0}
  AreTyped (r ∷ rs) = IsTyped r.scope r.part × AreTyped rs

  one_typed : (rs : List PartIn) (k : ℕ) (r : PartIn) → AreTyped rs → slice_get rs k ≡ Some r → IsTyped r.scope r.part
  one_typed [] zero r h e = absurd (cc)
  one_typed [] (suc k) r h e = absurd (cc)
  one_typed (x ∷ rs) zero r h e = let same : x ≡ r = cc in subst (λ (z : PartIn). IsTyped z.scope z.part) same h.0
  one_typed (x ∷ rs) (suc k) r h e = one_typed rs k r h.1 e

  -- ---- expressions
  typed_expression : (s : List ParamTerm) (e : HostTerm) (b : BasicTerm) → HasType (any_call c.program) s e b → HasShortTexts e
      → IsTyped s (expression_part e)
  typed_expression s e b h x = (b, None, h, x)

  typed_argument : (s : List ParamTerm) (e : HostTerm) (k : KindTerm) (rest : List PartIn)
      → OfKind s (bare_name e) k (λ b. HasType (any_call c.program) s e b)
      → HasShortTexts e → AreTyped rest → AreTyped (argument_part s e k ++ rest)
  typed_argument s e (plain_kind b) rest h x r = (typed_expression s e b h x, r)
  typed_argument s e (ref_kind b) rest h x r = r

  typed_arguments : (s : List ParamTerm) (es : List HostTerm) (qs : List ParamTerm)
      → HaveTypes (any_call c.program) s (as_exprs es) qs → HaveShortTexts (as_exprs es) → AreTyped (argument_parts s es qs)
  typed_arguments s [] [] h x = tt
  typed_arguments s [] (q ∷ qs) h x = tt
  typed_arguments s (e ∷ es) [] h x = tt
  typed_arguments s (e ∷ es) (q ∷ qs) h x =
      typed_argument s e q.kind (argument_parts s es qs) h.0 x.0 (typed_arguments s es qs h.1 x.1)

  -- ---- bodies
  -- a step that is typed has a body, which binds a name
  record StepTyped (s : List ParamTerm) (t : FullTask) (o : Option FullBody) (b : BasicTerm) : Type 0 where
    body : FullBody
    is : o ≡ Some body
    name : Text
    binder : body.binder ≡ Some name
    takes : BasicTerm
    left : Typed s t takes
    right : Typed (bind_value s name takes) body.task b

  step_typed : (s : List ParamTerm) (t : FullTask) (o : Option FullBody) (b : BasicTerm) → Typed s (step_over t o) b → StepTyped s t o b
  step_typed s t None b h = absurd h
  step_typed s t (Some f) b h = by_binder f.binder refl h
    where
      by_binder : (x : Option Text) → f.binder ≡ x → Typed s (step_with t f.scope f.task x) b → StepTyped s t (Some f) b
      by_binder None e h = absurd h
      by_binder (Some x) e h = record {
        body = f;
        is = refl;
        name = x;
        binder = e;
        takes = h.0;
        left = h.1;
        right = h.2;
      }

  parts_of_step : (s : List ParamTerm) (t : TaskTerm) (j : ℕ) (b : BasicTerm)
      → Typed s (step_over (task_in_place c.program t) (body_at j)) b → TaskTextsAreShort t
      → AreTyped (in_scope s (task_part t) ∷ in_scope s (body_part j (Some (type_there c.program s t))) ∷ [])
  parts_of_step s t j b h x =
      let there = step_typed s (task_in_place c.program t) (body_at j) b h in
      let same = task_type_is (any_call c.program) s (task_in_place c.program t) there.takes there.left in
      let same_scope = λ (inner : List ParamTerm) (binds : BindsAs s there.body.binder (Some (type_there c.program s t)) inner).
      ap (bind_value s there.name) same
      ∙ sym (subst (λ o. BindsAs s o (Some (type_there c.program s t)) inner) there.binder binds) in
      let body : IsTyped s (body_part j (Some (type_there c.program s t))) =
      (there.body, there.is, λ inner binds. (b, subst (λ z. Typed z there.body.task b) (same_scope inner binds) there.right)) in
      ((there.takes, there.left, x), (body, tt))

  typed_side : (s : List ParamTerm) (j : ℕ) (f : FullBody) (b : BasicTerm) → body_at j ≡ Some f → Typed s f.task b
      → IsTyped s (body_part j None)
  typed_side s j f b is h = (f, is, λ inner binds. (b, subst (λ z. Typed z f.task b) (sym (kept f.binder inner binds)) h))
    where
      kept : (o : Option Text) (inner : List ParamTerm) → BindsAs s o None inner → inner ≡ s
      kept None inner same = same
      kept (Some x) inner none = absurd none

  parts_of_choice : (s : List ParamTerm) (j k : ℕ) (b : BasicTerm) (o q : Option FullBody) → body_at j ≡ o → body_at k ≡ q
      → Typed s (sides_of o q) b → AreTyped (in_scope s (body_part j None) ∷ in_scope s (body_part k None) ∷ [])
  parts_of_choice s j k b None q e d h = absurd h
  parts_of_choice s j k b (Some f) None e d h = absurd h
  parts_of_choice s j k b (Some f) (Some g) e d h = (typed_side s j f b e h.0, (typed_side s k g b d h.1, tt))

  -- ---- what stands in a task that is typed
  parts_of_task : (s : List ParamTerm) (t : TaskTerm) → IsTyped s (task_part t) → AreTyped (task_parts c.program s t)
  parts_of_task s (edit e) (b, h, x) = (typed_expression s e b h x, tt)
  parts_of_task s (enter a) h = tt
  parts_of_task s (share x) h = tt
  parts_of_task s (fail a) h = tt
  parts_of_task s (call_task f es) (b, h, x) =
      subst (λ o. AreTyped (argument_parts s es (params_of o))) (sym h.1.first) (typed_arguments s es h.0.def.params h.3 x)
  parts_of_task s (then_task t j) (b, h, x) = parts_of_step s t j b h x
  parts_of_task s (next_task t j) (b, h, x) = parts_of_step s t j b h x
  parts_of_task s (and_task t u) (b, h, x) = ((h.0, h.3, x.0), ((h.1, h.4, x.1), tt))
  parts_of_task s (or_task t u) (b, h, x) = ((b, h.0, x.0), ((b, h.1, x.1), tt))
  parts_of_task s (xor_task j k) (b, h, x) = parts_of_choice s j k b (body_at j) (body_at k) refl refl h
  parts_of_task s (let_task x e t) (b, h, y) =
      let inner = subst (λ z. Typed (bind_value s x z) (task_in_place c.program t) b) (type_is (any_call c.program) s e h.0 h.1) h.2 in
      (typed_expression s e h.0 h.1 y.0, ((b, inner, y.1), tt))
  parts_of_task s (if_task e t u) (b, h, x) = (typed_expression s e bool_type h.0 x.0, ((b, h.1, x.1), ((b, h.2, x.2), tt)))
  parts_of_task s (case_task e t x y u) (b, h, z) =
      let same = case_scope s x y h.0 h.1 (type_of c.program.defs s e) h.2 (type_is (any_call c.program) s e h.1 h.3) in
      let inner = subst (λ w. Typed w (task_in_place c.program u) b) (sym same) h.5 in
      (typed_expression s e h.1 h.3 z.0, ((b, h.4, z.1), ((b, inner, z.2), tt)))
  parts_of_task s (new_task x e t) (b, h, y) =
      let inner = subst (λ z. Typed (bind_place s x z) (task_in_place c.program t) b) (type_is (any_call c.program) s e h.0 h.1) h.2 in
      (typed_expression s e h.0 h.1 y.0, ((b, inner, y.1), tt))
  parts_of_task s (put_task x e t) (b, h, y) = (typed_expression s e h.0 h.2 y.0, ((b, h.3, y.1), tt))

  module _ (accepted : IsAccepted c) where
    -- the task of a body
    parts_of_body : (s : List ParamTerm) (j : ℕ) (a : Option BasicTerm) → IsTyped s (body_part j a)
        → AreTyped (body_parts s a (slice_get c.program.bodies j))
    parts_of_body s j a (f, is, typed) =
        let there = (facts_of c accepted).bodies j f is in
        subst (λ o. AreTyped (body_parts s a o)) (sym there.is)
        (by_binder there.body.task there.body.binder a
        (λ inner binds. typed inner (subst (λ o. BindsAs s o a inner) there.binder binds)) there.task there.stands.texts)
      where
        by_binder : (t : TaskTerm) (o : Option Text) (takes : Option BasicTerm)
            → ((inner : List ParamTerm) → BindsAs s o takes inner → (b : BasicTerm) × Typed inner f.task b)
            → task_in_place c.program t ≡ f.task → TaskTextsAreShort t → AreTyped (task_of_body s o takes t)
        by_binder t None None g same x = let h = g s refl in ((h.0, subst (λ z. Typed s z h.0) (sym same) h.1, x), tt)
        by_binder t (Some y) (Some b) g same x =
            let h = g (bind_value s y b) refl in ((h.0, subst (λ z. Typed (bind_value s y b) z h.0) (sym same) h.1, x), tt)
        by_binder t None (Some b) g same x = tt
        by_binder t (Some y) None g same x = tt

    parts_typed : (s : List ParamTerm) (q : ProgramPart) → IsTyped s q → AreTyped (parts_in c.program s q)
    parts_typed s (expression_part e) h = tt
    parts_typed s (task_part t) h = parts_of_task s t h
    parts_typed s (body_part j a) h = parts_of_body s j a h

    what_typed : (f : Text) (d : Numbered) (w : DefBodyTerm) → first_named 0 c.program.defs f ≡ Some d → d.def.what ≡ w
        → IsTyped d.def.params (what_part w)
    what_typed f d (fun_body e) named what =
        let there = (facts_of c accepted).functions f d e named what in (d.def.result, there.below, there.typed, there.texts)
    what_typed f d (task_body t) named what =
        let there = (facts_of c accepted).tasks f d t named what in (d.def.result, there.fits.typed, there.stands.texts)

    -- the call at the opening
    no_names : (Σ : List BasicTerm) (s : List ParamTerm) → SlotsHave Σ [] s → s ≡ []
    no_names Σ [] h = refl
    no_names Σ (q ∷ qs) h = absurd h

    opening_typed : IsTyped [] (task_part (call_task main_name []))
    opening_typed =
        let fits : EvaluationFits c (types_at [] (main_type c.program)) (call_task main_name []) empty_env [] = main_fits c accepted in (
          main_type c.program,
          subst (λ z. Typed z (task_in_place c.program (call_task main_name [])) (main_type c.program))
              (no_names [] fits.scope fits.names.slots) fits.fits.typed,
          tt,
        )

    pub part_typed : (s : List ParamTerm) (q : ProgramPart) → IsPart c.program s q → IsTyped s q
    part_typed s q (of_opening _ _ scope is) =
        subst (λ z. IsTyped z q) (sym scope) (subst (IsTyped []) (sym is) opening_typed)
    part_typed s q (of_definition _ _ f d named scope is) =
        subst (λ z. IsTyped z q) (sym scope) (subst (IsTyped d.def.params) (sym is) (what_typed f d d.def.what named refl))
    part_typed s q (inside s' q' k r _ _ h e scope is) =
        subst (λ z. IsTyped z q) (sym scope)
        (subst (IsTyped r.scope) (sym is)
        (one_typed (parts_in c.program s' q') k r (parts_typed s' q' (part_typed s' q' h)) e))

    -- an expression that is a part may be evaluated in an environment and over a store that fit
    pub part_may : (s : List ParamTerm) (e : HostTerm) → IsPart c.program s (expression_part e) → (Σ : List BasicTerm) (env : EnvTerm)
        (σ : List ValueTerm)
        → EnvHas Σ env s → StoreHas σ Σ → MayAsk c (gives_value e env σ)
    part_may s e h Σ env σ names store =
        let typed = part_typed s (expression_part e) h in
        record {
          typing = types_at Σ typed.0;
          assumed = record {
            below = typed.1;
            scope = s;
            typed = typed.2;
            texts = typed.3;
            names = names;
            store = store;
          };
        }
