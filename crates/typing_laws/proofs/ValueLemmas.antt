-- Expressions: each value has its type, and no plan gets stuck, by a case for each form.
use Rattle.std.proofs.Common.{◌≡◌, ℕ, Bool, true, false, List, [], ◌∷◌, ◌++◌, Option, Some, None, refl, sym, ◌∙◌, subst, append-nil, append_assoc}
use Rattle.std.specs.Prelude.{slice_get}
use Rattle.task_model.specs.Terms.Text.{Text}
use Rattle.task_model.specs.Terms.Basic.{BasicTerm, bool_type, int_type, pair_type, list_type}
use Rattle.task_model.specs.Terms.Value.{ValueTerm, unit_value, bool_value, int_value, text_value, pair_value, list_value, no_values, more_values, as_values, values_have}
use Rattle.task_model.specs.Terms.Env.{SlotTerm, plain_slot, place_slot, EnvTerm}
use Rattle.task_model.specs.Terms.Host.{HostTerm, HostTerms, unit_expr, bool_expr, int_expr, text_expr, name_expr, read_expr, call_expr, pair_expr, list_expr, nil_expr, neg_expr, not_expr, fst_expr, snd_expr, len_expr, op_expr, let_expr, if_expr, case_expr, no_exprs, more_exprs}
use Rattle.task_model.specs.Terms.Program.{KindTerm, plain_kind, ref_kind, ParamTerm}
use Rattle.task_model.specs.declared.host.Op.{Op}
use Rattle.task_model.specs.declared.host.Op.TheVariants as ops
use Rattle.task_model.specs.Running.Checked.{CheckedTerm, slot_of, fun_named, param_names}
use Rattle.task_model.specs.Checking.Names.{bind_value}
use Rattle.task_model.specs.Running.Plan.{Plan, give, ask, gives_value, known}
use Rattle.task_model.specs.Running.Operators.{negated, opposite, first_of, second_of, length_of, operated, list_of}
use Rattle.task_model.specs.Running.Rules.{as_value, as_place, bare_name, branch, chosen, matched, exprs_of, slot_for, slots_for, values_for, op_rule, value_rule}
use Rattle.task_model.specs.Checking.Typing.{HasType, HaveTypes, AllHave, IsReference, OfKind, Operates}
use Rattle.task_model.specs.Checking.Fits.{StoreHas, SlotHas, SlotsHave, EnvHas}
use Rattle.typing_laws.specs.Texts.{HasShortTexts, HaveShortTexts}
use Rattle.typing_laws.specs.Assumed.{Typing, calls_below, ExpressionFits, Assumed, Guaranteed}
use Rattle.typing_laws.specs.ProgramFacts.{ProgramFacts}
use Rattle.typing_laws.specs.Good.{Good}
use Rattle.typing_laws.proofs.GoodLemmas.{good_after}
use Rattle.typing_laws.proofs.OperatorLemmas.{Has, SomeHas, pair_has, push_have, list_has, head_has, text_has, negated_has, opposite_has, first_has, second_has, length_has, operated_has}
use Rattle.typing_laws.proofs.FitLemmas.{store_get, Matches, slot_found, slots_push, env_bound}

abbrev pub types_at : List BasicTerm → BasicTerm → Typing
types_at Σ b = record { places = Σ; type = b }

module _ (c : CheckedTerm) where
  -- the plan goes well, and its result has P
  abbrev pub Goes : {A : Type 0} → Plan A → (A → Type 0) → Type 0
  Goes p P = Good (Assumed c) (Guaranteed c) p P

  -- ---- what a rule makes of what there is
  pub good_known : {X A : Type 0} (o : Option X) (x : X) (f : X → Plan A) (P : A → Type 0) → o ≡ Some x → Goes (f x) P → Goes (known o f) P
  good_known o x f P e g = subst (λ z. Goes (known z f) P) (sym e) g

  good_value : {A : Type 0} (Σ : List BasicTerm) (o : Option SlotTerm) (b : BasicTerm) (f : ValueTerm → Plan A) (P : A → Type 0)
      → Matches Σ o (Some (plain_kind b)) → ((v : ValueTerm) → Has v b → Goes (f v) P) → Goes (known o (λ s. as_value s f)) P
  good_value Σ (Some (plain_slot v)) b f P h g = g v h
  good_value Σ o b f P h g = absurd h

  pub good_place : {A : Type 0} (Σ : List BasicTerm) (o : Option SlotTerm) (b : BasicTerm) (f : ℕ → Plan A) (P : A → Type 0)
      → Matches Σ o (Some (ref_kind b)) → ((n : ℕ) → slice_get Σ n ≡ Some b → Goes (f n) P) → Goes (known o (λ s. as_place s f)) P
  good_place Σ (Some (place_slot n)) b f P h g = g n h
  good_place Σ o b f P h g = absurd h

  good_read : {A : Type 0} (o : Option ValueTerm) (b : BasicTerm) (f : ValueTerm → Plan A) (P : A → Type 0) → SomeHas o b
      → ((v : ValueTerm) → Has v b → Goes (f v) P) → Goes (known o f) P
  good_read None b f P h g = absurd h
  good_read (Some v) b f P h g = g v h

  pub good_branch : {A : Type 0} (b : Bool) (f g : Plan A) (P : A → Type 0) → Goes f P → Goes g P → Goes (branch b f g) P
  good_branch true f g P q r = q
  good_branch false f g P q r = r

  pub good_chosen : {A : Type 0} (v : ValueTerm) (f g : Plan A) (P : A → Type 0) → Has v bool_type → Goes f P → Goes g P
      → Goes (chosen v f g) P
  good_chosen (bool_value b) f g P h q r = good_branch b f g P q r
  good_chosen v f g P h q r = absurd (cc)

  pub good_matched : {A : Type 0} (v : ValueTerm) (b : BasicTerm) (p : Plan A) (f : ValueTerm → ValueTerm → Plan A) (P : A → Type 0)
      → Has v (list_type b) → Goes p P → ((w u : ValueTerm) → Has w b → Has u (list_type b) → Goes (f w u) P) → Goes (matched v p f) P
  good_matched (list_value no_values) b p f P h q r = q
  good_matched (list_value (more_values w vs)) b p f P h q r = let parts = head_has w vs b h in r w (list_value vs) parts.0 parts.1
  good_matched v b p f P h q r = absurd (cc)

  -- an expression in an environment and a store that fit
  pub fitting : (Σ : List BasicTerm) (e : HostTerm) (env : EnvTerm) (σ : List ValueTerm) (below : Option ℕ) (s : List ParamTerm)
      (b : BasicTerm)
      → HasType (calls_below c.program below) s e b → HasShortTexts e → EnvHas Σ env s → StoreHas σ Σ
      → ExpressionFits c (types_at Σ b) e env σ
  fitting Σ e env σ below s b t x n h = record { below = below; scope = s; typed = t; texts = x; names = n; store = h }

  -- ---- several expressions
  module _ (Σ : List BasicTerm) (env : EnvTerm) (σ : List ValueTerm) (below : Option ℕ) (s : List ParamTerm) (names : EnvHas Σ env s)
      (store : StoreHas σ Σ) where
    good_slot : {A : Type 0} (name : Option Text) (b : BasicTerm) (f : SlotTerm → Plan A) (P : A → Type 0)
        → IsReference s name b → ((n : ℕ) → slice_get Σ n ≡ Some b → Goes (f (place_slot n)) P)
        → Goes (known name (λ x. known (slot_of env x) (λ r. as_place r (λ n. f (place_slot n))))) P
    good_slot None b f P h g = absurd h
    good_slot (Some x) b f P h g = good_place Σ (slot_of env x) b (λ n. f (place_slot n)) P (slot_found Σ env s x (ref_kind b) names h) g

    good_slot_for : {A : Type 0} (e : HostTerm) (k : KindTerm) (f : SlotTerm → Plan A) (P : A → Type 0)
        → OfKind s (bare_name e) k (λ b. HasType (calls_below c.program below) s e b) → HasShortTexts e
        → ((r : SlotTerm) → SlotHas Σ r k → Goes (f r) P) → Goes (slot_for env σ e k f) P
    good_slot_for e (plain_kind b) f P h x g = (types_at Σ b, fitting Σ e env σ below s b h x names store, λ v hv. g (plain_slot v) hv)
    good_slot_for e (ref_kind b) f P h x g = good_slot (bare_name e) b f P h (λ n hn. g (place_slot n) hn)

    -- the slots of arguments at parameters, after those of the parameters before
    pub good_slots : (es : HostTerms) (done : List SlotTerm) (before after : List ParamTerm)
        → HaveTypes (calls_below c.program below) s es after
        → HaveShortTexts es → SlotsHave Σ done before → Goes (slots_for env σ done (exprs_of es) after) (λ vs. SlotsHave Σ vs
        (before ++ after))
    good_slots no_exprs done before [] h x d = subst (SlotsHave Σ done) (sym (append-nil before)) d
    good_slots no_exprs done before (q ∷ qs) h x d = absurd h
    good_slots (more_exprs e es) done before [] h x d = absurd h
    good_slots (more_exprs e es) done before (q ∷ qs) h x d =
        good_slot_for e q.kind _ _ h.0 x.0
        (λ r hr. subst (λ all. Goes (slots_for env σ (done ++ r ∷ []) (exprs_of es) qs) (λ vs. SlotsHave Σ vs all))
        (append_assoc before (q ∷ []) qs)
        (good_slots es (done ++ r ∷ []) (before ++ q ∷ []) qs h.1 x.1 (slots_push Σ done before r q d hr)))

    -- the values of elements, after those that are there
    pub good_values : (es : HostTerms) (done : List ValueTerm) (b : BasicTerm) → AllHave (calls_below c.program below) s es b
        → HaveShortTexts es
        → values_have (as_values done) b ≡ true → Goes (values_for env σ done es) (λ vs. values_have (as_values vs) b ≡ true)
    good_values no_exprs done b h x d = d
    good_values (more_exprs e es) done b h x d = (
      types_at Σ b,
      fitting Σ e env σ below s b h.0 x.0 names store,
      λ v hv. good_values es (done ++ v ∷ []) b h.1 x.1 (push_have done v b d hv),
    )

  module _ (facts : ProgramFacts c) where
    -- `||` and `&&` leave their right side open
    good_op : (Σ : List BasicTerm) (env : EnvTerm) (σ : List ValueTerm) (below : Option ℕ) (s : List ParamTerm) (o : Op) (e f : HostTerm)
        (a d b : BasicTerm) → EnvHas Σ env s → StoreHas σ Σ → HasType (calls_below c.program below) s e a → HasShortTexts e
        → HasType (calls_below c.program below) s f d → HasShortTexts f → Operates o a d b → Goes (op_rule c o e f env σ) (λ v. Has v b)
    good_op Σ env σ below s ops.Or e f a d b n h t x u y r = (
      types_at Σ a,
      fitting Σ e env σ below s a t x n h,
      λ v hv. good_chosen v _ _ (λ w. Has w b) (subst (Has v) r.0 hv) (subst (Has (bool_value true)) (sym r.2) refl)
          (types_at Σ d, fitting Σ f env σ below s d u y n h, λ w hw. subst (Has w) (r.1 ∙ sym r.2) hw),
    )
    good_op Σ env σ below s ops.And e f a d b n h t x u y r = (
      types_at Σ a,
      fitting Σ e env σ below s a t x n h,
      λ v hv. good_chosen v _ _ (λ w. Has w b) (subst (Has v) r.0 hv)
          (types_at Σ d, fitting Σ f env σ below s d u y n h, λ w hw. subst (Has w) (r.1 ∙ sym r.2) hw)
          (subst (Has (bool_value false)) (sym r.2) refl),
    )
    good_op Σ env σ below s o e f a d b n h t x u y r = (
      types_at Σ a,
      fitting Σ e env σ below s a t x n h,
      λ v hv. (
        types_at Σ d,
        fitting Σ f env σ below s d u y n h,
        λ w hw. good_read (operated o v w) b give (λ z. Has z b) (operated_has o (λ e. absurd (cc)) (λ e. absurd (cc)) v w a d b hv hw r)
            (λ z hz. hz),
      ),
    )

    -- an operator of one operand
    good_unary : (Σ : List BasicTerm) (env : EnvTerm) (σ : List ValueTerm) (below : Option ℕ) (s : List ParamTerm) (e : HostTerm)
        (a b : BasicTerm)
        (operator : ValueTerm → Option ValueTerm) → EnvHas Σ env s → StoreHas σ Σ → HasType (calls_below c.program below) s e a
        → HasShortTexts e
        → ((v : ValueTerm) → Has v a → SomeHas (operator v) b) → Goes (ask (gives_value e env σ) (λ v. known (operator v) give))
        (λ v. Has v b)
    good_unary Σ env σ below s e a b operator n h t x g =
        (types_at Σ a, fitting Σ e env σ below s a t x n h, λ v hv. good_read (operator v) b give (λ w. Has w b) (g v hv) (λ w hw. hw))

    pub value_good : (i : Typing) (e : HostTerm) (env : EnvTerm) (σ : List ValueTerm) → ExpressionFits c i e env σ
        → Goes (value_rule c e env σ) (λ v. Has v i.type)
    value_good i unit_expr env σ h = subst (Has unit_value) (sym h.typed) refl
    value_good i (bool_expr b) env σ h = subst (Has (bool_value b)) (sym h.typed) refl
    value_good i (int_expr n) env σ h = subst (Has (int_value n)) (sym h.typed) refl
    value_good i (text_expr t) env σ h = subst (Has (text_value t)) (sym h.typed) (text_has t h.texts)
    value_good i (name_expr x) env σ h =
        good_value i.places (slot_of env x) i.type give (λ v. Has v i.type)
        (slot_found i.places env h.scope x (plain_kind i.type) h.names h.typed) (λ v hv. hv)
    value_good i (read_expr x) env σ h =
        good_place i.places (slot_of env x) i.type (λ n. known (slice_get σ n) give) (λ v. Has v i.type)
        (slot_found i.places env h.scope x (ref_kind i.type) h.names h.typed)
        (λ n hn. good_read (slice_get σ n) i.type give (λ v. Has v i.type) (store_get σ i.places n i.type h.store hn) (λ v hv. hv))
    value_good i (call_expr f es) env σ h =
        let d = h.typed.0 in
        let calls = h.typed.1 in
        let there = facts.functions f d calls.body calls.first calls.function in
        good_known (fun_named c.program f) (record { params = d.def.params; expr = calls.body }) _ (λ v. Has v i.type) there.named
        (good_after (Assumed c) (Guaranteed c) (slots_for env σ [] (exprs_of es) d.def.params) _ _ (λ v. Has v i.type)
        (good_slots i.places env σ h.below h.scope h.names h.store es [] [] d.def.params h.typed.3 h.texts tt)
        (λ vs hv. (
          types_at i.places d.def.result,
          fitting i.places calls.body (record { names = param_names d.def.params; slots = vs; first = 0 }) σ there.below d.def.params
              d.def.result
              there.typed there.texts (record { names = refl; slots = hv }) h.store,
          λ v hv. subst (Has v) (sym h.typed.2) hv,
        )))
    value_good i (pair_expr a b) env σ h = (
      types_at i.places h.typed.0,
      fitting i.places a env σ h.below h.scope h.typed.0 h.typed.3 h.texts.0 h.names h.store,
      λ v hv. (
        types_at i.places h.typed.1,
        fitting i.places b env σ h.below h.scope h.typed.1 h.typed.4 h.texts.1 h.names h.store,
        λ w hw. subst (Has (pair_value v w)) (sym h.typed.2) (pair_has v w h.typed.0 h.typed.1 hv hw),
      ),
    )
    value_good i (list_expr no_exprs) env σ h = subst (Has (list_of [])) (sym h.typed) refl
    value_good i (list_expr (more_exprs e es)) env σ h =
        good_after (Assumed c) (Guaranteed c) (values_for env σ [] (more_exprs e es)) _ _ (λ v. Has v i.type)
        (good_values i.places env σ h.below h.scope h.names h.store (more_exprs e es) [] h.typed.0 (h.typed.2, h.typed.3) h.texts refl)
        (λ vs hv. subst (Has (list_of vs)) (sym h.typed.1) (list_has vs h.typed.0 hv))
    value_good i (nil_expr a) env σ h = subst (Has (list_value no_values)) (sym h.typed) refl
    value_good i (neg_expr e) env σ h =
        good_unary i.places env σ h.below h.scope e int_type i.type negated h.names h.store h.typed.1 h.texts
        (λ v hv. subst (SomeHas (negated v)) (sym h.typed.0) (negated_has v hv))
    value_good i (not_expr e) env σ h =
        good_unary i.places env σ h.below h.scope e bool_type i.type opposite h.names h.store h.typed.1 h.texts
        (λ v hv. subst (SomeHas (opposite v)) (sym h.typed.0) (opposite_has v hv))
    value_good i (fst_expr e) env σ h =
        good_unary i.places env σ h.below h.scope e (pair_type i.type h.typed.0) i.type first_of h.names h.store h.typed.1 h.texts
        (λ v hv. first_has v i.type h.typed.0 hv)
    value_good i (snd_expr e) env σ h =
        good_unary i.places env σ h.below h.scope e (pair_type h.typed.0 i.type) i.type second_of h.names h.store h.typed.1 h.texts
        (λ v hv. second_has v h.typed.0 i.type hv)
    value_good i (len_expr e) env σ h =
        good_unary i.places env σ h.below h.scope e h.typed.0 i.type length_of h.names h.store h.typed.2 h.texts
        (λ v hv. subst (SomeHas (length_of v)) (sym h.typed.1) (length_has v h.typed.0 hv h.typed.3))
    value_good i (op_expr o e f) env σ h =
        good_op i.places env σ h.below h.scope o e f h.typed.0 h.typed.1 i.type h.names h.store h.typed.2 h.texts.0 h.typed.3 h.texts.1
        h.typed.4
    value_good i (let_expr x e f) env σ h = (
      types_at i.places h.typed.0,
      fitting i.places e env σ h.below h.scope h.typed.0 h.typed.1 h.texts.0 h.names h.store,
      λ v hv. (
        i,
        fitting i.places f _ σ h.below (bind_value h.scope x h.typed.0) i.type h.typed.2 h.texts.1
            (env_bound i.places env h.scope (plain_slot v) (record { name = x; kind = plain_kind h.typed.0 }) h.names hv) h.store,
        λ w hw. hw,
      ),
    )
    value_good i (if_expr e a b) env σ h = (
      types_at i.places bool_type,
      fitting i.places e env σ h.below h.scope bool_type h.typed.0 h.texts.0 h.names h.store,
      λ v hv. good_chosen v _ _ (λ w. Has w i.type) hv
          (i, fitting i.places a env σ h.below h.scope i.type h.typed.1 h.texts.1 h.names h.store, λ w hw. hw)
          (i, fitting i.places b env σ h.below h.scope i.type h.typed.2 h.texts.2 h.names h.store, λ w hw. hw),
    )
    value_good i (case_expr l a x y b) env σ h =
        let item = h.typed.0 in
        let list = h.typed.1 in (
          types_at i.places list,
          fitting i.places l env σ h.below h.scope list h.typed.3 h.texts.0 h.names h.store,
          λ v hv. good_matched v item _ _ (λ w. Has w i.type) (subst (Has v) h.typed.2 hv)
              (i, fitting i.places a env σ h.below h.scope i.type h.typed.4 h.texts.1 h.names h.store, λ w hw. hw)
              (λ head tail hh ht. (
                i,
                fitting i.places b _ σ h.below (bind_value (bind_value h.scope x item) y list) i.type h.typed.5 h.texts.2
                    (env_bound i.places _ (bind_value h.scope x item) (plain_slot tail) (record { name = y; kind = plain_kind list })
                    (env_bound i.places env h.scope (plain_slot head) (record { name = x; kind = plain_kind item }) h.names hh)
                    (subst (Has tail) (sym h.typed.2) ht)) h.store,
                λ w hw. hw,
              )),
        )
