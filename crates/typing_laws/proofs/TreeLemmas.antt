-- Trees: failing, strides and what they ask for of bodies keep types, by a case for each form.
use Rattle.std.proofs.Common.{◌≡◌, Bool, false, List, [], ◌∷◌, ◌++◌, Option, Some, None, sym, ◌∙◌, subst}
use Rattle.std.specs.Prelude.{slice_get}
use Rattle.std.specs.Option.{option_or}
use Rattle.task_model.specs.Terms.Basic.{BasicTerm, pair_type}
use Rattle.task_model.specs.Terms.Value.{ValueTerm}
use Rattle.task_model.specs.Terms.Env.{SlotTerm, plain_slot}
use Rattle.task_model.specs.Terms.Task.{BodyTerm}
use Rattle.task_model.specs.Terms.Tree.{LaterTerm, TreeTerm, edit_tree, enter_tree, share_tree, then_tree, next_tree, fail_tree, and_tree, or_tree, xor_tree, State, at}
use Rattle.task_model.specs.Running.Checked.{CheckedTerm, body_first}
use Rattle.task_model.specs.Running.Plan.{Plan, give, ask, fails, known}
use Rattle.task_model.specs.Running.Rules.{branch, paired, value_of, with_value, or_of, opened_env, applied, tested, side, fail_rule, fired, stride_rule}
use Rattle.task_model.specs.Checking.Fits.{StoreHas, SlotsHave, BindsAs, TaskFits, LaterHas, TreeHas, StateHas}
use Rattle.typing_laws.specs.Assumed.{Grows, EvaluationFits, Assumed, Guaranteed}
use Rattle.typing_laws.specs.ProgramFacts.{ProgramFacts}
use Rattle.typing_laws.proofs.GoodLemmas.{good_after}
use Rattle.typing_laws.proofs.OperatorLemmas.{Has, SomeHas, pair_has}
use Rattle.typing_laws.proofs.FitLemmas.{grows_on, later_grows, tree_grows, store_get}
use Rattle.typing_laws.proofs.ValueLemmas.{types_at, Goes, good_known, good_branch}
use Rattle.typing_laws.proofs.StandLemmas.{part_of_body, names_bound, slots_bound, slots_kept, placed_task, evaluation}
use Rattle.typing_laws.proofs.TaskLemmas.{Keeps, keep, keep_on}

-- ---- values of trees
abbrev pub IfHas : Option ValueTerm → BasicTerm → Type 0
IfHas None b = Unit {0}
IfHas (Some v) b = Has v b

if_some : (o : Option ValueTerm) (b : BasicTerm) → SomeHas o b → IfHas o b
if_some None b h = absurd h
if_some (Some v) b h = h

paired_has : (o w : Option ValueTerm) (a d b : BasicTerm) → b ≡ pair_type a d → IfHas o a → IfHas w d → IfHas (paired o w) b
paired_has None w a d b e h q = tt
paired_has (Some v) None a d b e h q = tt
paired_has (Some v) (Some u) a d b e h q = subst (IfHas (paired (Some v) (Some u))) (sym e) (pair_has v u a d h q)

or_has : (o w : Option ValueTerm) (b : BasicTerm) → IfHas o b → IfHas w b → IfHas (option_or o w) b
or_has None w b h q = q
or_has (Some v) w b h q = h

module _ (c : CheckedTerm) where
  pub value_has_type : (Σ : List BasicTerm) (t : TreeTerm) (σ : List ValueTerm) (b : BasicTerm) → StoreHas σ Σ → TreeHas c Σ t b
      → IfHas (value_of t σ) b
  value_has_type Σ (edit_tree a v) σ b s h = h.1
  value_has_type Σ (enter_tree a) σ b s h = tt
  value_has_type Σ (share_tree a n) σ b s h = if_some (slice_get σ n) b (store_get σ Σ n b s h.1)
  value_has_type Σ (then_tree t k) σ b s h = tt
  value_has_type Σ (next_tree t k) σ b s h = tt
  value_has_type Σ fail_tree σ b s h = tt
  value_has_type Σ (and_tree t u) σ b s h =
      paired_has (value_of t σ) (value_of u σ) h.0 h.1 b h.2 (value_has_type Σ t σ h.0 s h.3) (value_has_type Σ u σ h.1 s h.4)
  value_has_type Σ (or_tree t u) σ b s h =
      or_has (value_of t σ) (value_of u σ) b (value_has_type Σ t σ b s h.0) (value_has_type Σ u σ b s h.1)
  value_has_type Σ (xor_tree j k) σ b s h = tt

  pub value_typed : (Σ : List BasicTerm) (s : State) (b : BasicTerm) (v : ValueTerm) → StateHas c Σ s b → value_of s.tree s.store ≡ Some v
      → Has v b
  value_typed Σ s b v h e = subst (λ z. IfHas z b) e (value_has_type Σ s.tree s.store b h.store h.tree)

  module _ (facts : ProgramFacts c) where
    -- ---- bodies
    -- a body that is there, with slots for the names of its task
    good_body : {A : Type 0} (Σ : List BasicTerm) (k : LaterTerm) (vs : List SlotTerm) (a : Option BasicTerm) (b : BasicTerm)
        (σ : List ValueTerm)
        (f : BodyTerm → Plan A) (P : A → Type 0) → (h : LaterHas c Σ k a b) → SlotsHave Σ vs h.inner → StoreHas σ Σ
        → ((d : BodyTerm) → EvaluationFits c (types_at Σ b) d.task (opened_env c k.body d vs) σ → Goes c (f d) P)
        → Goes c (known (slice_get c.program.bodies k.body) f) P
    good_body Σ k vs a b σ f P h q s g =
        let there = facts.bodies k.body h.body h.is in
        let d = there.body in
        let first : h.first ≡ body_first c.program k.body = let e = sym h.starts ∙ there.entry in cc in
        let binds = subst (λ x. BindsAs h.scope x a h.inner) (sym there.binder) h.binds in
        good_known c (slice_get c.program.bodies k.body) d f P there.is
        (g d (evaluation c Σ d.task (opened_env c k.body d vs) σ h.inner b
        (part_of_body c.program h.scope k.body a d h.inner h.part there.is binds)
        (subst (λ n. TaskFits c h.inner n (placed_task c d.task) b) first
        (subst (λ t. TaskFits c h.inner h.first t b) (sym there.task) h.fits)) there.stands
        (record {
          names = names_bound h.scope d.scope d.binder a h.inner binds (there.scope ∙ h.names);
          slots = q;
        }) s))

    pub good_applied : {A : Type 0} (Σ : List BasicTerm) (k : LaterTerm) (v : ValueTerm) (σ : List ValueTerm) (a b : BasicTerm)
        (f : State → Plan A) (P : A → Type 0) → LaterHas c Σ k (Some a) b → Has v a → StoreHas σ Σ
        → ((s : State) → Keeps c Σ b s → Goes c (f s) P) → Goes c (applied c k v σ f) P
    good_applied Σ k v σ a b f P h hv s g =
        good_body Σ k (k.slots ++ plain_slot v ∷ []) (Some a) b σ _ P h
        (slots_bound Σ h.scope k.slots h.body.binder v a h.inner h.binds h.slots hv) s
        (λ d e. (types_at Σ b, e, g))

    -- a body, normalised, and whether that is failing
    good_tested : {A : Type 0} (Σ : List BasicTerm) (k : LaterTerm) (vs : List SlotTerm) (a : Option BasicTerm) (b : BasicTerm)
        (σ : List ValueTerm)
        (f : State → Bool → Plan A) (P : A → Type 0) → (h : LaterHas c Σ k a b) → SlotsHave Σ vs h.inner → StoreHas σ Σ
        → ((s : State) (no : Bool) → Keeps c Σ b s → Goes c (f s no) P) → Goes c (tested c k.body vs σ f) P
    good_tested Σ k vs a b σ f P h q s g =
        good_body Σ k vs a b σ _ P h q s (λ d e. (types_at Σ b, e, λ t ht. (types_at ht.0 b, ht.2, λ no hn. g t no ht)))

    pub good_trial : {A : Type 0} (Σ : List BasicTerm) (k : LaterTerm) (v : ValueTerm) (σ : List ValueTerm) (a b : BasicTerm)
        (f : State → Bool → Plan A) (P : A → Type 0) → LaterHas c Σ k (Some a) b → Has v a → StoreHas σ Σ
        → ((s : State) (no : Bool) → Keeps c Σ b s → Goes c (f s no) P) → Goes c (tested c k.body (k.slots ++ plain_slot v ∷ []) σ f) P
    good_trial Σ k v σ a b f P h hv s g =
        good_tested Σ k (k.slots ++ plain_slot v ∷ []) (Some a) b σ f P h
        (slots_bound Σ h.scope k.slots h.body.binder v a h.inner h.binds h.slots hv) s g

    pub good_side : {A : Type 0} (Σ : List BasicTerm) (k : LaterTerm) (σ : List ValueTerm) (b : BasicTerm) (f : State → Bool → Plan A)
        (P : A → Type 0) → LaterHas c Σ k None b → StoreHas σ Σ → ((s : State) (no : Bool) → Keeps c Σ b s → Goes c (f s no) P)
        → Goes c (tested c k.body k.slots σ f) P
    good_side Σ k σ b f P h s g =
        good_tested Σ k k.slots None b σ f P h (slots_kept Σ h.scope k.slots h.body.binder h.inner h.binds h.slots) s g

    -- ---- failing
    good_fails : (t u : TreeTerm) (σ : List ValueTerm) (Σ : List BasicTerm) (a b : BasicTerm) → StoreHas σ Σ → TreeHas c Σ t a
        → TreeHas c Σ u b
        → Goes c (ask (fails (at t σ)) (λ no. branch no (ask (fails (at u σ)) give) (give false))) (λ x. Unit {0})
    good_fails t u σ Σ a b s h q = (
      types_at Σ a,
      record { store = s; tree = h },
      λ no hn. good_branch c no _ _ (λ x. Unit {0}) (types_at Σ b, record { store = s; tree = q }, λ x hx. tt) tt,
    )

    pub fail_good : (t : TreeTerm) (σ : List ValueTerm) (Σ : List BasicTerm) (b : BasicTerm) → StoreHas σ Σ → TreeHas c Σ t b
        → Goes c (fail_rule c t σ) (λ x. Unit {0})
    fail_good (edit_tree a v) σ Σ b s h = tt
    fail_good (enter_tree a) σ Σ b s h = tt
    fail_good (share_tree a n) σ Σ b s h = tt
    fail_good fail_tree σ Σ b s h = tt
    fail_good (then_tree t k) σ Σ b s h = (types_at Σ h.0, record { store = s; tree = h.1 }, λ x hx. tt)
    fail_good (next_tree t k) σ Σ b s h = (types_at Σ h.0, record { store = s; tree = h.1 }, λ x hx. tt)
    fail_good (and_tree t u) σ Σ b s h = good_fails t u σ Σ h.0 h.1 s h.3 h.4
    fail_good (or_tree t u) σ Σ b s h = good_fails t u σ Σ b b s h.0 h.1
    fail_good (xor_tree j k) σ Σ b s h =
        good_after (Assumed c) (Guaranteed c) (side c j σ) _ (λ x. Unit {0}) (λ x. Unit {0})
        (good_side Σ j σ b _ (λ x. Unit {0}) h.0 s (λ t no ht. tt))
        (λ no hn. good_branch c no _ _ (λ x. Unit {0}) (good_side Σ k σ b _ (λ x. Unit {0}) h.1 s (λ t no ht. tt)) tt)

    -- ---- strides
    good_fired : (o : Option ValueTerm) (k : LaterTerm) (s : State) (Σ Σ' : List BasicTerm) (a b : BasicTerm) → IfHas o a → Grows Σ Σ'
        → StateHas c Σ' s a → LaterHas c Σ' k (Some a) b → Goes c (fired c o k s) (Keeps c Σ b)
    good_fired None k s Σ Σ' a b hv g hs h = (Σ', g, record { store = hs.store; tree = (a, hs.tree, h) })
    good_fired (Some v) k s Σ Σ' a b hv g hs h =
        good_applied Σ' k v s.store a b _ (Keeps c Σ b) h hv hs.store
        (λ t ht. (
          types_at ht.0 b,
          ht.2,
          λ no hn. good_branch c no _ _ (Keeps c Σ b) (Σ', g, record { store = hs.store; tree = (a, hs.tree, h) })
              (keep_on c Σ Σ' b g t ht),
        ))

    or_has_type : (Σ : List BasicTerm) (o : Option ValueTerm) (t u : TreeTerm) (b : BasicTerm) → TreeHas c Σ t b → TreeHas c Σ u b
        → TreeHas c Σ (or_of o t u) b
    or_has_type Σ None t u b h q = (h, q)
    or_has_type Σ (Some v) t u b h q = q

    good_or : (o : Option ValueTerm) (f g : Plan State) (P : State → Type 0) → Goes c f P → Goes c g P → Goes c (with_value o f g) P
    good_or None f g P h q = q
    good_or (Some v) f g P h q = h

    pub stride_good : (t : TreeTerm) (σ : List ValueTerm) (Σ : List BasicTerm) (b : BasicTerm) → StoreHas σ Σ → TreeHas c Σ t b
        → Goes c (stride_rule c t σ) (Keeps c Σ b)
    stride_good (edit_tree a v) σ Σ b s h = keep c Σ b (edit_tree a v) σ s h
    stride_good (enter_tree a) σ Σ b s h = keep c Σ b (enter_tree a) σ s h
    stride_good (share_tree a n) σ Σ b s h = keep c Σ b (share_tree a n) σ s h
    stride_good fail_tree σ Σ b s h = keep c Σ b fail_tree σ s h
    stride_good (xor_tree j k) σ Σ b s h = keep c Σ b (xor_tree j k) σ s h
    stride_good (next_tree t k) σ Σ b s h = (
      types_at Σ h.0,
      record { store = s; tree = h.1 },
      λ r hr. (hr.0, hr.1, record { store = hr.2.store; tree = (h.0, hr.2.tree, later_grows Σ hr.0 hr.1 c k (Some h.0) b h.2) }),
    )
    stride_good (and_tree t u) σ Σ b s h = (
      types_at Σ h.0,
      record { store = s; tree = h.3 },
      λ r hr. (
        types_at hr.0 h.1,
        record { store = hr.2.store; tree = tree_grows Σ hr.0 hr.1 c u h.1 h.4 },
        λ q hq. (
          hq.0,
          grows_on Σ hr.0 hq.0 hr.1 hq.1,
          record { store = hq.2.store; tree = (h.0, h.1, h.2, tree_grows hr.0 hq.0 hq.1 c r.tree h.0 hr.2.tree, hq.2.tree) },
        ),
      ),
    )
    stride_good (then_tree t k) σ Σ b s h = (
      types_at Σ h.0,
      record { store = s; tree = h.1 },
      λ r hr. good_fired (value_of r.tree r.store) k r Σ hr.0 h.0 b (value_has_type hr.0 r.tree r.store h.0 hr.2.store hr.2.tree) hr.1 hr.2
          (later_grows Σ hr.0 hr.1 c k (Some h.0) b h.2),
    )
    stride_good (or_tree t u) σ Σ b s h = (
      types_at Σ b,
      record { store = s; tree = h.0 },
      λ r hr. good_or (value_of r.tree r.store) _ _ (Keeps c Σ b) hr (
        types_at hr.0 b,
        record { store = hr.2.store; tree = tree_grows Σ hr.0 hr.1 c u b h.1 },
        λ q hq. (
          hq.0,
          grows_on Σ hr.0 hq.0 hr.1 hq.1,
          record {
            store = hq.2.store;
            tree = or_has_type hq.0 (value_of q.tree q.store) r.tree q.tree b (tree_grows hr.0 hq.0 hq.1 c r.tree b hr.2.tree) hq.2.tree;
          },
        ),
      ),
    )
