-- Tasks: the tree has the task's type over the store that is left, and no plan gets stuck, by a case for each form.
use Rattle.std.proofs.Common.{◌≡◌, ℕ, ◌+◌, List, [], ◌∷◌, ◌++◌, length, drop, Some, None, refl, sym, ap, subst}
use Rattle.std.specs.Prelude.{slice_get, slice_set}
use Rattle.task_model.specs.Terms.Basic.{BasicTerm, bool_type}
use Rattle.task_model.specs.Terms.Value.{ValueTerm}
use Rattle.task_model.specs.Terms.Env.{plain_slot, place_slot, EnvTerm}
use Rattle.task_model.specs.Terms.Host.{HostTerm, as_exprs}
use Rattle.task_model.specs.Terms.Task.{TaskTerm, edit, enter, share, fail, call_task, then_task, next_task, and_task, or_task, xor_task, let_task, if_task, case_task, new_task, put_task}
use Rattle.task_model.specs.Terms.Tree.{TreeTerm, edit_tree, enter_tree, share_tree, then_tree, next_tree, fail_tree, and_tree, or_tree, xor_tree, State, at}
use Rattle.task_model.specs.Terms.Program.{plain_kind, ref_kind, ParamTerm}
use Rattle.task_model.specs.Running.Checked.{CheckedTerm, slot_of, nodes_of, task_named, param_names}
use Rattle.task_model.specs.Checking.Names.{bind_value, bind_place, kind_in, named_type}
use Rattle.task_model.specs.Running.Plan.{give, ask, evaluates}
use Rattle.task_model.specs.Running.Rules.{later, later_by, bound, exprs_of, slots_for, evaluate_rule}
use Rattle.task_model.specs.Checking.TypeOf.{type_of}
use Rattle.task_model.specs.Checking.ProgramParts.{task_part, body_part, what_part, type_there, IsPart, of_definition}
use Rattle.task_model.specs.Checking.Fits.{StoreHas, SlotsHave, EnvHas, any_call, TaskFits, TreeHas}
use Rattle.typing_laws.specs.Assumed.{Typing, Grows, Kept, StandsIn, EvaluationFits, Assumed, Guaranteed}
use Rattle.typing_laws.specs.ProgramFacts.{ProgramFacts}
use Rattle.typing_laws.proofs.GoodLemmas.{good_after}
use Rattle.typing_laws.proofs.OperatorLemmas.{Has}
use Rattle.typing_laws.proofs.FitLemmas.{grows_same, grows_on, env_grows, later_grows, tree_grows, store_set, store_push, new_place, slot_found, env_bound}
use Rattle.typing_laws.proofs.UniqueLemmas.{case_scope, type_is}
use Rattle.typing_laws.proofs.PartLemmas.{drop_head}
use Rattle.typing_laws.proofs.ValueLemmas.{types_at, Goes, good_known, good_place, good_chosen, good_matched, fitting, good_slots}
use Rattle.typing_laws.proofs.StandLemmas.{part_of, placed_task, listed, evaluation, two_fit, two_stand, step_parts, side_parts}

exprs_are : (es : List HostTerm) → exprs_of (as_exprs es) ≡ es
exprs_are [] = refl
exprs_are (e ∷ es) = ap (λ z. e ∷ z) (exprs_are es)

module _ (c : CheckedTerm) where
  abbrev pub Keeps : List BasicTerm → BasicTerm → State → Type 0
  Keeps Σ b s = Kept c (types_at Σ b) s

  pub keep : (Σ : List BasicTerm) (b : BasicTerm) (t : TreeTerm) (σ : List ValueTerm) → StoreHas σ Σ → TreeHas c Σ t b → Keeps Σ b (at t σ)
  keep Σ b t σ s h = (Σ, grows_same Σ, record { store = s; tree = h })

  pub keep_on : (Σ Σ' : List BasicTerm) (b : BasicTerm) → Grows Σ Σ' → (s : State) → Keeps Σ' b s → Keeps Σ b s
  keep_on Σ Σ' b g s h = (h.0, grows_on Σ Σ' h.0 g h.1, h.2)

  -- a tree over what was kept
  pub keep_with : (Σ : List BasicTerm) (a b : BasicTerm) (s : State) (t : TreeTerm) → (k : Keeps Σ a s) → TreeHas c k.0 t b
      → Keeps Σ b (at t s.store)
  keep_with Σ a b s t k h = (k.0, k.1, record { store = k.2.store; tree = h })

  -- an environment before a task that stands later
  moved : (Σ : List BasicTerm) (n : ℕ) (env : EnvTerm) (s : List ParamTerm) → EnvHas Σ env s → EnvHas Σ (later_by n env) s
  moved Σ n env s h = record { names = h.names; slots = h.slots }

  -- a part, and then another in the store that it leaves
  good_two : (Σ : List BasicTerm) (t u : TaskTerm) (env : EnvTerm) (σ : List ValueTerm) (s : List ParamTerm) (a d b : BasicTerm)
      (join : TreeTerm → TreeTerm → TreeTerm) → IsPart c.program s (task_part t) → IsPart c.program s (task_part u)
      → TaskFits c s env.first (placed_task c t) a × TaskFits c s (env.first + nodes_of c.program t) (placed_task c u) d
      → StandsIn c.program env.names env.first t × StandsIn c.program env.names (env.first + nodes_of c.program t) u
      → EnvHas Σ env s → StoreHas σ Σ
      → ((Σ' : List BasicTerm) (v w : TreeTerm) → TreeHas c Σ' v a → TreeHas c Σ' w d → TreeHas c Σ' (join v w) b)
      → Goes c (ask (evaluates t env σ)
      (λ s. ask (evaluates u (later_by (nodes_of c.program t) env) s.store) (λ s'. give (at (join s.tree s'.tree) s'.store))))
      (Keeps Σ b)
  good_two Σ t u env σ s a d b join left right f g n h r = (
    types_at Σ a,
    evaluation c Σ t env σ s a left f.0 g.0 n h,
    λ x hx. (
      types_at hx.0 d,
      evaluation c hx.0 u (later_by (nodes_of c.program t) env) x.store s d right f.1 g.1
          (moved hx.0 (nodes_of c.program t) env s (env_grows Σ hx.0 hx.1 env s n)) hx.2.store,
      λ y hy. (
        hy.0,
        grows_on Σ hx.0 hy.0 hx.1 hy.1,
        record {
          store = hy.2.store;
          tree = r hy.0 x.tree y.tree (tree_grows hx.0 hy.0 hy.1 c x.tree a hx.2.tree) hy.2.tree;
        },
      ),
    ),
  )

  module _ (facts : ProgramFacts c) where
    pub evaluate_good : (i : Typing) (t : TaskTerm) (env : EnvTerm) (σ : List ValueTerm) → EvaluationFits c i t env σ
        → Goes c (evaluate_rule c t env σ) (Kept c i)
    evaluate_good i (edit e) env σ h =
        let listed_type = type_of c.program.defs h.scope e in
        good_known c (slice_get c.types env.first) listed_type _ (Kept c i)
        (drop_head c.types env.first listed_type h.fits.behind h.fits.lists) (
          i,
          fitting c i.places e env σ None h.scope i.type h.fits.typed h.stands.texts h.names h.store,
          λ v hv. keep i.places i.type (edit_tree listed_type v) σ h.store (type_is (any_call c.program) h.scope e i.type h.fits.typed, hv),
        )
    evaluate_good i (enter a) env σ h = keep i.places i.type (enter_tree a) σ h.store h.fits.typed
    evaluate_good i (share x) env σ h =
        let listed_type = named_type (kind_in h.scope x) in
        good_known c (slice_get c.types env.first) listed_type _ (Kept c i)
        (drop_head c.types env.first listed_type h.fits.behind h.fits.lists)
        (good_place c i.places (slot_of env x) i.type _ (Kept c i) (slot_found i.places env h.scope x
        (ref_kind i.type) h.names h.fits.typed)
        (λ n hn. keep i.places i.type (share_tree listed_type n) σ h.store (sym (ap named_type h.fits.typed), hn)))
    evaluate_good i (fail a) env σ h = keep i.places i.type fail_tree σ h.store tt
    evaluate_good i (call_task f es) env σ h =
        let d = h.fits.typed.0 in
        let calls = h.fits.typed.1 in
        let there = facts.tasks f d calls.body calls.first calls.task in
        good_known c (task_named c.program f) (record { params = d.def.params; task = calls.body; first = there.first }) _
        (Kept c i) there.named
        (good_after (Assumed c) (Guaranteed c) (slots_for env σ [] es d.def.params) _ _ (Kept c i)
        (subst (λ z. Goes c (slots_for env σ [] z d.def.params) (λ vs. SlotsHave i.places vs d.def.params)) (exprs_are es)
        (good_slots c i.places env σ None h.scope h.names h.store (as_exprs es) [] [] d.def.params h.fits.typed.3 h.stands.texts tt))
        (λ vs hv. (
          types_at i.places d.def.result,
          evaluation c i.places calls.body (record { names = param_names d.def.params; slots = vs; first = there.first }) σ d.def.params
              d.def.result (of_definition d.def.params (task_part calls.body) f d calls.first refl (sym (ap what_part calls.task)))
              there.fits there.stands (record { names = refl; slots = hv }) h.store,
          λ s hs. subst (λ b. Keeps i.places b s) (sym h.fits.typed.2) hs,
        )))
    evaluate_good i (then_task t j) env σ h =
        let g = h.stands in
        let k = step_parts c i.places t j env σ h.scope i.type (part_of 0 h.scope (task_part t) h.part refl)
        (part_of 1 h.scope (body_part j (Some (type_there c.program h.scope t))) h.part refl)
        h.fits g.placed g.starts g.sides g.texts h.names h.store in (
          types_at i.places k.0,
          k.1,
          λ s hs. keep_with i.places k.0 i.type s (then_tree s.tree (later j env)) hs
              (k.0, hs.2.tree, later_grows i.places hs.0 hs.1 c (later j env) (Some k.0) i.type k.2),
        )
    evaluate_good i (next_task t j) env σ h =
        let g = h.stands in
        let k = step_parts c i.places t j env σ h.scope i.type (part_of 0 h.scope (task_part t) h.part refl)
        (part_of 1 h.scope (body_part j (Some (type_there c.program h.scope t))) h.part refl)
        h.fits g.placed g.starts g.sides g.texts h.names h.store in (
          types_at i.places k.0,
          k.1,
          λ s hs. keep_with i.places k.0 i.type s (next_tree s.tree (later j env)) hs
              (k.0, hs.2.tree, later_grows i.places hs.0 hs.1 c (later j env) (Some k.0) i.type k.2),
        )
    evaluate_good i (and_task t u) env σ h =
        let (a, d, is, p, q) = h.fits.typed in
        let g = h.stands in
        good_two i.places t u env σ h.scope a d i.type and_tree (part_of 0 h.scope (task_part t) h.part refl)
        (part_of 1 h.scope (task_part u) h.part refl)
        (two_fit c h.scope h.scope env.first t u env.names a d h.fits.behind h.fits.lists g.placed.0 p q)
        (two_stand c env.names env.names env.first t u g.placed.0 g.placed.1 g.starts g.sides g.texts) h.names h.store
        (λ Σ' v w hv hw. (a, d, is, hv, hw))
    evaluate_good i (or_task t u) env σ h =
        let (p, q) = h.fits.typed in
        let g = h.stands in
        good_two i.places t u env σ h.scope i.type i.type i.type or_tree (part_of 0 h.scope (task_part t) h.part refl)
        (part_of 1 h.scope (task_part u) h.part refl)
        (two_fit c h.scope h.scope env.first t u env.names i.type i.type h.fits.behind h.fits.lists g.placed.0 p q)
        (two_stand c env.names env.names env.first t u g.placed.0 g.placed.1 g.starts g.sides g.texts) h.names h.store
        (λ Σ' v w hv hw. (hv, hw))
    evaluate_good i (xor_task j k) env σ h =
        keep i.places i.type (xor_tree (later j env) (later k env)) σ h.store
        (side_parts c i.places j k env h.scope i.type h.part h.fits h.stands h.names)
    evaluate_good i (let_task x e t) env σ h =
        let (a, p, q) = h.fits.typed in
        let g = h.stands in (
          types_at i.places a,
          fitting c i.places e env σ None h.scope a p g.texts.0 h.names h.store,
          λ v hv. (
            i,
            evaluation c i.places t (bound env x (plain_slot v)) σ (bind_value h.scope x a) i.type
                (subst (λ z. IsPart c.program (bind_value h.scope x z) (task_part t)) (sym (type_is (any_call c.program) h.scope e a p))
                (part_of 1 (bind_value h.scope x (type_of c.program.defs h.scope e)) (task_part t) h.part refl))
                (record {
                  typed = q;
                  behind = h.fits.behind;
                  lists = subst (λ z. drop env.first c.types ≡ listed c (bind_value h.scope x z) (placed_task c t) ++ h.fits.behind)
                      (sym (type_is (any_call c.program) h.scope e a p)) h.fits.lists;
                })
                (record { placed = g.placed; starts = g.starts; sides = g.sides; texts = g.texts.1 })
                (env_bound i.places env h.scope (plain_slot v) (record { name = x; kind = plain_kind a }) h.names hv) h.store,
            λ s hs. hs,
          ),
        )
    evaluate_good i (if_task e t u) env σ h =
        let (p, q, r) = h.fits.typed in
        let g = h.stands in
        let fits = two_fit c h.scope h.scope env.first t u env.names i.type i.type h.fits.behind h.fits.lists g.placed.0 q r in
        let stand = two_stand c env.names env.names env.first t u g.placed.0 g.placed.1 g.starts g.sides (g.texts.1, g.texts.2) in (
          types_at i.places bool_type,
          fitting c i.places e env σ None h.scope bool_type p g.texts.0 h.names h.store,
          λ v hv. good_chosen c v _ _ (Kept c i) hv (
            i,
            evaluation c i.places t env σ h.scope i.type (part_of 1 h.scope (task_part t) h.part refl)
                fits.0 stand.0 h.names h.store,
            λ s hs. hs,
          ) (
            i,
            evaluation c i.places u (later_by (nodes_of c.program t) env) σ h.scope i.type
                (part_of 2 h.scope (task_part u) h.part refl) fits.1 stand.1
                (moved i.places (nodes_of c.program t) env h.scope h.names) h.store,
            λ s hs. hs,
          ),
        )
    evaluate_good i (case_task e t x y u) env σ h =
        let (a, d, is, p, q, r) = h.fits.typed in
        let g = h.stands in
        let inner = bind_value (bind_value h.scope x a) y d in
        let same = case_scope h.scope x y a d (type_of c.program.defs h.scope e) is (type_is (any_call c.program) h.scope e d p) in
        let lists = subst (λ z. drop env.first c.types ≡ (listed c h.scope (placed_task c t) ++ listed c z
        (placed_task c u)) ++ h.fits.behind) same
        h.fits.lists in
        let fits = two_fit c h.scope inner env.first t u env.names i.type i.type h.fits.behind lists g.placed.0 q r in
        let stand = two_stand c env.names ((env.names ++ x ∷ []) ++ y ∷ []) env.first t u g.placed.0 g.placed.1 g.starts g.sides
        (g.texts.1, g.texts.2) in
        let later_env = later_by (nodes_of c.program t) env in (
          types_at i.places d,
          fitting c i.places e env σ None h.scope d p g.texts.0 h.names h.store,
          λ v hv. good_matched c v a _ _ (Kept c i) (subst (Has v) is hv) (
            i,
            evaluation c i.places t env σ h.scope i.type (part_of 1 h.scope (task_part t) h.part refl)
                fits.0 stand.0 h.names h.store,
            λ s hs. hs,
          )
              (λ head tail hh ht. (
                i,
                evaluation c i.places u (bound (bound later_env x (plain_slot head)) y (plain_slot tail)) σ inner i.type
                    (subst (λ z. IsPart c.program z (task_part u)) same (part_of 2 _ (task_part u) h.part refl)) fits.1 stand.1
                    (env_bound i.places (bound later_env x (plain_slot head)) (bind_value h.scope x a) (plain_slot tail)
                    (record { name = y; kind = plain_kind d })
                    (env_bound i.places later_env h.scope (plain_slot head) (record { name = x; kind = plain_kind a })
                    (moved i.places (nodes_of c.program t) env h.scope h.names) hh)
                    (subst (Has tail) (sym is) ht)) h.store,
                λ s hs. hs,
              )),
        )
    evaluate_good i (new_task x e t) env σ h =
        let (a, p, q) = h.fits.typed in
        let g = h.stands in
        let more = i.places ++ a ∷ [] in
        let grows : Grows i.places more = (a ∷ [], refl) in (
          types_at i.places a,
          fitting c i.places e env σ None h.scope a p g.texts.0 h.names h.store,
          λ v hv. (
            types_at more i.type,
            evaluation c more t (bound env x (place_slot (length σ))) (σ ++ v ∷ []) (bind_place h.scope x a) i.type
                (subst (λ z. IsPart c.program (bind_place h.scope x z) (task_part t)) (sym (type_is (any_call c.program) h.scope e a p))
                (part_of 1 (bind_place h.scope x (type_of c.program.defs h.scope e)) (task_part t) h.part refl))
                (record {
                  typed = q;
                  behind = h.fits.behind;
                  lists = subst (λ z. drop env.first c.types ≡ listed c (bind_place h.scope x z) (placed_task c t) ++ h.fits.behind)
                      (sym (type_is (any_call c.program) h.scope e a p)) h.fits.lists;
                })
                (record { placed = g.placed; starts = g.starts; sides = g.sides; texts = g.texts.1 })
                (env_bound more env h.scope (place_slot (length σ)) (record { name = x; kind = ref_kind a })
                (env_grows i.places more grows env h.scope h.names) (new_place σ i.places a h.store))
                (store_push σ i.places v a h.store hv),
            λ s hs. keep_on i.places more i.type grows s hs,
          ),
        )
    evaluate_good i (put_task x e t) env σ h =
        let (a, r, p, q) = h.fits.typed in
        let g = h.stands in
        good_place c i.places (slot_of env x) a _ (Kept c i) (slot_found i.places env h.scope x (ref_kind a) h.names r)
        (λ n hn. (
          types_at i.places a,
          fitting c i.places e env σ None h.scope a p g.texts.0 h.names h.store,
          λ v hv. (
            i,
            evaluation c i.places t env (slice_set σ n v) h.scope i.type (part_of 1 h.scope (task_part t) h.part refl)
                (record { typed = q; behind = h.fits.behind; lists = h.fits.lists })
                (record { placed = g.placed; starts = g.starts; sides = g.sides; texts = g.texts.1 }) h.names
                (store_set σ i.places n a v h.store hn hv),
            λ s hs. hs,
          ),
        ))
