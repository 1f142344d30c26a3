-- Every rule goes alike over two stores that agree inside: by a case for each form.
use Rattle.std.proofs.Common.{◌≡◌, ℕ, Bool, true, false, List, [], ◌∷◌, ◌++◌, length, Option, Some, None, refl, sym, ap, ◌∙◌, subst}
use Rattle.std.specs.Prelude.{slice_get, slice_set}
use Rattle.task_model.specs.Terms.Value.{ValueTerm}
use Rattle.task_model.specs.Terms.Env.{SlotTerm, plain_slot, place_slot, EnvTerm}
use Rattle.task_model.specs.Terms.Task.{TaskTerm, edit, enter, share, fail, call_task, then_task, next_task, and_task, or_task, xor_task, let_task, if_task, case_task, new_task, put_task}
use Rattle.task_model.specs.Terms.Tree.{LaterTerm, TreeTerm, edit_tree, enter_tree, share_tree, then_tree, next_tree, fail_tree, and_tree, or_tree, xor_tree, State, at}
use Rattle.task_model.specs.Running.Checked.{CheckedTerm, nodes_of, task_named, param_names}
use Rattle.task_model.specs.Running.Plan.{Judgement, gives_value, evaluates, fails, strides, settles, normal, Derived, Plan, give, ask, stride_on, derives_at}
use Rattle.task_model.specs.Running.Rules.{bound, later_by, branch, slots_for, value_of, with_value, or_of, later, evaluate_rule, opened_env, applied, tested, side, fail_rule, fired, stride_rule, rule_of}
use Rattle.task_laws.proofs.LikeLemmas.{over, result_over, Like, like_give, like_ask, like_unit, like_strides, like_after, Results, derives_alike}
use Rattle.task_laws.proofs.RenumberLemmas.{SlotsIn, TreeIn, slots_in_push, with_slots, slots_to, later_to, push_to, or_of_to}
use Rattle.task_laws.proofs.TwinLemmas.{Frame, Twins, twins_push, twins_set, new_in, new_to, value_alike}
use Rattle.task_laws.proofs.AlikeLemmas.{Alike, AlikeIn, Pre, Post, there, steady, Goes, SameBool, SameState, SameSlots, give_bool, give_state, like_known, like_ref, like_branch, like_chosen, like_matched, like_or, bind_in, bind_two, moved_in, over_left, like_slots, like_host}

module _ (f : Frame) (c : CheckedTerm) where
  -- ---- evaluating
  -- a last part
  last_task : (t : TaskTerm) (env : EnvTerm) (ss : List SlotTerm) (σ τ : List ValueTerm) → AlikeIn f env ss σ τ
      → Goes f (SameState f) (ask (evaluates t env σ) give) (ask (evaluates t (with_slots env ss) τ) give)
  last_task t env ss σ τ h = like_ask (evaluates t env σ) ss τ _ _ h (λ s τ' r. like_give s (at (there f s.tree) τ') (τ', refl, r))

  -- a part that comes after others in the text
  last_later : (t u : TaskTerm) (env : EnvTerm) (ss : List SlotTerm) (σ τ : List ValueTerm) → AlikeIn f env ss σ τ
      → Goes f (SameState f) (ask (evaluates u (later_by (nodes_of c.program t) env) σ) give)
      (ask (evaluates u (later_by (nodes_of c.program t) (with_slots env ss)) τ) give)
  last_later t u env ss σ τ h =
      last_task u (later_by (nodes_of c.program t) env) ss σ τ (moved_in f env ss σ τ (nodes_of c.program t) h)

  like_two : (t u : TaskTerm) (env : EnvTerm) (ss : List SlotTerm) (σ τ : List ValueTerm) (join : TreeTerm → TreeTerm → TreeTerm)
      → AlikeIn f env ss σ τ → ((m n : TreeTerm) → TreeIn f.in_left m → TreeIn f.in_left n → TreeIn f.in_left (join m n))
      → ((m n : TreeTerm) → join (there f m) (there f n) ≡ there f (join m n))
      → Goes f (SameState f)
      (ask (evaluates t env σ)
      (λ s. ask (evaluates u (later_by (nodes_of c.program t) env) s.store) (λ s'. give (at (join s.tree s'.tree) s'.store))))
      (ask (evaluates t (with_slots env ss) τ)
      (λ s. ask (evaluates u (later_by (nodes_of c.program t) (with_slots env ss)) s.store)
      (λ s'. give (at (join s.tree s'.tree) s'.store))))
  like_two t u env ss σ τ join h r e =
      like_ask (evaluates t env σ) ss τ _ _ h (λ s τ' q.
      like_ask (evaluates u (later_by (nodes_of c.program t) env) s.store) ss τ' _ _
      (moved_in f env ss s.store τ' (nodes_of c.program t) (over_left f env ss σ τ s τ' h q)) (λ s' τ'' q'.
      give_state f (join s.tree s'.tree) (join (there f s.tree) (there f s'.tree)) s'.store τ'' (e s.tree s'.tree)
      (r s.tree s'.tree q.tree q'.tree) q'.stores))

  -- a body with the slots of an environment
  later_same : (i : ℕ) (env : EnvTerm) (ss : List SlotTerm) → ss ≡ slots_to f.to_right env.slots
      → later i (with_slots env ss) ≡ later_to f.to_right (later i env)
  later_same i env ss e = ap (λ z. later i (with_slots env z)) e

  like_task : (t : TaskTerm) (env : EnvTerm) (ss : List SlotTerm) (σ τ : List ValueTerm) → AlikeIn f env ss σ τ
      → Goes f (SameState f) (evaluate_rule c t env σ) (evaluate_rule c t (with_slots env ss) τ)
  like_task (edit e) env ss σ τ h =
      like_known f (SameState f) (slice_get c.types env.first) _ _ (λ b.
      like_ask (gives_value e env σ) ss τ _ _ h (λ v τ' r. give_state f (edit_tree b v) (edit_tree b v) σ τ refl tt h.stores))
  like_task (enter b) env ss σ τ h = give_state f (enter_tree b) (enter_tree b) σ τ refl tt h.stores
  like_task (share x) env ss σ τ h =
      like_known f (SameState f) (slice_get c.types env.first) _ _ (λ b. like_ref f (SameState f) env ss x _ _ h.slots h.same
      (λ n i. give_state f (share_tree b n) (share_tree b (f.to_right n)) σ τ refl i h.stores))
  like_task (fail b) env ss σ τ h = give_state f fail_tree fail_tree σ τ refl tt h.stores
  like_task (call_task g es) env ss σ τ h =
      like_known f (SameState f) (task_named c.program g) _ _
      (λ d. like_unit _ _ (like_after f.to_right (Pre f) (Post f) (SameSlots f) (SameState f) (slots_for env σ [] es d.params)
      (slots_for (with_slots env ss) τ [] es d.params) _ _ (like_slots f env ss σ τ [] [] es d.params h (refl, tt))
      (λ vs us q. last_task d.task (record {
        names = param_names d.params;
        slots = vs;
        first = d.first;
      }) us σ τ (record { slots = q.1; same = q.0; stores = h.stores }))))
  like_task (then_task t i) env ss σ τ h = like_ask (evaluates t env σ) ss τ _ _ h
      (λ s τ' q. give_state f (then_tree s.tree (later i env)) (then_tree (there f s.tree) (later i (with_slots env ss))) s.store τ'
      (ap (then_tree (there f s.tree)) (later_same i env ss h.same)) (q.tree, h.slots) q.stores)
  like_task (next_task t i) env ss σ τ h = like_ask (evaluates t env σ) ss τ _ _ h
      (λ s τ' q. give_state f (next_tree s.tree (later i env)) (next_tree (there f s.tree) (later i (with_slots env ss))) s.store τ'
      (ap (next_tree (there f s.tree)) (later_same i env ss h.same)) (q.tree, h.slots) q.stores)
  like_task (and_task t u) env ss σ τ h = like_two t u env ss σ τ and_tree h (λ m n i j. (i, j)) (λ m n. refl)
  like_task (or_task t u) env ss σ τ h = like_two t u env ss σ τ or_tree h (λ m n i j. (i, j)) (λ m n. refl)
  like_task (xor_task i j) env ss σ τ h =
      give_state f (xor_tree (later i env) (later j env)) (xor_tree (later i (with_slots env ss)) (later j (with_slots env ss))) σ τ
      (ap (λ z. xor_tree z (later j (with_slots env ss))) (later_same i env ss h.same)
      ∙ ap (xor_tree (later_to f.to_right (later i env))) (later_same j env ss h.same)) (h.slots, h.slots) h.stores
  like_task (let_task x e t) env ss σ τ h =
      like_ask (gives_value e env σ) ss τ _ _ h (λ v τ' r. last_task t (bound env x (plain_slot v)) (ss ++ plain_slot v ∷ []) σ τ
      (bind_in f env ss σ τ x (plain_slot v) h tt))
  like_task (if_task e t u) env ss σ τ h =
      like_ask (gives_value e env σ) ss τ _ _ h
      (λ v τ' r. like_chosen f (SameState f) v _ _ _ _ (last_task t env ss σ τ h) (last_later t u env ss σ τ h))
  like_task (case_task e t x y u) env ss σ τ h =
      like_ask (gives_value e env σ) ss τ _ _ h (λ v τ' r. like_matched f (SameState f) v _ _ _ _ (last_task t env ss σ τ h)
      (λ head tail. last_task u (bound (bound (later_by (nodes_of c.program t) env) x (plain_slot head)) y (plain_slot tail))
      ((ss ++ plain_slot head ∷ []) ++ plain_slot tail ∷ []) σ τ
      (bind_two f (later_by (nodes_of c.program t) env) ss σ τ x y head tail (moved_in f env ss σ τ (nodes_of c.program t) h))))
  like_task (new_task x e t) env ss σ τ h =
      like_ask (gives_value e env σ) ss τ _ _ h (λ v τ' r.
      last_task t (bound env x (place_slot (length σ))) (ss ++ place_slot (length τ) ∷ []) (σ ++ v ∷ []) (τ ++ v ∷ []) (record {
        slots = slots_in_push f.in_left env.slots (place_slot (length σ)) h.slots (new_in f σ τ h.stores);
        same = ap (λ z. z ++ place_slot (length τ) ∷ []) h.same
            ∙ ap (λ n. slots_to f.to_right env.slots ++ place_slot n ∷ []) (sym (new_to f σ τ h.stores))
            ∙ push_to f.to_right env.slots (place_slot (length σ));
        stores = twins_push f σ τ v h.stores;
      }))
  like_task (put_task x e t) env ss σ τ h =
      like_ref f (SameState f) env ss x _ _ h.slots h.same (λ n i. like_ask (gives_value e env σ) ss τ _ _ h (λ v τ' r.
      last_task t env ss (slice_set σ n v) (slice_set τ (f.to_right n) v) (record {
        slots = h.slots;
        same = h.same;
        stores = twins_set f σ τ n v i h.stores;
      })))

  -- ---- bodies, failing and trials
  like_applied : {A B : Type 0} (R : A → B → Type 0) (k : LaterTerm) (v : ValueTerm) (σ τ : List ValueTerm) (p : State → Plan A)
      (p' : State → Plan B) → SlotsIn f.in_left k.slots → Twins f σ τ
      → ((s : State) (τ' : List ValueTerm) → Alike f s τ' → Goes f R (p s) (p' (at (there f s.tree) τ')))
      → Goes f R (applied c k v σ p) (applied c (later_to f.to_right k) v τ p')
  like_applied R k v σ τ p p' i h r =
      like_known f R (slice_get c.program.bodies k.body) _ _
      (λ b. like_ask (evaluates b.task (opened_env c k.body b (k.slots ++ plain_slot v ∷ [])) σ)
      (slots_to f.to_right k.slots ++ plain_slot v ∷ []) τ p p' (record {
        slots = slots_in_push f.in_left k.slots (plain_slot v) i tt;
        same = push_to f.to_right k.slots (plain_slot v);
        stores = h;
      }) r)

  pub like_tested : {A B : Type 0} (R : A → B → Type 0) (i : ℕ) (ss us : List SlotTerm) (σ τ : List ValueTerm)
      (p : State → Bool → Plan A) (p' : State → Bool → Plan B) → SlotsIn f.in_left ss → us ≡ slots_to f.to_right ss → Twins f σ τ
      → ((s : State) (τ' : List ValueTerm) (no : Bool) → Alike f s τ' → Goes f R (p s no) (p' (at (there f s.tree) τ') no))
      → Goes f R (tested c i ss σ p) (tested c i us τ p')
  like_tested R i ss us σ τ p p' q e h r =
      like_known f R (slice_get c.program.bodies i) _ _
      (λ b. like_ask (normal b.task (opened_env c i b ss) σ) us τ _ _ (record {
        slots = q;
        same = e;
        stores = h;
      }) (λ s τ' a. like_ask (fails s) [] τ' _ _ a (λ no τ'' a'. r s τ' no a)))

  -- whether a body with these slots is failing
  pub like_test : (i : ℕ) (ss us : List SlotTerm) (σ τ : List ValueTerm) → SlotsIn f.in_left ss → us ≡ slots_to f.to_right ss → Twins f σ τ
      → Goes f (SameBool f) (tested c i ss σ (λ s no. give no)) (tested c i us τ (λ s no. give no))
  like_test i ss us σ τ q e h = like_tested (SameBool f) i ss us σ τ _ _ q e h (λ s τ' no a. give_bool f no)

  like_fails : (t u : TreeTerm) (σ τ : List ValueTerm) → TreeIn f.in_left t → TreeIn f.in_left u → Twins f σ τ
      → Goes f (SameBool f) (ask (fails (at t σ)) (λ no. branch no (ask (fails (at u σ)) give) (give false)))
      (ask (fails (at (there f t) τ)) (λ no. branch no (ask (fails (at (there f u) τ)) give) (give false)))
  like_fails t u σ τ i j h =
      like_ask (fails (at t σ)) [] τ _ _ (record { tree = i; stores = h }) (λ z τ' r. like_branch f (SameBool f) z _ _ _ _
      (like_ask (fails (at u σ)) [] τ _ _ (record { tree = j; stores = h }) (λ y τ'' r'. give_bool f y)) (give_bool f false))

  like_fail : (t : TreeTerm) (σ τ : List ValueTerm) → TreeIn f.in_left t → Twins f σ τ
      → Goes f (SameBool f) (fail_rule c t σ) (fail_rule c (there f t) τ)
  like_fail (edit_tree b v) σ τ i h = give_bool f false
  like_fail (enter_tree b) σ τ i h = give_bool f false
  like_fail (share_tree b n) σ τ i h = give_bool f false
  like_fail (then_tree t k) σ τ i h = like_ask (fails (at t σ)) [] τ _ _ (record { tree = i.0; stores = h }) (λ no τ' r. give_bool f no)
  like_fail (next_tree t k) σ τ i h = like_ask (fails (at t σ)) [] τ _ _ (record { tree = i.0; stores = h }) (λ no τ' r. give_bool f no)
  like_fail fail_tree σ τ i h = give_bool f true
  like_fail (and_tree t u) σ τ i h = like_fails t u σ τ i.0 i.1 h
  like_fail (or_tree t u) σ τ i h = like_fails t u σ τ i.0 i.1 h
  like_fail (xor_tree j k) σ τ i h =
      let left = later_to f.to_right j in
      let right = later_to f.to_right k in
      like_after f.to_right (Pre f) (Post f) (SameBool f) (SameBool f) (side c j σ) (side c left τ) _ _
      (like_test j.body j.slots left.slots σ τ i.0 refl h)
      (λ x y e. subst (λ z. Goes f (SameBool f) (branch x (side c k σ) (give false)) (branch z (side c right τ) (give false))) (sym e.1)
      (like_branch f (SameBool f) x _ _ _ _ (like_test k.body k.slots right.slots σ τ i.1 refl h) (give_bool f false)))

  -- ---- strides
  -- a state as it is
  give_same : (s : State) (τ : List ValueTerm) → Alike f s τ → Goes f (SameState f) (give s) (give (at (there f s.tree) τ))
  give_same s τ h = like_give s (at (there f s.tree) τ) (τ, refl, h)

  like_fired : (o : Option ValueTerm) (k : LaterTerm) (s : State) (τ : List ValueTerm) → SlotsIn f.in_left k.slots → Alike f s τ
      → Goes f (SameState f) (fired c o k s) (fired c o (later_to f.to_right k) (at (there f s.tree) τ))
  like_fired None k s τ i h = give_same (at (then_tree s.tree k) s.store) τ (record { tree = (h.tree, i); stores = h.stores })
  like_fired (Some v) k s τ i h =
      like_applied (SameState f) k v s.store τ _ _ i h.stores
      (λ t τ' q. like_ask (fails t) [] τ' _ _ q (λ no τ'' r. like_branch f (SameState f) no _ _ _ _
      (give_same (at (then_tree s.tree k) s.store) τ (record { tree = (h.tree, i); stores = h.stores })) (give_same t τ' q)))

  or_in : (o : Option ValueTerm) (t u : TreeTerm) → TreeIn f.in_left t → TreeIn f.in_left u → TreeIn f.in_left (or_of o t u)
  or_in None t u i j = (i, j)
  or_in (Some v) t u i j = j

  -- both sides, or the second alone where it has a value
  like_either : (s s' : State) (τ : List ValueTerm) → TreeIn f.in_left s.tree → Alike f s' τ
      → Goes f (SameState f) (give (at (or_of (value_of s'.tree s'.store) s.tree s'.tree) s'.store))
      (give (at (or_of (value_of (there f s'.tree) τ) (there f s.tree) (there f s'.tree)) τ))
  like_either s s' τ i h =
      let o = value_of s'.tree s'.store in
      give_state f (or_of o s.tree s'.tree) (or_of (value_of (there f s'.tree) τ) (there f s.tree) (there f s'.tree)) s'.store τ
      (ap (λ z. or_of z (there f s.tree) (there f s'.tree)) (sym (value_alike f s'.tree s'.store τ h.tree h.stores))
      ∙ or_of_to f.to_right o s.tree s'.tree) (or_in o s.tree s'.tree i h.tree) h.stores

  like_stride : (t : TreeTerm) (σ τ : List ValueTerm) → TreeIn f.in_left t → Twins f σ τ
      → Goes f (SameState f) (stride_rule c t σ) (stride_rule c (there f t) τ)
  like_stride (edit_tree b v) σ τ i h = give_same (at (edit_tree b v) σ) τ (record { tree = i; stores = h })
  like_stride (enter_tree b) σ τ i h = give_same (at (enter_tree b) σ) τ (record { tree = i; stores = h })
  like_stride (share_tree b n) σ τ i h = give_same (at (share_tree b n) σ) τ (record { tree = i; stores = h })
  like_stride fail_tree σ τ i h = give_same (at fail_tree σ) τ (record { tree = i; stores = h })
  like_stride (xor_tree j k) σ τ i h = give_same (at (xor_tree j k) σ) τ (record { tree = i; stores = h })
  like_stride (next_tree t k) σ τ i h =
      like_ask (strides (at t σ)) [] τ _ _ (record { tree = i.0; stores = h })
      (λ s τ' q. give_same (at (next_tree s.tree k) s.store) τ' (record { tree = (q.tree, i.1); stores = q.stores }))
  like_stride (and_tree t u) σ τ i h =
      like_ask (strides (at t σ)) [] τ _ _ (record { tree = i.0; stores = h }) (λ s τ' q.
      like_ask (strides (at u s.store)) [] τ' _ _ (record { tree = i.1; stores = q.stores }) (λ s' τ'' q'.
      give_same (at (and_tree s.tree s'.tree) s'.store) τ'' (record { tree = (q.tree, q'.tree); stores = q'.stores })))
  like_stride (then_tree t k) σ τ i h =
      like_ask (strides (at t σ)) [] τ _ _ (record { tree = i.0; stores = h }) (λ s τ' q.
      subst (λ z. Goes f (SameState f) (fired c (value_of s.tree s.store) k s) (fired c z (later_to f.to_right k) (at (there f s.tree) τ')))
      (value_alike f s.tree s.store τ' q.tree q.stores) (like_fired (value_of s.tree s.store) k s τ' i.1 q))
  like_stride (or_tree t u) σ τ i h =
      like_ask (strides (at t σ)) [] τ _ _ (record { tree = i.0; stores = h }) (λ s τ' q.
      subst (λ z. Goes f (SameState f)
      (with_value (value_of s.tree s.store) (give s)
      (ask (strides (at u s.store)) (λ s'. give (at (or_of (value_of s'.tree s'.store) s.tree s'.tree) s'.store))))
      (with_value z (give (at (there f s.tree) τ'))
      (ask (strides (at (there f u) τ')) (λ s'. give (at (or_of (value_of s'.tree s'.store) (there f s.tree) s'.tree) s'.store)))))
      (value_alike f s.tree s.store τ' q.tree q.stores)
      (like_or f (SameState f) (value_of s.tree s.store) _ _ _ _ (give_same s τ' q)
      (like_ask (strides (at u s.store)) [] τ' _ _ (record { tree = i.1; stores = q.stores })
      (λ s' τ'' q'. like_either s s' τ'' q.tree q'))))

  -- ---- all rules
  like_strides_on : (s : State) (τ : List ValueTerm) → Alike f s τ
      → Goes f (SameState f) (stride_on s give) (stride_on (at (there f s.tree) τ) give)
  like_strides_on s τ h = like_strides s τ _ _ h (λ t τ' q. give_same t τ' q)

  like_rule : (q : Judgement) (ss : List SlotTerm) (τ : List ValueTerm) → Pre f q ss τ
      → Like f.to_right (Pre f) (Post f) (Results f.to_right (Pre f) (Post f) (steady f) q ss τ) (rule_of c q)
      (rule_of c (over f.to_right q ss τ))
  like_rule (gives_value e env σ) ss τ h = like_host f c e env ss σ τ h
  like_rule (evaluates t env σ) ss τ h = like_task t env ss σ τ h
  like_rule (fails s) ss τ h = like_fail s.tree s.store τ h.tree h.stores
  like_rule (strides s) ss τ h = like_stride s.tree s.store τ h.tree h.stores
  like_rule (settles s) ss τ h = like_strides_on s τ h
  like_rule (normal t env σ) ss τ h = like_ask (evaluates t env σ) ss τ _ _ h (λ s τ' q. like_strides_on s τ' q)

  pub all_alike : (k : ℕ) (q : Judgement) (ss : List SlotTerm) (τ : List ValueTerm) → Pre f q ss τ → (r : Derived q) (n h : ℕ)
      → derives_at (rule_of c) k q r n h → (τ' : List ValueTerm)
      × derives_at (rule_of c) k (over f.to_right q ss τ) (result_over f.to_right q ss τ r τ') n h × Post f q r τ'
  all_alike k q ss τ a r n h d = derives_alike f.to_right (Pre f) (Post f) (steady f) (rule_of c) like_rule k q ss τ a r n h d
