-- Parts of rules that go alike over two stores, and the rules of expressions.
use Rattle.std.proofs.Common.{◌≡◌, ℕ, Bool, true, false, List, [], ◌∷◌, ◌++◌, Option, Some, None, refl, sym, ap, ◌∙◌, subst}
use Rattle.std.specs.Prelude.{slice_get}
use Rattle.task_model.specs.Terms.Text.{Text}
use Rattle.task_model.specs.Terms.Value.{ValueTerm, unit_value, bool_value, int_value, text_value, pair_value, list_value, no_values, more_values}
use Rattle.task_model.specs.Running.Operators.{list_of, operated, negated, opposite, first_of, second_of, length_of}
use Rattle.task_model.specs.Terms.Env.{SlotTerm, plain_slot, place_slot, EnvTerm}
use Rattle.task_model.specs.Terms.Host.{HostTerm, unit_expr, bool_expr, int_expr, text_expr, name_expr, read_expr, call_expr, pair_expr, list_expr, nil_expr, neg_expr, not_expr, fst_expr, snd_expr, len_expr, op_expr, let_expr, if_expr, case_expr, HostTerms, no_exprs, more_exprs}
use Rattle.task_model.specs.Terms.Program.{KindTerm, plain_kind, ref_kind, ParamTerm}
use Rattle.task_model.specs.Terms.Tree.{TreeTerm, State, at}
use Rattle.task_model.specs.Running.Checked.{CheckedTerm, slot_of, fun_named, param_names}
use Rattle.task_model.specs.Running.Plan.{Judgement, gives_value, evaluates, fails, strides, settles, normal, Derived, Plan, give, ask, known}
use Rattle.task_model.specs.Running.Rules.{bound, later_by, as_value, as_place, branch, chosen, matched, bare_name, slot_for, slots_for, exprs_of, values_for, with_value, op_rule, value_rule}
use Rattle.task_model.specs.declared.host.Op.{Op}
use Rattle.task_model.specs.declared.host.Op.TheVariants as ops
use Rattle.task_laws.proofs.LikeLemmas.{Like, like_give, like_stuck, like_ask, like_unit, like_after, Steady}
use Rattle.task_laws.proofs.RenumberLemmas.{SlotIn, SlotsIn, TreeIn, slots_in_push, IfIn, found_in, with_slots, slot_to, slots_to, tree_to, push_to, if_to, found_to}
use Rattle.task_laws.proofs.TwinLemmas.{Frame, Twins, stays, same_tree}

module _ (f : Frame) where
  -- ---- what is assumed of a judgement over a second store, and what holds of its result there
  pub record Alike (s : State) (τ : List ValueTerm) : Type 0 where
    pub tree : TreeIn f.in_left s.tree
    pub stores : Twins f s.store τ

  pub record AlikeIn (env : EnvTerm) (ss : List SlotTerm) (σ τ : List ValueTerm) : Type 0 where
    pub slots : SlotsIn f.in_left env.slots
    pub same : ss ≡ slots_to f.to_right env.slots
    pub stores : Twins f σ τ

  abbrev pub Pre : Judgement → List SlotTerm → List ValueTerm → Type 0
  Pre (gives_value e env σ) ss τ = AlikeIn env ss σ τ
  Pre (evaluates t env σ) ss τ = AlikeIn env ss σ τ
  Pre (fails s) ss τ = Alike s τ
  Pre (strides s) ss τ = Alike s τ
  Pre (settles s) ss τ = Alike s τ
  Pre (normal t env σ) ss τ = AlikeIn env ss σ τ

  abbrev pub Post : (q : Judgement) → Derived q → List ValueTerm → Type 0
  Post (gives_value e env σ) v τ = Unit {0}
  Post (evaluates t env σ) s τ = Alike s τ
  Post (fails s) b τ = Unit {0}
  Post (strides s) t τ = Alike t τ
  Post (settles s) t τ = Alike t τ
  Post (normal t env σ) s τ = Alike s τ

  -- the tree of a state of the one store in the other one
  abbrev pub there : TreeTerm → TreeTerm
  there t = tree_to f.to_right t

  pub steady : Steady f.to_right Pre Post
  steady = record {
    still = λ s t τ τ' h q.
        let b = stays f s.store t.store τ τ' h.stores q.stores in (
          (λ e. state_by (at (there t.tree) τ') (at (there s.tree) τ) (ap (λ (z : State). there z.tree) e)
              (b.0 (ap (λ (z : State). z.store) e))),
          (λ e. state_by t s (same_tree f t.tree s.tree q.tree h.tree (ap (λ (z : State). z.tree) e))
              (b.1 (ap (λ (z : State). z.store) e))),
        );
    next = λ s t τ τ' h q. q;
    whole = λ s t u τ h. h;
  }
    where
      state_by : (t s : State) → t.tree ≡ s.tree → t.store ≡ s.store → t ≡ s
      state_by t s e e' = let z = ap (λ x. at x t.store) e in let w = ap (λ x. at s.tree x) e' in z ∙ w

  -- ---- plans and their results over both stores
  abbrev pub Goes : {A B : Type 0} → (A → B → Type 0) → Plan A → Plan B → Type 0
  Goes R q q' = Like f.to_right Pre Post R q q'

  abbrev pub SameValue : ValueTerm → ValueTerm → Type 0
  SameValue v w = (τ : List ValueTerm) × (w ≡ v) × Unit {0}

  abbrev pub SameBool : Bool → Bool → Type 0
  SameBool v w = (τ : List ValueTerm) × (w ≡ v) × Unit {0}

  abbrev pub SameState : State → State → Type 0
  SameState s s' = (τ : List ValueTerm) × (s' ≡ at (there s.tree) τ) × Alike s τ

  abbrev pub SameSlots : List SlotTerm → List SlotTerm → Type 0
  SameSlots ss ss' = (ss' ≡ slots_to f.to_right ss) × SlotsIn f.in_left ss

  abbrev SameValues : List ValueTerm → List ValueTerm → Type 0
  SameValues vs vs' = vs' ≡ vs

  give_value : (v : ValueTerm) → Goes SameValue (give v) (give v)
  give_value v = like_give v v ([], refl, tt)

  pub give_bool : (b : Bool) → Goes SameBool (give b) (give b)
  give_bool b = like_give b b ([], refl, tt)

  pub give_state : (t u : TreeTerm) (σ τ : List ValueTerm) → u ≡ there t → TreeIn f.in_left t → Twins f σ τ
      → Goes SameState (give (at t σ)) (give (at u τ))
  give_state t u σ τ e h q = like_give (at t σ) (at u τ) (τ, ap (λ z. at z τ) e, record { tree = h; stores = q })

  pub like_known : {X A B : Type 0} (R : A → B → Type 0) (o : Option X) (p : X → Plan A) (p' : X → Plan B) → ((x : X) → Goes R (p x) (p' x))
      → Goes R (known o p) (known o p')
  like_known R None p p' h = like_stuck
  like_known R (Some x) p p' h = h x

  like_slot : {A B : Type 0} (R : A → B → Type 0) (o : Option SlotTerm) (p : SlotTerm → Plan A) (p' : SlotTerm → Plan B)
      → IfIn f.in_left o → ((s : SlotTerm) → SlotIn f.in_left s → Goes R (p s) (p' (slot_to f.to_right s)))
      → Goes R (known o p) (known (if_to f.to_right o) p')
  like_slot R None p p' i h = like_stuck
  like_slot R (Some s) p p' i h = h s i

  -- the slot of a name
  like_name : {A B : Type 0} (R : A → B → Type 0) (env : EnvTerm) (ss : List SlotTerm) (x : Text) (p : SlotTerm → Plan A)
      (p' : SlotTerm → Plan B) → SlotsIn f.in_left env.slots → ss ≡ slots_to f.to_right env.slots
      → ((s : SlotTerm) → SlotIn f.in_left s → Goes R (p s) (p' (slot_to f.to_right s)))
      → Goes R (known (slot_of env x) p) (known (slot_of (with_slots env ss) x) p')
  like_name R env ss x p p' i e h =
      subst (λ z. Goes R (known (slot_of env x) p) (known z p'))
      (sym (found_to f.to_right env.names env.slots x) ∙ ap (λ z. slot_of (with_slots env z) x) (sym e))
      (like_slot R (slot_of env x) p p' (found_in f.in_left env.names env.slots x i) h)

  like_place : {A B : Type 0} (R : A → B → Type 0) (s : SlotTerm) (p : ℕ → Plan A) (p' : ℕ → Plan B) → SlotIn f.in_left s
      → ((n : ℕ) → f.in_left n ≡ true → Goes R (p n) (p' (f.to_right n))) → Goes R (as_place s p) (as_place (slot_to f.to_right s) p')
  like_place R (plain_slot v) p p' i h = like_stuck
  like_place R (place_slot n) p p' i h = h n i

  -- the place of a name that is a reference
  pub like_ref : {A B : Type 0} (R : A → B → Type 0) (env : EnvTerm) (ss : List SlotTerm) (x : Text) (p : ℕ → Plan A) (p' : ℕ → Plan B)
      → SlotsIn f.in_left env.slots → ss ≡ slots_to f.to_right env.slots
      → ((n : ℕ) → f.in_left n ≡ true → Goes R (p n) (p' (f.to_right n)))
      → Goes R (known (slot_of env x) (λ s. as_place s p)) (known (slot_of (with_slots env ss) x) (λ s. as_place s p'))
  like_ref R env ss x p p' i e h = like_name R env ss x _ _ i e (λ s q. like_place R s p p' q h)

  pub like_branch : {A B : Type 0} (R : A → B → Type 0) (b : Bool) (p q : Plan A) (p' q' : Plan B) → Goes R p p' → Goes R q q'
      → Goes R (branch b p q) (branch b p' q')
  like_branch R true p q p' q' h k = h
  like_branch R false p q p' q' h k = k

  pub like_chosen : {A B : Type 0} (R : A → B → Type 0) (v : ValueTerm) (p q : Plan A) (p' q' : Plan B) → Goes R p p' → Goes R q q'
      → Goes R (chosen v p q) (chosen v p' q')
  like_chosen R (bool_value b) p q p' q' h k = like_branch R b p q p' q' h k
  like_chosen R unit_value p q p' q' h k = like_stuck
  like_chosen R (int_value i) p q p' q' h k = like_stuck
  like_chosen R (text_value t) p q p' q' h k = like_stuck
  like_chosen R (pair_value v w) p q p' q' h k = like_stuck
  like_chosen R (list_value vs) p q p' q' h k = like_stuck

  pub like_matched : {A B : Type 0} (R : A → B → Type 0) (v : ValueTerm) (p : Plan A) (p' : Plan B) (q : ValueTerm → ValueTerm → Plan A)
      (q' : ValueTerm → ValueTerm → Plan B) → Goes R p p' → ((head tail : ValueTerm) → Goes R (q head tail) (q' head tail))
      → Goes R (matched v p q) (matched v p' q')
  like_matched R (list_value no_values) p p' q q' h k = h
  like_matched R (list_value (more_values v vs)) p p' q q' h k = k v (list_value vs)
  like_matched R unit_value p p' q q' h k = like_stuck
  like_matched R (bool_value b) p p' q q' h k = like_stuck
  like_matched R (int_value i) p p' q q' h k = like_stuck
  like_matched R (text_value t) p p' q q' h k = like_stuck
  like_matched R (pair_value v w) p p' q q' h k = like_stuck

  pub like_or : {A B : Type 0} (R : A → B → Type 0) (o : Option ValueTerm) (p q : Plan A) (p' q' : Plan B) → Goes R p p' → Goes R q q'
      → Goes R (with_value o p q) (with_value o p' q')
  like_or R None p q p' q' h k = k
  like_or R (Some v) p q p' q' h k = h

  -- ---- names
  pub bind_in : (env : EnvTerm) (ss : List SlotTerm) (σ τ : List ValueTerm) (x : Text) (s : SlotTerm) → AlikeIn env ss σ τ
      → SlotIn f.in_left s → AlikeIn (bound env x s) (ss ++ slot_to f.to_right s ∷ []) σ τ
  bind_in env ss σ τ x s h q = record {
    slots = slots_in_push f.in_left env.slots s h.slots q;
    same = ap (λ z. z ++ slot_to f.to_right s ∷ []) h.same ∙ push_to f.to_right env.slots s;
    stores = h.stores;
  }

  -- a head and a tail
  pub bind_two : (env : EnvTerm) (ss : List SlotTerm) (σ τ : List ValueTerm) (x y : Text) (v w : ValueTerm) → AlikeIn env ss σ τ
      → AlikeIn (bound (bound env x (plain_slot v)) y (plain_slot w)) ((ss ++ plain_slot v ∷ []) ++ plain_slot w ∷ []) σ τ
  bind_two env ss σ τ x y v w h =
      bind_in (bound env x (plain_slot v)) (ss ++ plain_slot v ∷ []) σ τ y (plain_slot w) (bind_in env ss σ τ x (plain_slot v) h tt) tt

  pub moved_in : (env : EnvTerm) (ss : List SlotTerm) (σ τ : List ValueTerm) (n : ℕ) → AlikeIn env ss σ τ
      → AlikeIn (later_by n env) ss σ τ
  moved_in env ss σ τ n h = record { slots = h.slots; same = h.same; stores = h.stores }

  -- over the stores that a part leaves
  pub over_left : (env : EnvTerm) (ss : List SlotTerm) (σ τ : List ValueTerm) (s : State) (τ' : List ValueTerm) → AlikeIn env ss σ τ
      → Alike s τ' → AlikeIn env ss s.store τ'
  over_left env ss σ τ s τ' h q = record { slots = h.slots; same = h.same; stores = q.stores }

  -- ---- arguments
  like_argument : {A B : Type 0} (R : A → B → Type 0) (env : EnvTerm) (ss : List SlotTerm) (σ τ : List ValueTerm) (e : HostTerm)
      (k : KindTerm) (p : SlotTerm → Plan A) (p' : SlotTerm → Plan B) → AlikeIn env ss σ τ
      → ((s : SlotTerm) → SlotIn f.in_left s → Goes R (p s) (p' (slot_to f.to_right s)))
      → Goes R (slot_for env σ e k p) (slot_for (with_slots env ss) τ e k p')
  like_argument R env ss σ τ e (plain_kind b) p p' h q = like_ask (gives_value e env σ) ss τ _ _ h (λ v τ' r. q (plain_slot v) tt)
  like_argument R env ss σ τ e (ref_kind b) p p' h q = like_known R (bare_name e) _ _
      (λ x. like_ref R env ss x _ _ h.slots h.same (λ n i. q (place_slot n) i))

  pub like_slots : (env : EnvTerm) (ss : List SlotTerm) (σ τ : List ValueTerm) (done made : List SlotTerm) (es : List HostTerm)
      (qs : List ParamTerm) → AlikeIn env ss σ τ → SameSlots done made
      → Goes SameSlots (slots_for env σ done es qs) (slots_for (with_slots env ss) τ made es qs)
  like_slots env ss σ τ done made [] [] h i = like_give done made i
  like_slots env ss σ τ done made [] (q ∷ qs) h i = like_stuck
  like_slots env ss σ τ done made (e ∷ es) [] h i = like_stuck
  like_slots env ss σ τ done made (e ∷ es) (q ∷ qs) h i =
      like_argument SameSlots env ss σ τ e q.kind _ _ h
      (λ s j. like_slots env ss σ τ (done ++ s ∷ []) (made ++ slot_to f.to_right s ∷ []) es qs h
      (ap (λ z. z ++ slot_to f.to_right s ∷ []) i.0 ∙ push_to f.to_right done s, slots_in_push f.in_left done s i.1 j))

  like_values : (env : EnvTerm) (ss : List SlotTerm) (σ τ : List ValueTerm) (done : List ValueTerm) (es : HostTerms) → AlikeIn env ss σ τ
      → Goes SameValues (values_for env σ done es) (values_for (with_slots env ss) τ done es)
  like_values env ss σ τ done no_exprs h = like_give done done refl
  like_values env ss σ τ done (more_exprs e es) h = like_ask (gives_value e env σ) ss τ _ _ h
      (λ v τ' r. like_values env ss σ τ (done ++ v ∷ []) es h)

  -- ---- expressions
  -- a last part
  last_value : (e : HostTerm) (env : EnvTerm) (ss : List SlotTerm) (σ τ : List ValueTerm) → AlikeIn env ss σ τ
      → Goes SameValue (ask (gives_value e env σ) give) (ask (gives_value e (with_slots env ss) τ) give)
  last_value e env ss σ τ h = like_ask (gives_value e env σ) ss τ _ _ h (λ v τ' r. give_value v)

  -- one operand, and two
  one_operand : (a : HostTerm) (env : EnvTerm) (ss : List SlotTerm) (σ τ : List ValueTerm) (made : ValueTerm → Option ValueTerm)
      → AlikeIn env ss σ τ → Goes SameValue (ask (gives_value a env σ) (λ v. known (made v) give))
      (ask (gives_value a (with_slots env ss) τ) (λ v. known (made v) give))
  one_operand a env ss σ τ made h =
      like_ask (gives_value a env σ) ss τ _ _ h (λ v τ' r. like_known SameValue (made v) give give give_value)

  two_operands : (a b : HostTerm) (env : EnvTerm) (ss : List SlotTerm) (σ τ : List ValueTerm)
      (made : ValueTerm → ValueTerm → Option ValueTerm) → AlikeIn env ss σ τ
      → Goes SameValue (ask (gives_value a env σ) (λ v. ask (gives_value b env σ) (λ w. known (made v w) give)))
      (ask (gives_value a (with_slots env ss) τ) (λ v. ask (gives_value b (with_slots env ss) τ) (λ w. known (made v w) give)))
  two_operands a b env ss σ τ made h = like_ask (gives_value a env σ) ss τ _ _ h (λ v τ' r. one_operand b env ss σ τ (made v) h)

  module _ (c : CheckedTerm) where
    like_op : (o : Op) (a b : HostTerm) (env : EnvTerm) (ss : List SlotTerm) (σ τ : List ValueTerm) → AlikeIn env ss σ τ
        → Goes SameValue (op_rule c o a b env σ) (op_rule c o a b (with_slots env ss) τ)
    like_op ops.Or a b env ss σ τ h = like_ask (gives_value a env σ) ss τ _ _ h
        (λ v τ' r. like_chosen SameValue v _ _ _ _ (give_value (bool_value true)) (last_value b env ss σ τ h))
    like_op ops.And a b env ss σ τ h = like_ask (gives_value a env σ) ss τ _ _ h
        (λ v τ' r. like_chosen SameValue v _ _ _ _ (last_value b env ss σ τ h) (give_value (bool_value false)))
    like_op o a b env ss σ τ h = two_operands a b env ss σ τ (operated o) h

    pub like_host : (e : HostTerm) (env : EnvTerm) (ss : List SlotTerm) (σ τ : List ValueTerm) → AlikeIn env ss σ τ
        → Goes SameValue (value_rule c e env σ) (value_rule c e (with_slots env ss) τ)
    like_host unit_expr env ss σ τ h = give_value unit_value
    like_host (bool_expr b) env ss σ τ h = give_value (bool_value b)
    like_host (int_expr i) env ss σ τ h = give_value (int_value i)
    like_host (text_expr t) env ss σ τ h = give_value (text_value t)
    like_host (name_expr x) env ss σ τ h = like_name SameValue env ss x _ _ h.slots h.same by_slot
      where
        by_slot : (s : SlotTerm) → SlotIn f.in_left s → Goes SameValue (as_value s give) (as_value (slot_to f.to_right s) give)
        by_slot (plain_slot v) i = give_value v
        by_slot (place_slot n) i = like_stuck
    like_host (read_expr x) env ss σ τ h =
        like_ref SameValue env ss x _ _ h.slots h.same
        (λ n i. subst (λ z. Goes SameValue (known (slice_get σ n) give) (known z give)) (h.stores.within n i)
        (like_known SameValue (slice_get σ n) give give give_value))
    like_host (call_expr g es) env ss σ τ h =
        like_known SameValue (fun_named c.program g) _ _
        (λ d. like_unit _ _ (like_after f.to_right Pre Post SameSlots SameValue (slots_for env σ [] (exprs_of es) d.params)
        (slots_for (with_slots env ss) τ [] (exprs_of es) d.params) _ _ (like_slots env ss σ τ [] [] (exprs_of es) d.params h (refl, tt))
        (λ vs us q. last_value d.expr (record {
          names = param_names d.params;
          slots = vs;
          first = 0;
        }) us σ τ (record { slots = q.1; same = q.0; stores = h.stores }))))
    like_host (pair_expr a b) env ss σ τ h = like_ask (gives_value a env σ) ss τ _ _ h
        (λ v τ' r. like_ask (gives_value b env σ) ss τ _ _ h (λ w τ'' r'. give_value (pair_value v w)))
    like_host (list_expr es) env ss σ τ h =
        like_after f.to_right Pre Post SameValues SameValue (values_for env σ [] es) (values_for (with_slots env ss) τ [] es) _ _
        (like_values env ss σ τ [] es h) (λ vs vs' q. like_give (list_of vs) (list_of vs') ([], ap list_of q, tt))
    like_host (nil_expr b) env ss σ τ h = give_value (list_value no_values)
    like_host (neg_expr a) env ss σ τ h = one_operand a env ss σ τ negated h
    like_host (not_expr a) env ss σ τ h = one_operand a env ss σ τ opposite h
    like_host (fst_expr a) env ss σ τ h = one_operand a env ss σ τ first_of h
    like_host (snd_expr a) env ss σ τ h = one_operand a env ss σ τ second_of h
    like_host (len_expr a) env ss σ τ h = one_operand a env ss σ τ length_of h
    like_host (op_expr o a b) env ss σ τ h = like_op o a b env ss σ τ h
    like_host (let_expr x a b) env ss σ τ h =
        like_ask (gives_value a env σ) ss τ _ _ h (λ v τ' r. last_value b (bound env x (plain_slot v)) (ss ++ plain_slot v ∷ []) σ τ
        (bind_in env ss σ τ x (plain_slot v) h tt))
    like_host (if_expr e a b) env ss σ τ h =
        like_ask (gives_value e env σ) ss τ _ _ h
        (λ v τ' r. like_chosen SameValue v _ _ _ _ (last_value a env ss σ τ h) (last_value b env ss σ τ h))
    like_host (case_expr e a x y b) env ss σ τ h =
        like_ask (gives_value e env σ) ss τ _ _ h (λ v τ' r. like_matched SameValue v _ _ _ _ (last_value a env ss σ τ h)
        (λ head tail. last_value b (bound (bound env x (plain_slot head)) y (plain_slot tail))
        ((ss ++ plain_slot head ∷ []) ++ plain_slot tail ∷ []) σ τ (bind_two env ss σ τ x y head tail h)))
