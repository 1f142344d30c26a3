-- Trees in which a stride fires nothing, form by form.
use Rattle.std.proofs.Common.{◌≡◌, ℕ, zero, suc, max, Bool, true, false, true≢false, cond, List, [], ◌∷◌, Option, None, Some, Ok, refl, sym, ap, ◌∙◌, subst, arith}
use Rattle.std.specs.Prelude.{IfSome}
use Rattle.std.specs.Option.{is_some, option_or}
use Rattle.task_model.specs.Terms.Value.{ValueTerm}
use Rattle.task_model.specs.Terms.Tree.{LaterTerm, TreeTerm, edit_tree, enter_tree, share_tree, then_tree, next_tree, fail_tree, and_tree, or_tree, xor_tree, State, at}
use Rattle.task_model.specs.Terms.Left.{Left}
use Rattle.task_model.specs.Running.Address.{Address, into_left, into_first, into_second, address_turns, node_at, with_node}
use Rattle.task_model.specs.Running.Checked.{CheckedTerm}
use Rattle.task_model.specs.Syntax.Calls.{RunsJudgement}
use Rattle.task_model.specs.declared.input.Turn.{Turn}
use Rattle.task_model.specs.declared.tree.Tree.{Tree}
use Rattle.task_model.specs.Running.Plan.{Plan, give, ask, strides, plan_work, derives_at}
use Rattle.task_model.specs.Running.Rules.{rule_of, stride_rule, value_of, paired, with_value, fired, or_of}
use Rattle.task_engine.specs.Quiet.{IsQuiet, TellsQuiet, IsQuietBeside}

-- ---- a stride of it gives the state as it is, for no unit
abbrev Gives : CheckedTerm → ℕ → Plan State → State → Type 0
Gives c j p s = (h : ℕ) × plan_work (derives_at (rule_of c) j) p s 0 h

abbrev pub Stays : CheckedTerm → ℕ → TreeTerm → List ValueTerm → Type 0
Stays c j t σ = (h : ℕ) × derives_at (rule_of c) j (strides (at t σ)) (at t σ) 0 h

gives_it : (c : CheckedTerm) (j : ℕ) (s : State) → Gives c j (give s) s
gives_it c j s = (0, record { value = refl; units = refl; height = refl })

gives_asked : (c : CheckedTerm) (j : ℕ) (s x : State) (f : State → Plan State)
    → (h : ℕ) × derives_at (rule_of c) j (strides s) s 0 h → Gives c j (f s) x → Gives c j (ask (strides s) f) x
gives_asked c j s x f a b = (
  max a.0 b.0,
  record { middle = s; n1 = 0; h1 = a.0; n2 = 0; h2 = b.0; one = a.1; two = b.1; units = refl; height = refl },
)

stays_by : (c : CheckedTerm) (t : TreeTerm) (σ : List ValueTerm) (j : ℕ) → Gives c j (stride_rule c t σ) (at t σ) → Stays c (suc j) t σ
stays_by c t σ j g = (suc g.0, record { below = g.0; part = g.1; height = refl })

stays_next : (c : CheckedTerm) (t : TreeTerm) (k : LaterTerm) (σ : List ValueTerm) (j : ℕ) → Stays c j t σ
    → Stays c (suc j) (next_tree t k) σ
stays_next c t k σ j q =
    stays_by c (next_tree t k) σ j
    (gives_asked c j (at t σ) (at (next_tree t k) σ) (λ s. give (at (next_tree s.tree k) s.store)) q (gives_it c j (at (next_tree t k) σ)))

stays_then : (c : CheckedTerm) (t : TreeTerm) (k : LaterTerm) (σ : List ValueTerm) (j : ℕ) → Stays c j t σ → value_of t σ ≡ None
    → Stays c (suc j) (then_tree t k) σ
stays_then c t k σ j q none =
    stays_by c (then_tree t k) σ j
    (gives_asked c j (at t σ) (at (then_tree t k) σ) (λ s. fired c (value_of s.tree s.store) k s) q
    (subst (λ o. Gives c j (fired c o k (at t σ)) (at (then_tree t k) σ)) (sym none) (gives_it c j (at (then_tree t k) σ))))

stays_and : (c : CheckedTerm) (t u : TreeTerm) (σ : List ValueTerm) (j : ℕ) → Stays c j t σ → Stays c j u σ
    → Stays c (suc j) (and_tree t u) σ
stays_and c t u σ j q r =
    stays_by c (and_tree t u) σ j
    (gives_asked c j (at t σ) (at (and_tree t u) σ) (λ s. ask (strides (at u s.store)) (λ s'. give (at (and_tree s.tree s'.tree) s'.store)))
    q (gives_asked c j (at u σ) (at (and_tree t u) σ) (λ s'. give (at (and_tree t s'.tree) s'.store)) r
    (gives_it c j (at (and_tree t u) σ))))

stays_or : (c : CheckedTerm) (t u : TreeTerm) (σ : List ValueTerm) (j : ℕ) → Stays c j t σ → value_of t σ ≡ None → Stays c j u σ
    → value_of u σ ≡ None → Stays c (suc j) (or_tree t u) σ
stays_or c t u σ j q none r none' =
    stays_by c (or_tree t u) σ j
    (gives_asked c j (at t σ) (at (or_tree t u) σ)
    (λ s. with_value (value_of s.tree s.store) (give s)
    (ask (strides (at u s.store)) (λ s'. give (at (or_of (value_of s'.tree s'.store) s.tree s'.tree) s'.store)))) q
    (subst (λ o. Gives c j (with_value o (give (at t σ))
    (ask (strides (at u σ)) (λ s'. give (at (or_of (value_of s'.tree s'.store) t s'.tree) s'.store)))) (at (or_tree t u) σ)) (sym none)
    (gives_asked c j (at u σ) (at (or_tree t u) σ) (λ s'. give (at (or_of (value_of s'.tree s'.store) t s'.tree) s'.store)) r
    (subst (λ o. Gives c j (give (at (or_of o t u) σ)) (at (or_tree t u) σ)) (sym none') (gives_it c j (at (or_tree t u) σ))))))

pub quiet_stays : (c : CheckedTerm) (t : TreeTerm) (σ : List ValueTerm) (j : ℕ) → IsQuiet t σ j → Stays c j t σ
quiet_stays c t σ zero q = absurd q
quiet_stays c (edit_tree b v) σ (suc j) q = stays_by c (edit_tree b v) σ j (gives_it c j (at (edit_tree b v) σ))
quiet_stays c (enter_tree b) σ (suc j) q = stays_by c (enter_tree b) σ j (gives_it c j (at (enter_tree b) σ))
quiet_stays c (share_tree b n) σ (suc j) q = stays_by c (share_tree b n) σ j (gives_it c j (at (share_tree b n) σ))
quiet_stays c (then_tree t k) σ (suc j) q = stays_then c t k σ j (quiet_stays c t σ j q.0) q.1
quiet_stays c (next_tree t k) σ (suc j) q = stays_next c t k σ j (quiet_stays c t σ j q)
quiet_stays c fail_tree σ (suc j) q = stays_by c fail_tree σ j (gives_it c j (at fail_tree σ))
quiet_stays c (and_tree t u) σ (suc j) q = stays_and c t u σ j (quiet_stays c t σ j q.0) (quiet_stays c u σ j q.1)
quiet_stays c (or_tree t u) σ (suc j) q =
    stays_or c t u σ j (quiet_stays c t σ j q.0.0) q.0.1 (quiet_stays c u σ j q.1.0) q.1.1
quiet_stays c (xor_tree i k) σ (suc j) q = stays_by c (xor_tree i k) σ j (gives_it c j (at (xor_tree i k) σ))

-- a stride of it is done, and answers nothing
pub quiet_runs : (c : CheckedTerm) (t : TreeTerm) (σ : List ValueTerm) (old : Left) (view : Option Tree → State) → view None ≡ at t σ
    → IsQuiet t σ old.height → RunsJudgement c (strides (at t σ)) view old old (Ok None)
quiet_runs c t σ old view e q =
    let there = quiet_stays c t σ old.height q in
    record {
      runs = (
        0,
        there.0,
        subst (λ s. derives_at (rule_of c) old.height (strides (at t σ)) s 0 there.0) (sym e) there.1,
        omega arith,
        refl,
      );
    }

-- ---- whether it has a value
pub both : (o p : Option ValueTerm) → cond (is_some o) (is_some p) false ≡ is_some (paired o p)
both None p = refl
both (Some v) None = refl
both (Some v) (Some w) = refl

pub no_value : (o : Option ValueTerm) → false ≡ is_some o → o ≡ None
no_value None e = refl
no_value (Some v) e = absurd cc

module _ (t u : TreeTerm) (σ : List ValueTerm) (j : ℕ) where
  pub both_valued : (first second : Bool) → first ≡ is_some (value_of t σ) → second ≡ is_some (value_of u σ)
      → cond first second false ≡ is_some (value_of (and_tree t u) σ)
  both_valued first second p q =
      ap (λ b. cond b second false) p ∙ ap (λ b. cond (is_some (value_of t σ)) b false) q ∙ both (value_of t σ) (value_of u σ)

  pub tells_and : (first second : Bool) → TellsQuiet t σ j first → TellsQuiet u σ j second
      → TellsQuiet (and_tree t u) σ (suc j) (cond first second false)
  tells_and first second q r = record { quiet = (q.quiet, r.quiet); value = both_valued first second q.value r.value }

  pub tells_or : TellsQuiet t σ j false → TellsQuiet u σ j false → TellsQuiet (or_tree t u) σ (suc j) false
  tells_or q r =
      let none = no_value (value_of t σ) q.value in
      let none' = no_value (value_of u σ) r.value in
      record {
        quiet = ((q.quiet, none), (r.quiet, none'));
        value = ap is_some (sym (ap (λ o. option_or o (value_of u σ)) none ∙ none'));
      }

pub tells_then : (t : TreeTerm) (k : LaterTerm) (σ : List ValueTerm) (j : ℕ) → TellsQuiet t σ j false
    → TellsQuiet (then_tree t k) σ (suc j) false
tells_then t k σ j q = record { quiet = (q.quiet, no_value (value_of t σ) q.value); value = refl }

pub told_quiet : (t : TreeTerm) (σ : List ValueTerm) (j : ℕ) (o : Option Bool) (known : Bool) → known ≡ is_some o
    → IfSome o (TellsQuiet t σ j) → known ≡ true → IsQuiet t σ j
told_quiet t σ j None known e h is = absurd (true≢false (sym is ∙ e))
told_quiet t σ j (Some valued) known e h is = h.quiet

-- ---- beside a path
beside_then : (path : List Turn) (t : TreeTerm) (k : LaterTerm) (σ : List ValueTerm) (j : ℕ) → IsQuietBeside path t σ j
    → IsQuietBeside path (then_tree t k) σ (suc j)
beside_then [] t k σ j q = tt
beside_then (x ∷ path) t k σ j q = q

beside_next : (path : List Turn) (t : TreeTerm) (k : LaterTerm) (σ : List ValueTerm) (j : ℕ) → IsQuietBeside path t σ j
    → IsQuietBeside path (next_tree t k) σ (suc j)
beside_next [] t k σ j q = tt
beside_next (x ∷ path) t k σ j q = q

unplaced : {A : Type 0} {x : A} → None ≡ Some x → ⊥
unplaced e = cc

-- a tree that differs at one address from a tree in which nothing fires
pub beside_address : (old before after : TreeTerm) (a : Address) (σ : List ValueTerm) (j : ℕ) → node_at old a ≡ Some before
    → IsQuiet old σ j → IsQuietBeside (address_turns a) (with_node old a after) σ j
beside_address old before after a σ zero there q = absurd q
beside_address old before after [] σ (suc j) there q = tt
beside_address (then_tree t k) before after (into_left ∷ a) σ (suc j) there q =
    beside_then (address_turns a) (with_node t a after) k σ j (beside_address t before after a σ j there q.0)
beside_address (next_tree t k) before after (into_left ∷ a) σ (suc j) there q =
    beside_next (address_turns a) (with_node t a after) k σ j (beside_address t before after a σ j there q)
beside_address (and_tree t u) before after (into_first ∷ a) σ (suc j) there q = (beside_address t before after a σ j there q.0, q.1)
beside_address (and_tree t u) before after (into_second ∷ a) σ (suc j) there q = (beside_address u before after a σ j there q.1, q.0)
beside_address (or_tree t u) before after (into_first ∷ a) σ (suc j) there q = (beside_address t before after a σ j there q.0.0, q.1)
beside_address (or_tree t u) before after (into_second ∷ a) σ (suc j) there q = (beside_address u before after a σ j there q.1.0, q.0)
beside_address (then_tree t k) before after (into_first ∷ a) σ (suc j) there q = absurd (unplaced there)
beside_address (then_tree t k) before after (into_second ∷ a) σ (suc j) there q = absurd (unplaced there)
beside_address (next_tree t k) before after (into_first ∷ a) σ (suc j) there q = absurd (unplaced there)
beside_address (next_tree t k) before after (into_second ∷ a) σ (suc j) there q = absurd (unplaced there)
beside_address (and_tree t u) before after (into_left ∷ a) σ (suc j) there q = absurd (unplaced there)
beside_address (or_tree t u) before after (into_left ∷ a) σ (suc j) there q = absurd (unplaced there)
beside_address (edit_tree b v) before after (d ∷ a) σ (suc j) there q = absurd (unplaced there)
beside_address (enter_tree b) before after (d ∷ a) σ (suc j) there q = absurd (unplaced there)
beside_address (share_tree b n) before after (d ∷ a) σ (suc j) there q = absurd (unplaced there)
beside_address fail_tree before after (d ∷ a) σ (suc j) there q = absurd (unplaced there)
beside_address (xor_tree i k) before after (d ∷ a) σ (suc j) there q = absurd (unplaced there)
