-- What an input leads to where no stride changes anything differs along its path alone.
use Rattle.std.proofs.Common.{◌≡◌, ◌↔◌, ◌≤◌, ◌<◌, ℕ, zero, suc, Bool, true, false, List, [], length, take, map, Option, None, Some, Result, Ok, Err, refl, sym, ap, ◌∙◌, subst, arith}
use Rattle.std.proofs.lemmas.List.{length-map, length-take-le}
use Rattle.std.proofs.lemmas.Option.{slice_get_past}
use Rattle.std.specs.Prelude.{IfOk, IfSome, slice_get}
use Rattle.std.specs.Option.{option_or}
use Rattle.std.specs.Bool.{then_some}
use Rattle.task_model.specs.Terms.Left.{Left}
use Rattle.task_model.specs.Terms.Value.{ValueTerm, value_term}
use Rattle.task_model.specs.Terms.Tree.{TreeTerm, edit_tree, enter_tree, share_tree, then_tree, next_tree, fail_tree, and_tree, or_tree, xor_tree, tree_term, State, at}
use Rattle.task_model.specs.Terms.Input.{ActTerm, InputTerm}
use Rattle.task_model.specs.Running.Address.{Address, address_turns, address_of, with_node}
use Rattle.task_model.specs.Running.Checked.{CheckedTerm}
use Rattle.task_model.specs.Running.Handling.{Handled, rebuilt}
use Rattle.task_model.specs.Running.Judgements.{Settles}
use Rattle.task_model.specs.Running.Plan.{settles, derives_at, StrideList, last_stride, more_strides}
use Rattle.task_model.specs.Running.Rules.{paired, rule_of, value_of}
use Rattle.task_model.specs.Running.Spends.{Spends}
use Rattle.task_model.specs.Running.Work.{Work, gives}
use Rattle.task_model.specs.declared.input.Turn.{Turn}
use Rattle.task_model.specs.declared.purse.Stop.{Stop}
use Rattle.task_engine.specs.Quiet.{IsQuiet, IsQuietBeside, FiresNothing}
use Rattle.handle_input.specs.Beside.{FiresNothingBeside}
use Rattle.task_engine.proofs.QuietLemmas.{beside_address}
use Rattle.task_laws.specs.ActsAt.{ActsAt}
use Rattle.task_model.specs.declared.value.Value.{Value}
use Rattle.shared_store.specs.Layered.{Layered}
use Rattle.shared_store.specs.Log.{rewound}
use Rattle.shared_store.specs.declared.store.Overwritten.{Overwritten}
use Rattle.kept_nodes.specs.Along.{DiffersAlong}
use Rattle.kept_nodes.proofs.AloneLemmas.{all_left, all_right}
use Rattle.task_laws.proofs.StoreLemmas.{past_end}
use Rattle.task_laws.specs.TreePlaces.{slot_places, places_in, HasPlaces}
use Rattle.std.proofs.lemmas.List.Elements.{All-head}
use Rattle.handle_input.specs.declared.led.Led.{Led}

-- ---- settling in one unit
paid : (one : State → Work State) (s t : State) (n h : ℕ) → StrideList one s t n h → 1 ≤ n
paid one s t n h (last_stride _ _ n1 _ _ d same e) = omega (arith, e)
paid one s t n h (more_strides _ s1 _ n1 m1 _ h1 g1 _ d other rest e f) = omega (arith, e)

one_stride : (one : State → Work State) (s t : State) (n h : ℕ) → StrideList one s t n h → n ≡ 1 → t ≡ s
one_stride one s t n h (last_stride _ _ n1 _ _ d same e) is = same
one_stride one s t n h (more_strides _ s1 _ n1 m1 _ h1 g1 _ d other rest e f) is =
    let more = paid one s1 t m1 g1 rest in absurd (omega (arith, more, e, is))

settles_once : (c : CheckedTerm) (s t : State) (k n h : ℕ) → derives_at (rule_of c) k (settles s) t n h → n ≡ 1 → t ≡ s
settles_once c s t zero n h d is = absurd d
settles_once c s t (suc k) n h d is =
    let all = d.part in
    let none = all.two.units in
    let sum = all.units in
    all.two.value ∙ one_stride _ s all.middle all.n1 all.h1 all.one (omega (arith, none, sum, is))

pub settled_same : {X : Type 0} (c : CheckedTerm) (s : State) (view : X → State) (old new : Left) (u : X)
    → Spends (Settles c s) view old new (Ok u) → old.units ≡ suc new.units → view u ≡ s
settled_same c s view old new u q one =
    let spent = q.4 in settles_once c s (view u) q.2.0 q.0 q.1 q.2.1 (omega (arith, spent, one))

-- ---- handling
some_same : {s t : State} → Some s ≡ Some t → s ≡ t
some_same e = cc

some_tree : {s t : State} → Some s ≡ Some t → s.tree ≡ t.tree
some_tree e = ap (λ (z : State). z.tree) (some_same e)

some_none : {s : State} → Some s ≡ None → ⊥
some_none e = cc

module _ (acts : (c : CheckedTerm) (t : TreeTerm) (σ : List ValueTerm) (path : List Turn) (act : ActTerm) (a : Address)
    → address_of t σ path act ≡ Some a → ActsAt c t σ path act a)
    (lacking : (c : CheckedTerm) (t : TreeTerm) (σ : List ValueTerm) (path : List Turn) (act : ActTerm) → address_of t σ path act ≡ None
    → (r : Option State) (n h : ℕ) → Handled c (at t σ) (record { path = path; act = act }) r n h ↔ gives None r n h)
    (turned : (t : TreeTerm) (σ : List ValueTerm) (path : List Turn) (act : ActTerm) (a : Address) → address_of t σ path act ≡ Some a
    → address_turns a ≡ path)
    (c : CheckedTerm) (t u : TreeTerm) (σ τ : List ValueTerm) (i : InputTerm) where
  at_address : (a : Address) → address_of t σ i.path i.act ≡ Some a → ActsAt c t σ i.path i.act a → (m : Option State)
      → Some (at u τ) ≡ rebuilt (λ w. with_node t a w) m → DiffersAlong i.path t u
  at_address a e it None is = absurd (some_none is)
  at_address a e it (Some s) is = record {
    address = a;
    turns = turned t σ i.path i.act a e;
    before = it.node;
    there = it.there;
    after = s.tree;
    replaced = some_tree is;
  }

  by_address : (n h : ℕ) → Handled c (at t σ) i (Some (at u τ)) n h → (o : Option Address) → address_of t σ i.path i.act ≡ o
      → DiffersAlong i.path t u
  by_address n h d None e = absurd (some_none ((lacking c t σ i.path i.act e (Some (at u τ)) n h).0 d).value)
  by_address n h d (Some a) e =
      let it = acts c t σ i.path i.act a e in
      let q = (it.acts (Some (at u τ)) n h).0 d in
      at_address a e it q.0 q.2

  pub handled_along : {X : Type 0} (view : X → Option State) (old new : Left) {x : X} → view x ≡ Some (at u τ)
      → Spends (Handled c (at t σ) i) view old new (Ok x) → DiffersAlong i.path t u
  handled_along view old new e q =
      by_address q.0 q.1 (subst (λ r. Handled c (at t σ) i r q.0 q.1) e q.2) (address_of t σ i.path i.act) refl

-- where nothing changed behind that
pub along_led : (r : Result (Option Led) Stop) (path : List Turn) (t u : TreeTerm) → DiffersAlong path t u
    → IfOk r (λ o. IfSome o (λ led. led.along_path ≡ true → tree_term led.tree ≡ u))
    → IfOk r (λ o. IfSome o (λ led. led.along_path ≡ true → DiffersAlong path t (tree_term led.tree)))
along_led (Ok None) path t u d h = tt
along_led (Ok (Some led)) path t u d h = λ e. subst (DiffersAlong path t) (sym (h e)) d
along_led (Err stop) path t u d h = tt

-- ---- beside the path of an input to a tree in which nothing fires
beside_at : (path : List Turn) (old new : TreeTerm) (σ : List ValueTerm) (j : ℕ) → DiffersAlong path old new → IsQuiet old σ j
    → IsQuietBeside path new σ j
beside_at path old new σ j d q =
    subst (λ z. IsQuietBeside path z σ j) (sym d.replaced)
    (subst (λ z. IsQuietBeside z (with_node old d.address d.after) σ j) d.turns
    (beside_address old d.before d.after d.address σ j d.there q))

beside_along : {path : List Turn} {old new : TreeTerm} {σ : List ValueTerm} → DiffersAlong path old new → FiresNothing old σ
    → FiresNothingBeside path new σ
beside_along {path = path} {old = old} {new = new} {σ = σ} d r = record { quiet = beside_at path old new σ 999 d r.quiet }

-- ---- over other values at the places that a tree has
no_none : {v : ValueTerm} → Some v ≡ None → ⊥
no_none e = cc

paired_none : (o o' p p' : Option ValueTerm) → (o ≡ None → o' ≡ None) → (p ≡ None → p' ≡ None) → paired o p ≡ None → paired o' p' ≡ None
paired_none None o' p p' f g e = ap (λ z. paired z p') (f refl)
paired_none (Some v) None p p' f g e = refl
paired_none (Some v) (Some w) None p' f g e = ap (paired (Some w)) (g refl)
paired_none (Some v) (Some w) (Some x) p' f g e = absurd (no_none e)

or_none : (o o' p p' : Option ValueTerm) → (o ≡ None → o' ≡ None) → (p ≡ None → p' ≡ None) → option_or o p ≡ None → option_or o' p' ≡ None
or_none None o' p p' f g e = ap (λ z. option_or z p') (f refl) ∙ g e
or_none (Some v) o' p p' f g e = absurd (no_none e)

module _ (σ τ : List ValueTerm) where
  abbrev There : ℕ → Type 0
  There n = n < length σ

  -- a tree that has no value over a store with all its places has none over any store
  no_value : (t : TreeTerm) → HasPlaces σ t → value_of t σ ≡ None → value_of t τ ≡ None
  no_value (edit_tree b v) h e = absurd (no_none e)
  no_value (enter_tree b) h e = refl
  no_value (share_tree b n) h e = let past = past_end σ n e in let lt = All-head There n [] h in absurd (omega (arith, past, lt))
  no_value (then_tree t k) h e = refl
  no_value (next_tree t k) h e = refl
  no_value fail_tree h e = refl
  no_value (and_tree t u) h e = paired_none (value_of t σ) (value_of t τ) (value_of u σ) (value_of u τ)
      (no_value t (all_left There (places_in t) (places_in u) h)) (no_value u (all_right There (places_in t) (places_in u) h)) e
  no_value (or_tree t u) h e = or_none (value_of t σ) (value_of t τ) (value_of u σ) (value_of u τ)
      (no_value t (all_left There (places_in t) (places_in u) h)) (no_value u (all_right There (places_in t) (places_in u) h)) e
  no_value (xor_tree i k) h e = refl

  quiet_there : (t : TreeTerm) (j : ℕ) → HasPlaces σ t → IsQuiet t σ j → IsQuiet t τ j
  quiet_there t zero h q = absurd q
  quiet_there (edit_tree b v) (suc j) h q = tt
  quiet_there (enter_tree b) (suc j) h q = tt
  quiet_there (share_tree b n) (suc j) h q = tt
  quiet_there (then_tree t k) (suc j) h q =
      let left = all_left There (places_in t) (slot_places k.slots) h in
      (quiet_there t j left q.0, no_value t left q.1)
  quiet_there (next_tree t k) (suc j) h q = quiet_there t j (all_left There (places_in t) (slot_places k.slots) h) q
  quiet_there fail_tree (suc j) h q = tt
  quiet_there (and_tree t u) (suc j) h q = (
    quiet_there t j (all_left There (places_in t) (places_in u) h) q.0,
    quiet_there u j (all_right There (places_in t) (places_in u) h) q.1,
  )
  quiet_there (or_tree t u) (suc j) h q =
      let first = all_left There (places_in t) (places_in u) h in
      let second = all_right There (places_in t) (places_in u) h in
      ((quiet_there t j first q.0.0, no_value t first q.0.1), (quiet_there u j second q.1.0, no_value u second q.1.1))
  quiet_there (xor_tree i k) (suc j) h q = tt

  fires_there : (t : TreeTerm) → HasPlaces σ t → FiresNothing t σ → FiresNothing t τ
  fires_there t h r = record { quiet = quiet_there t 999 h r.quiet }

-- a path that is told where nothing fires
pub some_told : {X : Type 0} (now : X → List Turn) (b : Bool) (o : Option X) (x : X) → o ≡ then_some b x
    → IfSome o (λ y. (now y ≡ now x) × (b ≡ true))
some_told now true o x e = subst (λ z. IfSome z (λ y. (now y ≡ now x) × (true ≡ true))) (sym e) (refl, refl)
some_told now false o x e = subst (λ z. IfSome z (λ y. (now y ≡ now x) × (false ≡ true))) (sym e) tt

-- the same of the path that is told, if one is
pub beside_told : {X : Type 0} (now : X → List Turn) (o : Option X) (path turns : List Turn) (t u : TreeTerm) (σ τ : List ValueTerm)
    (quiet : Bool) → turns ≡ path → HasPlaces σ t → (quiet ≡ true → FiresNothing t σ) → DiffersAlong path t u
    → IfSome o (λ x. (now x ≡ turns) × (quiet ≡ true)) → IfSome o (λ x. FiresNothingBeside (now x) u τ)
beside_told now None path turns t u σ τ quiet way there fires d h = tt
beside_told now (Some x) path turns t u σ τ quiet way there fires d h =
    subst (λ z. FiresNothingBeside z u τ) (sym (h.0 ∙ way)) (beside_along d (fires_there σ τ t there (fires h.1)))

-- at the height that settling leaves
pub beside_below : {X : Type 0} (now : X → List Turn) (o : Option X) (t : TreeTerm) (σ : List ValueTerm) (height : ℕ) → height ≡ 1000
    → IfSome o (λ x. FiresNothingBeside (now x) t σ)
    → IfSome o (λ x. (below : ℕ) → height ≡ suc below → IsQuietBeside (now x) t σ below)
beside_below now None t σ height full h = tt
beside_below now (Some x) t σ height full h =
    λ below e. let same : 999 ≡ below = omega (arith, full, e) in subst (λ (j : ℕ). IsQuietBeside (now x) t σ j) same h.quiet

pub fires_below : (t : TreeTerm) (σ : List ValueTerm) (height : ℕ) → height ≡ 1000
    → ((below : ℕ) → height ≡ suc below → IsQuiet t σ below) → FiresNothing t σ
fires_below t σ height full f = record { quiet = f 999 full }
