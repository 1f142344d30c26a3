-- The types of the editors of an accepted program have at most 64 symbols.
use Rattle.std.proofs.Common.{◌≡◌, ℕ, zero, suc, ◌+◌, Bool, true, false, cond, List, [], ◌∷◌, ◌++◌, Option, Some, None, sym, ap, subst, arith, append-nil, append_assoc}
use Rattle.std.specs.Prelude.{slice_get}
use Rattle.std.specs.Option.{option_or}
use Rattle.task_model.specs.Terms.Text.{Text, same_text}
use Rattle.task_model.specs.Terms.Basic.{BasicTerm, unit_type, bool_type, int_type, text_type, pair_type, list_type}
use Rattle.task_model.specs.Terms.Task.{TaskTerm}
use Rattle.task_model.specs.Terms.Program.{KindTerm, ParamTerm, DefBodyTerm, fun_body, task_body, DefTerm, ProgramTerm}
use Rattle.task_model.specs.Checking.TypeParts.{item_part}
use Rattle.task_model.specs.Checking.Limits.{IsSmall}
use Rattle.task_model.specs.Checking.Names.{kind_in, bind_value, bind_place, basic_of, named_type, CallsTerm, all_open}
use Rattle.task_model.specs.Checking.TypeFault.{IsMet}
use Rattle.task_model.specs.Checking.FullTask.{FullTask, full_edit, full_enter, full_share, full_fail, full_call, full_step, full_and, full_or, full_xor, full_let, full_if, full_case, full_new, full_put, full_absent}
use Rattle.task_model.specs.Checking.NodeCounts.{nodes, task_nodes}
use Rattle.task_model.specs.Checking.TypeOf.{type_of, task_type, listed_types}
use Rattle.task_model.specs.Checking.TaskDemands.{task_demands, body_demands, from_parameters, definitions, what_types, types_in, calls_at}
use Rattle.task_model.specs.Running.Checked.{CheckedTerm, Callee, def_in, callee_of, what_nodes, task_named}
use Rattle.task_model.specs.Checking.Accepted.{IsAccepted}
use Rattle.host_types.proofs.TypingLemmas.{first, second, no_unmet}
use Rattle.host_types.proofs.WithinLemmas.{small}
use Rattle.typing_laws.specs.Assumed.{task_in_place}
use Rattle.typing_laws.proofs.ProgramLemmas.{all_met}

-- ---- lists and scopes
abbrev pub AllSmall : List BasicTerm → Type 0
AllSmall [] = Unit {0}
AllSmall (b ∷ bs) = IsSmall b × AllSmall bs

both_small : (xs ys : List BasicTerm) → AllSmall xs → AllSmall ys → AllSmall (xs ++ ys)
both_small [] ys h q = q
both_small (b ∷ xs) ys h q = (h.0, both_small xs ys h.1 q)

pub small_at : (bs : List BasicTerm) (n : ℕ) (b : BasicTerm) → AllSmall bs → slice_get bs n ≡ Some b → IsSmall b
small_at [] n b h e = absurd (cc)
small_at (a ∷ bs) zero b h e = let same : a ≡ b = cc in subst IsSmall same h.0
small_at (a ∷ bs) (suc n) b h e = small_at bs n b h.1 e

abbrev SmallScope : List ParamTerm → Type 0
SmallScope [] = Unit {0}
SmallScope (q ∷ qs) = IsSmall (basic_of q.kind) × SmallScope qs

scope_more : (s : List ParamTerm) (q : ParamTerm) → SmallScope s → IsSmall (basic_of q.kind) → SmallScope (s ++ q ∷ [])
scope_more [] q h k = (k, tt)
scope_more (p ∷ s) q h k = (h.0, scope_more s q h.1 k)

small_named : (s : List ParamTerm) (x : Text) → SmallScope s → IsSmall (named_type (kind_in s x))
small_named [] x h = omega arith
small_named (q ∷ qs) x h = go (kind_in qs x) (same_text q.name x) (small_named qs x h.1)
  where
    go : (o : Option KindTerm) (b : Bool) → IsSmall (named_type o) → IsSmall (named_type (option_or o (cond b (Some q.kind) None)))
    go None true k = h.0
    go None false k = omega arith
    go (Some kind) b k = k

small_item : (b : BasicTerm) → IsSmall b → IsSmall (item_part b)
small_item unit_type h = omega arith
small_item bool_type h = omega arith
small_item int_type h = omega arith
small_item text_type h = omega arith
small_item (pair_type a b) h = omega arith
small_item (list_type b) h = omega (arith, h)

-- ---- tasks with their bodies in place
abbrev pub SmallTask : FullTask → Type 0
SmallTask (full_edit e) = Unit {0}
SmallTask (full_enter b) = IsSmall b
SmallTask (full_share x) = Unit {0}
SmallTask (full_fail b) = Unit {0}
SmallTask (full_call f es) = Unit {0}
SmallTask (full_step t xs x u) = SmallTask t × SmallTask u
SmallTask (full_and t u) = SmallTask t × SmallTask u
SmallTask (full_or t u) = SmallTask t × SmallTask u
SmallTask (full_xor xs t ys u) = SmallTask t × SmallTask u
SmallTask (full_let x e t) = SmallTask t
SmallTask (full_if e t u) = SmallTask t × SmallTask u
SmallTask (full_case e t x y u) = SmallTask t × SmallTask u
SmallTask (full_new x e t) = SmallTask t
SmallTask (full_put x e t) = SmallTask t
SmallTask full_absent = ⊥

abbrev Listed : CallsTerm → List ParamTerm → FullTask → Type 0
Listed k s t = SmallTask t × AllSmall (listed_types k.defs s t)

-- two parts
two_listed : (k : CallsTerm) (s r : List ParamTerm) (t u : FullTask) → Listed k s t → Listed k r u
    → (SmallTask t × SmallTask u) × AllSmall (listed_types k.defs s t ++ listed_types k.defs r u)
two_listed k s r t u h q = ((h.0, q.0), both_small (listed_types k.defs s t) (listed_types k.defs r u) h.1 q.1)

-- a task of which all is met, in a scope of small types, and of a small type
task_small : (k : CallsTerm) (s : List ParamTerm) (n : ℕ) (t : FullTask) → SmallScope s → IsSmall (task_type k.defs s t)
    → IsMet (task_demands k s n t) → Listed k s t
task_small k s n (full_edit e) h own m = (tt, (own, tt))
task_small k s n (full_enter b) h own m = (own, tt)
task_small k s n (full_share x) h own m = (tt, (own, tt))
task_small k s n (full_fail b) h own m = (tt, tt)
task_small k s n (full_call f es) h own m = (tt, tt)
task_small k s n (full_step t xs x u) h own m =
    let i = suc n + task_nodes t in
    let inner = bind_value s x (task_type k.defs s t) in
    let left = first (second m) in
    let right = second (second m) in
    let size = small (suc n) (task_type k.defs s t) (second left) in
    two_listed k s inner t u (task_small k s (suc n) t h size (first left))
    (task_small (all_open k) inner i u (scope_more s _ h size) (small i (task_type k.defs inner u) (second right)) (first right))
task_small k s n (full_and t u) h own m =
    let i = suc n + task_nodes t in
    two_listed k s s t u (task_small k s (suc n) t h (small (suc n) (task_type k.defs s t) (second (first m))) (first (first m)))
    (task_small k s i u h (small i (task_type k.defs s u) (second (second m))) (first (second m)))
task_small k s n (full_or t u) h own m =
    let i = suc n + task_nodes t in
    let right = first (second m) in
    two_listed k s s t u (task_small k s (suc n) t h (small (suc n) (task_type k.defs s t) (second (first m))) (first (first m)))
    (task_small k s i u h (small i (task_type k.defs s u) (second right)) (first right))
task_small k s n (full_xor xs t ys u) h own m =
    let i = suc n + task_nodes t in
    let right = first (second m) in
    two_listed k s s t u (task_small (all_open k) s (suc n) t h (small (suc n) (task_type k.defs s t) (second (first m))) (first (first m)))
    (task_small (all_open k) s i u h (small i (task_type k.defs s u) (second right)) (first right))
task_small k s n (full_let x e t) h own m =
    let i = suc n + nodes e in
    let inner = bind_value s x (type_of k.defs s e) in
    let bound = first (second m) in
    let rest = second (second m) in
    let size = small (suc n) (type_of k.defs s e) (second bound) in
    task_small k inner i t (scope_more s _ h size) (small i (task_type k.defs inner t) (second rest)) (first rest)
task_small k s n (full_if e t u) h own m =
    let i = suc n + nodes e in
    let yes = first (second m) in
    let no = first (second (second m)) in
    two_listed k s s t u (task_small k s i t h (small i (task_type k.defs s t) (second yes)) (first yes))
    (task_small k s (i + task_nodes t) u h (small (i + task_nodes t) (task_type k.defs s u) (second no)) (first no))
task_small k s n (full_case e t x y u) h own m =
    let i = suc n + nodes e in
    let a = type_of k.defs s e in
    let one = bind_value s x (item_part a) in
    let inner = bind_value one y a in
    let list = first (first (second (second m))) in
    let empty = first (second (second (second m))) in
    let more = first (second (second (second (second m)))) in
    let size = small (suc n) a (second list) in
    let scope = scope_more one _ (scope_more s _ h (small_item a size)) size in
    two_listed k s inner t u (task_small k s i t h (small i (task_type k.defs s t) (second empty)) (first empty))
    (task_small k inner (i + task_nodes t) u scope (small (i + task_nodes t) (task_type k.defs inner u) (second more)) (first more))
task_small k s n (full_new x e t) h own m =
    let i = suc n + nodes e in
    let inner = bind_place s x (type_of k.defs s e) in
    let bound = first (second m) in
    let rest = second (second m) in
    let size = small (suc n) (type_of k.defs s e) (second bound) in
    task_small k inner i t (scope_more s _ h size) (small i (task_type k.defs inner t) (second rest)) (first rest)
task_small k s n (full_put x e t) h own m =
    let i = suc n + nodes e in
    let rest = second (second m) in
    task_small k s i t h (small i (task_type k.defs s t) (second rest)) (first rest)
task_small k s n full_absent h own m = absurd (no_unmet m)

-- ---- definitions
module _ (p : ProgramTerm) where
  abbrev SmallWhat : List ParamTerm → DefBodyTerm → Type 0
  SmallWhat s (fun_body e) = Unit {0}
  SmallWhat s (task_body t) = Listed (calls_at p 0) s (task_in_place p t)

  body_small : (i n : ℕ) (s : List ParamTerm) (b : BasicTerm) (w : DefBodyTerm) → SmallScope s → IsMet (body_demands p i s n b w)
      → SmallWhat s w
  body_small i n s b (fun_body e) h m = tt
  body_small i n s b (task_body t) h m =
      let placed = task_in_place p t in
      task_small (calls_at p i) s n placed h (small n (task_type p.defs s placed) (second (first m))) (first (first m))

  parameters_small : (i m : ℕ) (d : DefTerm) (s : List ParamTerm) (n : ℕ) (qs : List ParamTerm) → SmallScope s
      → IsMet (from_parameters p i m d s n qs) → SmallWhat (s ++ qs) d.what
  parameters_small i m d s n [] h met =
      subst (λ (z : List ParamTerm). SmallWhat z d.what) (sym (append-nil s)) (body_small i n s d.result d.what h (second (second met)))
  parameters_small i m d s n (q ∷ qs) h met =
      let size = small n (basic_of q.kind) (second (second (first met))) in
      subst (λ (z : List ParamTerm). SmallWhat z d.what) (append_assoc s (q ∷ []) qs)
      (parameters_small i m d (s ++ q ∷ []) (suc n) qs (scope_more s q h size) (second met))

  abbrev SmallDefs : List DefTerm → Type 0
  SmallDefs [] = Unit {0}
  SmallDefs (d ∷ ds) = SmallWhat d.params d.what × SmallDefs ds

  defs_small : (i n : ℕ) (ds : List DefTerm) → IsMet (definitions p i n ds) → SmallDefs ds
  defs_small i n [] m = tt
  defs_small i n (d ∷ ds) m = (parameters_small i n d [] (suc n) d.params tt (second (first m)), defs_small (suc i) _ ds (second m))

  what_small : (s : List ParamTerm) (w : DefBodyTerm) → SmallWhat s w → AllSmall (what_types p s w)
  what_small s (fun_body e) h = tt
  what_small s (task_body t) h = h.1

  types_small : (ds : List DefTerm) → SmallDefs ds → AllSmall (types_in p ds)
  types_small [] h = tt
  types_small (d ∷ ds) h = both_small (what_types p d.params d.what) (types_in p ds) (what_small d.params d.what h.0) (types_small ds h.1)

  callee_small : (s qs : List ParamTerm) (n : ℕ) (w : DefBodyTerm) (d : Callee) → SmallWhat s w → callee_of qs n w ≡ Some d
      → SmallTask (task_in_place p d.task)
  callee_small s qs n (fun_body e) d h is = absurd (cc)
  callee_small s qs n (task_body t) d h is =
      let same : t ≡ d.task = ap (λ (c : Callee). c.task) (some_same is) in subst (λ (z : TaskTerm). SmallTask (task_in_place p z)) same h.0
    where
      some_same : {a : Callee} → Some a ≡ Some d → a ≡ d
      some_same e = cc

  named_small : (n : ℕ) (ds : List DefTerm) (f : Text) (d : Callee) → SmallDefs ds
      → def_in p (λ first x. callee_of x.params first x.what) n ds f ≡ Some d → SmallTask (task_in_place p d.task)
  named_small n [] f d h is = absurd (cc)
  named_small n (x ∷ ds) f d h is = by_test (same_text x.name f) is (named_small (n + what_nodes p x.what) ds f d h.1)
    where
      rest : Option Callee
      rest = def_in p (λ first z. callee_of z.params first z.what) (n + what_nodes p x.what) ds f

      by_test : (b : Bool) → cond b (callee_of x.params n x.what) rest ≡ Some d → (rest ≡ Some d → SmallTask (task_in_place p d.task))
          → SmallTask (task_in_place p d.task)
      by_test true e later = callee_small x.params x.params n x.what d h.0 e
      by_test false e later = later e

-- ---- accepted programs
-- what is small in a program: the types of its nodes, and the tasks that are called
pub record SmallParts (c : CheckedTerm) : Type 0 where
  pub types : AllSmall c.types
  pub tasks : (f : Text) (d : Callee) → task_named c.program f ≡ Some d → SmallTask (task_in_place c.program d.task)

pub parts_small : (c : CheckedTerm) → IsAccepted c → SmallParts c
parts_small c a =
    let defs = defs_small c.program 0 0 c.program.defs (all_met c a) in
    record {
      types = subst AllSmall (sym a.types) (types_small c.program c.program.defs defs);
      tasks = λ f d is. named_small c.program 0 c.program.defs f d defs is;
    }
