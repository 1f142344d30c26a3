-- Tasks of which all is met have their types.
use Rattle.std.proofs.Common.{◌≡◌, ℕ, suc, ◌+◌, Option, None, Some, List, length, refl, ap, subst, arith}
use Rattle.std.specs.Prelude.{◌==◌}
use Rattle.std.proofs.lemmas.Bool.Decides.{nat_tests}
use Rattle.task_model.specs.Terms.Text.{Text}
use Rattle.task_model.specs.Terms.Basic.{BasicTerm, bool_type}
use Rattle.task_model.specs.Terms.Host.{HostTerm, as_exprs}
use Rattle.task_model.specs.Terms.Program.{ParamTerm, DefBodyTerm, fun_body, task_body}
use Rattle.task_model.specs.Checking.Names.{kind_in, bind_value, bind_place, named_type, Numbered, CallsTerm, is_open, called_definition, all_open, params_of, result_of}
use Rattle.task_model.specs.Checking.TypeParts.{item_part}
use Rattle.task_model.specs.Checking.TypeFault.{IsMet, unguarded, arity}
use Rattle.task_model.specs.Checking.FullTask.{FullTask, full_edit, full_enter, full_share, full_fail, full_call, full_step, full_and, full_or, full_xor, full_let, full_if, full_case, full_new, full_put, full_absent}
use Rattle.task_model.specs.Checking.NodeCounts.{nodes, count_all, task_nodes}
use Rattle.task_model.specs.Checking.TypeOf.{type_of, task_type}
use Rattle.task_model.specs.Checking.Demands.{arguments}
use Rattle.task_model.specs.Checking.TaskDemands.{task_demands, task_call, task_kind}
use Rattle.task_model.specs.Checking.Typing.{HasType}
use Rattle.task_model.specs.Checking.TaskTyping.{HasTask, CallsTask}
use Rattle.host_types.proofs.TypingLemmas.{first, second, no_unmet, demanded_true, compared_is, list_is, ref_is, typed, all_of}

kind_is : (k : CallsTerm) (f : Text) (n args : ℕ) (d : Numbered) (w : DefBodyTerm) → called_definition k f ≡ Some d → d.def.what ≡ w
    → IsMet (task_kind n k.below d.index (length d.def.params) args w)
    → CallsTask k f d × (length d.def.params ≡ args)
kind_is k f n args d (fun_body b) is w m = absurd (no_unmet m)
kind_is k f n args d (task_body t) is w m =
    let many = demanded_true (length d.def.params == args) n (arity (length d.def.params) args) (second m) in
    let same : length d.def.params ≡ args = grind (arith, nat_tests, many) in
    (record { first = is; body = t; task = w; open' = demanded_true (is_open k.below d.index) n unguarded (first m) }, same)

task_is : (k : CallsTerm) (f : Text) (n args : ℕ) (o : Option Numbered) → called_definition k f ≡ o → IsMet (task_call n k.below args o)
    → (d : Numbered) × (o ≡ Some d) × CallsTask k f d × (length d.def.params ≡ args)
task_is k f n args None is m = absurd (no_unmet m)
task_is k f n args (Some d) is m = let h = kind_is k f n args d d.def.what is refl m in (d, refl, h.0, h.1)

at_type : (k : CallsTerm) (s : List ParamTerm) (t : FullTask) (a b : BasicTerm) → a ≡ b → HasTask k s t a → HasTask k s t b
at_type k s t a b is h = subst (λ c. HasTask k s t c) is h

-- an expression that is wanted to have this type
wanted_type : (k : CallsTerm) (s : List ParamTerm) (n : ℕ) (e : HostTerm) (want : BasicTerm) → type_of k.defs s e ≡ want
    → HasType (all_open k) s e (type_of k.defs s e) → HasType (all_open k) s e want
wanted_type k s n e want is h = subst (λ c. HasType (all_open k) s e c) is h

pub task_typed : (k : CallsTerm) (s : List ParamTerm) (n : ℕ) (t : FullTask) → IsMet (task_demands k s n t)
    → HasTask k s t (task_type k.defs s t)
task_typed k s n (full_edit e) m = typed (all_open k) s (suc n) e (first m)
task_typed k s n (full_enter b) m = refl
task_typed k s n (full_share x) m = ref_is n (kind_in s x) m
task_typed k s n (full_fail b) m = refl
task_typed k s n (full_call f es) m =
    let (d, is, names, many) = task_is k f n (count_all (as_exprs es)) (called_definition k f) refl (first m) in (
      d,
      names,
      ap result_of is,
      all_of (all_open k) s (suc n) (as_exprs es) d.def.params many
          (subst (λ o. IsMet (arguments (all_open k) s (suc n) (as_exprs es) (params_of o))) is (second m)),
    )
task_typed k s n (full_step t xs x u) m = (
  _,
  task_typed k s (suc n) t (first (first (second m))),
  task_typed (all_open k) (bind_value s x (task_type k.defs s t))
      (suc n + task_nodes t) u (first (second (second m))),
)
task_typed k s n (full_and t u) m =
    (_, _, refl, task_typed k s (suc n) t (first (first m)), task_typed k s (suc n + task_nodes t) u (first (second m)))
task_typed k s n (full_or t u) m =
    let i = suc n + task_nodes t in (
      task_typed k s (suc n) t (first (first m)),
      at_type k s u (task_type k.defs s u) (task_type k.defs s t)
          (compared_is i (task_type k.defs s t) (task_type k.defs s u) (second (second m))) (task_typed k s i u (first (first (second m)))),
    )
task_typed k s n (full_xor xs t ys u) m =
    let i = suc n + task_nodes t in (
      task_typed (all_open k) s (suc n) t (first (first m)),
      at_type (all_open k) s u (task_type k.defs s u) (task_type k.defs s t)
          (compared_is i (task_type k.defs s t) (task_type k.defs s u) (second (second m)))
          (task_typed (all_open k) s i u (first (first (second m)))),
    )
task_typed k s n (full_let x e t) m = (
  _,
  typed (all_open k) s (suc n) e (first (first (second m))),
  task_typed k (bind_value s x (type_of k.defs s e)) (suc n + nodes e) t
      (first (second (second m))),
)
task_typed k s n (full_if e t u) m =
    let i = suc n + nodes e in (
      wanted_type k s (suc n) e bool_type (compared_is (suc n) bool_type (type_of k.defs s e) (second (first m)))
          (typed (all_open k) s (suc n) e (first (first (first m)))),
      task_typed k s i t (first (first (second m))),
      at_type k s u (task_type k.defs s u) (task_type k.defs s t)
          (compared_is (i + task_nodes t) (task_type k.defs s t) (task_type k.defs s u) (second (second (second m))))
          (task_typed k s (i + task_nodes t) u (first (first (second (second m))))),
    )
task_typed k s n (full_case e t x y u) m =
    let i = suc n + nodes e in
    let c = type_of k.defs s e in
    let inner = bind_value (bind_value s x (item_part c)) y c in
    let rest = second (second m) in
    let branches = second rest in (
      item_part c,
      c,
      list_is (suc n) c (second (first rest)),
      typed (all_open k) s (suc n) e (first (first (first rest))),
      task_typed k s i t (first (first branches)),
      at_type k inner u (task_type k.defs inner u) (task_type k.defs s t)
          (compared_is (i + task_nodes t) (task_type k.defs s t) (task_type k.defs inner u) (second (second branches)))
          (task_typed k inner (i + task_nodes t) u (first (first (second branches)))),
    )
task_typed k s n (full_new x e t) m = (
  _,
  typed (all_open k) s (suc n) e (first (first (second m))),
  task_typed k (bind_place s x (type_of k.defs s e)) (suc n + nodes e) t
      (first (second (second m))),
)
task_typed k s n (full_put x e t) m = (
  _,
  ref_is n (kind_in s x) (first m),
  wanted_type k s (suc n) e (named_type (kind_in s x))
      (compared_is (suc n) (named_type (kind_in s x)) (type_of k.defs s e) (second (first (second m))))
      (typed (all_open k) s (suc n) e (first (first (first (second m))))),
  task_typed k s (suc n + nodes e) t (first (second (second m))),
)
task_typed k s n full_absent m = absurd (no_unmet m)
