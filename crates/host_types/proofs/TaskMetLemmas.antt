-- Tasks that have a type within the limits meet every demand.
use Rattle.std.proofs.Common.{◌≡◌, ℕ, suc, ◌+◌, true, List, length, refl, sym, ap, ◌∙◌, subst, arith}
use Rattle.std.specs.Prelude.{◌==◌}
use Rattle.std.proofs.lemmas.Bool.Decides.{nat_tests}
use Rattle.task_model.specs.Terms.Text.{Text}
use Rattle.task_model.specs.Terms.Basic.{BasicTerm, bool_type, pair_type}
use Rattle.task_model.specs.Terms.Host.{as_exprs}
use Rattle.task_model.specs.Terms.Task.{TaskTerm}
use Rattle.task_model.specs.Terms.Program.{ParamTerm, DefBodyTerm, fun_body, task_body}
use Rattle.task_model.specs.Checking.Names.{kind_in, bind_value, bind_place, named_type, Numbered, CallsTerm, is_open, called_definition, all_open, params_of, result_of}
use Rattle.task_model.specs.Checking.TypeParts.{item_part}
use Rattle.task_model.specs.Checking.TypeFault.{IsMet, is_list, unguarded, arity}
use Rattle.task_model.specs.Checking.FullTask.{FullTask, full_edit, full_enter, full_share, full_fail, full_call, full_step, full_and, full_or, full_xor, full_let, full_if, full_case, full_new, full_put, full_absent}
use Rattle.task_model.specs.Checking.NodeCounts.{nodes, count_all, task_nodes}
use Rattle.task_model.specs.Checking.TypeOf.{type_of, task_type}
use Rattle.task_model.specs.Checking.Demands.{arguments}
use Rattle.task_model.specs.Checking.TaskDemands.{task_demands, task_call, task_kind}
use Rattle.task_model.specs.Checking.Limits.{AreWithinKinds}
use Rattle.task_model.specs.Checking.TaskTyping.{HasTask, CallsTask, IsTaskWithin}
use Rattle.task_model.proofs.DemandLemmas.{both, nothing, when_true, whole_met, wanted_met}
use Rattle.host_types.proofs.MetLemmas.{ref_met, has_place_met, two_names_met, met_if, arguments_met}

call_met : (k : CallsTerm) (f : Text) (n args : ℕ) (d : Numbered) (w : DefBodyTerm) (t : TaskTerm) → d.def.what ≡ w → w ≡ task_body t
    → is_open k.below d.index ≡ true → length d.def.params ≡ args
    → IsMet (task_kind n k.below d.index (length d.def.params) args w)
call_met k f n args d (fun_body e) t is task opens many = absurd cc
call_met k f n args d (task_body b) t is task opens many =
    both (when_true (is_open k.below d.index) n unguarded opens)
    (when_true (length d.def.params == args) n (arity (length d.def.params) args) (grind (arith, nat_tests, many)))

task_call_met : (k : CallsTerm) (f : Text) (n args : ℕ) (d : Numbered) → CallsTask k f d → length d.def.params ≡ args
    → IsMet (task_call n k.below args (called_definition k f))
task_call_met k f n args d c many =
    subst (λ o. IsMet (task_call n k.below args o)) (sym c.first) (call_met k f n args d d.def.what c.body refl c.task c.open' many)

pub task_met : (k : CallsTerm) (s : List ParamTerm) (n : ℕ) (t : FullTask) (b : BasicTerm) → HasTask k s t b → IsTaskWithin k s t
    → IsMet (task_demands k s n t) × (b ≡ task_type k.defs s t)
task_met k s n (full_edit e) b h (u, v) =
    let (m, g) = met_if (all_open k) s (suc n) e b h u in (whole_met (suc n) (type_of k.defs s e) _ m v, g)
task_met k s n (full_enter a) b h w = (nothing, h)
task_met k s n (full_share x) b h w = ref_met n (kind_in s x) b h
task_met k s n (full_fail a) b h w = (nothing, h)
task_met k s n (full_call f es) b (d, c, e, have) w =
    let args = arguments_met (all_open k) s (suc n) (as_exprs es) d.def.params have
    (subst (λ o. AreWithinKinds (all_open k) s (as_exprs es) (params_of o)) c.first w) in (
      both (task_call_met k f n (count_all (as_exprs es)) d c args.1)
          (subst (λ o. IsMet (arguments (all_open k) s (suc n) (as_exprs es) (params_of o))) (sym c.first) args.0),
      e
          ∙ ap result_of (sym c.first),
    )
task_met k s n (full_step t xs x u) b (a, p, q) (room, v, y, w, z) =
    let i = suc n + task_nodes t in
    let (m, g) = task_met k s (suc n) t a p v in
    let inner = bind_value s x (task_type k.defs s t) in
    let (m', h) = task_met (all_open k) inner i u b (subst (λ c. HasTask (all_open k) (bind_value s x c) u b) g q) w in (
      both (has_place_met n 199 s 1 room refl)
          (both (whole_met (suc n) (task_type k.defs s t) _ m y) (whole_met i (task_type k.defs inner u) _ m' z)),
      h,
    )
task_met k s n (full_and t u) b (a, c, is, p, q) (v, x, w, y) =
    let i = suc n + task_nodes t in
    let (m, g) = task_met k s (suc n) t a p v in
    let (m', h) = task_met k s i u c q w in (
      both (whole_met (suc n) (task_type k.defs s t) _ m x) (whole_met i (task_type k.defs s u) _ m' y),
      is ∙ ap (λ d. pair_type d c) g
          ∙ ap (λ d. pair_type (task_type k.defs s t) d) h,
    )
task_met k s n (full_or t u) b (p, q) (v, x, w, y) =
    let i = suc n + task_nodes t in
    let (m, g) = task_met k s (suc n) t b p v in
    let (m', h) = task_met k s i u b q w in (
      both (whole_met (suc n) (task_type k.defs s t) _ m x)
          (wanted_met i (task_type k.defs s t) (task_type k.defs s u) _ m' y (sym h ∙ g)),
      g,
    )
task_met k s n (full_xor xs t ys u) b (p, q) (v, x, w, y) =
    let i = suc n + task_nodes t in
    let (m, g) = task_met (all_open k) s (suc n) t b p v in
    let (m', h) = task_met (all_open k) s i u b q w in (
      both (whole_met (suc n) (task_type k.defs s t) _ m x)
          (wanted_met i (task_type k.defs s t) (task_type k.defs s u) _ m' y (sym h ∙ g)),
      g,
    )
task_met k s n (full_let x e t) b (a, p, q) (room, v, y, w, z) =
    let i = suc n + nodes e in
    let (m, g) = met_if (all_open k) s (suc n) e a p v in
    let inner = bind_value s x (type_of k.defs s e) in
    let (m', h) = task_met k inner i t b (subst (λ c. HasTask k (bind_value s x c) t b) g q) w in (
      both (has_place_met n 199 s 1 room refl)
          (both (whole_met (suc n) (type_of k.defs s e) _ m y) (whole_met i (task_type k.defs inner t) _ m' z)),
      h,
    )
task_met k s n (full_if e t u) b (p, q, r) (v, y, w, x, o, z) =
    let i = suc n + nodes e in
    let (m, g) = met_if (all_open k) s (suc n) e bool_type p v in
    let (m', h) = task_met k s i t b q w in
    let (l, j) = task_met k s (i + task_nodes t) u b r o in (
      both (wanted_met (suc n) bool_type (type_of k.defs s e) _ m y (sym g))
          (both (whole_met i (task_type k.defs s t) _ m' x)
          (wanted_met (i + task_nodes t) (task_type k.defs s t) (task_type k.defs s u) _ l z (sym j ∙ h))),
      h,
    )
task_met k s n (full_case e t x y u) b (a, c, is, p, q, r) (apart, room, v, o, w, x', z, y') =
    let i = suc n + nodes e in
    let (m, g) = met_if (all_open k) s (suc n) e c p v in
    let d = type_of k.defs s e in
    let inner = bind_value (bind_value s x (item_part d)) y d in
    let item : a ≡ item_part d = ap item_part (sym is) ∙ ap item_part g in
    let (m', h) = task_met k s i t b q w in
    let (l, j) = task_met k inner (i + task_nodes t) u b
    (subst (λ z. HasTask k (bind_value (bind_value s x (item_part d)) y z) u b) g
    (subst (λ z. HasTask k (bind_value (bind_value s x z) y c) u b) item r)) z in (
      both (two_names_met n x y apart) (both (has_place_met n 198 s 2 room refl) (both
          (both (whole_met (suc n) d _ m o) (subst (λ z. IsMet (is_list (suc n) z)) (sym is ∙ g) nothing))
          (both (whole_met i (task_type k.defs s t) _ m' x')
          (wanted_met (i + task_nodes t) (task_type k.defs s t) (task_type k.defs inner u) _ l y' (sym j ∙ h))))),
      h,
    )
task_met k s n (full_new x e t) b (a, p, q) (room, v, y, w, z) =
    let i = suc n + nodes e in
    let (m, g) = met_if (all_open k) s (suc n) e a p v in
    let inner = bind_place s x (type_of k.defs s e) in
    let (m', h) = task_met k inner i t b (subst (λ c. HasTask k (bind_place s x c) t b) g q) w in (
      both (has_place_met n 199 s 1 room refl)
          (both (whole_met (suc n) (type_of k.defs s e) _ m y) (whole_met i (task_type k.defs inner t) _ m' z)),
      h,
    )
task_met k s n (full_put x e t) b (a, r, p, q) (v, y, w, z) =
    let i = suc n + nodes e in
    let (l, j) = ref_met n (kind_in s x) a r in
    let (m, g) = met_if (all_open k) s (suc n) e a p v in
    let (m', h) = task_met k s i t b q w in (
      both l (both (wanted_met (suc n) (named_type (kind_in s x)) (type_of k.defs s e) _ m y (sym g ∙ j))
          (whole_met i (task_type k.defs s t) _ m' z)),
      h,
    )
task_met k s n full_absent b h w = absurd h
