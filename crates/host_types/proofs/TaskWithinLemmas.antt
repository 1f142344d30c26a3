-- Tasks of which all is met are within the limits.
use Rattle.std.proofs.Common.{ℕ, suc, ◌+◌, ◌≤◌, List, length, refl}
use Rattle.task_model.specs.Terms.Host.{HostTerm, as_exprs}
use Rattle.task_model.specs.Terms.Program.{ParamTerm}
use Rattle.task_model.specs.Checking.TypeParts.{item_part}
use Rattle.task_model.specs.Checking.Names.{bind_value, bind_place, CallsTerm, called_definition, all_open, params_of}
use Rattle.task_model.specs.Checking.TypeFault.{IsMet, ◌⨾◌, whole}
use Rattle.task_model.specs.Checking.FullTask.{FullTask, full_edit, full_enter, full_share, full_fail, full_call, full_step, full_and, full_or, full_xor, full_let, full_if, full_case, full_new, full_put, full_absent}
use Rattle.task_model.specs.Checking.NodeCounts.{nodes, task_nodes}
use Rattle.task_model.specs.Checking.TypeOf.{type_of, task_type}
use Rattle.task_model.specs.Checking.Demands.{has_place, all_demands}
use Rattle.task_model.specs.Checking.TaskDemands.{task_demands}
use Rattle.task_model.specs.Checking.Limits.{IsSmall, IsWithin}
use Rattle.task_model.specs.Checking.TaskTyping.{IsTaskWithin}
use Rattle.host_types.proofs.TypingLemmas.{first, second}
use Rattle.host_types.proofs.WithinLemmas.{small, room, apart, within, within_kinds}

-- a task that binds a name to an expression, as `let` and `new` do
bound_within : (k : CallsTerm) (s inner : List ParamTerm) (n : ℕ) (e : HostTerm) (t : FullTask)
    → (IsMet (task_demands k inner (suc n + nodes e) t) → IsTaskWithin k inner t)
    → IsMet (has_place n s 1 ⨾ all_demands (all_open k) s (suc n) e
    ⨾ whole (suc n + nodes e) (task_type k.defs inner t) (task_demands k inner (suc n + nodes e) t))
    → (length s ≤ 199) × IsWithin (all_open k) s e × IsSmall (type_of k.defs s e) × IsTaskWithin k inner t
    × IsSmall (task_type k.defs inner t)
bound_within k s inner n e t step m =
    let bound = first (second m) in
    let rest = second (second m) in (
      room n 199 s 1 refl (first m),
      within (all_open k) s (suc n) e (first bound),
      small (suc n) (type_of k.defs s e) (second bound),
      step (first rest),
      small (suc n + nodes e) (task_type k.defs inner t) (second rest),
    )

pub task_within : (k : CallsTerm) (s : List ParamTerm) (n : ℕ) (t : FullTask) → IsMet (task_demands k s n t) → IsTaskWithin k s t
task_within k s n (full_edit e) m = (within (all_open k) s (suc n) e (first m), small (suc n) (type_of k.defs s e) (second m))
task_within k s n (full_call f es) m = within_kinds (all_open k) s (suc n) (as_exprs es) (params_of (called_definition k f)) (second m)
task_within k s n (full_step t xs x u) m =
    let i = suc n + task_nodes t in
    let inner = bind_value s x (task_type k.defs s t) in
    let left = first (second m) in
    let right = second (second m) in (
      room n 199 s 1 refl (first m),
      task_within k s (suc n) t (first left),
      small (suc n) (task_type k.defs s t) (second left),
      task_within (all_open k) inner i u (first right),
      small i (task_type k.defs inner u) (second right),
    )
task_within k s n (full_and t u) m =
    let i = suc n + task_nodes t in (
      task_within k s (suc n) t (first (first m)),
      small (suc n) (task_type k.defs s t) (second (first m)),
      task_within k s i u (first (second m)),
      small i (task_type k.defs s u) (second (second m)),
    )
task_within k s n (full_or t u) m =
    let i = suc n + task_nodes t in
    let right = first (second m) in (
      task_within k s (suc n) t (first (first m)),
      small (suc n) (task_type k.defs s t) (second (first m)),
      task_within k s i u (first right),
      small i (task_type k.defs s u) (second right),
    )
task_within k s n (full_xor xs t ys u) m =
    let i = suc n + task_nodes t in
    let right = first (second m) in (
      task_within (all_open k) s (suc n) t (first (first m)),
      small (suc n) (task_type k.defs s t) (second (first m)),
      task_within (all_open k) s i u (first right),
      small i (task_type k.defs s u) (second right),
    )
task_within k s n (full_let x e t) m =
    let inner = bind_value s x (type_of k.defs s e) in
    bound_within k s inner n e t (λ h. task_within k inner (suc n + nodes e) t h) m
task_within k s n (full_if e t u) m =
    let i = suc n + nodes e in
    let test = first (first m) in
    let yes = first (second m) in
    let no = first (second (second m)) in (
      within (all_open k) s (suc n) e (first test),
      small (suc n) (type_of k.defs s e) (second test),
      task_within k s i t (first yes),
      small i (task_type k.defs s t) (second yes),
      task_within k s (i + task_nodes t) u (first no),
      small (i + task_nodes t) (task_type k.defs s u) (second no),
    )
task_within k s n (full_case e t x y u) m =
    let i = suc n + nodes e in
    let a = type_of k.defs s e in
    let inner = bind_value (bind_value s x (item_part a)) y a in
    let list = first (first (second (second m))) in
    let empty = first (second (second (second m))) in
    let more = first (second (second (second (second m)))) in (
      apart n x y (first m),
      room n 198 s 2 refl (first (second m)),
      within (all_open k) s (suc n) e (first list),
      small (suc n) a (second list),
      task_within k s i t (first empty),
      small i (task_type k.defs s t) (second empty),
      task_within k inner (i + task_nodes t) u (first more),
      small (i + task_nodes t) (task_type k.defs inner u) (second more),
    )
task_within k s n (full_new x e t) m =
    let inner = bind_place s x (type_of k.defs s e) in
    bound_within k s inner n e t (λ h. task_within k inner (suc n + nodes e) t h) m
task_within k s n (full_put x e t) m =
    let i = suc n + nodes e in
    let value = first (first (second m)) in
    let rest = second (second m) in (
      within (all_open k) s (suc n) e (first value),
      small (suc n) (type_of k.defs s e) (second value),
      task_within k s i t (first rest),
      small i (task_type k.defs s t) (second rest),
    )
task_within k s n t m = tt
