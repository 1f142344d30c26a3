-- Lists of expressions, taken apart.
use Rattle.std.proofs.Common.{◌≡◌, ℕ, suc, ◌-◌, ◌≤◌, List, [], ◌∷◌, length, get_or, take, drop, map, Result, refl, sym, ap, ◌∙◌, subst, arith}
use Rattle.std.proofs.Math.Seq.{take-length}
use Rattle.task_model.specs.Terms.Host.{host_term, as_exprs, list_expr, more_exprs}
use Rattle.task_model.specs.Terms.Program.{ParamTerm}
use Rattle.task_model.specs.declared.host.Host.{Host}
use Rattle.task_model.specs.Checking.Names.{CallsTerm}
use Rattle.task_model.specs.Checking.NodeCounts.{count_all}
use Rattle.host_types.specs.Answer.{ChecksForm}
use Rattle.host_types.specs.declared.fault.CheckStop.{CheckStop}
use Rattle.host_types.specs.declared.expressions.Typed.{Typed}

pub split_first : {X : Type 0} (xs : List X) (d : X) → 1 ≤ length xs → d ≡ get_or xs 0 d → xs ≡ d ∷ take (length xs - 1) (drop 1 xs)
split_first [] d some is = absurd (omega arith)
split_first (y ∷ ys) d some is =
    let n : suc (length ys) - 1 ≡ length ys = omega arith in
    let all : take (suc (length ys) - 1) ys ≡ ys = ap (λ k. take k ys) n ∙ take-length ys in
    ap (λ z. z ∷ ys) (sym is) ∙ ap (λ zs. d ∷ zs) (sym all)

-- a list expression with a first element
pub list_form_is : (k : CallsTerm) (s : List ParamTerm) (n : ℕ) (items : List Host) (first : Host) (r : Result Typed CheckStop)
    → 1 ≤ length items → first ≡ get_or items 0 first
    → ChecksForm k s n (list_expr (more_exprs (host_term first) (as_exprs (map host_term (take (length items - 1) (drop 1 items)))))) r
    → ChecksForm k s n (list_expr (as_exprs (map host_term items))) r
list_form_is k s n items first r some is h =
    subst (λ l. ChecksForm k s n (list_expr (as_exprs (map host_term l))) r) (sym (split_first items first some is)) h

pub count_exprs : (xs : List Host) → count_all (as_exprs (map host_term xs)) ≡ length xs
count_exprs [] = refl
count_exprs (x ∷ xs) = ap suc (count_exprs xs)
