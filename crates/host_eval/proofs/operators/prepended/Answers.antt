use Rattle.std.specs.Prelude.{IfOk}
use Rattle.std.proofs.Common.{◌≡◌, ℕ, zero, suc, List, [], ◌∷◌, map, length, take, refl, ap, ◌∙◌, subst, arith}
use Rattle.task_model.specs.Terms.Value.{ValueTerm, list_value, as_values, value_term}
use Rattle.task_model.specs.Running.Operators.{list_of}
use Rattle.host_eval.proofs.ListLemmas.{take_whole}
use Rattle.host_eval.proofs.operators.prepended.Goals as goal

cut_again : {X Y : Type 0} (f : X → Y) (n : ℕ) (xs : List X) → take n (map f (take n xs)) ≡ take n (map f xs)
cut_again f zero xs = refl
cut_again f (suc n) [] = refl
cut_again f (suc n) (x ∷ xs) = ap (λ l. f x ∷ l) (cut_again f n xs)

pub returns : goal.returns
returns c =
    let v = value_term c.args.v.now in
    let items = c.args.items.now in
    let end : c.loop-item.item-index ≡ length c.kept_behind_one-kept.result.now = omega arith in
    let whole = ap (λ n. take n c.kept_behind_one-kept.result.now) end ∙ take_whole c.kept_behind_one-kept.result.now in
    let all = c.loop-item.invariant ∙ ap (λ l. v ∷ map value_term l) (whole ∙ c.kept_behind_one-kept.ensures) in
    let kept = ap list_of all ∙ ap (λ l. list_value (as_values (v ∷ l))) (cut_again value_term 1023 items) in
    subst (λ (t : ValueTerm). IfOk c.list_of.result (λ w. value_term w ≡ t)) kept c.list_of.ensures
