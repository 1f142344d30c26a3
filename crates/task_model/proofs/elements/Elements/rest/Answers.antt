use Rattle.std.proofs.Common.{◌≡◌, ℕ, zero, suc, ◌+◌, List, [], ◌∷◌, drop, refl, ap, ◌∙◌, arith}
use Rattle.task_model.proofs.elements.Elements.rest.Goals as goal

drop-next : {X : Type 0} (n : ℕ) (xs : List X) → drop (suc n) xs ≡ drop 1 (drop n xs)
drop-next zero xs = refl
drop-next (suc n) [] = refl
drop-next (suc n) (x ∷ xs) = drop-next n xs

pub returns-then-self-as_slice : goal.returns-then-self-as_slice
returns-then-self-as_slice g c =
    let n = c.args.self.now.from in
    let next : n + 1 ≡ suc n = omega arith in
    ap (λ b. drop (n + 1) b.list) c.in_ok-block.ensures ∙ ap (λ k. drop k c.args.self.now.block.value.list) next
    ∙ drop-next n c.args.self.now.block.value.list
