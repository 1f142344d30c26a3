use Rattle.std.proofs.Common.{◌≡◌, ◌≤◌, ℕ, zero, suc, List, [], ◌∷◌, length, take, refl, ap, arith}
use Rattle.host_eval.proofs.operators.kept_behind_one.Goals as goal

length_taken : {X : Type 0} (n : ℕ) (xs : List X) → n ≤ length xs → n ≡ length (take n xs)
length_taken zero xs le = refl
length_taken (suc n) [] le = absurd (omega arith)
length_taken (suc n) (x ∷ xs) le = ap suc (length_taken n xs (omega arith))

pub slice_bounds-result-length : goal.slice_bounds-result-length
slice_bounds-result-length c = length_taken 1023 c.args.items.now (omega arith)
