-- Numbers of units and heights, summed up in any order.
use Rattle.std.proofs.Common.{◌≡◌, ℕ, suc, ◌+◌, ◌<◌, ◌≤◌, max, List, ◌∷◌, length, get_or, drop, map, sym, ap, ◌∙◌, arith, add-one, drop-cons}
use Rattle.task_model.specs.Terms.Host.{host_term, HostTerms, no_exprs, more_exprs, as_exprs}
use Rattle.task_model.specs.declared.host.Host.{Host}
use Rattle.stride_bound.specs.declared.bounds.Bound.{Bound}
use Rattle.stride_bound.specs.Sums.{cut, plus, naught, beside}
use Rattle.stride_bound.specs.Figures.{Tables, expression_bound, expressions_bound}

plus_assoc : (a b c : ℕ) → plus a (plus b c) ≡ plus (plus a b) c
plus_assoc a b c = omega arith

max_assoc : (a b c : ℕ) → max a (max b c) ≡ max (max a b) c
max_assoc a b c = omega arith

cut_sum : (a b : ℕ) → cut (a + b) ≤ 1000001
cut_sum a b = omega arith

two_numbers : (a b c d : ℕ) → a ≡ c → b ≡ d → let x : Bound = record { units = a; height = b } in let y : Bound = record { units = c; height = d } in x ≡ y
two_numbers a b c d p q = cc

beside_assoc : (a b c : Bound) → beside a (beside b c) ≡ beside (beside a b) c
beside_assoc a b c = two_numbers _ _ _ _ (plus_assoc a.units b.units c.units) (max_assoc a.height b.height c.height)

-- sums of expressions are cut
listed_cut : (T : Tables) (es : HostTerms) → (expressions_bound T es).units ≤ 1000001
listed_cut T no_exprs = omega arith
listed_cut T (more_exprs e es) = cut_sum ((expression_bound T e).units) ((expressions_bound T es).units)

cut_zero : (a : ℕ) → a ≤ 1000001 → plus 0 a ≡ a
cut_zero a h = omega arith

cut_zero_behind : (a : ℕ) → a ≤ 1000001 → plus a 0 ≡ a
cut_zero_behind a h = omega arith

max_zero : (a : ℕ) → max 0 a ≡ a
max_zero a = omega arith

max_zero_behind : (a : ℕ) → max a 0 ≡ a
max_zero_behind a = omega arith

pub none_beside : (T : Tables) (es : HostTerms) → beside naught (expressions_bound T es) ≡ expressions_bound T es
none_beside T es = two_numbers _ _ _ _ (cut_zero ((expressions_bound T es).units) (listed_cut T es)) (max_zero ((expressions_bound T es).height))

pub beside_none : (a : Bound) → a.units ≤ 1000001 → beside a naught ≡ a
beside_none a h = two_numbers _ _ _ _ (cut_zero_behind a.units h) (max_zero_behind a.height)

-- an expression more, of those from a place on
pub one_more : (T : Tables) (all one : Bound) (items : List Host) (i : ℕ) (e : Host) → i < length items → e ≡ get_or items i e
    → one ≡ expression_bound T (host_term e)
    → beside all (expressions_bound T (as_exprs (map host_term (drop i items))))
    ≡ beside (beside all one) (expressions_bound T (as_exprs (map host_term (drop (i + 1) items))))
one_more T all one items i e within is o =
    ap (λ l. beside all (expressions_bound T (as_exprs (map host_term l))))
    (drop-cons items i e within ∙ ap (λ x. x ∷ drop (suc i) items) (sym is) ∙ ap (λ k. e ∷ drop k items) (sym (add-one i)))
    ∙ ap (λ x. beside all (beside x (expressions_bound T (as_exprs (map host_term (drop (i + 1) items)))))) (sym o)
    ∙ beside_assoc all one (expressions_bound T (as_exprs (map host_term (drop (i + 1) items))))
