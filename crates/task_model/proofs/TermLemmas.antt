-- Equal terms.
use Rattle.std.proofs.Common.{◌≡◌, ℕ, zero, suc, ◌<◌, length, get_or, arith, List, [], ◌∷◌, map, refl, sym, ap, ◌∙◌}
use Rattle.task_model.specs.Terms.Value.{ValueTerm, list_value, as_values}

as_values-same : (us ws : List ValueTerm) → as_values us ≡ as_values ws → us ≡ ws
as_values-same [] [] e = refl
as_values-same [] (w ∷ ws) e = cc
as_values-same (u ∷ us) [] e = cc
as_values-same (u ∷ us) (w ∷ ws) e =
    let rest : as_values us ≡ as_values ws = cc in
    let one : u ≡ w = cc in
    let all = as_values-same us ws rest in
    cc

pub lists_same : {P : Type 0} {a b : ValueTerm} (us ws : List ValueTerm) → a ≡ list_value (as_values us) → b ≡ list_value (as_values ws)
    → (P → us ≡ ws) × (us ≡ ws → P) → (P → a ≡ b) × (a ≡ b → P)
lists_same us ws p q h = (
  λ t. p ∙ ap (λ l. list_value (as_values l)) (h.0 t) ∙ sym q,
  λ e. h.1 (let s : as_values us ≡ as_values ws = cc in as_values-same us ws s),
)

-- lists whose items differ at a place
pub differ_at : {X T : Type 0} (term : X → T) (xs ys : List X) (i : ℕ) (x y : X) → i < length xs → i < length ys → x ≡ get_or xs i x
    → y ≡ get_or ys i y → (term x ≡ term y → ⊥) → map term xs ≡ map term ys → ⊥
differ_at term [] ys i x y lt lt' p q other e = absurd (omega arith)
differ_at term (v ∷ xs) [] i x y lt lt' p q other e = absurd (omega arith)
differ_at term (v ∷ xs) (w ∷ ys) zero x y lt lt' p q other e = let s : term v ≡ term w = cc in other (ap term p ∙ s ∙ ap term (sym q))
differ_at term (v ∷ xs) (w ∷ ys) (suc i) x y lt lt' p q other e = let s : map term xs ≡ map term ys = cc in
    differ_at term xs ys i x y (omega arith) (omega arith) p q other s
