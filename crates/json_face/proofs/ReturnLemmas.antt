-- A CR at the end of bytes.
use Rattle.std.proofs.Common.{◌≡◌, ℕ, [], ◌∷◌, ◌++◌, length, refl, sym, ap, ◌∙◌, arith}
use Rattle.std.proofs.lemmas.Bool.Decides.{nat_tests}
use Rattle.task_model.specs.Terms.Text.{Text}
use Rattle.json_face.specs.JsonLines.{without_return}

without_last : (front : Text) → without_return (front ++ (13 ∷ [])) ≡ front
without_last [] = refl
without_last (x ∷ []) = refl
without_last (x ∷ (y ∷ ys)) = ap (λ (t : Text). x ∷ t) (without_last (y ∷ ys))

only_byte : (byte : ℕ) → (byte ≡ 13 → ⊥) → without_return (byte ∷ []) ≡ byte ∷ []
only_byte byte other = grind (arith, nat_tests)

with_last : (front : Text) (byte : ℕ) → (byte ≡ 13 → ⊥) → without_return (front ++ (byte ∷ [])) ≡ front ++ (byte ∷ [])
with_last [] byte other = only_byte byte other
with_last (x ∷ []) byte other = ap (λ (t : Text). x ∷ t) (only_byte byte other)
with_last (x ∷ (y ∷ ys)) byte other = ap (λ (t : Text). x ∷ t) (with_last (y ∷ ys) byte other)

-- a CR behind a front is dropped
pub dropped : (bytes front : Text) (byte : ℕ) → bytes ≡ front ++ (byte ∷ []) → byte ≡ 13 → front ≡ without_return bytes
dropped bytes front byte are is = sym (ap without_return (are ∙ ap (λ b. front ++ (b ∷ [])) is) ∙ without_last front)

-- another byte is kept
pub kept : (bytes front : Text) (byte : ℕ) → bytes ≡ front ++ (byte ∷ []) → (byte ≡ 13 → ⊥) → bytes ≡ without_return bytes
kept bytes front byte are other = are ∙ sym (ap without_return are ∙ with_last front byte other)

-- nothing is left of nothing
pub none_dropped : (bytes : Text) → length bytes ≡ 0 → bytes ≡ without_return bytes
none_dropped [] none = refl
none_dropped (byte ∷ bytes) none = absurd (omega arith)
