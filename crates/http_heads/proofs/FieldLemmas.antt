-- Fields by their names, and what stands at the ends of slices.
use Rattle.std.proofs.Common.{◌≡◌, ℕ, ◌-◌, Bool, true, false, cond, List, [], ◌∷◌, map, length, slice_range, take, refl, ap, ◌∙◌, subst, arith}
use Rattle.std.specs.Char.{to_ascii_lowercase}
use Rattle.std.specs.Str.{str_eq_ignore_ascii_case}
use Rattle.std.proofs.lemmas.Slice.Eq.{bytes_eq-Decides}
use Rattle.httparse.specs.declared.spans.HeaderSpan.{HeaderSpan}
use Rattle.std.proofs.lemmas.List.Elements.{All-tail}
use Rattle.httparse.specs.Spans.{IsHeaderWithin, span_bytes, header_bytes}
use Rattle.task_model.specs.Terms.Text.{Text}
use Rattle.http_heads.specs.Heads.{values_among}
use Rattle.http_heads.specs.Spans.{AreFieldsWithin, fields_at}

take_all : (xs : List ℕ) → take (length xs) xs ≡ xs
take_all [] = refl
take_all (x ∷ xs) = ap (λ l. x ∷ l) (take_all xs)

pub whole_slice : (xs : List ℕ) → slice_range xs 0 (length xs) ≡ xs
whole_slice xs = let e : length xs - 0 ≡ length xs = omega arith in ap (λ n. take n xs) e ∙ take_all xs

-- ---- names, without regard to the case of letters
pub same_name : (a b : Text) → map to_ascii_lowercase a ≡ map to_ascii_lowercase b → str_eq_ignore_ascii_case a b ≡ true
same_name a b e = (bytes_eq-Decides (map to_ascii_lowercase a) (map to_ascii_lowercase b)).1 e

pub other_name : (a b : Text) → (map to_ascii_lowercase a ≡ map to_ascii_lowercase b → ⊥) → str_eq_ignore_ascii_case a b ≡ false
other_name a b differs = go (str_eq_ignore_ascii_case a b) refl
  where
    go : (t : Bool) → str_eq_ignore_ascii_case a b ≡ t → str_eq_ignore_ascii_case a b ≡ false
    go true e = absurd (differs ((bytes_eq-Decides (map to_ascii_lowercase a) (map to_ascii_lowercase b)).0 e))
    go false e = e

-- the first field has another name
pub values_behind : (name : Text) (field : Text × Text) (fields : List (Text × Text)) → str_eq_ignore_ascii_case field.0 name ≡ false
    → values_among name (field ∷ fields) ≡ values_among name fields
values_behind name field fields e =
    ap (λ t. cond t (field.1 ∷ values_among name fields) (values_among name fields)) e

-- or this one
pub values_first : (name : Text) (field : Text × Text) (fields : List (Text × Text)) → str_eq_ignore_ascii_case field.0 name ≡ true
    → values_among name (field ∷ fields) ≡ field.1 ∷ values_among name fields
values_first name field fields e =
    ap (λ t. cond t (field.1 ∷ values_among name fields) (values_among name fields)) e

pub next_field : (block name : Text) (rest behind : List HeaderSpan) (field : HeaderSpan) → rest ≡ field ∷ behind → AreFieldsWithin block rest
    → str_eq_ignore_ascii_case (span_bytes block field.name) name ≡ false
    → AreFieldsWithin block behind × (values_among name (fields_at block rest) ≡ values_among name (fields_at block behind))
next_field block name rest behind field e within differs = (
  All-tail (IsHeaderWithin (length block)) field behind (subst (AreFieldsWithin block) e within),
  ap (λ l. values_among name (fields_at block l)) e ∙ values_behind name (header_bytes block field) (fields_at block behind) differs,
)
