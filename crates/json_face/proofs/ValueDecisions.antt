-- Data is the form of a value within the limits, or of none.
use Rattle.std.proofs.Common.{◌≡◌, ℕ, ◌+◌, ◌≤◌, ◌^◌, ℤ, pos, negsuc, Bool, true, false, ◌&&◌, length, codes, ◌⊎◌, inl, inr, refl, sym, ap, ◌∙◌, subst, arith, true≢false, FitsSigned, w64}
use Rattle.std.specs.Str.{bytes_eq}
use Rattle.std.proofs.lemmas.Bool.{and_parts}
use Rattle.std.proofs.lemmas.Bool.Decides.{leb_tells}
use Rattle.std.proofs.lemmas.Slice.Eq.{bytes_eq-Decides}
use Rattle.task_model.specs.Terms.Text.{Text}
use Rattle.task_model.specs.Terms.Value.{ValueTerm, ValueTerms, unit_value, bool_value, int_value, text_value, pair_value, list_value, no_values, more_values, count_of}
use Rattle.literal_text.specs.Literals.{IsWithinLiteralLimits, AreWithinLiteralLimits, levels_of}
use Rattle.serde_json.specs.Data.{Num, unsigned, negative, float, Data, null, boolean, number, string, array, object, Items, no_items, item, Members, no_members, member}
use Rattle.serde_json.specs.Find.{of_integer}
use Rattle.json_face.specs.JsonValues.{value_data, values_data}
use Rattle.json_face.proofs.AskedLemmas.{int_in, value_in, pair_in, values_in, value_back}

-- a fact holds, or it doesn't
abbrev pub Decided : Type 0 → Type 0
Decided P = P ⊎ (P → ⊥)

pub both : {P Q : Type 0} → Decided P → Decided Q → Decided (P × Q)
both (inl p) (inl q) = inl (p, q)
both (inl p) (inr none) = inr (λ h. none h.1)
both (inr none) q = inr (λ h. none h.0)

pub at_most : (n most : ℕ) → Decided (n ≤ most)
at_most n most = elim (leb_tells n most) [
  | inl p ↦ inl p.1
  | inr q ↦ inr (λ le. let less = q.1 in absurd (omega (arith, less, le)))
]

-- ---- the forms of values
abbrev is_int : Num → Bool
is_int (unsigned n) = true
is_int (negative (pos n)) = false
is_int (negative (negsuc n)) = true
is_int (float x) = false

abbrev mutual
  is_value : Data → Bool
  is_value null = true
  is_value (boolean b) = true
  is_value (number n) = is_int n
  is_value (string t) = true
  is_value (array ds) = are_values ds
  is_value (object ms) = is_pair ms

  is_pair : Members → Bool
  is_pair no_members = false
  is_pair (member k d no_members) = false
  is_pair (member k d (member l e no_members)) = (bytes_eq k (codes "first") && bytes_eq l (codes "second")) && (is_value d && is_value e)
  is_pair (member k d (member l e (member m f ms))) = false

  are_values : Items → Bool
  are_values no_items = true
  are_values (item d ds) = is_value d && are_values ds

int_is : (n : Num) → is_int n ≡ true → n ≡ of_integer (int_in n)
int_is (unsigned n) h = refl
int_is (negative (pos n)) h = absurd (true≢false (sym h))
int_is (negative (negsuc n)) h = refl
int_is (float x) h = absurd (true≢false (sym h))

mutual
  value_is : (d : Data) → is_value d ≡ true → d ≡ value_data (value_in d)
  value_is null h = refl
  value_is (boolean b) h = refl
  value_is (number n) h = ap number (int_is n h)
  value_is (string t) h = refl
  value_is (array ds) h = ap array (values_are ds h)
  value_is (object ms) h = pair_is ms h

  pair_is : (ms : Members) → is_pair ms ≡ true → object ms ≡ value_data (pair_in ms)
  pair_is no_members h = absurd (true≢false (sym h))
  pair_is (member k d no_members) h = absurd (true≢false (sym h))
  pair_is (member k d (member l e no_members)) h =
      let parts = and_parts _ _ h in
      let keys = and_parts _ _ parts.0 in
      let values = and_parts _ _ parts.1 in
      ap (λ (x : Text). object (member x d (member l e no_members))) ((bytes_eq-Decides k (codes "first")).0 keys.0)
      ∙ (ap (λ (x : Text). object (member (codes "first") d (member x e no_members))) ((bytes_eq-Decides l (codes "second")).0 keys.1)
      ∙ (ap (λ (x : Data). object (member (codes "first") x (member (codes "second") e no_members))) (value_is d values.0)
      ∙ ap (λ (x : Data). object (member (codes "first") (value_data (value_in d)) (member (codes "second") x no_members))) (value_is e values.1)))
  pair_is (member k d (member l e (member m f ms))) h = absurd (true≢false (sym h))

  values_are : (ds : Items) → are_values ds ≡ true → ds ≡ values_data (values_in ds)
  values_are no_items h = refl
  values_are (item d ds) h =
      let parts = and_parts _ _ h in
      ap (λ (x : Data). item x ds) (value_is d parts.0) ∙ ap (item (value_data (value_in d))) (values_are ds parts.1)

is_of : (i : ℤ) → is_int (of_integer i) ≡ true
is_of (pos n) = refl
is_of (negsuc n) = refl

all_true : (a b : Bool) → a ≡ true → b ≡ true → (a && b) ≡ true
all_true a b p q = rw (p, q) refl

mutual
  value_told : (v : ValueTerm) → is_value (value_data v) ≡ true
  value_told unit_value = refl
  value_told (bool_value b) = refl
  value_told (int_value i) = is_of i
  value_told (text_value t) = refl
  value_told (pair_value v w) = all_true _ _ refl (all_true _ _ (value_told v) (value_told w))
  value_told (list_value vs) = values_told vs

  values_told : (vs : ValueTerms) → are_values (values_data vs) ≡ true
  values_told no_values = refl
  values_told (more_values v vs) = all_true _ _ (value_told v) (values_told vs)

-- ---- their limits
fits_int : (i : ℤ) → Decided (FitsSigned w64 i)
fits_int (pos n) = elim (leb_tells (n + 1) (2 ^ 63)) [
  | inl p ↦ inl (let le = p.1 in omega (arith, le))
  | inr q ↦ inr (λ fits. let less = q.1 in absurd (omega (arith, less, fits)))
]
fits_int (negsuc n) = elim (leb_tells (n + 1) (2 ^ 63)) [
  | inl p ↦ inl (let le = p.1 in omega (arith, le))
  | inr q ↦ inr (λ fits. let less = q.1 in absurd (omega (arith, less, fits)))
]

mutual
  limits_of : (v : ValueTerm) → Decided (IsWithinLiteralLimits v)
  limits_of unit_value = inl tt
  limits_of (bool_value b) = inl tt
  limits_of (int_value i) = fits_int i
  limits_of (text_value t) = at_most (length t) 65536
  limits_of (pair_value v w) = both (limits_of v) (limits_of w)
  limits_of (list_value vs) = both (at_most (count_of vs) 1024) (limits_in vs)

  limits_in : (vs : ValueTerms) → Decided (AreWithinLiteralLimits vs)
  limits_in no_values = inl tt
  limits_in (more_values v vs) = both (limits_of v) (limits_in vs)

-- a value within the limits and 64 levels, whose form the data is
abbrev pub IsWithin : ValueTerm → Type 0
IsWithin v = IsWithinLiteralLimits v × (levels_of v ≤ 64)

pub decide_value : (d : Data) → Decided ((v : ValueTerm) × (d ≡ value_data v) × IsWithin v)
decide_value d = go (is_value d) refl (both (limits_of (value_in d)) (at_most (levels_of (value_in d)) 64))
  where
    go : (told : Bool) → is_value d ≡ told → Decided (IsWithin (value_in d)) → Decided ((v : ValueTerm) × (d ≡ value_data v) × IsWithin v)
    go true told (inl held) = inl (value_in d, value_is d told, held)
    go true told (inr none) = inr (λ h. none (subst IsWithin (sym (ap value_in h.1 ∙ value_back h.0)) h.2))
    go false told held = inr (λ h. absurd (true≢false (sym (value_told h.0) ∙ (ap is_value (sym h.1) ∙ told))))
