-- What data is where a part of it is there.
use Rattle.std.proofs.Common.{◌≡◌, ℕ, List, [], ◌∷◌, length, Some, refl, sym, ap}
use Rattle.std.specs.Option.{option_and_then}
use Rattle.serde_json.specs.Data.{unsigned, negative, float, Data, null, boolean, number, string, array, object, no_items, item}
use Rattle.serde_json.specs.View.{view, items_view}
use Rattle.serde_json.specs.declared.value.Value as json
use Rattle.serde_json.specs.Find.{as_number, as_str, as_u64}
use Rattle.json_face.proofs.DataParts.{some_or, others_in}
use Rattle.json_face.proofs.ValueLemmas.{no_item}

-- only a whole number that isn't negative is one as u64
pub unsigned_only : (d : Data) (n : ℕ) → option_and_then as_u64 (as_number d) ≡ Some n → d ≡ number (unsigned n)
unsigned_only null n h = cc
unsigned_only (boolean b) n h = cc
unsigned_only (number (unsigned m)) n h = ap (λ o. number (unsigned (some_or m o))) h
unsigned_only (number (negative z)) n h = cc
unsigned_only (number (float x)) n h = cc
unsigned_only (string s) n h = cc
unsigned_only (array ds) n h = cc
unsigned_only (object ms) n h = cc

-- only a string is one
pub string_only : (d : Data) (t : List ℕ) → as_str d ≡ Some t → d ≡ string t
string_only null t h = cc
string_only (boolean b) t h = cc
string_only (number n) t h = cc
string_only (string s) t h = ap (λ o. string (some_or s o)) h
string_only (array ds) t h = cc
string_only (object ms) t h = cc

-- an array of one item has one
pub one_item : (xs : List json.Value) (d : Data) → items_view xs ≡ item d no_items → length xs ≡ 1
one_item [] d h = absurd (no_item d no_items (sym h))
one_item (x ∷ []) d h = refl
one_item (x ∷ (y ∷ xs)) d h = absurd (no_item (view y) (items_view xs) (ap others_in h))
