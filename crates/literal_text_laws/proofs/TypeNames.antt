-- Names of types: read, or the first fault.
use Rattle.std.specs.Prelude.{codes}
use Rattle.std.proofs.Common.{◌≡◌, ℕ, zero, suc, ◌+◌, ◌-◌, ◌<◌, ◌≤◌, [], ◌∷◌, length, refl, ap, arith, inl, inr}
use Rattle.std.proofs.lemmas.Bool.{cases_lt}
use Rattle.task_model.specs.Terms.Text.{Text}
use Rattle.task_model.specs.Terms.Basic.{BasicTerm, unit_type, bool_type, int_type, text_type, pair_type, list_type}
use Rattle.literal_text.specs.Types.{IsTypeName}
use Rattle.literal_text.specs.LiteralReading.{NoBlank, TypeName, PairName, ListName}
use Rattle.literal_text.proofs.TypeLemmas as types
use Rattle.literal_text.proofs.ReadLemmas.{Named, nothing_blank, read_named, named_fault}
use Rattle.literal_text_laws.proofs.Decided.{Decided, fails, onto, followed, WordOrFault, word_or_fault, one_value}
use Rattle.literal_text_laws.proofs.Words.{begins_or_not, blanks, word, valued}

abbrev Reads : ℕ → Type 0
Reads room = (ts : Text) → Decided (TypeName room) NoBlank ts

module _ (room : ℕ) (parts : (n : ℕ) → n < room → 1 ≤ n → Reads n) where
  pair : (ts : Text) → Decided (PairName room) NoBlank ts
  pair ts = elim (cases_lt room 3) [
    | inl lt ↦ fails (length ts) (types.pair_full room lt)
    | inr big ↦
        followed (λ _ h. types.bracket_stop room big h)
        (λ _ rest h. onto (λ r k. types.bracket_right room big h k)
        (followed (λ _ h. types.first_stop room big h)
        (λ x rest h. let some = types.leaves_some room big h in onto (λ r k. types.first_right room big h k)
        (followed (λ _ h. types.comma_stop room x some h)
        (λ _ rest h. onto (λ r k. types.comma_right room x some h k)
        (followed (λ _ h. types.second_stop room x some h)
        (λ y rest h. onto (λ r k. types.second_right room x some h k)
        (valued (41 ∷ []) (pair_type x.0 y.0, suc (x.1 + y.1)) rest))
        (parts (room - 1 - x.1) (omega (arith, some)) some rest)))
        (word (44 ∷ []) rest))) (parts (room - 2) (omega (arith, big)) (omega (arith, big)) rest))) (word (40 ∷ []) ts)
  ]

  list : (ts : Text) → Decided (ListName room) NoBlank ts
  list ts = elim (cases_lt room 2) [
    | inl lt ↦ fails (length ts) (types.list_full room lt)
    | inr big ↦
        followed (λ _ h. types.list_stop room big h)
        (λ _ rest h. onto (λ r k. types.list_right room big h k)
        (followed (λ _ h. types.item_stop room h)
        (λ x rest h. onto (λ r k. types.item_right room h k) (valued (93 ∷ []) (list_type x.0, suc x.1) rest))
        (parts (room - 1) (omega (arith, big)) (omega (arith, big)) rest))) (word (91 ∷ []) ts)
  ]

  by_first : 1 ≤ room → Reads room
  by_first some ts = elim (begins_or_not 40 ts) [
    | inl is ↦ onto (λ r h. types.as_pair room some is h) (pair ts)
    | inr n40 ↦ elim (begins_or_not 91 ts) [
      | inl is ↦ onto (λ r h. types.as_list room some is h) (list ts)
      | inr n91 ↦ elim (begins_or_not 117 ts) [
        | inl is ↦ onto (λ r h. types.as_unit room some is h) (valued (codes "unit") (unit_type, 1) ts)
        | inr n117 ↦ elim (begins_or_not 98 ts) [
          | inl is ↦ onto (λ r h. types.as_bool room some is h) (valued (codes "bool") (bool_type, 1) ts)
          | inr n98 ↦ elim (begins_or_not 105 ts) [
            | inl is ↦ onto (λ r h. types.as_int room some is h) (valued (codes "int") (int_type, 1) ts)
            | inr n105 ↦ onto (λ r h. types.as_text room some n40 n91 n117 n98 n105 h)
                (valued (codes "text") (text_type, 1) ts)
          ]
        ]
      ]
    ]
  ]

-- in no more steps than there is room
name : (steps room : ℕ) → room ≤ steps → 1 ≤ room → Reads room
name zero room le some ts = absurd (omega (arith, le, some))
name (suc steps) room le some ts = by_first room (λ n lt one rest. name steps n (omega (arith, lt, le)) one rest) some ts

whole : (ts : Text) → Decided Named NoBlank ts
whole ts = let (n, rest, e, ends) = blanks ts in onto (λ r h. read_named (n, e) ends h) (name 64 64 (omega arith) (omega arith) rest)

pub some_name : (ts : Text) → WordOrFault IsTypeName ts
some_name ts = go (word_or_fault nothing_blank (whole ts))
  where
    go : WordOrFault Named ts → WordOrFault IsTypeName ts
    go (inl (x, h)) = inl (x.0, h.0)
    go (inr (place, fault)) = inr (place, named_fault fault)

pub one_type : (ts : Text) (b c : BasicTerm) → IsTypeName ts b → IsTypeName ts c → b ≡ c
one_type ts b c h k = ap (λ x. x.0) (one_value nothing_blank (b, _) (c, _) (h, refl) (k, refl) (whole ts))
