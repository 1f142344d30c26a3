-- Pairs, lists and any literal: read, or the first fault.
use Rattle.std.proofs.Common.{◌≡◌, ℕ, zero, suc, ◌+◌, ◌-◌, ◌<◌, ◌≤◌, Option, None, Some, List, [], ◌∷◌, ◌++◌, length, length-append, refl, sym, subst, arith, inl, inr}
use Rattle.std.proofs.lemmas.Bool.{cases_lt}
use Rattle.task_model.specs.Terms.Text.{Text}
use Rattle.task_model.specs.Terms.Basic.{BasicTerm, unit_type, bool_type, int_type, text_type, pair_type, list_type}
use Rattle.task_model.specs.Terms.Value.{ValueTerm, pair_value, list_value, as_values}
use Rattle.exact_reading.specs.Reading.{NoToken}
use Rattle.literal_text.specs.LiteralReading.{NoBlank, Ends, fewest, fewest_levels, Lit, Further, Elements, ListLiteral, PairEnd}
use Rattle.literal_text.proofs.FitLemmas.{some_level, least_lit}
use Rattle.literal_text.proofs.LiteralLemmas as literals
use Rattle.literal_text.proofs.ListLemmas as lists
use Rattle.literal_text.proofs.ChoiceLemmas as choices
use Rattle.literal_text_laws.proofs.Decided.{Decided, fails, onto, followed}
use Rattle.literal_text_laws.proofs.Words.{begins_or_not, word, valued, truth, unit_end, unit, no_elements}
use Rattle.literal_text_laws.proofs.Ints.{int}
use Rattle.literal_text_laws.proofs.Texts.{text}

-- each text is read for a literal that is wanted, within so many levels
abbrev Reads : Option BasicTerm → ℕ → Type 0
Reads want room = (ts : Text) → Decided (Lit want room) Ends ts

-- the same of whatever is wanted, if a literal of it can have so few levels
abbrev pub ReadsAll : ℕ → Type 0
ReadsAll room = (want : Option BasicTerm) → fewest want ≤ room → Reads want room

-- ---- the parts of a pair
pair : (want other : Option BasicTerm) (room : ℕ) → fewest other ≤ room → Reads want room → Reads other room → (ts : Text)
    → Decided (PairEnd want other room) NoBlank ts
pair want other room le first second ts =
    onto (λ r h. literals.by_pair want other room h)
    (followed (λ _ h. literals.first_stop want other room le h)
    (λ v rest h. onto (λ r k. literals.first_right want other room le h k)
    (followed (λ _ h. literals.comma_stop want other room le h)
    (λ _ rest h. onto (λ r k. literals.comma_right want other room le h k)
    (followed (λ _ h. literals.second_stop want other room h)
    (λ w rest h. onto (λ r k. literals.second_right want other room h k) (valued (41 ∷ []) (pair_value v w) rest)) (second rest)))
    (word (44 ∷ []) rest))) (first ts))

-- ---- lists
module _ (want : Option BasicTerm) (room : ℕ) where
  closed : (vs : List ValueTerm) (ts : Text) → length vs ≤ 1024 → NoToken 44 ts → Decided (Further want room vs) NoBlank ts
  closed vs ts few none = onto (λ r h. lists.close want room few none h) (valued (93 ∷ []) (list_value (as_values vs)) ts)

  module _ (le : fewest want ≤ room) (item : Reads want room) where
    -- so many elements may still come
    further : (left : ℕ) (vs : List ValueTerm) → length vs + left ≡ 1024 → (ts : Text) → Decided (Further want room vs) NoBlank ts
    further zero vs all ts = elim (begins_or_not 44 ts) [
      | inl is ↦ fails (length ts) (lists.too_many want room (omega (arith, all)) is)
      | inr none ↦ closed vs ts (omega (arith, all)) none
    ]
    further (suc left) vs all ts = elim (begins_or_not 44 ts) [
      | inl is ↦
          let lt : length vs < 1024 = omega (arith, all) in
          followed (λ _ h. lists.comma_stop want room vs le lt is h)
          (λ _ rest h. followed (λ _ k. lists.next_stop want room vs le lt is h k)
          (λ v after k. onto (λ r m. lists.next_right want room vs le lt is h k m)
          (further left (vs ++ (v ∷ [])) (let n = length-append vs (v ∷ []) in omega (arith, n, all)) after)) (item rest))
          (word (44 ∷ []) ts)
      | inr none ↦ closed vs ts (omega (arith, all)) none
    ]

    elements : (ts : Text) → Decided (Elements want room) NoBlank ts
    elements ts = followed (λ _ h. lists.first_stop want room h)
        (λ v rest h. onto (λ r k. lists.first_right want room h k) (further 1023 (v ∷ []) (omega arith) rest)) (item ts)

  inside : (fewest want ≤ room → Reads want room) → (ts : Text) → Decided (lists.Inside want room) NoBlank ts
  inside item ts = elim (begins_or_not 93 ts) [
    | inl is ↦ onto (λ r h. lists.inside_closed want room is h) (no_elements ts)
    | inr none ↦ elim (cases_lt room (fewest want)) [
      | inl lt ↦ onto (λ r h. lists.inside_full want room (λ le. omega (arith, le, lt)) h) (no_elements ts)
      | inr le ↦ onto (λ r h. lists.inside_open want room none h) (elements le (item le) ts)
    ]
  ]

  list : (fewest want ≤ room → Reads want room) → (ts : Text) → Decided (ListLiteral want room) NoBlank ts
  list item ts = followed (λ _ h. lists.list_stop want room h)
      (λ _ rest h. onto (λ r k. lists.list_right want room h k) (inside item rest)) (word (91 ∷ []) ts)

-- ---- any literal
module _ (room : ℕ) (some : 1 ≤ room) (parts : ReadsAll (room - 1)) where
  opened : (ts : Text) → Decided (choices.Opened room some) NoBlank ts
  opened ts = elim (cases_lt room 2) [
    | inl lt ↦ onto (λ r h. choices.opened_full room some lt h) (unit_end ts)
    | inr two ↦ elim (begins_or_not 41 ts) [
      | inl is ↦ onto (λ r h. choices.opened_unit room some is h) (unit_end ts)
      | inr none ↦
          let le : 1 ≤ room - 1 = omega (arith, two) in
          onto (λ r h. choices.opened_pair room some two none h) (pair None None (room - 1) le (parts None le) (parts None le) ts)
    ]
  ]

  any : Reads None room
  any ts = elim (begins_or_not 40 ts) [
    | inl is ↦ followed (λ _ h. choices.any_round_stop room some is h)
        (λ _ rest h. onto (λ r k. choices.any_round room some is h k) (opened rest)) (word (40 ∷ []) ts)
    | inr n40 ↦ elim (begins_or_not 91 ts) [
      | inl is ↦ onto (λ r h. choices.any_list room some is h) (list None (room - 1) (parts None) ts)
      | inr n91 ↦ elim (begins_or_not 34 ts) [
        | inl is ↦ onto (λ r h. choices.any_text room some is h) (text ts)
        | inr n34 ↦ elim (begins_or_not 116 ts) [
          | inl is ↦ onto (λ r h. choices.any_bool room some 116 (inl refl) is h) (truth ts)
          | inr n116 ↦ elim (begins_or_not 102 ts) [
            | inl is ↦ onto (λ r h. choices.any_bool room some 102 (inr refl) is h) (truth ts)
            | inr n102 ↦ onto (λ r h. choices.any_int room some n40 n91 n34 n116 n102 h) (int ts)
          ]
        ]
      ]
    ]
  ]

-- ---- literals of a type
typed : (b : BasicTerm) (room : ℕ) → fewest_levels b ≤ room → ReadsAll (room - 1) → Reads (Some b) room
typed unit_type room le parts ts = onto (λ r h. choices.as_unit le h) (unit ts)
typed bool_type room le parts ts = onto (λ r h. choices.as_bool le h) (truth ts)
typed int_type room le parts ts = onto (λ r h. choices.as_int le h) (int ts)
typed text_type room le parts ts = onto (λ r h. choices.as_text le h) (text ts)
typed (pair_type a b) room le parts ts =
    let l : fewest_levels a ≤ room - 1 = omega (arith, le) in
    let m : fewest_levels b ≤ room - 1 = omega (arith, le) in
    followed (λ _ h. choices.as_pair_stop a b room le h)
    (λ _ rest h. onto (λ r k. choices.as_pair a b room le h k)
    (pair (Some a) (Some b) (room - 1) m (parts (Some a) l) (parts (Some b) m) rest)) (word (40 ∷ []) ts)
typed (list_type b) room le parts ts = onto (λ r h. choices.as_list le h) (list (Some b) (room - 1) (parts (Some b)) ts)

-- ---- within any number of levels
no_levels : (want : Option BasicTerm) → fewest want ≤ 0 → ⊥
no_levels want le = let (t, v, l) = least_lit want 0 le in let n = some_level v in let m = l.fit.levels in omega (arith, n, m)

step : (room : ℕ) → ReadsAll (room - 1) → ReadsAll room
step room parts None le = any room le parts
step room parts (Some b) le = typed b room le parts

pub literal : (room : ℕ) → ReadsAll room
literal zero want le = absurd (no_levels want le)
literal (suc room) want le =
    let same : suc room - 1 ≡ room = omega arith in step (suc room) (subst ReadsAll (sym same) (literal room)) want le
