-- Values within limits, levels and types.
use Rattle.std.specs.Prelude.{nat_le}
use Rattle.std.proofs.lemmas.Bool.Decides.{nat_tests}
use Rattle.std.proofs.Common.{◌≡◌, ℕ, suc, ◌-◌, ◌≤◌, max, Bool, true, false, cond, Option, None, Some, List, [], ◌∷◌, length, refl, ap, ◌∙◌, arith}
use Rattle.task_model.specs.Terms.Text.{Text}
use Rattle.task_model.specs.Terms.Basic.{BasicTerm, unit_type, bool_type, int_type, text_type, pair_type, list_type}
use Rattle.task_model.specs.Terms.Value.{ValueTerm, unit_value, bool_value, int_value, text_value, pair_value, list_value, as_values, count_of, value_has, values_have}
use Rattle.task_model.proofs.RowLemmas.{count_of-as_values}
use Rattle.literal_text.specs.Literals.{LiteralParse, literal, unit, bool, int, text, pair, empty, value, IsWithinLiteralLimits, AreWithinLiteralLimits, levels_of, levels_in}
use Rattle.literal_text.specs.LiteralReading.{HasWanted, fewest_levels, fewest, Fit, AllFit, Lit}

-- ---- tests
pub both_true : (p q : Bool) → cond p q false ≡ true → (p ≡ true) × (q ≡ true)
both_true true q e = (refl, e)
both_true false q e = cc

pub two_true : (p q : Bool) → p ≡ true → q ≡ true → cond p q false ≡ true
two_true p q e f = ap (λ b. cond b q false) e ∙ f

few : (n : ℕ) → n ≤ 1024 → nat_le n 1024 ≡ true
few n le = grind (arith, nat_tests)

-- ---- levels
pub some_level : (v : ValueTerm) → 1 ≤ levels_of v
some_level unit_value = omega arith
some_level (bool_value b) = omega arith
some_level (int_value i) = omega arith
some_level (text_value t) = omega arith
some_level (pair_value v w) = omega arith
some_level (list_value vs) = omega arith

fewest_least_of : (b : BasicTerm) (v : ValueTerm) → value_has v b ≡ true → fewest_levels b ≤ levels_of v
fewest_least_of (pair_type a b) (pair_value v w) e =
    let p = both_true (value_has v a) (value_has w b) e in
    let l = fewest_least_of a v p.0 in
    let r = fewest_least_of b w p.1 in
    omega (arith, l, r)
fewest_least_of (pair_type a b) unit_value e = cc
fewest_least_of (pair_type a b) (bool_value c) e = cc
fewest_least_of (pair_type a b) (int_value i) e = cc
fewest_least_of (pair_type a b) (text_value t) e = cc
fewest_least_of (pair_type a b) (list_value vs) e = cc
fewest_least_of unit_type v e = some_level v
fewest_least_of bool_type v e = some_level v
fewest_least_of int_type v e = some_level v
fewest_least_of text_type v e = some_level v
fewest_least_of (list_type a) v e = some_level v

-- a wanted literal has at least the fewest levels
pub fewest_least : (want : Option BasicTerm) (v : ValueTerm) → HasWanted want v → fewest want ≤ levels_of v
fewest_least None v e = some_level v
fewest_least (Some b) v e = fewest_least_of b v e

-- ---- pairs
pub fit_pair : {a b : BasicTerm} {room : ℕ} {v w : ValueTerm} → 1 ≤ room → Fit (Some a) (room - 1) v → Fit (Some b) (room - 1) w
    → Fit (Some (pair_type a b)) room (pair_value v w)
fit_pair {a = a} {b = b} {v = v} {w = w} some f g = let l = f.levels in let r = g.levels in record {
  limits = (f.limits, g.limits);
  levels = omega (arith, l, r, some);
  typed = two_true (value_has v a) (value_has w b) f.typed g.typed;
}

pub pair_fit : {a b : BasicTerm} {room : ℕ} {v w : ValueTerm} → Fit (Some (pair_type a b)) room (pair_value v w) → Fit (Some a) (room - 1) v
    × Fit (Some b) (room - 1) w
pair_fit {a = a} {b = b} {v = v} {w = w} f =
    let p = both_true (value_has v a) (value_has w b) f.typed in
    let n = f.levels in (
      record { limits = f.limits.0; levels = omega (arith, n); typed = p.0 },
      record {
        limits = f.limits.1;
        levels = omega (arith, n);
        typed = p.1;
      },
    )

pub fit_any_pair : {room : ℕ} {v w : ValueTerm} → 1 ≤ room → Fit None (room - 1) v → Fit None (room - 1) w → Fit None room (pair_value v w)
fit_any_pair some f g = let l = f.levels in let r = g.levels in record {
  limits = (f.limits, g.limits);
  levels = omega (arith, l, r, some);
  typed = tt;
}

pub any_pair_fit : {room : ℕ} {v w : ValueTerm} → Fit None room (pair_value v w) → Fit None (room - 1) v × Fit None (room - 1) w
any_pair_fit f = let n = f.levels in (
  record {
    limits = f.limits.0;
    levels = omega (arith, n);
    typed = tt;
  },
  record { limits = f.limits.1; levels = omega (arith, n); typed = tt },
)

-- ---- lists
-- the want of a list of these
abbrev pub list_of : Option BasicTerm → Option BasicTerm
list_of None = None
list_of (Some b) = Some (list_type b)

all_limits : (want : Option BasicTerm) (room : ℕ) (vs : List ValueTerm) → AllFit want room vs → AreWithinLiteralLimits (as_values vs)
all_limits want room [] f = tt
all_limits want room (v ∷ vs) f = (f.0.limits, all_limits want room vs f.1)

all_levels : (want : Option BasicTerm) (room : ℕ) (vs : List ValueTerm) → AllFit want room vs → levels_in (as_values vs) ≤ room
all_levels want room [] f = omega arith
all_levels want room (v ∷ vs) f = let a = f.0.levels in let b = all_levels want room vs f.1 in omega (arith, a, b)

all_have : (b : BasicTerm) (room : ℕ) (vs : List ValueTerm) → AllFit (Some b) room vs → values_have (as_values vs) b ≡ true
all_have b room [] f = refl
all_have b room (v ∷ vs) f = two_true (value_has v b) (values_have (as_values vs) b) f.0.typed (all_have b room vs f.1)

count_few : (vs : List ValueTerm) → length vs ≤ 1024 → count_of (as_values vs) ≤ 1024
count_few vs le = let e = count_of-as_values vs in omega (arith, e, le)

pub fit_list : (want : Option BasicTerm) (room : ℕ) (vs : List ValueTerm) → 1 ≤ room → length vs ≤ 1024 → AllFit want (room - 1) vs
    → Fit (list_of want) room (list_value (as_values vs))
fit_list None room vs some le f = let l = all_levels None (room - 1) vs f in record {
  limits = (count_few vs le, all_limits None (room - 1) vs f);
  levels = omega (arith, l, some);
  typed = tt;
}
fit_list (Some b) room vs some le f = let l = all_levels (Some b) (room - 1) vs f in record {
  limits = (count_few vs le, all_limits (Some b) (room - 1) vs f);
  levels = omega (arith, l, some);
  typed = two_true (nat_le (count_of (as_values vs)) 1024) (values_have (as_values vs) b)
      (few (count_of (as_values vs)) (count_few vs le)) (all_have b (room - 1) vs f);
}

any_all : (room : ℕ) (vs : List ValueTerm) → AreWithinLiteralLimits (as_values vs) → levels_in (as_values vs) ≤ room → AllFit None room vs
any_all room [] limits levels = tt
any_all room (v ∷ vs) limits levels = (
  record {
    limits = limits.0;
    levels = omega arith;
    typed = tt;
  },
  any_all room vs limits.1 (omega arith),
)

typed_all : (b : BasicTerm) (room : ℕ) (vs : List ValueTerm) → AreWithinLiteralLimits (as_values vs) → levels_in (as_values vs) ≤ room
    → values_have (as_values vs) b ≡ true → AllFit (Some b) room vs
typed_all b room [] limits levels e = tt
typed_all b room (v ∷ vs) limits levels e =
    let p = both_true (value_has v b) (values_have (as_values vs) b) e in
    (record { limits = limits.0; levels = omega arith; typed = p.0 }, typed_all b room vs limits.1 (omega arith) p.1)

pub list_fit : (want : Option BasicTerm) (room : ℕ) (vs : List ValueTerm) → Fit (list_of want) room (list_value (as_values vs)) → (1 ≤ room)
    × (length vs ≤ 1024) × AllFit want (room - 1) vs
list_fit None room vs f =
    let n = f.levels in let e = count_of-as_values vs in let m = f.limits.0 in
    (omega (arith, n), omega (arith, e, m), any_all (room - 1) vs f.limits.1 (omega (arith, n)))
list_fit (Some b) room vs f =
    let n = f.levels in let e = count_of-as_values vs in let m = f.limits.0 in
    let p = both_true (nat_le (count_of (as_values vs)) 1024) (values_have (as_values vs) b) f.typed in
    (omega (arith, n), omega (arith, e, m), typed_all b (room - 1) vs f.limits.1 (omega (arith, n)) p.1)

-- ---- a least literal of each type
least_parse : BasicTerm → LiteralParse literal
least_parse unit_type = unit 0 0
least_parse bool_type = bool true 0
least_parse int_type = int false (48 ∷ []) 0 ((λ e. cc), ((omega arith, omega arith), tt), refl) 0
least_parse text_type = text (34 ∷ (34 ∷ [])) [] ([], refl, refl) 0
least_parse (pair_type a b) = pair 0 (least_parse a) 0 (least_parse b) 0
least_parse (list_type a) = empty 0 0

least_fits : (b : BasicTerm) → IsWithinLiteralLimits (value (least_parse b)) × (levels_of (value (least_parse b)) ≡ fewest_levels b)
    × (value_has (value (least_parse b)) b ≡ true)
unfolding least_parse
least_fits unit_type = (tt, refl, refl)
least_fits bool_type = (tt, refl, refl)
least_fits int_type = (omega arith, refl, refl)
least_fits text_type = (omega arith, refl, refl)
least_fits (pair_type a b) =
    let p = least_fits a in
    let q = least_fits b in (
      (p.0, q.0),
      ap (λ n. suc (max n (levels_of (value (least_parse b))))) p.1 ∙ ap (λ n. suc (max (fewest_levels a) n)) q.1,
      two_true (value_has (value (least_parse a)) a) (value_has (value (least_parse b)) b) p.2 q.2,
    )
least_fits (list_type a) = ((omega arith, tt), refl, refl)

-- a wanted literal that has room
pub least_lit : (want : Option BasicTerm) (room : ℕ) → fewest want ≤ room → (t : Text) × (v : ValueTerm) × Lit want room t v
least_lit None room le = (
  _,
  _,
  record {
    parse = unit 0 0;
    are = refl;
    stands_for = refl;
    fit = record { limits = tt; levels = le; typed = tt };
  },
)
least_lit (Some b) room le = let f = least_fits b in let e = f.1 in (
  _,
  _,
  record {
    parse = least_parse b;
    are = refl;
    stands_for = refl;
    fit = record { limits = f.0; levels = omega (arith, e, le); typed = f.2 };
  },
)
