-- Values of operators have their types.
use Rattle.std.proofs.Common.{◌≡◌, ℕ, zero, suc, ℤ, ◌-◌, ◌≤◌, Bool, true, false, cond, List, [], ◌∷◌, ◌++◌, length, take, Option, Some, None, refl, sym, ap, ◌∙◌, subst, arith, length-append}
use Rattle.std.specs.Prelude.{nat_le, pos, int_div, int_rem}
use Rattle.std.specs.Ordering.{int_eq}
use Rattle.std.proofs.lemmas.Bool.{le-leb, leb-true}
use Rattle.task_model.specs.Terms.Text.{Text}
use Rattle.task_model.specs.Terms.Basic.{BasicTerm, unit_type, bool_type, int_type, text_type, pair_type, list_type}
use Rattle.task_model.specs.Terms.Value.{ValueTerm, unit_value, bool_value, int_value, text_value, pair_value, list_value, ValueTerms, no_values, more_values, as_values, count_of, value_has, values_have}
use Rattle.task_model.specs.Syntax.Characters.{characters_of, fitting, cut_text}
use Rattle.task_model.specs.Running.Operators.{elements_of, list_of, on_ints, operated, negated, opposite, first_of, second_of, length_of, int_of}
use Rattle.task_model.specs.Checking.Typing.{Operates, HasLength}
use Rattle.task_model.specs.Checking.TypeOf.{operator_type}
use Rattle.task_model.specs.declared.host.Op.{Op}
use Rattle.task_model.specs.declared.host.Op.TheVariants as ops

abbrev pub Has : ValueTerm → BasicTerm → Type 0
Has v b = value_has v b ≡ true

-- there is a value, and it has the type
abbrev pub SomeHas : Option ValueTerm → BasicTerm → Type 0
SomeHas None b = ⊥
SomeHas (Some v) b = Has v b

pub both_true : (b c : Bool) → cond b c false ≡ true → (b ≡ true) × (c ≡ true)
both_true true c e = (refl, e)
both_true false c e = absurd (cc)

pub of_both : (b c : Bool) → b ≡ true → c ≡ true → cond b c false ≡ true
of_both true c e q = q
of_both false c e q = absurd (cc)

pub pair_parts : (v w : ValueTerm) (a b : BasicTerm) → Has (pair_value v w) (pair_type a b) → Has v a × Has w b
pair_parts v w a b h = both_true (value_has v a) (value_has w b) h

pub pair_has : (v w : ValueTerm) (a b : BasicTerm) → Has v a → Has w b → Has (pair_value v w) (pair_type a b)
pair_has v w a b h q = of_both (value_has v a) (value_has w b) h q

-- ---- lists
pub push_have : (vs : List ValueTerm) (v : ValueTerm) (b : BasicTerm) → values_have (as_values vs) b ≡ true → Has v b
    → values_have (as_values (vs ++ v ∷ [])) b ≡ true
push_have [] v b h q = of_both (value_has v b) true q refl
push_have (w ∷ vs) v b h q =
    let p = both_true (value_has w b) (values_have (as_values vs) b) h in
    of_both (value_has w b) (values_have (as_values (vs ++ v ∷ [])) b) p.0 (push_have vs v b p.1 q)

take_have : (n : ℕ) (vs : List ValueTerm) (b : BasicTerm) → values_have (as_values vs) b ≡ true
    → values_have (as_values (take n vs)) b ≡ true
take_have zero vs b h = refl
take_have (suc n) [] b h = refl
take_have (suc n) (v ∷ vs) b h =
    let p = both_true (value_has v b) (values_have (as_values vs) b) h in
    of_both (value_has v b) (values_have (as_values (take n vs)) b) p.0 (take_have n vs b p.1)

take_count : (n : ℕ) (vs : List ValueTerm) → count_of (as_values (take n vs)) ≤ n
take_count zero vs = omega arith
take_count (suc n) [] = omega arith
take_count (suc n) (v ∷ vs) = let le = take_count n vs in omega (arith, le)

-- the first 1,024 of values of a type
pub list_has : (vs : List ValueTerm) (b : BasicTerm) → values_have (as_values vs) b ≡ true → Has (list_of vs) (list_type b)
list_has vs b h =
    of_both (nat_le (count_of (as_values (take 1024 vs))) 1024) (values_have (as_values (take 1024 vs)) b)
    (le-leb (count_of (as_values (take 1024 vs))) 1024 (take_count 1024 vs)) (take_have 1024 vs b h)

elements_are : (vs : ValueTerms) → as_values (elements_of vs) ≡ vs
elements_are no_values = refl
elements_are (more_values v vs) = ap (more_values v) (elements_are vs)

pub list_parts : (vs : ValueTerms) (b : BasicTerm) → Has (list_value vs) (list_type b)
    → (count_of vs ≤ 1024) × (values_have vs b ≡ true)
list_parts vs b h =
    let p = both_true (nat_le (count_of vs) 1024) (values_have vs b) h in (leb-true (count_of vs) 1024 p.0, p.1)

-- the head and the tail of a list
pub head_has : (v : ValueTerm) (vs : ValueTerms) (b : BasicTerm) → Has (list_value (more_values v vs)) (list_type b)
    → Has v b × Has (list_value vs) (list_type b)
head_has v vs b h =
    let p = list_parts (more_values v vs) b h in
    let q = both_true (value_has v b) (values_have vs b) p.1 in
    let le = p.0 in (
      q.0,
      of_both (nat_le (count_of vs) 1024) (values_have vs b) (le-leb (count_of vs) 1024 (omega (arith, le))) q.1,
    )

-- ---- texts
fitting_short : (room : ℕ) (cs : List Text) → length (fitting room cs) ≤ room
fitting_short room [] = omega arith
fitting_short room (c ∷ cs) = by_test (nat_le (length c) room) refl (fitting_short (room - length c) cs)
  where
    by_test : (b : Bool) → nat_le (length c) room ≡ b → length (fitting (room - length c) cs) ≤ room - length c
        → length (cond b (c ++ fitting (room - length c) cs) []) ≤ room
    by_test false e rest = omega arith
    by_test true e rest =
        let le = leb-true (length c) room e in
        let n = length-append c (fitting (room - length c) cs) in
        omega (arith, le, rest, n)

pub text_has : (t : Text) → length t ≤ 65536 → Has (text_value t) text_type
text_has t le = le-leb (length t) 65536 le

-- ---- operators of one operand
pub negated_has : (v : ValueTerm) → Has v int_type → SomeHas (negated v) int_type
negated_has (int_value i) h = refl
negated_has v h = absurd (cc)

pub opposite_has : (v : ValueTerm) → Has v bool_type → SomeHas (opposite v) bool_type
opposite_has (bool_value b) h = refl
opposite_has v h = absurd (cc)

pub first_has : (v : ValueTerm) (b c : BasicTerm) → Has v (pair_type b c) → SomeHas (first_of v) b
first_has (pair_value v w) b c h = (pair_parts v w b c h).0
first_has v b c h = absurd (cc)

pub second_has : (v : ValueTerm) (b c : BasicTerm) → Has v (pair_type b c) → SomeHas (second_of v) c
second_has (pair_value v w) b c h = (pair_parts v w b c h).1
second_has v b c h = absurd (cc)

pub length_has : (v : ValueTerm) (a : BasicTerm) → Has v a → HasLength a → SomeHas (length_of v) int_type
length_has (list_value vs) a h q = refl
length_has (text_value t) a h q = refl
length_has unit_value unit_type h q = q
length_has (bool_value b) bool_type h q = q
length_has (int_value i) int_type h q = q
length_has (pair_value v w) (pair_type a b) h q = q
length_has v a h q = absurd (cc)

-- ---- operators of two operands
consed_has : (v w : ValueTerm) (a : BasicTerm) → Has v a → Has w (list_type a) → SomeHas (operated ops.Cons v w) (list_type a)
consed_has v (list_value vs) a h q =
    let p = list_parts vs a q in
    list_has (v ∷ elements_of vs) a
    (of_both (value_has v a) (values_have (as_values (elements_of vs)) a) h (ap (λ z. values_have z a) (elements_are vs) ∙ p.1))
consed_has v w a h q = absurd (cc)

joined_has : (v w : ValueTerm) → Has v text_type → Has w text_type → SomeHas (operated ops.Join v w) text_type
joined_has (text_value t) (text_value u) h q = text_has (cut_text (t ++ u)) (fitting_short 65536 (characters_of (t ++ u)))
joined_has v w h q = absurd (cc)

-- what comes of two ints
abbrev OnInts : Op → Type 0
OnInts o = (i j : ℤ) → SomeHas (operated o (int_value i) (int_value j)) (operator_type o int_type)

of_ints : (o : Op) → (on : (v w : ValueTerm) → operated o v w ≡ on_ints o v w) → OnInts o → (v w : ValueTerm) (b : BasicTerm)
    → Has v int_type
    → Has w int_type → b ≡ operator_type o int_type → SomeHas (operated o v w) b
of_ints o on h (int_value i) (int_value j) b p q e = subst (SomeHas (operated o (int_value i) (int_value j))) (sym e) (h i j)
of_ints o on h v w b p q e = absurd (cc)

divided_has : (b : Bool) (i : ℤ) (v : ValueTerm) → Has v int_type → Has (cond b (int_value i) v) int_type
divided_has true i v h = refl
divided_has false i v h = h

-- an operator whose operands are both evaluated
pub operated_has : (o : Op) → (o ≡ ops.Or → ⊥) → (o ≡ ops.And → ⊥) → (v w : ValueTerm) (a c b : BasicTerm) → Has v a → Has w c
    → Operates o a c b → SomeHas (operated o v w) b
operated_has ops.Or r n v w a c b h q p = absurd (r refl)
operated_has ops.And r n v w a c b h q p = absurd (n refl)
operated_has ops.Eq r n v w a c b h q p = subst (SomeHas (operated ops.Eq v w)) (sym p.1) refl
operated_has ops.Ne r n v w a c b h q p = subst (SomeHas (operated ops.Ne v w)) (sym p.1) refl
operated_has ops.Cons r n v w a c b h q p =
    subst (SomeHas (operated ops.Cons v w)) (sym p.1) (consed_has v w a h (subst (Has w) p.0 q))
operated_has ops.Join r n v w a c b h q p =
    subst (SomeHas (operated ops.Join v w)) (sym p.2) (joined_has v w (subst (Has v) p.0 h) (subst (Has w) p.1 q))
operated_has ops.Lt r n v w a c b h q p = of_ints ops.Lt (λ x y. refl) (λ i j. refl) v w b (subst (Has v) p.0 h) (subst (Has w) p.1 q) p.2
operated_has ops.Le r n v w a c b h q p = of_ints ops.Le (λ x y. refl) (λ i j. refl) v w b (subst (Has v) p.0 h) (subst (Has w) p.1 q) p.2
operated_has ops.Gt r n v w a c b h q p = of_ints ops.Gt (λ x y. refl) (λ i j. refl) v w b (subst (Has v) p.0 h) (subst (Has w) p.1 q) p.2
operated_has ops.Ge r n v w a c b h q p = of_ints ops.Ge (λ x y. refl) (λ i j. refl) v w b (subst (Has v) p.0 h) (subst (Has w) p.1 q) p.2
operated_has ops.Add r n v w a c b h q p = of_ints ops.Add (λ x y. refl) (λ i j. refl) v w b (subst (Has v) p.0 h) (subst (Has w) p.1 q) p.2
operated_has ops.Sub r n v w a c b h q p = of_ints ops.Sub (λ x y. refl) (λ i j. refl) v w b (subst (Has v) p.0 h) (subst (Has w) p.1 q) p.2
operated_has ops.Mul r n v w a c b h q p = of_ints ops.Mul (λ x y. refl) (λ i j. refl) v w b (subst (Has v) p.0 h) (subst (Has w) p.1 q) p.2
operated_has ops.Quot r n v w a c b h q p =
    of_ints ops.Quot (λ x y. refl) (λ i j. divided_has (int_eq j (pos 0)) (pos 0) (int_of (int_div i j)) refl) v w b (subst (Has v) p.0 h)
    (subst (Has w) p.1 q) p.2
operated_has ops.Rem r n v w a c b h q p =
    of_ints ops.Rem (λ x y. refl) (λ i j. divided_has (int_eq j (pos 0)) (pos 0) (int_of (int_rem i j)) refl) v w b (subst (Has v) p.0 h)
    (subst (Has w) p.1 q) p.2
