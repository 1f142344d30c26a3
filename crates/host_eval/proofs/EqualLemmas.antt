-- The rules' tests of equality tell equal terms.
use Rattle.std.proofs.Common.{◌≡◌, Bool, true, false, cond, IsTrue, refl, sym, ap, ◌∙◌, true≢false}
use Rattle.std.proofs.lemmas.Bool.Decides.{Decides-int_eq}
use Rattle.std.proofs.lemmas.Cmp.{int_eq_equiv, nat_list_eq_equiv}
use Rattle.std.specs.Cmp.Lexicographic as texts
use Rattle.task_model.specs.Terms.Value.{ValueTerm, unit_value, bool_value, int_value, text_value, pair_value, list_value, ValueTerms, no_values, more_values}
use Rattle.task_model.specs.Running.Operators.{same_bool, same_value, same_values}

abbrev both : Bool → Bool → Bool
both a b = cond a b false

both_true : (a b : Bool) → both a b ≡ true → (a ≡ true) × (b ≡ true)
both_true true b e = (refl, e)
both_true false b e = absurd (cc)

same_bool_refl : (b : Bool) → same_bool b b ≡ true
same_bool_refl true = refl
same_bool_refl false = refl

same_bool_true : (b c : Bool) → same_bool b c ≡ true → b ≡ c
same_bool_true true c e = sym e
same_bool_true false true e = absurd (cc)
same_bool_true false false e = refl

mutual
  same_value_refl : (v : ValueTerm) → same_value v v ≡ true
  same_value_refl unit_value = refl
  same_value_refl (bool_value b) = same_bool_refl b
  same_value_refl (int_value i) = int_eq_equiv.refl i
  same_value_refl (text_value t) = nat_list_eq_equiv.refl t
  same_value_refl (pair_value v w) = rw (same_value_refl v) (same_value_refl w)
  same_value_refl (list_value vs) = same_values_refl vs

  same_values_refl : (vs : ValueTerms) → same_values vs vs ≡ true
  same_values_refl no_values = refl
  same_values_refl (more_values v vs) = rw (same_value_refl v) (same_values_refl vs)

mutual
  same_value_true : (v w : ValueTerm) → same_value v w ≡ true → v ≡ w
  same_value_true unit_value unit_value e = refl
  same_value_true (bool_value b) (bool_value c) e = ap bool_value (same_bool_true b c e)
  same_value_true (int_value i) (int_value j) e = ap int_value ((Decides-int_eq i j).0 e)
  same_value_true (text_value t) (text_value u) e = ap text_value (texts.same_text t u (sym e))
  same_value_true (pair_value v w) (pair_value x y) e =
      let q = both_true (same_value v x) (same_value w y) e in
      ap (λ z. pair_value z w) (same_value_true v x q.0) ∙ ap (pair_value x) (same_value_true w y q.1)
  same_value_true (list_value vs) (list_value ws) e = ap list_value (same_values_true vs ws e)
  same_value_true v w e = absurd (cc)

  same_values_true : (vs ws : ValueTerms) → same_values vs ws ≡ true → vs ≡ ws
  same_values_true no_values no_values e = refl
  same_values_true (more_values v vs) (more_values w ws) e =
      let q = both_true (same_value v w) (same_values vs ws) e in
      ap (λ z. more_values z vs) (same_value_true v w q.0) ∙ ap (more_values w) (same_values_true vs ws q.1)
  same_values_true vs ws e = absurd (cc)

by_test : (v w : ValueTerm) (b test : Bool) → (IsTrue b → v ≡ w) → (v ≡ w → IsTrue b) → (test ≡ true → v ≡ w) → (v ≡ w → test ≡ true)
    → test ≡ b
by_test v w true true f g p q = refl
by_test v w false false f g p q = refl
by_test v w true false f g p q = q (f refl)
by_test v w false true f g p q = absurd (true≢false (sym (g (p refl))))

-- a test that tells equal terms is the rules' test
pub same_value_is : (v w : ValueTerm) (b : Bool) → (IsTrue b → v ≡ w) × (v ≡ w → IsTrue b) → same_value v w ≡ b
same_value_is v w b h = by_test v w b (same_value v w) h.0 h.1 (same_value_true v w)
    (λ e. ap (λ z. same_value v z) (sym e) ∙ same_value_refl v)
