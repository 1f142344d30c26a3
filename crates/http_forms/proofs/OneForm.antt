-- A form gives one input, or has one bad literal, or neither.
use Rattle.std.proofs.Common.{◌≡◌, ℕ, zero, suc, Option, Some, ◌++◌, get_or, codes, sym, ap, ap₂, ◌∙◌, subst, arith}
use Rattle.task_model.specs.Terms.Text.{Text}
use Rattle.task_model.specs.Terms.Basic.{BasicTerm}
use Rattle.task_model.specs.Terms.Value.{text_value}
use Rattle.task_model.specs.Terms.Input.{ActTerm, set_act, InputTerm}
use Rattle.task_model.specs.Showing.Page.{path_text}
use Rattle.exact_reading.specs.declared.stop.FaultKind.TheVariants.{Unexpected}
use Rattle.exact_reading.specs.Reading.{Always}
use Rattle.exact_reading.specs.Whole.{IsFirstFault}
use Rattle.exact_reading.proofs.Whole.{no_word}
use Rattle.literal_text.specs.Literals.{IsLiteralOf, spaces}
use Rattle.literal_text.specs.Types.{TypeParse, IsTypeName, type_bytes}
use Rattle.literal_text.specs.Types as types
use Rattle.literal_text_laws.proofs.Decided.{one_place}
use Rattle.literal_text_laws.proofs.OneLiteral.{one_typed}
use Rattle.literal_text_laws.proofs.TypeNames.{one_type}
use Rattle.input_paths.proofs.PathLemmas.{same_path}
use Rattle.http_heads.proofs.EndLemmas.{same_some}
use Rattle.http_forms.specs.Forms.{text_at, GivesAct, next, left, right, set_raw, set_literal, GivesInput, HasBadValue}

-- ---- words
pub same_text_there : (o : Option Text) (u v : Text) → o ≡ Some u → o ≡ Some v → u ≡ v
same_text_there o u v p q = same_some u v (sym p ∙ q)

first_there : (o : Option Text) (u v : Text) → o ≡ Some u → o ≡ Some v → get_or u 0 0 ≡ get_or v 0 0
first_there o u v p q = ap (λ l. get_or l 0 0) (same_text_there o u v p q)

-- no type is named "raw"
no_raw : (before : ℕ) (parse : TypeParse) → codes "raw" ≡ spaces before ++ type_bytes parse → ⊥
no_raw (suc n) parse e = let h : 114 ≡ 32 = ap (λ l. get_or l 0 0) e in omega (arith, h)
no_raw zero (types.unit n) e = let h : 114 ≡ 117 = ap (λ l. get_or l 0 0) e in omega (arith, h)
no_raw zero (types.bool n) e = let h : 114 ≡ 98 = ap (λ l. get_or l 0 0) e in omega (arith, h)
no_raw zero (types.int n) e = let h : 114 ≡ 105 = ap (λ l. get_or l 0 0) e in omega (arith, h)
no_raw zero (types.text n) e = let h : 114 ≡ 116 = ap (λ l. get_or l 0 0) e in omega (arith, h)
no_raw zero (types.pair m a k b n) e = let h : 114 ≡ 40 = ap (λ l. get_or l 0 0) e in omega (arith, h)
no_raw zero (types.list m a n) e = let h : 114 ≡ 91 = ap (λ l. get_or l 0 0) e in omega (arith, h)

pub raw_type : (name : Text) (b : BasicTerm) → codes "raw" ≡ name → IsTypeName name b → ⊥
raw_type name b e is = no_raw is.before is.parse (e ∙ is.are)

module _ (form : Text) where
  pub apart : (u v : Text) → text_at (codes "act") form ≡ Some u → text_at (codes "act") form ≡ Some v
      → (get_or u 0 0 ≡ get_or v 0 0 → ⊥) → ⊥
  apart u v p q differ = differ (first_there (text_at (codes "act") form) u v p q)

  same_act : (a b : ActTerm) → GivesAct form a → GivesAct form b → a ≡ b
  same_act a b (next p e) (next q f) = e ∙ sym f
  same_act a b (next p e) (left q f) = absurd (apart _ _ p q (λ h. omega (arith, h)))
  same_act a b (next p e) (right q f) = absurd (apart _ _ p q (λ h. omega (arith, h)))
  same_act a b (next p e) (set_raw q s c v l f) = absurd (apart _ _ p q (λ h. omega (arith, h)))
  same_act a b (next p e) (set_literal q n s t i l v w is f) = absurd (apart _ _ p q (λ h. omega (arith, h)))
  same_act a b (left p e) (next q f) = absurd (apart _ _ p q (λ h. omega (arith, h)))
  same_act a b (left p e) (left q f) = e ∙ sym f
  same_act a b (left p e) (right q f) = absurd (apart _ _ p q (λ h. omega (arith, h)))
  same_act a b (left p e) (set_raw q s c v l f) = absurd (apart _ _ p q (λ h. omega (arith, h)))
  same_act a b (left p e) (set_literal q n s t i l v w is f) = absurd (apart _ _ p q (λ h. omega (arith, h)))
  same_act a b (right p e) (next q f) = absurd (apart _ _ p q (λ h. omega (arith, h)))
  same_act a b (right p e) (left q f) = absurd (apart _ _ p q (λ h. omega (arith, h)))
  same_act a b (right p e) (right q f) = e ∙ sym f
  same_act a b (right p e) (set_raw q s c v l f) = absurd (apart _ _ p q (λ h. omega (arith, h)))
  same_act a b (right p e) (set_literal q n s t i l v w is f) = absurd (apart _ _ p q (λ h. omega (arith, h)))
  same_act a b (set_raw p s c v l e) (next q f) = absurd (apart _ _ p q (λ h. omega (arith, h)))
  same_act a b (set_raw p s c v l e) (left q f) = absurd (apart _ _ p q (λ h. omega (arith, h)))
  same_act a b (set_raw p s c v l e) (right q f) = absurd (apart _ _ p q (λ h. omega (arith, h)))
  same_act a b (set_raw p s c v l e) (set_raw q s' c' v' l' f) =
      e ∙ ap (λ t. set_act (text_value t)) (same_text_there (text_at (codes "value") form) c c' v v') ∙ sym f
  same_act a b (set_raw p s c v l e) (set_literal q n s' t i li v' w is f) =
      absurd (raw_type n t (same_text_there (text_at (codes "as") form) (codes "raw") n s s') i)
  same_act a b (set_literal p n s t i li v w is e) (next q f) = absurd (apart _ _ p q (λ h. omega (arith, h)))
  same_act a b (set_literal p n s t i li v w is e) (left q f) = absurd (apart _ _ p q (λ h. omega (arith, h)))
  same_act a b (set_literal p n s t i li v w is e) (right q f) = absurd (apart _ _ p q (λ h. omega (arith, h)))
  same_act a b (set_literal p n s t i li v w is e) (set_raw q s' c' v' l' f) =
      absurd (raw_type n t (same_text_there (text_at (codes "as") form) (codes "raw") n s' s) i)
  same_act a b (set_literal p n s t i li v w is e) (set_literal q n' s' t' i' li' v' w' is' f) =
      let names = same_text_there (text_at (codes "as") form) n n' s s' in
      let basics = one_type n t t' i (subst (λ z. IsTypeName z t') (sym names) i') in
      let literals = same_text_there (text_at (codes "value") form) li li' v v' in
      let is'' = subst (λ z. IsLiteralOf t z w') (sym literals) (subst (λ z. IsLiteralOf z li' w') (sym basics) is') in
      e ∙ ap set_act (one_typed t li w w' is is'') ∙ sym f

  pub same_input : (i j : InputTerm) → GivesInput form i → GivesInput form j → i ≡ j
  same_input i j g k =
      let texts = same_text_there (text_at (codes "path") form) (path_text i.path) (path_text j.path) g.path k.path in
      let paths = same_path i.path j.path texts in
      ap₂ (λ p a. record { path = p; act = a }) paths (same_act i.act j.act g.act k.act)

  -- what a bad value says of another type and literal of the same texts
  module _ (place : ℕ) (d : HasBadValue form place) where
    fault_at : (n : Text) (b : BasicTerm) (l : Text) → text_at (codes "as") form ≡ Some n → IsTypeName n b
        → text_at (codes "value") form ≡ Some l → IsFirstFault (IsLiteralOf b) Always l Unexpected place
    fault_at n b l s i v =
        let names = same_text_there (text_at (codes "as") form) d.name n d.as_type s in
        let basics = one_type n d.basic b (subst (λ z. IsTypeName z d.basic) names d.is_type) i in
        let literals = same_text_there (text_at (codes "value") form) d.literal l d.of_value v in
        subst (λ z. IsFirstFault (IsLiteralOf b) Always z Unexpected place) literals
        (subst (λ z. IsFirstFault (IsLiteralOf z) Always d.literal Unexpected place) basics d.bad)

    pub no_act : (a : ActTerm) → GivesAct form a → ⊥
    no_act a (next q f) = apart _ _ d.sets q (λ h. omega (arith, h))
    no_act a (left q f) = apart _ _ d.sets q (λ h. omega (arith, h))
    no_act a (right q f) = apart _ _ d.sets q (λ h. omega (arith, h))
    no_act a (set_raw q s c v l f) =
        raw_type d.name d.basic (same_text_there (text_at (codes "as") form) (codes "raw") d.name s d.as_type) d.is_type
    no_act a (set_literal q n s t i l v w is f) = no_word (fault_at n t l s i v) is tt

  pub same_place : (p q : ℕ) → HasBadValue form p → HasBadValue form q → p ≡ q
  same_place p q c d = one_place p q (fault_at p c d.name d.basic d.literal d.as_type d.is_type d.of_value) d.bad
