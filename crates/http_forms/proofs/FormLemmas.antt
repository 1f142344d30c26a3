-- Why a form gives no act.
use Rattle.std.proofs.Common.{◌≡◌, ◌≢◌, ◌<◌, ◌≤◌, Option, None, Some, option_map, MatchOption, Result, IfOk, IfErr, List, length, codes, refl, sym, ap, ◌∙◌, subst, arith}
use Rattle.std.specs.Cow.{cow_str_bytes}
use Rattle.std.specs.declared.borrow.CowStr.{CowStr}
use Rattle.std.proofs.lemmas.Result.{IfOk-weaker, MatchResult-weaker}
use Rattle.task_model.specs.Terms.Text.{Text}
use Rattle.task_model.specs.Terms.Basic.{BasicTerm}
use Rattle.task_model.specs.Terms.Value.{value_term}
use Rattle.task_model.specs.Terms.Input.{ActTerm, set_act}
use Rattle.task_model.specs.Showing.Page.{path_text}
use Rattle.task_model.specs.declared.input.Turn.{Turn}
use Rattle.task_model.specs.declared.value.Value.{Value}
use Rattle.literal_text.specs.declared.stop.BadLiteral.{BadLiteral}
use Rattle.literal_text.specs.declared.stop.LiteralStop.TheVariants.{Bad, Memory}
use Rattle.literal_text.specs.Types.{IsTypeName}
use Rattle.http_heads.proofs.EndLemmas.{none_some}
use Rattle.http_forms.specs.Forms.{text_at, GivesAct, next, left, right, set_raw, set_literal, IsMalformed}
use Rattle.http_forms.specs.declared.form_stop.FormStop.{FormStop}
use Rattle.http_forms.specs.declared.form_stop.FormStop.TheVariants as stops
use Rattle.http_forms.specs.FormReading.{HasNoAct, IsActStop, IsFormStop, IsRawValue, IsRawStop, IsNamedLiteral, IsLiteralStop}
use Rattle.http_forms.proofs.OneForm.{same_text_there, raw_type, apart}

module _ (form : Text) where
  -- ---- no word
  pub no_word_given : text_at (codes "act") form ≡ None → HasNoAct form
  no_word_given none = record { no_act = no_act; no_value = λ p h. none_some (codes "set") (sym none ∙ h.sets) }
    where
      no_act : (a : ActTerm) → GivesAct form a → ⊥
      no_act a (next q f) = none_some _ (sym none ∙ q)
      no_act a (left q f) = none_some _ (sym none ∙ q)
      no_act a (right q f) = none_some _ (sym none ∙ q)
      no_act a (set_raw q s c v l f) = none_some _ (sym none ∙ q)
      no_act a (set_literal q n s t i l v w is f) = none_some _ (sym none ∙ q)

  -- another word
  pub other_word : (word : Text) → text_at (codes "act") form ≡ Some word → word ≢ codes "next" → word ≢ codes "left" → word ≢ codes "right"
      → word ≢ codes "set" → HasNoAct form
  other_word word is no_next no_left no_right no_set = record { no_act = no_act; no_value = λ p h. no_set (there is h.sets) }
    where
      there : {u v : Text} → text_at (codes "act") form ≡ Some u → text_at (codes "act") form ≡ Some v → u ≡ v
      there p q = same_text_there (text_at (codes "act") form) _ _ p q

      no_act : (a : ActTerm) → GivesAct form a → ⊥
      no_act a (next q f) = no_next (there is q)
      no_act a (left q f) = no_left (there is q)
      no_act a (right q f) = no_right (there is q)
      no_act a (set_raw q s c v l f) = no_set (there is q)
      no_act a (set_literal q n s t i l v w is' f) = no_set (there is q)

  -- ---- `set` without a value
  module _ (sets : text_at (codes "act") form ≡ Some (codes "set")) where
    no_set : ((content : Text) → text_at (codes "as") form ≡ Some (codes "raw") → text_at (codes "value") form ≡ Some content
        → length content ≤ 65536 → ⊥)
        → ((name literal : Text) (b : BasicTerm) → text_at (codes "as") form ≡ Some name → text_at (codes "value") form ≡ Some literal
        → IsTypeName name b → ⊥)
        → HasNoAct form
    no_set raw literal = record { no_act = no_act; no_value = λ p h. literal h.name h.literal h.basic h.as_type h.of_value h.is_type }
      where
        no_act : (a : ActTerm) → GivesAct form a → ⊥
        no_act a (next q f) = apart form _ _ sets q (λ h. omega (arith, h))
        no_act a (left q f) = apart form _ _ sets q (λ h. omega (arith, h))
        no_act a (right q f) = apart form _ _ sets q (λ h. omega (arith, h))
        no_act a (set_raw q s c v l f) = raw c s v l
        no_act a (set_literal q n s t i l v w is f) = literal n l t s v i

    pub no_kind : text_at (codes "as") form ≡ None → HasNoAct form
    no_kind none = no_set (λ c s v l. none_some _ (sym none ∙ s)) (λ n l b s v i. none_some _ (sym none ∙ s))

    pub no_value_given : text_at (codes "value") form ≡ None → HasNoAct form
    no_value_given none = no_set (λ c s v l. none_some _ (sym none ∙ v)) (λ n l b s v i. none_some _ (sym none ∙ v))

    pub long_raw : (text : Text) → text_at (codes "as") form ≡ Some (codes "raw") → text_at (codes "value") form ≡ Some text
        → 65536 < length text → HasNoAct form
    long_raw text as_raw of_value long = no_set
        (λ c s v l. let e = ap length (same_text_there (text_at (codes "value") form) text c of_value v) in omega (arith, e, long, l))
        (λ n l b s v i. raw_type n b (same_text_there (text_at (codes "as") form) (codes "raw") n as_raw s) i)

    pub no_type : (name : Text) → text_at (codes "as") form ≡ Some name → name ≢ codes "raw" → ((b : BasicTerm) → IsTypeName name b → ⊥)
        → HasNoAct form
    no_type name as_name no_raw none = no_set
        (λ c s v l. no_raw (same_text_there (text_at (codes "as") form) name (codes "raw") as_name s))
        (λ n l b s v i. none b
        (subst (λ z. IsTypeName z b) (sym (same_text_there (text_at (codes "as") form) name n as_name s)) i))

-- a bad literal is no want of memory
pub no_memory : {bad : BadLiteral} → Bad bad ≡ Memory → ⊥
no_memory e = cc

module _ (form : Text) where
  -- no path, so nothing
  pub no_path_given : ((p : List Turn) → text_at (codes "path") form ≡ Some (path_text p) → ⊥) → IsMalformed form
  no_path_given lacks = record { no_input = λ i g. lacks i.path g.path; no_literal = λ place h. lacks h.path h.at_path }

  -- a path, and no act
  pub no_act_given : HasNoAct form → IsMalformed form
  no_act_given h = record { no_input = λ i g. h.no_act i.act g.act; no_literal = λ place d. h.no_value place d.value }

-- ---- what a value that was read, or wasn't, says of the form
pub found_at : {Z : Type 0} (key form : Text) (o : Option (CowStr Z)) (text : CowStr Z) → option_map cow_str_bytes o ≡ text_at key form
    → o ≡ Some text
    → text_at key form ≡ Some (cow_str_bytes text)
found_at key form o text e is = sym e ∙ ap (option_map cow_str_bytes) is

pub given_in : {X : Type 0} (N : Type 0) (P : X → Type 0) (o : Option X) (x : X) → MatchOption o N P → o ≡ Some x → P x
given_in N P o x h is = subst (λ z. MatchOption z N P) is h

module _ (form : Text) (sets : text_at (codes "act") form ≡ Some (codes "set")) (text : Text)
    (of_value : text_at (codes "value") form ≡ Some text) where
  module _ (as_raw : text_at (codes "as") form ≡ Some (codes "raw")) where
    pub raw_given : (r : Result Value FormStop) → IfOk r (λ v. IsRawValue text (value_term v))
        → IfOk r (λ v. GivesAct form (set_act (value_term v)))
    raw_given r = IfOk-weaker r _ _ (λ v h. set_raw sets as_raw text of_value h.short (ap set_act h.is))

    raw_stop : (e : FormStop) → IsRawStop text e → IsActStop form e
    raw_stop stops.Malformed h = long_raw form sets text as_raw of_value h
    raw_stop (stops.Bad bad) h = absurd h
    raw_stop stops.Memory h = tt

    pub raw_refused : (r : Result Value FormStop) → IfErr r (IsRawStop text) → IfErr r (IsActStop form)
    raw_refused r h = MatchResult-weaker r h (λ v t. t) raw_stop

  module _ (name : Text) (as_name : text_at (codes "as") form ≡ Some name) where
    pub literal_given : (r : Result Value FormStop) → IfOk r (λ v. IsNamedLiteral name text (value_term v))
        → IfOk r (λ v. GivesAct form (set_act (value_term v)))
    literal_given r = IfOk-weaker r _ _ (λ v h. set_literal sets name as_name h.basic h.is_type text of_value (value_term v) h.is refl)

    literal_stop : name ≢ codes "raw" → (e : FormStop) → IsLiteralStop name text e → IsActStop form e
    literal_stop no_raw stops.Malformed h = no_type form sets name as_name no_raw h
    literal_stop no_raw (stops.Bad bad) h = record {
      sets = sets;
      name = name;
      as_type = as_name;
      basic = h.basic;
      is_type = h.is_type;
      literal = text;
      of_value = of_value;
      bad = h.bad;
    }
    literal_stop no_raw stops.Memory h = tt

    pub literal_refused : name ≢ codes "raw" → (r : Result Value FormStop) → IfErr r (IsLiteralStop name text) → IfErr r (IsActStop form)
    literal_refused no_raw r h = MatchResult-weaker r h (λ v t. t) (literal_stop no_raw)

-- ---- the whole form
module _ (form : Text) (path : List Turn) (at_path : text_at (codes "path") form ≡ Some (path_text path)) where
  pub form_stop : (e : FormStop) → IsActStop form e → IsFormStop form e
  form_stop stops.Malformed h = no_act_given form h
  form_stop (stops.Bad bad) h = record { path = path; at_path = at_path; value = h }
  form_stop stops.Memory h = tt
