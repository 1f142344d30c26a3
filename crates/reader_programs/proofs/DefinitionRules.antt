-- The productions of parameters and definitions.
use Rattle.std.proofs.Common.{◌≡◌, ℕ, ◌+◌, ◌≤◌, max, List, [], ◌∷◌, ◌++◌, length, Err, refl, sym, ap, ◌∙◌, subst, arith, append_assoc}
use Rattle.task_model.specs.Terms.Text.{Text}
use Rattle.task_model.specs.declared.keyword.Keyword.{Keyword}
use Rattle.task_model.specs.declared.keyword.Keyword.TheVariants as words
use Rattle.task_model.specs.declared.symbol.Symbol.TheVariants as signs
use Rattle.exact_reading.specs.declared.stop.ParseStop.TheVariants.{Fault}
use Rattle.exact_reading.specs.declared.stop.FaultKind.TheVariants.{Unexpected}
use Rattle.exact_reading.specs.Reading.{Language, IsWithinLevels, SharesPrefix, Answer, Right}
use Rattle.exact_reading.proofs.Productions.{by_production}
use Rattle.exact_reading.proofs.Starts.{After, after_right, starts_none}
use Rattle.exact_reading.proofs.Symbols.{Sym, one, part, Values, Seq, Sequence, Led, led_right, open_up}
use Rattle.task_model.specs.Syntax.Lexemes.{Lexeme, keyword, symbol, name}
use Rattle.task_model.specs.Syntax.Grammar.{Form, definition, parameter, basic, task, expression, enclosed, parameters, Parse, function, task_named, value_named, reference_named, tokens, levels}
use Rattle.reader_grammar.specs.Languages.{Of, EndsForm}
use Rattle.reader_grammar.proofs.GrammarLemmas.{grammar, head, head_first, starts_not, smallest, a_sign, a_name}
use Rattle.reader_grammar.proofs.RuleLemmas.{Rule, tokens_of, built, build_up}

-- ---- definitions: the symbols behind `fun` and `task`, whose bodies are of this form
module _ (f : Form) where
  abbrev pub definition_symbols : List (Sym grammar)
  definition_symbols = one a_name ∷ part (enclosed parameters) ∷ one (a_sign signs.Colon) ∷ part basic ∷ one (a_sign signs.Define)
      ∷ part f ∷ []

  pub definition_tokens : (word : Keyword) (p : ℕ) (vs : Values grammar definition_symbols)
      → (keyword word p ∷ name vs.0.0 vs.0.1 ∷ tokens vs.1.0) ++ (symbol signs.Colon vs.1.1.0 ∷ tokens vs.1.1.1.0)
      ++ (symbol signs.Define vs.1.1.1.1.0 ∷ tokens vs.1.1.1.1.1.0) ≡ keyword word p ∷ tokens_of definition_symbols vs
  definition_tokens word p vs = append_assoc (keyword word p ∷ name vs.0.0 vs.0.1 ∷ tokens vs.1.0)
      (symbol signs.Colon vs.1.1.0 ∷ tokens vs.1.1.1.0) (symbol signs.Define vs.1.1.1.1.0 ∷ tokens vs.1.1.1.1.1.0)

abbrev pub function_build : ℕ → Values grammar (definition_symbols expression) → Parse definition
function_build p vs = function p vs.0.0 vs.0.1 vs.1.0 vs.1.1.0 vs.1.1.1.0 vs.1.1.1.1.0 vs.1.1.1.1.1.0

pub function_back : (p : ℕ) (d : Parse definition) → head d ≡ keyword words.Fun p → (vs : Values grammar (definition_symbols expression))
    × (function_build p vs ≡ d)
function_back p (function q x i ps r b s e) h = let same : q ≡ p = cc in
    (((x, i), (ps, (r, (b, (s, (e, tt)))))), ap (λ n. function n x i ps r b s e) (sym same))
function_back p d h = absurd cc

abbrev pub function_rule : (p : ℕ) → Rule definition 0 (keyword words.Fun p)
function_rule p = record {
  some = tt;
  symbols = definition_symbols expression;
  build = function_build p;
  tokens_are = definition_tokens expression words.Fun p;
  levels_are = λ vs. omega arith;
  back = function_back p;
}

abbrev pub task_build : ℕ → Values grammar (definition_symbols task) → Parse definition
task_build p vs = task_named p vs.0.0 vs.0.1 vs.1.0 vs.1.1.0 vs.1.1.1.0 vs.1.1.1.1.0 vs.1.1.1.1.1.0

pub task_back : (p : ℕ) (d : Parse definition) → head d ≡ keyword words.Task p → (vs : Values grammar (definition_symbols task)) ×
    (task_build p vs ≡ d)
task_back p (task_named q x i ps r b s e) h = let same : q ≡ p = cc in
    (((x, i), (ps, (r, (b, (s, (e, tt)))))), ap (λ n. task_named n x i ps r b s e) (sym same))
task_back p d h = absurd cc

abbrev pub task_rule : (p : ℕ) → Rule definition 0 (keyword words.Task p)
task_rule p = record {
  some = tt;
  symbols = definition_symbols task;
  build = task_build p;
  tokens_are = definition_tokens task words.Task p;
  levels_are = λ vs. omega arith;
  back = task_back p;
}

-- ---- parameters
pub record Named (t : Lexeme) : Type 0 where
  pub text : Text
  pub place : ℕ
  pub is : t ≡ name text place

starts_named : (a : List Lexeme) (y : Parse parameter × ℕ) → Of parameter a y → (t : Lexeme) × (s : List Lexeme) × (a ≡ t ∷ s) × Named t
starts_named a (value_named x p q b, n) h = (name x p, _, sym h.0, record { text = x; place = p; is = refl })
starts_named a (reference_named x p q r b, n) h = (name x p, _, sym h.0, record { text = x; place = p; is = refl })

-- the tokens begin with no name
pub no_parameter : (ts : List Lexeme) → ((x : Text) (p : ℕ) (s : List Lexeme) → ts ≡ name x p ∷ s → ⊥) → {room : ℕ}
    → Right (Of parameter) (IsWithinLevels room) (EndsForm parameter) ts (Err (Fault Unexpected (length ts)))
no_parameter ts none = starts_none (Of parameter) Named ts starts_named (λ t s e q. none q.text q.place s (e ∙ ap (λ u. u ∷ s) q.is))

module _ (x : Text) (p : ℕ) where
  -- what stands behind the name
  abbrev pub Behind : Language Lexeme (Parse parameter × ℕ)
  Behind = After (name x p) (Of parameter)

  pub by_name : {room : ℕ} {ts s : List Lexeme} {r : Answer Lexeme (Parse parameter × ℕ)} → ts ≡ name x p ∷ s → 1 ≤ room
      → Right Behind (IsWithinLevels room) (EndsForm parameter) s r → Right (Of parameter) (IsWithinLevels room) (EndsForm parameter) ts r
  by_name e le right = after_right (Of parameter) Named starts_named e
      (symbol signs.Colon 0 ∷ tokens (smallest basic), (value_named x p 0 (smallest basic), 1), (refl, refl), le) right

  pub record Colon (t : Lexeme) : Type 0 where
    pub place : ℕ
    pub is : t ≡ symbol signs.Colon place

  starts_colon : (a : List Lexeme) (y : Parse parameter × ℕ) → Behind a y → (t : Lexeme) × (s : List Lexeme) × (a ≡ t ∷ s) × Colon t
  starts_colon a (value_named z o q b, n) h = let e : a ≡ symbol signs.Colon q ∷ tokens b = (let h0 = h.0 in cc) in
      (symbol signs.Colon q, _, e, record { place = q; is = refl })
  starts_colon a (reference_named z o q r b, n) h = let e : a ≡ symbol signs.Colon q
      ∷ (keyword words.Ref r ∷ tokens b) = (let h0 = h.0 in cc) in
      (symbol signs.Colon q, _, e, record { place = q; is = refl })

  pub no_colon : (ts : List Lexeme) → ((q : ℕ) (s : List Lexeme) → ts ≡ symbol signs.Colon q ∷ s → ⊥) → {room : ℕ}
      → Right Behind (IsWithinLevels room) (EndsForm parameter) ts (Err (Fault Unexpected (length ts)))
  no_colon ts none = starts_none Behind Colon ts starts_colon (λ t s e c. none c.place s (e ∙ ap (λ u. u ∷ s) c.is))

  module _ (q : ℕ) where
    -- what stands behind the colon
    abbrev pub Kinded : Language Lexeme (Parse parameter × ℕ)
    Kinded = After (symbol signs.Colon q) Behind

    pub by_colon : {room : ℕ} {ts s : List Lexeme} {r : Answer Lexeme (Parse parameter × ℕ)} → ts ≡ symbol signs.Colon q ∷ s → 1 ≤ room
        → Right Kinded (IsWithinLevels room) (EndsForm parameter) s r → Right Behind (IsWithinLevels room) (EndsForm parameter) ts r
    by_colon e le right = after_right Behind Colon starts_colon e (
      tokens (smallest basic),
      (value_named x p q (smallest basic), 1),
      (refl, refl),
      le,
    ) right

    abbrev pub kind_symbols : List (Sym grammar)
    kind_symbols = part basic ∷ []

    abbrev pub value_build : Values grammar kind_symbols → Parse parameter
    value_build vs = value_named x p q vs.0

    abbrev pub reference_build : ℕ → Values grammar kind_symbols → Parse parameter
    reference_build r vs = reference_named x p q r vs.0

    -- a parameter by its place's tokens
    by_kind : (P : Parse parameter → Type 0) → ((b : Parse basic) → P (value_named x p q b))
        → ((r : ℕ) (b : Parse basic) → P (reference_named x p q r b)) → (d : Parse parameter) (a : List Lexeme)
        → tokens d ≡ name x p ∷ (symbol signs.Colon q ∷ a) → P d
    by_kind P v f (value_named y o i b) a h =
        let e0 : x ≡ y = cc in
        let e1 : p ≡ o = cc in
        let e2 : q ≡ i = cc in
        subst (λ n. P (value_named n o i b)) e0 (subst (λ n. P (value_named x n i b)) e1 (subst (λ n. P (value_named x p n b)) e2 (v b)))
    by_kind P v f (reference_named y o i r b) a h =
        let e0 : x ≡ y = cc in
        let e1 : p ≡ o = cc in
        let e2 : q ≡ i = cc in
        subst (λ n. P (reference_named n o i r b)) e0
        (subst (λ n. P (reference_named x n i r b)) e1 (subst (λ n. P (reference_named x p n r b)) e2 (f r b)))

    -- ---- a reference
    abbrev Referred : ℕ → Language Lexeme (Parse parameter × ℕ)
    Referred r = Led grammar 0 (keyword words.Ref r) kind_symbols (reference_build r) 0

    referred_in : (r : ℕ) (a : List Lexeme) (y : Parse parameter × ℕ) → Referred r a y → Kinded a y
    referred_in r a y h =
        let b = built 0 kind_symbols (reference_build r) 0 h.back y h.next in
        let e0 : y.0 ≡ reference_build r b.parts = ap (λ k. k.0) b.is in
        let e1 : y.1 ≡ 0 + max 0 (levels b.parts.0) = ap (λ k. k.1) b.is in
        let l : levels b.parts.0 ≡ y.1 = omega (arith, e1) in (
          ap (λ k. tokens k) e0 ∙ ap (λ l. name x p ∷ (symbol signs.Colon q ∷ l))
              (sym (h.split ∙ ap (λ l. l ++ h.back) h.first ∙ ap (λ l. keyword words.Ref r ∷ l) b.are)),
          ap (λ k. levels k) e0 ∙ l,
        )

    referred_out : (r : ℕ) (s a : List Lexeme) (y : Parse parameter × ℕ) (z : List Lexeme) → Kinded a y
        → SharesPrefix [] (keyword words.Ref r ∷ s) (a ++ z) → Referred r a y
    referred_out r s a y z h (w, b) =
        by_kind (λ d. tokens d ≡ name x p ∷ (symbol signs.Colon q ∷ a) → levels d ≡ y.1 → Referred r a (d, y.1))
        (λ c t l.
        let same : tokens c ≡ a = cc in
        absurd (let (v, first) = head_first c tt in let e : head c ∷ (v ++ z) ≡ keyword words.Ref r
        ∷ w = ap (λ k. k ++ z) (sym first ∙ same)
        ∙ b in let is : head c ≡ keyword words.Ref r = cc in no_ref c r is))
        (λ o c t l.
        let same : keyword words.Ref o ∷ tokens c ≡ a = cc in
        let e : keyword words.Ref o ∷ (tokens c ++ z) ≡ keyword words.Ref r ∷ w = ap (λ k. k ++ z) same ∙ b in
        let o_is : r ≡ o = cc in
        let m : 0 + max 0 (levels c) ≡ y.1 = omega (arith, l) in
        subst (λ n. Referred r a (reference_named x p q n c, y.1)) o_is (record {
          front = keyword words.Ref r ∷ [];
          back = tokens c;
          value = tt;
          split = sym same ∙ ap (λ n. keyword words.Ref n ∷ tokens c) (sym o_is);
          first = refl;
          next = subst (λ n. Seq grammar 0 kind_symbols (reference_build r) 0 (tokens c) (reference_named x p q r c, n)) m
              (build_up 0 kind_symbols (reference_build r) 0 (c, tt));
        }))
        y.0 a h.0 h.0 h.1
      where
        no_ref : (c : Parse basic) (r : ℕ) → head c ≡ keyword words.Ref r → ⊥
        no_ref c r is = starts_not c (keyword words.Ref r) refl is

    pub by_reference : {room : ℕ} {r : ℕ} {ts s : List Lexeme} {z : Answer Lexeme (Parse parameter × ℕ)} → ts ≡ keyword words.Ref r ∷ s
        → 1 ≤ room → Right (Sequence grammar 0 kind_symbols (reference_build r) 0) (IsWithinLevels room) (EndsForm parameter) s z
        → Right Kinded (IsWithinLevels room) (EndsForm parameter) ts z
    by_reference {r = r} {s = s} e le right = led_right grammar 0 Kinded (referred_in r) (referred_out r s) e le right

    -- ---- a value
    abbrev Valued : Language Lexeme (Parse parameter × ℕ)
    Valued = Seq grammar 0 kind_symbols value_build 0

    valued_in : (a : List Lexeme) (y : Parse parameter × ℕ) → Valued a y → Kinded a y
    valued_in a y h =
        let b = built 0 kind_symbols value_build 0 a y h in
        let e0 : y.0 ≡ value_build b.parts = ap (λ k. k.0) b.is in
        let e1 : y.1 ≡ 0 + max 0 (levels b.parts.0) = ap (λ k. k.1) b.is in
        let l : levels b.parts.0 ≡ y.1 = omega (arith, e1) in
        (ap (λ k. tokens k) e0 ∙ ap (λ l. name x p ∷ (symbol signs.Colon q ∷ l)) (sym b.are), ap (λ k. levels k) e0 ∙ l)

    valued_out : (ts : List Lexeme) → ((r : ℕ) (s : List Lexeme) → ts ≡ keyword words.Ref r ∷ s → ⊥)
        → (a : List Lexeme) (y : Parse parameter × ℕ) (z : List Lexeme) → Kinded a y → SharesPrefix [] ts (a ++ z) → Valued a y
    valued_out ts none a y z h b =
        by_kind (λ d. tokens d ≡ name x p ∷ (symbol signs.Colon q ∷ a) → levels d ≡ y.1 → Valued a (d, y.1))
        (λ c t l.
        let same : tokens c ≡ a = cc in
        let m : 0 + max 0 (levels c) ≡ y.1 = omega (arith, l) in
        subst (λ k. Valued k (value_named x p q c, y.1)) same
        (subst (λ n. Valued (tokens c) (value_named x p q c, n)) m (build_up 0 kind_symbols value_build 0 (c, tt))))
        (λ o c t l. let same : keyword words.Ref o ∷ tokens c ≡ a = cc in
        absurd (no_ref ts none o (tokens c) (subst (λ k. SharesPrefix [] ts (k ++ z)) (sym same) b)))
        y.0 a h.0 h.0 h.1
      where
        no_ref : (ts : List Lexeme) → ((r : ℕ) (s : List Lexeme) → ts ≡ keyword words.Ref r ∷ s → ⊥) → (o : ℕ) (w : List Lexeme)
            → SharesPrefix [] ts ((keyword words.Ref o ∷ w) ++ z) → ⊥
        no_ref [] none o w e = cc
        no_ref (t ∷ ts) none o w (v, e) = let t_is : t ≡ keyword words.Ref o = cc in none o ts (ap (λ k. k ∷ ts) t_is)

    pub by_value : {room : ℕ} {ts : List Lexeme} {z : Answer Lexeme (Parse parameter × ℕ)}
        → ((r : ℕ) (s : List Lexeme) → ts ≡ keyword words.Ref r ∷ s → ⊥)
        → Right (Sequence grammar 0 kind_symbols value_build 0) (IsWithinLevels room)
        (EndsForm parameter) ts z → Right Kinded (IsWithinLevels room) (EndsForm parameter) ts z
    by_value {ts = ts} none right = by_production Valued Kinded valued_in (λ a y z h _ b. valued_out ts none a y z h b)
        (open_up grammar 0 right)
