-- Completions whose tokens are all spelled as their kinds say: of names, numbers and texts only those that stand in front are kept.
use Rattle.std.proofs.Common.{◌≡◌, ℕ, Bool, true, false, List, [], ◌∷◌, ◌++◌, map, refl, sym, ap, ◌∙◌, subst, arith, eqb, append_assoc}
use Rattle.std.specs.Prelude.{codes, if◌then◌else◌, ◌||◌, ◌&&◌}
use Rattle.std.specs.Cmp.Lexicographic.{pointwise, same_text}
use Rattle.unicode_ident.proofs.IdentLemmas.{is_xid_start-ascii}
use Rattle.task_model.specs.Terms.Text.{Text}
use Rattle.task_syntax.proofs.Words.{is_keyword-spelling, is_symbol-spelling}
use Rattle.task_model.specs.Syntax.Lexemes.{Lexeme, keyword, symbol, name, number, quoted_text, token_term, token_terms}
use Rattle.reader_grammar.specs.Faults.{IsSpelled, AreSpelled}
use Rattle.reader_programs.proofs.Respelled.{respell}

-- ---- what stands in some tokens
abbrev is_name : Text → Lexeme → Bool
is_name x (name y p) = pointwise eqb x y
is_name x t = false

abbrev is_number : Text → Lexeme → Bool
is_number x (number y p) = pointwise eqb x y
is_number x t = false

abbrev is_quote : Text → Text → Lexeme → Bool
is_quote s v (quoted_text r u p) = pointwise eqb s r && pointwise eqb v u
is_quote s v t = false

abbrev stands_in : (Lexeme → Bool) → List Lexeme → Bool
stands_in p [] = false
stands_in p (t ∷ ts) = p t || stands_in p ts

abbrev pub kept_name : List Lexeme → Text → Text
kept_name ts x = if stands_in (is_name x) ts then x else codes "a"

abbrev pub kept_number : List Lexeme → Text → Text
kept_number ts x = if stands_in (is_number x) ts then x else codes "0"

abbrev pub quote_or_none : Text → Text → Bool → Text × Text
quote_or_none s v true = (s, v)
quote_or_none s v false = (34 ∷ (34 ∷ []), [])

abbrev pub kept_quote : List Lexeme → Text → Text → Text × Text
kept_quote ts s v = quote_or_none s v (stands_in (is_quote s v) ts)

abbrev pub kept : List Lexeme → Lexeme → Lexeme
kept ts = respell (kept_name ts) (kept_number ts) (kept_quote ts)

-- ---- they are spelled
found : (P : Lexeme → Bool) (Q : Type 0) (ts : List Lexeme) → AreSpelled (token_terms ts)
    → ((t : Lexeme) → IsSpelled (token_term t) → P t ≡ true → Q) → stands_in P ts ≡ true → Q
found P Q [] all hit e = absurd cc
found P Q (t ∷ ts) all hit e = go (P t) refl (λ k. found P Q ts all.1 hit k)
  where
    go : (b : Bool) → P t ≡ b → (stands_in P ts ≡ true → Q) → Q
    go true is later = hit t all.0 is
    go false is later = later (sym (ap (λ b. b || stands_in P ts) is) ∙ e)

a_spelled : (p : ℕ) → IsSpelled (token_term (name (codes "a") p))
unfolding lib.Utf8.encode
a_spelled p = record {
  spells = (
    record {
      first = 97;
      rest = [];
      scalars = refl;
      bytes = refl;
      starts = is_xid_start-ascii 97 (omega arith) ∙ refl;
      continues = tt;
    },
    refl,
  );
  within = tt;
}

module _ (ts : List Lexeme) (all : AreSpelled (token_terms ts)) where
  name_spelled : (x : Text) (p : ℕ) (b : Bool) → stands_in (is_name x) ts ≡ b → IsSpelled (token_term (name (if b then x else codes "a") p))
  name_spelled x p true e = found (is_name x) (IsSpelled (token_term (name x p))) ts all hit e
    where
      hit : (t : Lexeme) → IsSpelled (token_term t) → is_name x t ≡ true → IsSpelled (token_term (name x p))
      hit (name y q) h is = let same : x ≡ y = same_text x y (sym is) in subst (λ z. IsSpelled (token_term (name z p))) (sym same) (record {
        spells = h.spells;
        within = h.within;
      })
      hit t h is = absurd cc
  name_spelled x p false e = a_spelled p

  number_spelled : (x : Text) (p : ℕ) (b : Bool) → stands_in (is_number x) ts ≡ b
      → IsSpelled (token_term (number (if b then x else codes "0") p))
  number_spelled x p true e = found (is_number x) (IsSpelled (token_term (number x p))) ts all hit e
    where
      hit : (t : Lexeme) → IsSpelled (token_term t) → is_number x t ≡ true → IsSpelled (token_term (number x p))
      hit (number y q) h is = let same : x ≡ y = same_text x y (sym is) in subst (λ z. IsSpelled (token_term (number z p))) (sym same)
          (record { spells = h.spells; within = h.within })
      hit t h is = absurd cc
  number_spelled x p false e = record { spells = ((λ none. cc), ((omega arith, omega arith), tt), refl); within = omega arith }

  quote_spelled : (s v : Text) (p : ℕ) (b : Bool) → stands_in (is_quote s v) ts ≡ b
      → IsSpelled (token_term (quoted_text (quote_or_none s v b).0 (quote_or_none s v b).1 p))
  quote_spelled s v p true e = found (is_quote s v) (IsSpelled (token_term (quoted_text s v p))) ts all hit e
    where
      hit : (t : Lexeme) → IsSpelled (token_term t) → is_quote s v t ≡ true → IsSpelled (token_term (quoted_text s v p))
      hit (quoted_text r u q) h is =
          let first : pointwise eqb s r ≡ true = grind (arith, is) in
          let second : pointwise eqb v u ≡ true = grind (arith, is) in
          subst (λ z. IsSpelled (token_term (quoted_text z v p))) (sym (same_text s r (sym first)))
          (subst (λ z. IsSpelled (token_term (quoted_text r z p))) (sym (same_text v u (sym second))) (record {
            spells = h.spells;
            within = h.within;
          }))
      hit t h is = absurd cc
  quote_spelled s v p false e = record { spells = ([], refl, refl); within = omega arith }

  pub kept_spelled : (t : Lexeme) → IsSpelled (token_term (kept ts t))
  kept_spelled (keyword k p) = record { spells = is_keyword-spelling k; within = tt }
  kept_spelled (symbol s p) = record { spells = is_symbol-spelling s; within = tt }
  kept_spelled (name x p) = name_spelled x p (stands_in (is_name x) ts) refl
  kept_spelled (number x p) = number_spelled x p (stands_in (is_number x) ts) refl
  kept_spelled (quoted_text s v p) = quote_spelled s v p (stands_in (is_quote s v) ts) refl

  pub all_kept_spelled : (us : List Lexeme) → AreSpelled (token_terms (map (kept ts) us))
  all_kept_spelled [] = tt
  all_kept_spelled (u ∷ us) = (kept_spelled u, all_kept_spelled us)

-- ---- what stands in front is kept
stands : (P : Lexeme → Bool) (pre : List Lexeme) (t : Lexeme) (post : List Lexeme) → P t ≡ true → stands_in P (pre ++ t ∷ post) ≡ true
stands P [] t post h = ap (λ b. b || stands_in P post) h
stands P (u ∷ pre) t post h = go (P u) (stands P pre t post h)
  where
    go : (b : Bool) → stands_in P (pre ++ t ∷ post) ≡ true → (b || stands_in P (pre ++ t ∷ post)) ≡ true
    go true k = refl
    go false k = k

same : (x : Text) → pointwise eqb x x ≡ true
same [] = refl
same (b ∷ x) = let h = same x in grind (arith, h)

kept_one : (pre : List Lexeme) (t : Lexeme) (post : List Lexeme) → kept (pre ++ t ∷ post) t ≡ t
kept_one pre (keyword k p) post = refl
kept_one pre (symbol s p) post = refl
kept_one pre (name x p) post = ap (λ b. name (if b then x else codes "a") p) (stands (is_name x) pre (name x p) post (same x))
kept_one pre (number x p) post = ap (λ b. number (if b then x else codes "0") p) (stands (is_number x) pre (number x p) post (same x))
kept_one pre (quoted_text s v p) post =
    let h = same s in
    let k = same v in
    let both : is_quote s v (quoted_text s v p) ≡ true = grind (arith, h, k) in
    ap (λ b. quoted_text (quote_or_none s v b).0 (quote_or_none s v b).1 p) (stands (is_quote s v) pre (quoted_text s v p) post both)

pub all_kept : (pre us : List Lexeme) → map (kept (pre ++ us)) us ≡ us
all_kept pre [] = refl
all_kept pre (u ∷ us) =
    ap (λ t. t ∷ map (kept (pre ++ (u ∷ us))) us) (kept_one pre u us)
    ∙ ap (λ l. u ∷ map (kept l) us) (sym (append_assoc pre (u ∷ []) us)) ∙ ap (λ l. u ∷ l) (all_kept (pre ++ (u ∷ [])) us)
