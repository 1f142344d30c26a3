-- Listings in parentheses.
use Rattle.std.proofs.Common.{◌≡◌, ℕ, ◌+◌, max, false, List, [], ◌∷◌, ◌++◌, length, Ok, Err, refl, sym, ap, ◌∙◌, subst, arith, append_assoc}
use Rattle.task_model.specs.declared.symbol.Symbol.TheVariants as signs
use Rattle.exact_reading.specs.declared.stop.ParseStop.TheVariants.{Fault}
use Rattle.exact_reading.specs.declared.stop.FaultKind.TheVariants.{Unexpected}
use Rattle.exact_reading.specs.Reading.{Language, IsWithinLevels, SharesPrefix, Answer, Right}
use Rattle.task_model.specs.Syntax.Lexemes.{Lexeme, symbol}
use Rattle.task_model.specs.Syntax.Grammar.{series, enclosed, Listing, parameters, arguments, list, Parse, empty, full, tokens, levels}
use Rattle.reader_grammar.specs.Languages.{Of, EndsForm}
use Rattle.exact_reading.proofs.Productions.{by_production}
use Rattle.exact_reading.proofs.Starts.{After, after_right}
use Rattle.exact_reading.proofs.Symbols.{Sym, one, part, Values, Seq, Sequence, open_up}
use Rattle.reader_grammar.proofs.GrammarLemmas.{grammar, head, head_first, known_head, starts_not, starts, a_sign}
use Rattle.reader_grammar.proofs.RuleLemmas.{built, build_up, seen_first, no_parse}

close_starts_none : (l : Listing) (q : ℕ) → starts (series (list l)) (symbol signs.Close q) ≡ false
close_starts_none parameters q = refl
close_starts_none arguments q = refl

-- the tokens begin with no parenthesis
pub no_enclosed : {l : Listing} {room : ℕ} (ts : List Lexeme) → ((p : ℕ) (s : List Lexeme) → ts ≡ symbol signs.Open p ∷ s → ⊥)
    → Right (Of (enclosed l)) (IsWithinLevels room) (EndsForm (enclosed l)) ts (Err (Fault Unexpected (length ts)))
no_enclosed {l} ts none = no_parse tt ts go
  where
    go : (d : Parse (enclosed l)) (s : List Lexeme) → ts ≡ head d ∷ s → ⊥
    go (empty m p q) s e = none p s e
    go (full m p es q) s e = none p s e

module _ (l : Listing) (p : ℕ) where
  no_close_starts : (d : Parse (series (list l))) (q : ℕ) → head d ≡ symbol signs.Close q → ⊥
  no_close_starts d q e = starts_not d (symbol signs.Close q) (close_starts_none l q) e

  abbrev pub full_symbols : List (Sym grammar)
  full_symbols = part (series (list l)) ∷ one (a_sign signs.Close) ∷ []

  abbrev pub full_build : Values grammar full_symbols → Parse (enclosed l)
  full_build vs = full l p vs.0 vs.1.0

  abbrev Inner : Language Lexeme (Parse (enclosed l) × ℕ)
  Inner = Seq grammar 0 full_symbols full_build 0

  abbrev Opened : Language Lexeme (Parse (enclosed l) × ℕ)
  Opened = After (symbol signs.Open p) (Of (enclosed l))

  -- nothing stands in them
  pub closed : {room : ℕ} {q : ℕ} {ts s : List Lexeme} → ts ≡ symbol signs.Close q ∷ s
      → Right (Of (enclosed l)) (IsWithinLevels room) (EndsForm (enclosed l)) (symbol signs.Open p ∷ ts) (Ok ((empty l p q, 0), s))
  closed {room = room} {q = q} {ts = ts} {s = s} e =
      subst (λ k. Right (Of (enclosed l)) (IsWithinLevels room) (EndsForm (enclosed l)) (symbol signs.Open p ∷ k)
      (Ok ((empty l p q, 0), s))) (sym e)
      (record {
        by = record {
          front = symbol signs.Open p ∷ (symbol signs.Close q ∷ []);
          split = refl;
          found = (refl, refl);
          fits = omega arith;
          only = λ a y z h _ b. only y.0 y.1 a z h.0 h.1 b;
        };
      })
    where
      only : (d : Parse (enclosed l)) (n : ℕ) (a z : List Lexeme) → tokens d ≡ a → levels d ≡ n
          → SharesPrefix (symbol signs.Open p ∷ (symbol signs.Close q ∷ [])) s (a ++ z)
          → (a ≡ symbol signs.Open p ∷ (symbol signs.Close q ∷ [])) × ◌≡◌ {A = Parse (enclosed l) × ℕ} (d, n) (empty l p q, 0)
      only (empty m i j) n a z t k b =
          let (w, e') = seen_first (symbol signs.Open p ∷ (symbol signs.Close q ∷ [])) s (a ++ z) b in
          let same : symbol signs.Open i ∷ (symbol signs.Close j ∷ z) ≡ symbol signs.Open p ∷ (symbol signs.Close q ∷ w) =
          ap (λ r. r ++ z) t ∙ e' in
          let i_is : i ≡ p = cc in
          let j_is : j ≡ q = cc in (
            sym t ∙ ap (λ x. symbol signs.Open x ∷ (symbol signs.Close j ∷ [])) i_is
                ∙ ap (λ x. symbol signs.Open p ∷ (symbol signs.Close x ∷ [])) j_is,
            ap (λ x. (empty l i j, x)) (sym k) ∙ ap (λ x. (empty l x j, 0)) i_is ∙ ap (λ x. (empty l p x, 0)) j_is,
          )
      only (full m i es j) n a z t k b =
          let (w, e') = seen_first (symbol signs.Open p ∷ (symbol signs.Close q ∷ [])) s (a ++ z) b in
          let same : symbol signs.Open i ∷ ((tokens es ++ (symbol signs.Close j ∷ [])) ++ z) ≡ symbol signs.Open p
          ∷ (symbol signs.Close q ∷ w) =
          ap (λ r. r ++ z) t ∙ e' in
          let inside : (tokens es ++ (symbol signs.Close j ∷ [])) ++ z ≡ symbol signs.Close q ∷ w = cc in
          absurd (no_close_starts es q (known_head es tt (symbol signs.Close q) w (tokens es) ((symbol signs.Close j ∷ []) ++ z) refl
          (w, sym (append_assoc (tokens es) (symbol signs.Close j ∷ []) z) ∙ inside)))

  inner_in : (a : List Lexeme) (y : Parse (enclosed l) × ℕ) → Inner a y → Opened a y
  inner_in a y h =
      let b = built 0 full_symbols full_build 0 a y h in
      let e0 : y.0 ≡ full l p b.parts.0 b.parts.1.0 = ap (λ q. q.0) b.is in
      let e1 : y.1 ≡ 0 + max 0 (levels b.parts.0) = ap (λ q. q.1) b.is in
      let same : levels b.parts.0 ≡ y.1 = omega (arith, e1) in
      (ap (λ q. tokens q) e0 ∙ ap (λ t. symbol signs.Open p ∷ t) (sym b.are), ap (λ q. levels q) e0 ∙ same)

  inner_out : (ts : List Lexeme) → ((q : ℕ) (s : List Lexeme) → ts ≡ symbol signs.Close q ∷ s → ⊥)
      → (d : Parse (enclosed l)) (n : ℕ) (a z : List Lexeme) → tokens d ≡ symbol signs.Open p ∷ a → levels d ≡ n
      → SharesPrefix [] ts (a ++ z)
      → Inner a (d, n)
  inner_out [] none (empty m i j) n a z t k b =
      let same : symbol signs.Close j ∷ [] ≡ a = cc in let c : symbol signs.Close j ∷ z ≡ [] = ap (λ r. r ++ z) same ∙ b in absurd cc
  inner_out (u ∷ ts) none (empty m i j) n a z t k (w, b) =
      let same : symbol signs.Close j ∷ [] ≡ a = cc in
      let c : symbol signs.Close j ∷ z ≡ u ∷ w = ap (λ r. r ++ z) same ∙ b in
      let u_is : u ≡ symbol signs.Close j = cc in
      absurd (none j ts (ap (λ r. r ∷ ts) u_is))
  inner_out ts none (full m i es j) n a z t k b =
      let same : tokens es ++ (symbol signs.Close j ∷ []) ≡ a = cc in
      let i_is : p ≡ i = cc in
      let count : 0 + max 0 (levels es) ≡ n = omega (arith, k) in
      subst (λ r. Inner r (full l i es j, n)) same
      (subst (λ x. Inner (tokens es ++ (symbol signs.Close j ∷ [])) (full l x es j, n)) i_is
      (subst (λ x. Inner (tokens es ++ (symbol signs.Close j ∷ [])) (full l p es j, x)) count
      (build_up 0 full_symbols full_build 0 (es, (j, tt)))))

  -- something stands in them
  pub inside : {room : ℕ} {ts : List Lexeme} {r : Answer Lexeme (Parse (enclosed l) × ℕ)}
      → ((q : ℕ) (s : List Lexeme) → ts ≡ symbol signs.Close q ∷ s → ⊥)
      → Right (Sequence grammar 0 full_symbols full_build 0) (IsWithinLevels room) (EndsForm (enclosed l)) ts r
      → Right (Of (enclosed l)) (IsWithinLevels room) (EndsForm (enclosed l)) (symbol signs.Open p ∷ ts) r
  inside {room = room} {ts = ts} none right =
      after_right (Of (enclosed l)) (λ t. Unit {0}) (λ a y h. let (w, e) = head_first y.0 tt in (head y.0, w, sym h.0 ∙ e, tt)) refl
      (symbol signs.Close 0 ∷ [], (empty l p 0, 0), (refl, refl), omega arith)
      (by_production Inner Opened inner_in (λ a y z h _ b. inner_out ts none y.0 y.1 a z h.0 h.1 b) (open_up grammar 0 right))
