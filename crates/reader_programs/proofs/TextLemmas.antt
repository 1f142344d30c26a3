-- From the answer for the tokens of a source to what holds of the source.
use Rattle.std.proofs.Common.{◌≡◌, ◌≢◌, ℕ, zero, suc, ◌+◌, ◌-◌, ◌^◌, ◌<◌, ◌≤◌, List, [], ◌∷◌, ◌++◌, length, get_or, Ok, Err, refl, sym, ap, ◌∙◌, subst, arith}
use Rattle.std.specs.Prelude.{◌==◌, true, false, Result, IfOk, IfErr, MatchResult}
use Rattle.std.specs.Str.{IsValidUpTo}
use Rattle.std.proofs.Math.Nat.{lt_of_not-le}
use Rattle.std.proofs.lemmas.List.{length-map}
use Rattle.task_model.specs.Terms.Text.{Text}
use Rattle.task_model.specs.Terms.Program.{ProgramTerm}
use Rattle.task_model.specs.Terms.Token.{TokenTerm, HasTokens}
use Rattle.task_syntax.proofs.OneReading.{one_list}
use Rattle.task_syntax.specs.Tokens.{AreTokens}
use Rattle.task_syntax.specs.declared.token.Token.{Token}
use Rattle.exact_reading.specs.declared.stop.FaultKind.{FaultKind}
use Rattle.exact_reading.specs.declared.stop.FaultKind.TheVariants.{Unexpected}
use Rattle.exact_reading.specs.declared.stop.ParseStop.TheVariants.{Fault}
use Rattle.exact_reading.specs.Reading.{IsWithinLevels}
use Rattle.exact_reading.specs.Whole.{IsFirstFault}
use Rattle.exact_reading.proofs.Whole.{whole_found, whole_only, trailing, refused, left_within, rest_within}
use Rattle.task_model.specs.Syntax.Lexemes.{Lexeme, token_term, token_terms}
use Rattle.task_model.specs.Syntax.Grammar.{program, tokens, levels}
use Rattle.task_model.specs.Syntax.Meaning.{program_of}
use Rattle.task_model.specs.Syntax.Nodes as nodes
use Rattle.reader_grammar.specs.Languages.{Reads}
use Rattle.reader_grammar.specs.Faults.{AreSpelled, IsProgram, numbered_place, IsLongestUtf8, IsReadStop}
use Rattle.task_model.specs.Syntax.ProgramText.{IsProgramText}
use Rattle.reader_grammar.specs.declared.lexeme.Lexeme as codes
use Rattle.reader_grammar.specs.declared.lexeme.Lexeme.TheVariants as variants
use Rattle.reader_grammar.specs.declared.lexeme.PositionedToken.{PositionedToken}
use Rattle.task_syntax.specs.declared.stop.ReadStop.{ReadStop}
use Rattle.task_syntax.specs.declared.stop.ReadStop.TheVariants as stops
use Rattle.reader_grammar.specs.Parts.{lexeme, lexeme_at, lexemes}
use Rattle.reader_grammar.proofs.ReadingLemmas.{are_spelled, fault_apart}
use Rattle.reader_programs.specs.Definitions.{ShownProgram, shown_program}
use Rattle.reader_programs.proofs.SourceLemmas.{same_terms, program_fault, few_tokens}

module _ (source : Text) (located : List PositionedToken) (has : HasTokens source (token_terms (lexemes located))) where
  -- ---- a program was read, and nothing is left
  module _ {all : ShownProgram} {rest : List Lexeme} (none : rest ≡ [])
      (h : Reads program shown_program 200 (lexemes located) (Ok (all, rest))) where
    pub text : length source ≤ 1048576 → (p : ProgramTerm) (places : List ℕ) → p ≡ record {
      defs = all.defs;
      bodies = all.bodies;
    } → places ≡ all.places ++ length source ∷ [] → IsProgramText source p places
    text short p places ep es =
        let (x, shows, right) = h.by in
        let (is, fits) = whole_found none right in
        let few = is.1 in record {
          short = short;
          reading = record {
            terms = token_terms (lexemes located);
            has = has;
            parse = x.0;
            reads = ap token_terms is.0;
            within = omega (arith, fits, few);
            stands_for = ap (λ q. record { defs = q.defs; bodies = q.bodies }) shows ∙ sym ep;
            placed = es ∙ ap (λ q. q.places ++ length source ∷ []) (sym shows);
          };
        }

    pub only_text : (p : ProgramTerm) (places : List ℕ) → p ≡ record {
      defs = all.defs;
      bodies = all.bodies;
    } → places ≡ all.places ++ length source ∷ [] → (q : ProgramTerm) (others : List ℕ)
        → IsProgramText source q others → (q ≡ p) × (others ≡ places)
    only_text p places ep es q others t =
        let k = t.reading in
        let (x, shows, right) = h.by in
        let terms_are : token_terms (tokens k.parse) ≡ token_terms (lexemes located) = k.reads
        ∙ one_list source k.terms (token_terms (lexemes located)) k.has has in
        let here = same_terms (tokens k.parse) (lexemes located) terms_are in
        let same = (whole_only {y = (k.parse, levels k.parse)} tt right (here, refl)).1 in
        let parse_is : k.parse ≡ x.0 = ap (λ v. v.0) same in (
          sym k.stands_for ∙ ap program_of parse_is ∙ ap (λ v. record { defs = v.defs; bodies = v.bodies }) shows ∙ sym ep,
          k.placed ∙ ap (λ d. nodes.places d ++ length source ∷ []) parse_is ∙ ap (λ v. v.places ++ length source ∷ []) shows ∙ sym es,
        )

    -- the same of an answer
    module _ {R E : Type 0} (term : R → ProgramTerm) (listed : R → List ℕ) where
      pub only_texts : (r : Result R E) → IfOk r (λ x. term x ≡ record {
        defs = all.defs;
        bodies = all.bodies;
      }) → IfOk r (λ x. listed x ≡ all.places ++ length source ∷ [])
          → IfOk r (λ x. (q : ProgramTerm) (others : List ℕ) → IsProgramText source q others → (q ≡ term x) × (others ≡ listed x))
      only_texts (Ok x) ep es = only_text (term x) (listed x) ep es
      only_texts (Err e) ep es = tt

      pub texts : length source ≤ 1048576 → (r : Result R E) → IfOk r (λ x. term x ≡ record { defs = all.defs; bodies = all.bodies })
          → IfOk r (λ x. listed x ≡ all.places ++ length source ∷ []) → IfOk r (λ x. IsProgramText source (term x) (listed x))
      texts short (Ok x) ep es = text short (term x) (listed x) ep es
      texts short (Err e) ep es = tt

  -- ---- the first fault of the tokens, and how many are left
  abbrev pub Faulty : FaultKind → ℕ → Type 0
  Faulty kind left = (token : ℕ) × (token + left ≡ length located)
      × IsFirstFault IsProgram (IsWithinLevels 200) (token_terms (lexemes located)) kind token

  many : length (lexemes located) ≡ length located
  many = length-map located lexeme

  -- each body that the tokens can hold has a number
  pub numbers : length source ≤ 1048576 → length (lexemes located) < 2 ^ 32
  numbers short =
      let few = few_tokens has in
      let same = length-map (lexemes located) token_term in
      omega (arith, short, few, same)

  pub left_over : {all : ShownProgram} {rest : List PositionedToken} → rest ≢ []
      → Reads program shown_program 200 (lexemes located) (Ok (all, lexemes rest)) → Faulty Unexpected (length rest)
  left_over {rest = rest} more h =
      let (x, shows, right) = h.by in
      let le = rest_within right in
      let same = length-map rest lexeme in
      let at : (length (lexemes located) - length (lexemes rest)) + length (lexemes rest) ≡ length (lexemes located) = omega
      (arith, le) in (
        length (lexemes located) - length (lexemes rest),
        omega (arith, at, same, many),
        program_fault (are_spelled has)
            (trailing tt (some rest more) right at),
      )
    where
      some : (rest : List PositionedToken) → rest ≢ [] → lexemes rest ≢ []
      some [] more = λ e. more refl
      some (t ∷ rest) more = λ e. absurd cc

  pub stopped : {kind : FaultKind} {left : ℕ} → Reads program shown_program 200 (lexemes located) (Err (Fault kind left)) → Faulty kind left
  stopped {kind = kind} {left = left} h =
      let right = h.by in
      let le = left_within right in
      let at : (length (lexemes located) - left) + left ≡ length (lexemes located) = omega (arith, le) in
      (length (lexemes located) - left, omega (arith, at, many), program_fault (are_spelled has) (refused tt right at))

-- ---- whether tokens are left
pub none_left : (rest : List PositionedToken) → (length rest == 0) ≡ true → lexemes rest ≡ []
none_left [] e = refl
none_left (t ∷ rest) e = absurd (grind (arith, e))

pub some_left : (rest : List PositionedToken) → (length rest == 0) ≡ false → rest ≡ [] → ⊥
some_left [] e same = cc
some_left (t ∷ rest) e same = cc

-- ---- the place of a token, or of the end
token_place : (l : codes.Lexeme) (p : ℕ) → (token_term (lexeme_at l p)).from ≡ p
token_place (variants.Keyword k) p = refl
token_place (variants.Symbol s) p = refl
token_place (variants.Name x) p = refl
token_place (variants.Number n) p = refl
token_place (variants.Text q) p = refl

pub place_inside : (ts : List PositionedToken) (n end : ℕ) (d : PositionedToken) → n < length ts
    → (get_or ts n d).from ≡ numbered_place (token_terms (lexemes ts)) n end
place_inside [] n end d lt = absurd (omega (arith, lt))
place_inside (t ∷ ts) zero end d lt = sym (token_place t.lexeme t.from)
place_inside (t ∷ ts) (suc n) end d lt = place_inside ts n end d (omega (arith, lt))

pub place_behind : (ts : List PositionedToken) (n end : ℕ) → length ts ≤ n → end ≡ numbered_place (token_terms (lexemes ts)) n end
place_behind [] n end le = refl
place_behind (t ∷ ts) zero end le = absurd (omega (arith, le))
place_behind (t ∷ ts) (suc n) end le = place_behind ts n end (omega (arith, le))

-- ---- bytes
pub longest_valid : (bytes : Text) (many : ℕ) → IsValidUpTo bytes many → IsLongestUtf8 bytes many
longest_valid bytes many v = let short = v.short in record {
  within = omega (arith, short);
  valid = v.front;
  longest = λ n le is.
      let short : suc many ≤ n → ⊥ = λ over. v.longest n (omega (arith, over)) is in
      let lt = lt_of_not-le short in
      omega (arith, lt);
}

-- ---- the whole
-- the code's tokens are those of the source
pub has_lexemes : (source : Text) (tokens : List Token) (all : List PositionedToken)
    → ((ts : List TokenTerm) × HasTokens source ts × AreTokens source tokens ts)
    → ((ts : List TokenTerm) → AreTokens source tokens ts → AreSpelled ts → ts ≡ token_terms (lexemes all))
    → HasTokens source (token_terms (lexemes all))
has_lexemes source tokens all (ts, has, are) same = subst (HasTokens source) (same ts are (are_spelled has)) has

-- a source with a program is refused for want of memory alone
pub stop_is_memory : (source : Text) (e : ReadStop) {p : ProgramTerm} {places : List ℕ} → IsReadStop source e
    → IsProgramText source p places
    → e ≡ stops.Memory
stop_is_memory source (stops.Fault place kind) {p = p} {places = places} fault h = absurd (fault_apart source kind place p places fault h)
stop_is_memory source stops.Memory fault h = refl

module _ {R : Type 0} (term : R → ProgramTerm) (listed : R → List ℕ) (source : Text) where
  pub only_or_memory : (r : Result R ReadStop)
      → IfOk r (λ x. (p : ProgramTerm) (places : List ℕ) → IsProgramText source p places → (p ≡ term x) × (places ≡ listed x))
      → IfErr r (IsReadStop source) → (p : ProgramTerm) (places : List ℕ) → IsProgramText source p places
      → MatchResult r (λ x. (p ≡ term x) × (places ≡ listed x)) (λ e. e ≡ stops.Memory)
  only_or_memory (Ok x) only fault p places h = only p places h
  only_or_memory (Err e) only fault p places h = stop_is_memory source e fault h
