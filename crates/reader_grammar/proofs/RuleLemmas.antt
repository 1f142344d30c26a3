-- A production of a node: its first token, and its symbols.
use Rattle.std.proofs.Common.{◌≡◌, ℕ, ◌+◌, ◌≤◌, ◌<◌, max, List, [], ◌∷◌, ◌++◌, length, Err, refl, sym, ap, ◌∙◌, subst}
use Rattle.exact_reading.specs.declared.stop.ParseStop.TheVariants.{Fault}
use Rattle.exact_reading.specs.declared.stop.FaultKind.TheVariants.{Unexpected, TooNested}
use Rattle.exact_reading.specs.Reading.{IsWithinLevels, SharesPrefix, Answer, Right}
use Rattle.task_model.specs.Syntax.Lexemes.{Lexeme}
use Rattle.task_model.specs.Syntax.Grammar.{Form, Parse, tokens, levels}
use Rattle.reader_grammar.specs.Languages.{Of, EndsForm}
use Rattle.exact_reading.proofs.Sequences.{append_nil}
use Rattle.exact_reading.proofs.Productions.{refused_first}
use Rattle.exact_reading.proofs.Symbols.{Sym, tok, one, part, Values, Seq, Sequence, size, Led, led_right, led_deep}
use Rattle.reader_grammar.proofs.GrammarLemmas.{grammar, Some, head, begins_head, known_head, class_token}

-- the tokens of symbols with these parts
abbrev pub tokens_of : (s : List (Sym grammar)) → Values grammar s → List Lexeme
tokens_of [] vs = []
tokens_of (tok t ∷ s) vs = t ∷ tokens_of s vs
tokens_of (one c ∷ s) vs = class_token c vs.0 ∷ tokens_of s vs.1
tokens_of (part f ∷ []) vs = tokens vs.0
tokens_of (part f ∷ (x ∷ s)) vs = tokens vs.0 ++ tokens_of (x ∷ s) vs.1

-- the most levels of the parts, of those before too
abbrev pub most_of : (s : List (Sym grammar)) → Values grammar s → ℕ → ℕ
most_of [] vs m = m
most_of (tok t ∷ s) vs m = most_of s vs m
most_of (one c ∷ s) vs m = most_of s vs.1 m
most_of (part f ∷ s) vs m = most_of s vs.1 (max m (levels vs.0))

part_tokens : (f : Form) (s : List (Sym grammar)) (d : Parse f) (vs : Values grammar s)
    → tokens_of (part f ∷ s) (d, vs) ≡ tokens d ++ tokens_of s vs
part_tokens f [] d vs = sym (append_nil (tokens d))
part_tokens f (x ∷ s) d vs = refl

-- what a sequence stands for
pub record Built {f : Form} (up : ℕ) (s : List (Sym grammar)) (build : Values grammar s → Parse f) (m : ℕ) (ts : List Lexeme)
    (y : Parse f × ℕ) : Type 0 where
  pub parts : Values grammar s
  pub are : ts ≡ tokens_of s parts
  pub is : y ≡ (build parts, up + most_of s parts m)

pub built : {f : Form} (up : ℕ) (s : List (Sym grammar)) (build : Values grammar s → Parse f) (m : ℕ) (ts : List Lexeme) (y : Parse f × ℕ)
    → Seq grammar up s build m ts y → Built up s build m ts y
built up [] build m ts y h = record { parts = tt; are = h.none; is = h.same }
built up (tok t ∷ s) build m ts y h =
    let b = built up s build m h.back y h.next in
    record { parts = b.parts; are = h.split ∙ ap (λ l. l ++ h.back) h.first ∙ ap (λ l. t ∷ l) b.are; is = b.is }
built up (one c ∷ s) build m ts y h =
    let b = built up s (λ vs. build (h.value, vs)) m h.back y h.next in
    record {
      parts = (h.value, b.parts);
      are = h.split ∙ ap (λ l. l ++ h.back) h.first
          ∙ ap (λ l. class_token c h.value ∷ l) b.are;
      is = b.is;
    }
built up (part f ∷ s) build m ts y h =
    let b = built up s (λ vs. build (h.value.0, vs)) (max m h.value.1) h.back y h.next in
    record {
      parts = (h.value.0, b.parts);
      are = h.split ∙ ap (λ l. l ++ h.back) (sym h.first.0) ∙ ap (λ l. tokens h.value.0 ++ l) b.are
          ∙ sym (part_tokens f s h.value.0 b.parts);
      is = b.is ∙ ap (λ n. (build (h.value.0, b.parts), up + most_of s b.parts (max m n))) (sym h.first.1);
    }

pub build_up : {f : Form} (up : ℕ) (s : List (Sym grammar)) (build : Values grammar s → Parse f) (m : ℕ) (vs : Values grammar s)
    → Seq grammar up s build m (tokens_of s vs) (build vs, up + most_of s vs m)
build_up up [] build m vs = record { none = refl; same = refl }
build_up up (tok t ∷ s) build m vs = record {
  front = t ∷ [];
  back = tokens_of s vs;
  value = tt;
  split = refl;
  first = refl;
  next = build_up up s build m vs;
}
build_up up (one c ∷ s) build m vs = record {
  front = class_token c vs.0 ∷ [];
  back = tokens_of s vs.1;
  value = vs.0;
  split = refl;
  first = refl;
  next = build_up up s (λ ws. build (vs.0, ws)) m vs.1;
}
build_up up (part f ∷ s) build m vs = record {
  front = tokens vs.0;
  back = tokens_of s vs.1;
  value = (vs.0, levels vs.0);
  split = part_tokens f s vs.0 vs.1;
  first = (refl, refl);
  next = build_up up s (λ ws. build (vs.0, ws)) (max m (levels vs.0)) vs.1;
}

-- A production that begins with this token. It puts so many levels above its parts.
pub record Rule (f : Form) (up : ℕ) (t : Lexeme) : Type 0 where
  pub some : Some f
  pub symbols : List (Sym grammar)
  pub build : Values grammar symbols → Parse f
  pub tokens_are : (vs : Values grammar symbols) → tokens (build vs) ≡ t ∷ tokens_of symbols vs
  pub levels_are : (vs : Values grammar symbols) → levels (build vs) ≡ up + most_of symbols vs 0
  pub back : (d : Parse f) → head d ≡ t → (vs : Values grammar symbols) × (build vs ≡ d)

module _ {f : Form} {up : ℕ} {t : Lexeme} (R : Rule f up t) where
  rule_in : (a : List Lexeme) (y : Parse f × ℕ) → Led grammar up t R.symbols R.build 0 a y → Of f a y
  rule_in a y h =
      let b = built up R.symbols R.build 0 h.back y h.next in
      let e0 : y.0 ≡ R.build b.parts = ap (λ q. q.0) b.is in
      let e1 : y.1 ≡ up + most_of R.symbols b.parts 0 = ap (λ q. q.1) b.is in (
        ap (λ q. tokens q) e0 ∙ R.tokens_are b.parts ∙ sym (h.split ∙ ap (λ l. l ++ h.back) h.first ∙ ap (λ l. t ∷ l) b.are),
        ap (λ q. levels q) e0 ∙ R.levels_are b.parts ∙ sym e1,
      )

  rule_out : (s a : List Lexeme) (y : Parse f × ℕ) (z : List Lexeme) → Of f a y → SharesPrefix [] (t ∷ s) (a ++ z)
      → Led grammar up t R.symbols R.build 0 a y
  rule_out s a y z h b =
      let (vs, e) = R.back y.0 (known_head y.0 R.some t s a z h.0 b) in
      let are : a ≡ t ∷ tokens_of R.symbols vs = sym h.0 ∙ ap (λ q. tokens q) (sym e) ∙ R.tokens_are vs in
      let same : (R.build vs, up + most_of R.symbols vs 0) ≡ y =
      ap (λ n. (R.build vs, n)) (sym (R.levels_are vs)) ∙ ap (λ q. (q, levels q)) e ∙ ap (λ n. (y.0, n)) h.1 in
      record {
        front = t ∷ [];
        back = tokens_of R.symbols vs;
        value = tt;
        split = are;
        first = refl;
        next = subst (λ q. Seq grammar up R.symbols R.build 0 (tokens_of R.symbols vs) q) same (build_up up R.symbols R.build 0 vs);
      }

  -- the token is there, and so is room for the production
  pub by_rule : {room : ℕ} {ts rest : List Lexeme} {r : Answer Lexeme (Parse f × ℕ)} → ts ≡ t ∷ rest → size grammar up R.symbols 0 ≤ room
      → Right (Sequence grammar up R.symbols R.build 0) (IsWithinLevels room) (EndsForm f) rest r
      → Right (Of f) (IsWithinLevels room) (EndsForm f) ts r
  by_rule {rest = rest} e le right = led_right grammar up (Of f) rule_in (rule_out rest) e le right

  -- the token is there, and no room for the production
  pub too_deep : {room : ℕ} {ts rest : List Lexeme} → ts ≡ t ∷ rest → room < size grammar up R.symbols 0
      → Right (Of f) (IsWithinLevels room) (EndsForm f) ts (Err (Fault TooNested (length ts)))
  too_deep {rest = rest} e lt = led_deep grammar up R.symbols R.build 0 (Of f) rule_in (rule_out rest) e lt

-- what was seen in front stands first
pub seen_first : {T : Type 0} (front rest s : List T) → SharesPrefix front rest s → (w : List T) × (s ≡ front ++ w)
seen_first front [] s e = ([], e ∙ sym (append_nil front))
seen_first front (t ∷ rest) s (y, e) = (t ∷ y, e)

-- the tokens begin as no parse does
pub no_parse : {f : Form} → Some f → (ts : List Lexeme) → ((d : Parse f) (s : List Lexeme) → ts ≡ head d ∷ s → ⊥) → {room : ℕ}
    → Right (Of f) (IsWithinLevels room) (EndsForm f) ts (Err (Fault Unexpected (length ts)))
no_parse {f} some ts none = refused_first (Of f) ts (λ a y z h _ b. let (s, is) = begins_head y.0 some a z ts h.0 b in none y.0 s is)
