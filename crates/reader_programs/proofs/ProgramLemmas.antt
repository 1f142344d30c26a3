-- A program: definitions, as many as come.
use Rattle.std.proofs.Common.{◌≡◌, ℕ, ◌≤◌, max, List, [], ◌∷◌, ◌++◌, Ok, Err, refl, sym, ap, ◌∙◌, subst, arith, append_assoc}
use Rattle.exact_reading.specs.declared.stop.ParseStop.{ParseStop}
use Rattle.exact_reading.specs.Reading.{Language, IsWithinLevels, SharesPrefix, Answer, Right}
use Rattle.exact_reading.proofs.Sequences.{Bind, append_nil}
use Rattle.exact_reading.proofs.Productions.{Least, least_alive, least_ever, bind_right, bind_stop, by_production, same_language}
use Rattle.task_model.specs.Syntax.Lexemes.{Lexeme, keyword}
use Rattle.task_model.specs.Syntax.Grammar.{program, definition, Parse, no_definitions, more_definitions, function, task_named, tokens, levels}
use Rattle.reader_grammar.specs.Languages.{Of, EndsForm}
use Rattle.reader_grammar.proofs.GrammarLemmas.{stops_within}
use Rattle.reader_programs.specs.DefinitionKeywords.{word_of}
use Rattle.reader_programs.specs.declared.definition_words.DefinitionWord.{DefinitionWord}
use Rattle.reader_programs.specs.declared.definition_words.DefinitionWord.TheVariants as heads

-- the tokens of definitions
abbrev pub all_tokens : List (Parse definition) → List Lexeme
all_tokens [] = []
all_tokens (d ∷ ds) = tokens d ++ all_tokens ds

-- a program, and definitions behind it
abbrev pub grown : Parse program → List (Parse definition) → Parse program
grown x [] = x
grown x (d ∷ ds) = grown (more_definitions x d) ds

abbrev pub grown_levels : ℕ → List (Parse definition) → ℕ
grown_levels n [] = n
grown_levels n (d ∷ ds) = grown_levels (max n (levels d)) ds

-- what stands behind a program
pub record Tail (x : Parse program × ℕ) (ts : List Lexeme) (y : Parse program × ℕ) : Type 0 where
  pub definitions : List (Parse definition)
  pub are : ts ≡ all_tokens definitions
  pub is : y ≡ (grown x.0 definitions, grown_levels x.1 definitions)

tokens_grown : (x : Parse program) (ds : List (Parse definition)) → tokens (grown x ds) ≡ tokens x ++ all_tokens ds
tokens_grown x [] = sym (append_nil (tokens x))
tokens_grown x (d ∷ ds) = tokens_grown (more_definitions x d) ds ∙ append_assoc (tokens x) (tokens d) (all_tokens ds)

levels_grown : (x : Parse program) (ds : List (Parse definition)) → levels (grown x ds) ≡ grown_levels (levels x) ds
levels_grown x [] = refl
levels_grown x (d ∷ ds) = levels_grown (more_definitions x d) ds

not_fewer : (n : ℕ) (ds : List (Parse definition)) → n ≤ grown_levels n ds
not_fewer n [] = omega arith
not_fewer n (d ∷ ds) = let h = not_fewer (max n (levels d)) ds in omega (arith, h)

ungrown : (x : Parse program) (ds : List (Parse definition)) → (es : List (Parse definition)) × (grown no_definitions es ≡ grown x ds)
ungrown no_definitions ds = (ds, refl)
ungrown (more_definitions x d) ds = ungrown x (d ∷ ds)

above_tail : (x : Parse program × ℕ) (b : List Lexeme) (y : Parse program × ℕ) → Tail x b y → x.1 ≤ y.1
above_tail x b y h = let e : y.1 ≡ grown_levels x.1 h.definitions = ap (λ q. q.1) h.is in let n = not_fewer x.1 h.definitions in
    omega (arith, e, n)

least_tail : (x : Parse program × ℕ) → Least x.1 (Tail x)
least_tail x = record {
  text = [];
  result = x;
  here = record { definitions = []; are = refl; is = refl };
  few = omega arith;
  above = above_tail x;
}

-- a definition begins with its keyword
pub begins_word : (d : Parse definition) → (k : DefinitionWord) × (p : ℕ) × (w : List Lexeme) × (tokens d ≡ keyword (word_of k) p ∷ w)
begins_word (function p x q ps r b s e) = (heads.Function, p, _, refl)
begins_word (task_named p x q ps r b s t) = (heads.Task, p, _, refl)

word_past : (k : DefinitionWord) (p : ℕ) (z : List Lexeme) → EndsForm definition (keyword (word_of k) p ∷ z)
word_past heads.Function p z = refl
word_past heads.Task p z = refl

word_within : (k : DefinitionWord) (p : ℕ) (z : List Lexeme) → EndsForm program (keyword (word_of k) p ∷ z) → ⊥
word_within heads.Function p z h = absurd cc
word_within heads.Task p z h = absurd cc

tail_follow : (x : Parse program × ℕ) (b : List Lexeme) (y : Parse program × ℕ) (z : List Lexeme) → Tail x b y → EndsForm program z
    → EndsForm definition (b ++ z)
tail_follow x b y z h hz = go h.definitions h.are
  where
    go : (ds : List (Parse definition)) → b ≡ all_tokens ds → EndsForm definition (b ++ z)
    go [] e = subst (λ l. EndsForm definition (l ++ z)) (sym e) (stops_within definition program (omega arith) z hz)
    go (d ∷ ds) e = let (k, p, w, is) = begins_word d in
        subst (λ l. EndsForm definition (l ++ z)) (sym (e ∙ ap (λ l. l ++ all_tokens ds) is))
        (word_past k p ((w ++ all_tokens ds) ++ z))

-- nothing was read yet
pub start_right : {room : ℕ} {ts : List Lexeme} {r : Answer Lexeme (Parse program × ℕ)}
    → Right (Tail (no_definitions, 0)) (IsWithinLevels room) (EndsForm program) ts r
    → Right (Of program) (IsWithinLevels room) (EndsForm program) ts r
start_right right = same_language (Tail (no_definitions, 0)) (Of program) into out right
  where
    into : (a : List Lexeme) (y : Parse program × ℕ) → Tail (no_definitions, 0) a y → Of program a y
    into a y h =
        let e0 : y.0 ≡ grown no_definitions h.definitions = ap (λ q. q.0) h.is in
        let e1 : y.1 ≡ grown_levels 0 h.definitions = ap (λ q. q.1) h.is in (
          ap (λ q. tokens q) e0 ∙ tokens_grown no_definitions h.definitions ∙ sym h.are,
          ap (λ q. levels q) e0
              ∙ levels_grown no_definitions h.definitions ∙ sym e1,
        )

    out : (a : List Lexeme) (y : Parse program × ℕ) → Of program a y → Tail (no_definitions, 0) a y
    out a y h =
        let (ds, e) = ungrown y.0 [] in
        record {
          definitions = ds;
          are = sym h.0 ∙ ap (λ q. tokens q) (sym e) ∙ tokens_grown no_definitions ds;
          is = ap (λ n. (y.0, n)) (sym h.1) ∙ ap (λ q. (q, levels q)) (sym e) ∙ ap (λ n. (grown no_definitions ds, n))
              (levels_grown no_definitions ds);
        }

-- one more definition
abbrev pub Grow : Parse program × ℕ → Parse definition × ℕ → Parse program × ℕ
Grow x d = (more_definitions x.0 d.0, max x.1 d.1)

abbrev More : Parse program × ℕ → Language Lexeme (Parse program × ℕ)
More x = Bind (Of definition) (λ d. Tail (Grow x d))

more_in : (x : Parse program × ℕ) (a : List Lexeme) (y : Parse program × ℕ) → More x a y → Tail x a y
more_in x a y h = record {
  definitions = h.value.0 ∷ h.next.definitions;
  are = h.split ∙ ap (λ l. l ++ h.back) (sym h.first.0) ∙ ap (λ l. tokens h.value.0 ++ l) h.next.are;
  is = h.next.is ∙ ap (λ n. (grown (more_definitions x.0 h.value.0) h.next.definitions, grown_levels (max x.1 n) h.next.definitions))
      (sym h.first.1);
}

more_out : (x : Parse program × ℕ) (k : DefinitionWord) (p : ℕ) (rest a : List Lexeme) (y : Parse program × ℕ) (z : List Lexeme)
    → Tail x a y → EndsForm program z → SharesPrefix [] (keyword (word_of k) p ∷ rest) (a ++ z) → More x a y
more_out x k p rest a y z h hz b = go h.definitions h.are h.is
  where
    go : (ds : List (Parse definition)) → a ≡ all_tokens ds → y ≡ (grown x.0 ds, grown_levels x.1 ds) → More x a y
    go [] e v =
        let (w, b') = b in
        let same : z ≡ keyword (word_of k) p ∷ w = ap (λ l. l ++ z) (sym e) ∙ b' in
        absurd (word_within k p w (subst (EndsForm program) same hz))
    go (d ∷ ds) e v = record {
      front = tokens d;
      back = all_tokens ds;
      value = (d, levels d);
      split = e;
      first = (refl, refl);
      next = record {
        definitions = ds;
        are = refl;
        is = v;
      };
    }

module _ {room : ℕ} {x : Parse program × ℕ} {ts rest : List Lexeme} (k : DefinitionWord) (p : ℕ) (e : ts ≡ keyword (word_of k) p ∷ rest)
    (le : x.1 ≤ room) where
  onto : {r : Answer Lexeme (Parse program × ℕ)} → Right (More x) (IsWithinLevels room) (EndsForm program) ts r
      → Right (Tail x) (IsWithinLevels room) (EndsForm program) ts r
  onto right = by_production (More x) (Tail x) (more_in x)
      (λ a y z h hz b. more_out x k p rest a y z h hz (subst (λ l. SharesPrefix [] l (a ++ z)) e b)) right

  pub more_stop : {s : ParseStop} → Right (Of definition) (IsWithinLevels room) (EndsForm definition) ts (Err s)
      → Right (Tail x) (IsWithinLevels room) (EndsForm program) ts (Err s)
  more_stop right =
      onto (bind_stop {B = λ d. Tail (Grow x d)} (λ d b y z h hz. tail_follow (Grow x d) b y z h hz)
      (λ d b y h fits. let n = above_tail (Grow x d) b y h in omega (arith, n, fits))
      (λ a d h fits. least_alive (max x.1 d.1) room (Tail (Grow x d)) (omega (arith, fits, le)) (least_tail (Grow x d)))
      (λ a d h. least_ever (max x.1 d.1) (Tail (Grow x d)) (least_tail (Grow x d))) right)

  pub more_found : {d : Parse definition × ℕ} {behind : List Lexeme} {r : Answer Lexeme (Parse program × ℕ)}
      → Right (Of definition) (IsWithinLevels room) (EndsForm definition) ts (Ok (d, behind))
      → Right (Tail (Grow x d)) (IsWithinLevels room) (EndsForm program) behind r
      → Right (Tail x) (IsWithinLevels room) (EndsForm program) ts r
  more_found {d = d} found right =
      let fits = found.by.fits in
      onto (bind_right {B = λ d. Tail (Grow x d)} (λ d b y z h hz. tail_follow (Grow x d) b y z h hz)
      (least_alive (max x.1 d.1) room (Tail (Grow x d)) (omega (arith, fits, le)) (least_tail (Grow x d))) found right)

-- no definition comes
pub end : {room : ℕ} {x : Parse program × ℕ} {ts : List Lexeme}
    → ((k : DefinitionWord) (p : ℕ) (rest : List Lexeme) → ts ≡ keyword (word_of k) p ∷ rest → ⊥) → x.1 ≤ room
    → Right (Tail x) (IsWithinLevels room) (EndsForm program) ts (Ok (x, ts))
end {x = x} {ts = ts} none le = record {
  by = record {
    front = [];
    split = refl;
    found = record {
      definitions = [];
      are = refl;
      is = refl;
    };
    fits = le;
    only = λ a y z h _ b. only a y z ts none h.definitions h.are h.is b;
  };
}
  where
    only : (a : List Lexeme) (y : Parse program × ℕ) (z ts : List Lexeme)
        → ((k : DefinitionWord) (p : ℕ) (rest : List Lexeme) → ts ≡ keyword (word_of k) p ∷ rest → ⊥) → (ds : List (Parse definition))
        → a ≡ all_tokens ds → y ≡ (grown x.0 ds, grown_levels x.1 ds) → SharesPrefix [] ts (a ++ z) → (a ≡ []) × (y ≡ x)
    only a y z ts none [] e v b = (e, v)
    only a y z [] none (d ∷ ds) e v b =
        let (k, p, w, is) = begins_word d in
        let same : keyword (word_of k) p ∷ ((w ++ all_tokens ds) ++ z) ≡ [] = ap (λ l. l ++ z) (sym (e ∙ ap (λ l. l ++ all_tokens ds) is))
        ∙ b
        in
        absurd cc
    only a y z (t ∷ ts) none (d ∷ ds) e v (u, b) =
        let (k, p, w, is) = begins_word d in
        let same : keyword (word_of k) p ∷ ((w ++ all_tokens ds) ++ z) ≡ t
        ∷ u = ap (λ l. l ++ z) (sym (e ∙ ap (λ l. l ++ all_tokens ds) is))
        ∙ b in
        let t_is : t ≡ keyword (word_of k) p = cc in
        absurd (none k p ts (ap (λ q. q ∷ ts) t_is))
