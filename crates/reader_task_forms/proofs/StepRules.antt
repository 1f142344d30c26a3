-- Tasks that begin with no keyword of their own: a choice, perhaps with a step, and a change of a place, which begins with a name too.
use Rattle.std.proofs.Common.{◌⊎◌, inl, inr, ◌≡◌, ℕ, suc, ◌+◌, ◌≤◌, ◌<◌, max, true, false, List, [], ◌∷◌, ◌++◌, length, Err, refl, sym, ap, ◌∙◌, subst, arith}
use Rattle.task_model.specs.Terms.Text.{Text}
use Rattle.task_model.specs.declared.keyword.Keyword.TheVariants as words
use Rattle.task_model.specs.declared.symbol.Symbol.{Symbol}
use Rattle.task_model.specs.declared.symbol.Symbol.TheVariants as signs
use Rattle.exact_reading.specs.declared.stop.ParseStop.TheVariants.{Fault}
use Rattle.exact_reading.specs.declared.stop.FaultKind.TheVariants.{TooNested}
use Rattle.exact_reading.specs.Reading.{Language, IsWithinLevels, SharesPrefix, Answer, Right}
use Rattle.exact_reading.proofs.Sequences.{begins_shorter}
use Rattle.exact_reading.proofs.Productions.{refused_deep, least_alive, bind_right, tok_right, by_production}
use Rattle.exact_reading.proofs.Peeking.{peeked}
use Rattle.exact_reading.proofs.Symbols.{Sym, one, part, Values, Led, Seq, Sequence, least_seq, open_up}
use Rattle.task_model.specs.Syntax.Lexemes.{Lexeme, keyword, symbol, name}
use Rattle.task_model.specs.Syntax.Grammar.{task, task_atom, expression, series, chain, choice, enclosed, arguments, Parse, task_let, task_if, task_case, task_new, task_put, task_plain, task_then, task_next, task_call, single, joined, empty, full, tokens, levels}
use Rattle.reader_grammar.specs.Languages.{Of, EndsForm, stops_at, rank, reach}
use Rattle.reader_grammar.proofs.GrammarLemmas.{grammar, head, head_first, known_head, begins_head, least_levels, smallest, a_sign, a_name}
use Rattle.reader_grammar.proofs.RuleLemmas.{tokens_of, most_of, built, build_up}
use Rattle.reader_grammar.proofs.OptionalLemmas.{Optional}
use Rattle.reader_tasks.specs.declared.step.Step.{Step}
use Rattle.reader_tasks.specs.declared.step.Step.TheVariants.{ByItself, ByUser}
use Rattle.reader_tasks.specs.declared.binding.Binding.{Binding}
use Rattle.reader_tasks.specs.declared.binding.Binding.TheVariants.{Let, New}
use Rattle.reader_tasks.specs.TaskOperators.{step_symbol, binding_keyword}
use Rattle.reader_tasks.specs.Tasks.{IsStepping, Stepping}

-- ---- a choice, and then perhaps a step
-- a step's symbol, and its place
abbrev pub Lead : Type 0
Lead = Step × ℕ

abbrev pub lead : Lead → Lexeme
lead l = symbol (step_symbol l.0) l.1

told_step : Symbol → Step
told_step signs.UserStep = ByUser
told_step s = ByItself

step_told : (o : Step) → told_step (step_symbol o) ≡ o
unfolding told_step
step_told ByItself = refl
step_told ByUser = refl

pub lead_apart : (l m : Lead) → lead l ≡ lead m → l ≡ m
lead_apart l m e =
    let same : step_symbol l.0 ≡ step_symbol m.0 = cc in
    let place_is : l.1 ≡ m.1 = cc in
    ap (λ o. (o, l.1)) (sym (step_told l.0) ∙ ap told_step same ∙ step_told m.0) ∙ ap (λ p. (m.0, p)) place_is

pub lead_past : (l : Lead) → stops_at (reach (series choice)) (rank (lead l)) ≡ true
lead_past (ByItself, p) = refl
lead_past (ByUser, p) = refl

pub lead_goes_on : (l : Lead) → stops_at (reach task) (rank (lead l)) ≡ false
lead_goes_on (ByItself, p) = refl
lead_goes_on (ByUser, p) = refl

abbrev pub step_symbols : List (Sym grammar)
step_symbols = one a_name ∷ one (a_sign signs.Dot) ∷ part task ∷ []

-- the parse of a step
abbrev pub step_parse : Parse (series choice) → Step → ℕ → Text → ℕ → ℕ → Parse task → Parse task
step_parse t ByItself p x q r u = task_then t p x q r u
step_parse t ByUser p x q r u = task_next t p x q r u

abbrev pub step_build : Parse (series choice) → Lead → Values grammar step_symbols → Parse task
step_build t l vs = step_parse t l.0 l.1 vs.0.0 vs.0.1 vs.1.0 vs.1.1.0

pub step_stepping : (t : Parse (series choice)) (l : Lead) (vs : Values grammar step_symbols) → IsStepping (step_build t l vs)
step_stepping t (ByItself, p) vs = tt
step_stepping t (ByUser, p) vs = tt

pub step_tokens : (t : Parse (series choice)) (l : Lead) (vs : Values grammar step_symbols) → tokens (step_build t l vs) ≡ tokens t
    ++ (lead l ∷ tokens_of step_symbols vs)
step_tokens t (ByItself, p) vs = refl
step_tokens t (ByUser, p) vs = refl

pub step_levels : (t : Parse (series choice)) (l : Lead) (vs : Values grammar step_symbols) → levels (step_build t l vs) ≡ 1
    + most_of step_symbols vs (levels t)
step_levels t (ByItself, p) vs = omega arith
step_levels t (ByUser, p) vs = omega arith

pub step_cases : (d : Parse task) → IsStepping d
    → ((e : Parse (series choice)) × (task_plain e ≡ d))
    ⊎ ((e : Parse (series choice)) × (l : Lead) × (vs : Values grammar step_symbols) × (step_build e l vs ≡ d))
step_cases (task_plain t) s = inl (t, refl)
step_cases (task_then t p x q r u) s = inr (t, (ByItself, p), ((x, q), (r, (u, tt))), refl)
step_cases (task_next t p x q r u) s = inr (t, (ByUser, p), ((x, q), (r, (u, tt))), refl)
step_cases (task_let p x q r e i t) s = absurd s
step_cases (task_if p e q t r u) s = absurd s
step_cases (task_case o e q r i a t b x l j y k c u) s = absurd s
step_cases (task_new p x q r e i t) s = absurd s
step_cases (task_put x p q e r t) s = absurd s

abbrev pub steps : Optional task (series choice)
steps = record {
  Among = IsStepping;
  bare = task_plain;
  bare_among = λ d. tt;
  bare_tokens = λ d. refl;
  bare_levels = λ d. refl;
  Lead = Lead;
  lead = lead;
  symbols = λ l. step_symbols;
  build = step_build;
  build_among = step_stepping;
  tokens_are = step_tokens;
  levels_are = step_levels;
  cases = step_cases;
  reaches = omega arith;
  past = lead_past;
  goes_on = lead_goes_on;
  apart = lead_apart;
}

-- ---- the tokens begin with none of the words of tasks, and with no name
module _ (ts : List Lexeme) (no_binding : (b : Binding) (p : ℕ) (s : List Lexeme) → ts ≡ keyword (binding_keyword b) p ∷ s → ⊥)
    (no_if : (p : ℕ) (s : List Lexeme) → ts ≡ keyword words.If p ∷ s → ⊥)
    (no_case : (p : ℕ) (s : List Lexeme) → ts ≡ keyword words.Case p ∷ s → ⊥) (no_name : (x : Text) (p : ℕ) (s : List Lexeme)
    → ts ≡ name x p ∷ s
    → ⊥) where
  stepping : (d : Parse task) (s : List Lexeme) → ts ≡ head d ∷ s → IsStepping d
  stepping (task_let p x q r e i t) s h = no_binding Let p s h
  stepping (task_if p e q t r u) s h = no_if p s h
  stepping (task_case o e q r i a t b x l j y k c u) s h = no_case o s h
  stepping (task_new p x q r e i t) s h = no_binding New p s h
  stepping (task_put x p q e r t) s h = no_name x p s h
  stepping (task_plain t) s h = tt
  stepping (task_then t p x q r u) s h = tt
  stepping (task_next t p x q r u) s h = tt

  pub by_steps : {room : ℕ} {r : Answer Lexeme (Parse task × ℕ)} → Right Stepping (IsWithinLevels room) (EndsForm task) ts r
      → Right (Of task) (IsWithinLevels room) (EndsForm task) ts r
  by_steps right = by_production Stepping (Of task) (λ a y h. h.0) (λ a y z h _ b. let (s, is) = begins_head y.0 tt a z ts h.0 b in
      (h, stepping y.0 s is)) right

-- ---- a name stands first
module _ (x : Text) (p : ℕ) where
  -- the least task that begins so
  abbrev called : Parse task
  called = task_plain (single choice (single chain (task_call x p (empty arguments 0 0))))

  abbrev pub put_symbols : List (Sym grammar)
  put_symbols = one (a_sign signs.Assign) ∷ part expression ∷ one (a_sign signs.Semicolon) ∷ part task ∷ []

  abbrev pub put_build : Values grammar put_symbols → Parse task
  put_build vs = task_put x p vs.0 vs.1.0 vs.1.1.0 vs.1.1.1.0

  abbrev Put : Language Lexeme (Parse task × ℕ)
  Put = Led grammar 1 (name x p) put_symbols put_build 0

  put_in : (a : List Lexeme) (y : Parse task × ℕ) → Put a y → Of task a y
  put_in a y h =
      let b = built 1 put_symbols put_build 0 h.back y h.next in
      let e0 : y.0 ≡ put_build b.parts = ap (λ q. q.0) b.is in
      let e1 : y.1 ≡ 1 + max (max 0 (levels b.parts.1.0)) (levels b.parts.1.1.1.0) = ap (λ q. q.1) b.is in
      let l : suc (max (levels b.parts.1.0) (levels b.parts.1.1.1.0)) ≡ y.1 = omega (arith, e1) in
      (ap (λ q. tokens q) e0 ∙ sym (h.split ∙ ap (λ l. l ++ h.back) h.first ∙ ap (λ l. name x p ∷ l) b.are), ap (λ q. levels q) e0 ∙ l)

  put_is : (vs : Values grammar put_symbols) (a : List Lexeme) (n : ℕ) → tokens (put_build vs) ≡ a → levels (put_build vs) ≡ n
      → Put a (put_build vs, n)
  put_is vs a n t l =
      let m : 1 + max (max 0 (levels vs.1.0)) (levels vs.1.1.1.0) ≡ n = omega (arith, l) in
      record {
        front = name x p ∷ [];
        back = tokens_of put_symbols vs;
        value = tt;
        split = sym t;
        first = refl;
        next = subst (λ k. Seq grammar 1 put_symbols put_build 0 (tokens_of put_symbols vs) (put_build vs, k)) m
            (build_up 1 put_symbols put_build 0 vs);
      }

  -- what begins with this name is such a change, or begins as a choice does
  pub by_name : (P : Parse task → Type 0) → ((vs : Values grammar put_symbols) → P (put_build vs)) → ((d : Parse task) → IsStepping d → P d)
      → (d : Parse task) → head d ≡ name x p → P d
  by_name P put other (task_put y q r e s t) h = let e0 : x ≡ y = cc in let e1 : p ≡ q = cc in
      subst (λ n. P (task_put y n r e s t)) e1 (subst (λ n. P (task_put n p r e s t)) e0 (put (r, (e, (s, (t, tt))))))
  by_name P put other (task_plain t) h = other (task_plain t) tt
  by_name P put other (task_then t q y r s u) h = other (task_then t q y r s u) tt
  by_name P put other (task_next t q y r s u) h = other (task_next t q y r s u) tt
  by_name P put other (task_let q y r s e i t) h = absurd cc
  by_name P put other (task_if q e r t s u) h = absurd cc
  by_name P put other (task_case o e q r i a t b y l j z k c u) h = absurd cc
  by_name P put other (task_new q y r s e i t) h = absurd cc

  -- ---- a choice that begins with this name goes on with a parenthesis
  abbrev Opens : List Lexeme → Type 0
  Opens ts = (q : ℕ) × (w : List Lexeme) × (ts ≡ name x p ∷ (symbol signs.Open q ∷ w))

  opens_more : {ts : List Lexeme} (more : List Lexeme) → Opens ts → Opens (ts ++ more)
  opens_more more (q, w, e) = (q, w ++ more, ap (λ l. l ++ more) e)

  enclosed_open : (d : Parse (enclosed arguments)) → (q : ℕ) × (w : List Lexeme) × (tokens d ≡ symbol signs.Open q ∷ w)
  enclosed_open (empty l q r) = (q, _, refl)
  enclosed_open (full l q es r) = (q, _, refl)

  atom_opens : (d : Parse task_atom) → head d ≡ name x p → Opens (tokens d)
  atom_opens (task_call y q es) h =
      let (o, w, e) = enclosed_open es in
      let y_is : y ≡ x = cc in
      let q_is : q ≡ p = cc in (
        o,
        w,
        ap (λ l. name y q ∷ l) e ∙ ap (λ n. name n q ∷ (symbol signs.Open o ∷ w)) y_is
            ∙ ap (λ n. name x n ∷ (symbol signs.Open o ∷ w)) q_is,
      )
  atom_opens d h = absurd cc

  chain_opens : (d : Parse (series chain)) → head d ≡ name x p → Opens (tokens d)
  chain_opens (single s a) h = atom_opens a h
  chain_opens (joined s d o q b) h = opens_more _ (chain_opens d h)

  choice_opens : (d : Parse (series choice)) → head d ≡ name x p → Opens (tokens d)
  choice_opens (single s a) h = chain_opens a h
  choice_opens (joined s d o q b) h = opens_more _ (choice_opens d h)

  step_opens : (d : Parse task) → IsStepping d → head d ≡ name x p → Opens (tokens d)
  step_opens (task_plain t) s h = choice_opens t h
  step_opens (task_then t q y r i u) s h = opens_more _ (choice_opens t h)
  step_opens (task_next t q y r i u) s h = opens_more _ (choice_opens t h)
  step_opens d s h = absurd s

  -- ---- `:=` follows
  put_out : (q : ℕ) (s a : List Lexeme) (y : Parse task × ℕ) (z : List Lexeme) → Of task a y
      → SharesPrefix (name x p ∷ []) (symbol signs.Assign q ∷ s) (a ++ z) → Put a y
  put_out q s a y z h b =
      let is = known_head y.0 tt (name x p) (symbol signs.Assign q ∷ s) a z h.0
      (begins_shorter [] (name x p ∷ []) (symbol signs.Assign q ∷ s) (a ++ z) b) in
      by_name (λ d. head d ≡ name x p → tokens d ≡ a → levels d ≡ y.1 → Put a (d, y.1)) (λ vs _ t l. put_is vs a y.1 t l) other y.0 is is
      h.0 h.1
    where
      other : (d : Parse task) → IsStepping d → head d ≡ name x p → tokens d ≡ a → levels d ≡ y.1 → Put a (d, y.1)
      other d st is t l =
          let (o, w, e) = step_opens d st is in
          let (v, e') = b in
          let same : name x p ∷ (symbol signs.Open o ∷ (w ++ z)) ≡ name x p ∷ (symbol signs.Assign q ∷ v) = ap (λ k. k ++ z) (sym e ∙ t)
          ∙ e' in
          absurd cc

  pub put_right : {room : ℕ} {q : ℕ} {ts s : List Lexeme} {r : Answer Lexeme (Parse task × ℕ)} → ts ≡ symbol signs.Assign q ∷ s → 2 ≤ room
      → Right (Sequence grammar 1 put_symbols put_build 0) (IsWithinLevels room) (EndsForm task) ts r
      → Right (Of task) (IsWithinLevels room) (EndsForm task) (name x p ∷ ts) r
  put_right {room = room} {q = q} {ts = ts} {s = s} e le right =
      let few = (least_seq grammar 1 put_symbols put_build 0).few in
      peeked Put (Of task) (IsWithinLevels room) (EndsForm task) (name x p) ts put_in
      (λ a y z h _ b. put_out q s a y z h (subst (λ l. SharesPrefix (name x p ∷ []) l (a ++ z)) e b))
      (λ y h. let none = h.split in let first = h.first in let same : [] ≡ name x p ∷ h.back = none ∙ ap (λ l. l ++ h.back) first in cc) (
        (least_seq grammar 1 put_symbols put_build 0).text,
        (least_seq grammar 1 put_symbols put_build 0).result,
        record {
          front = name x p ∷ [];
          back = (least_seq grammar 1 put_symbols put_build 0).text;
          value = tt;
          split = refl;
          first = refl;
          next = (least_seq grammar 1 put_symbols put_build 0).here;
        },
        omega (arith, few, le),
      ) tt
      (bind_right (λ _ _ _ _ _ _. tt)
      (least_alive 2 room (Seq grammar 1 put_symbols put_build 0) le (least_seq grammar 1 put_symbols put_build 0))
      (tok_right (name x p) refl) (open_up grammar 1 right))

  -- `:=` follows, and there is room for a call, but none for a change
  pub put_deep : {room : ℕ} {q : ℕ} {ts s : List Lexeme} → ts ≡ symbol signs.Assign q ∷ s → 1 ≤ room → room < 2
      → Right (Of task) (IsWithinLevels room) (EndsForm task) (name x p ∷ ts) (Err (Fault TooNested (length ts)))
  put_deep {room = room} {q = q} {ts = ts} {s = s} e le lt = record {
    by = record {
      front = name x p ∷ [];
      back = ts;
      split = refl;
      place = refl;
      alive = inr (tokens (empty arguments 0 0), (called, 1), (refl, refl), le);
      faulty = (
        dead,
        (symbol signs.Assign q, s, e, (_, (put_build (q, (smallest expression, (0, (smallest task, tt)))), 2), (refl, refl), tt)),
      );
    };
  }
    where
      dead : (a : List Lexeme) (y : Parse task × ℕ) (z : List Lexeme) → Of task a y → y.1 ≤ room → EndsForm task z
          → SharesPrefix (name x p ∷ []) ts (a ++ z) → ⊥
      dead a y z h fits hz b =
          let k = put_out q s a y z h (subst (λ l. SharesPrefix (name x p ∷ []) l (a ++ z)) e b) in
          let n = (least_seq grammar 1 put_symbols put_build 0).above k.back y k.next in
          omega (arith, n, fits, lt)

  -- no `:=` follows
  pub by_named_steps : {room : ℕ} {ts : List Lexeme} {r : Answer Lexeme (Parse task × ℕ)}
      → ((q : ℕ) (s : List Lexeme) → ts ≡ symbol signs.Assign q ∷ s → ⊥) → 1 ≤ room
      → Right Stepping (IsWithinLevels room) (EndsForm task) (name x p ∷ ts) r
      → Right (Of task) (IsWithinLevels room) (EndsForm task) (name x p ∷ ts) r
  by_named_steps {room = room} {ts = ts} none le right =
      peeked Stepping (Of task) (IsWithinLevels room) (EndsForm task) (name x p) ts (λ a y h. h.0)
      (λ a y z h _ b. (h, out ts none a y z h b))
      (λ y h. let (w, e) = head_first y.0 tt in let same : head y.0 ∷ w ≡ [] = sym e ∙ h.0.0 in cc)
      (tokens (empty arguments 0 0), (called, 1), ((refl, refl), tt), le) tt right
    where
      out : (ts : List Lexeme) → ((q : ℕ) (s : List Lexeme) → ts ≡ symbol signs.Assign q ∷ s → ⊥)
          → (a : List Lexeme) (y : Parse task × ℕ) (z : List Lexeme) → Of task a y → SharesPrefix (name x p ∷ []) ts (a ++ z)
          → IsStepping y.0
      out ts none a y z h b =
          by_name (λ d. tokens d ≡ a → IsStepping d)
          (λ vs t. absurd (no_put ts none vs (subst (λ l. SharesPrefix (name x p ∷ []) ts (l ++ z)) (sym t) b))) (λ d st t. st) y.0
          (known_head y.0 tt (name x p) ts a z h.0 (begins_shorter [] (name x p ∷ []) ts (a ++ z) b)) h.0
        where
          no_put : (ts : List Lexeme) → ((q : ℕ) (s : List Lexeme) → ts ≡ symbol signs.Assign q ∷ s → ⊥) → (vs : Values grammar put_symbols)
              → SharesPrefix (name x p ∷ []) ts (tokens (put_build vs) ++ z) → ⊥
          no_put [] none vs b = cc
          no_put (t ∷ ts) none vs (w, b) = let t_is : t ≡ symbol signs.Assign vs.0 = cc in none vs.0 ts (ap (λ l. l ∷ ts) t_is)

  -- there is no room for anything
  pub name_deep : {room : ℕ} {ts s : List Lexeme} → ts ≡ name x p ∷ s → room < 1
      → Right (Of task) (IsWithinLevels room) (EndsForm task) ts (Err (Fault TooNested (length ts)))
  name_deep {room = room} e lt =
      refused_deep (Of task) e (λ a y z h fits _ _. let n = least_levels y.0 in let l = h.1 in omega (arith, n, l, fits, lt))
      (tokens (empty arguments 0 0), (called, 1), (refl, refl), tt)
