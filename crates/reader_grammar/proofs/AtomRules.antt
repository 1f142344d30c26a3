-- Atoms that begin alike: a name alone and a call; unit, a group and a pair.
use Rattle.std.proofs.Common.{◌⊎◌, inl, inr, ◌≡◌, ℕ, suc, ◌+◌, ◌-◌, ◌≤◌, max, true, List, [], ◌∷◌, ◌++◌, Ok, Err, refl, sym, ap, ◌∙◌, subst, arith, append_assoc}
use Rattle.task_model.specs.Terms.Text.{Text}
use Rattle.task_model.specs.declared.symbol.Symbol.TheVariants as signs
use Rattle.exact_reading.specs.declared.stop.ParseStop.{ParseStop}
use Rattle.exact_reading.specs.Reading.{Language, IsWithinLevels, SharesPrefix, Answer, Right}
use Rattle.task_model.specs.Syntax.Lexemes.{Lexeme, symbol, name}
use Rattle.task_model.specs.Syntax.Grammar.{expression, atom, enclosed, Listing, arguments, Parse, digits, quoted, constant, nothing, named, content, call, group, pair, elements, nil, empty, full, tokens, levels}
use Rattle.reader_grammar.specs.Languages.{Of, EndsForm, stops_at}
use Rattle.exact_reading.proofs.Sequences.{Bind, begins_shorter}
use Rattle.exact_reading.proofs.Productions.{Least, bind_right, bind_stop, by_production, tok_right, least_alive, least_ever}
use Rattle.exact_reading.proofs.Peeking.{peeked}
use Rattle.exact_reading.proofs.Starts.{After, after_right}
use Rattle.exact_reading.proofs.Symbols.{Sym, one, part, Values, Led, Seq, Sequence, size_above, least_seq, open_up}
use Rattle.reader_grammar.proofs.GrammarLemmas.{grammar, head, head_first, known_head, starts_not, a_sign}
use Rattle.reader_grammar.proofs.RuleLemmas.{built, build_up, seen_first}

-- a listing in parentheses begins with one
enclosed_open : {l : Listing} (d : Parse (enclosed l)) → (p : ℕ) × (w : List Lexeme) × (tokens d ≡ symbol signs.Open p ∷ w)
enclosed_open (empty l p q) = (p, _, refl)
enclosed_open (full l p es q) = (p, _, refl)

module _ (x : Text) (p : ℕ) where
  -- an atom that begins with this name
  by_name : (P : Parse atom → Type 0) → P (named x p) → ((es : Parse (enclosed arguments)) → P (call x p es)) → (d : Parse atom)
      → head d ≡ name x p → P d
  by_name P alone called (named y q) e =
      let e0 : x ≡ y = cc in let e1 : p ≡ q = cc in subst (λ n. P (named y n)) e1 (subst (λ n. P (named n p)) e0 alone)
  by_name P alone called (call y q es) e =
      let e0 : x ≡ y = cc in let e1 : p ≡ q = cc in subst (λ n. P (call y n es)) e1 (subst (λ n. P (call n p es)) e0 (called es))
  by_name P alone called (digits t q) e = absurd cc
  by_name P alone called (quoted t v q) e = absurd cc
  by_name P alone called (constant b q) e = absurd cc
  by_name P alone called (nothing q r) e = absurd cc
  by_name P alone called (content q y r) e = absurd cc
  by_name P alone called (group q d r) e = absurd cc
  by_name P alone called (pair q a r b s) e = absurd cc
  by_name P alone called (elements q es r) e = absurd cc
  by_name P alone called (nil q b) e = absurd cc

  abbrev pub call_symbols : List (Sym grammar)
  call_symbols = part (enclosed arguments) ∷ []

  abbrev pub call_build : Values grammar call_symbols → Parse atom
  call_build vs = call x p vs.0

  abbrev Called : Language Lexeme (Parse atom × ℕ)
  Called = Led grammar 1 (name x p) call_symbols call_build 0

  called_in : (a : List Lexeme) (y : Parse atom × ℕ) → Called a y → Of atom a y
  called_in a y h =
      let b = built 1 call_symbols call_build 0 h.back y h.next in
      let e0 : y.0 ≡ call x p b.parts.0 = ap (λ q. q.0) b.is in
      let e1 : y.1 ≡ 1 + max 0 (levels b.parts.0) = ap (λ q. q.1) b.is in
      let l : suc (levels b.parts.0) ≡ y.1 = omega (arith, e1) in
      (ap (λ q. tokens q) e0 ∙ sym (h.split ∙ ap (λ l. l ++ h.back) h.first ∙ ap (λ l. name x p ∷ l) b.are), ap (λ q. levels q) e0 ∙ l)

  call_is : (a : List Lexeme) (n : ℕ) (es : Parse (enclosed arguments)) → tokens (call x p es) ≡ a → levels (call x p es) ≡ n
      → Called a (call x p es, n)
  call_is a n es t l =
      let m : 1 + max 0 (levels es) ≡ n = omega (arith, l) in
      record {
        front = name x p ∷ [];
        back = tokens es;
        value = tt;
        split = sym t;
        first = refl;
        next = subst (λ k. Seq grammar 1 call_symbols call_build 0 (tokens es) (call x p es, k)) m
            (build_up 1 call_symbols call_build 0 (es, tt));
      }

  -- where a parenthesis follows, only a call begins so
  called_out : (q : ℕ) (s a : List Lexeme) (y : Parse atom × ℕ) (z : List Lexeme) → Of atom a y → EndsForm atom z
      → SharesPrefix (name x p ∷ []) (symbol signs.Open q ∷ s) (a ++ z) → Called a y
  called_out q s a y z h hz b =
      by_name (λ d. tokens d ≡ a → levels d ≡ y.1 → Called a (d, y.1)) alone (λ es t l. call_is a y.1 es t l) y.0
      (known_head y.0 tt (name x p) (symbol signs.Open q ∷ s) a z h.0
      (begins_shorter [] (name x p ∷ []) (symbol signs.Open q ∷ s) (a ++ z) b))
      h.0 h.1
    where
      alone : tokens (named x p) ≡ a → levels (named x p) ≡ y.1 → Called a (named x p, y.1)
      alone t l =
          let (w, e) = b in
          let same : name x p ∷ z ≡ name x p ∷ (symbol signs.Open q ∷ w) = ap (λ l. l ++ z) t ∙ e in
          let behind : z ≡ symbol signs.Open q ∷ w = cc in
          let yes' : stops_at 1 1 ≡ true = subst (EndsForm atom) behind hz in
          absurd cc

  pub called : {room : ℕ} {q : ℕ} {ts s : List Lexeme} {r : Answer Lexeme (Parse atom × ℕ)} → ts ≡ symbol signs.Open q ∷ s → 1 ≤ room
      → Right (Sequence grammar 1 call_symbols call_build 0) (IsWithinLevels room) (EndsForm atom) ts r
      → Right (Of atom) (IsWithinLevels room) (EndsForm atom) (name x p ∷ ts) r
  called {room = room} {q = q} {ts = ts} {s = s} e le right =
      peeked Called (Of atom) (IsWithinLevels room) (EndsForm atom) (name x p) ts called_in
      (λ a y z h hz b. called_out q s a y z h hz (subst (λ l. SharesPrefix (name x p ∷ []) l (a ++ z)) e b))
      (λ y h. let none = h.split in let first = h.first in let same : [] ≡ name x p ∷ h.back = none ∙ ap (λ l. l ++ h.back) first in cc)
      (tokens (empty arguments 0 0), (call x p (empty arguments 0 0), 1), call_is _ 1 (empty arguments 0 0) refl refl, le) tt
      (bind_right (λ _ _ _ _ _ _. tt) (least_alive 1 room (Seq grammar 1 call_symbols call_build 0) le
      (least_seq grammar 1 call_symbols call_build 0)) (tok_right (name x p) refl) (open_up grammar 1 right))

  -- where none follows, only the name alone does
  pub alone : {room : ℕ} {ts : List Lexeme} → ((q : ℕ) (s : List Lexeme) → ts ≡ symbol signs.Open q ∷ s → ⊥) → 1 ≤ room
      → Right (Of atom) (IsWithinLevels room) (EndsForm atom) (name x p ∷ ts) (Ok ((named x p, 1), ts))
  alone {ts = ts} none le =
      record {
        by = record {
          front = name x p ∷ [];
          split = refl;
          found = (refl, refl);
          fits = le;
          only = λ a y z h _ b. only ts none a y z h b;
        };
      }
    where
      no_call : (ts : List Lexeme) → ((q : ℕ) (s : List Lexeme) → ts ≡ symbol signs.Open q ∷ s → ⊥)
          → (a z : List Lexeme) (es : Parse (enclosed arguments)) → tokens (call x p es) ≡ a → SharesPrefix (name x p ∷ []) ts (a ++ z) → ⊥
      no_call [] none a z es t b =
          let (q, w, o) = enclosed_open es in
          let same : name x p ∷ (symbol signs.Open q ∷ (w ++ z)) ≡ name x p ∷ [] =
          ap (λ l. name x p ∷ (l ++ z)) (sym o) ∙ ap (λ l. l ++ z) t ∙ b in
          cc
      no_call (u ∷ ts) none a z es t (v, b) =
          let (q, w, o) = enclosed_open es in
          let same : name x p ∷ (symbol signs.Open q ∷ (w ++ z)) ≡ name x p ∷ (u ∷ v) =
          ap (λ l. name x p ∷ (l ++ z)) (sym o) ∙ ap (λ l. l ++ z) t ∙ b in
          let u_is : u ≡ symbol signs.Open q = cc in
          none q ts (ap (λ l. l ∷ ts) u_is)

      only : (ts : List Lexeme) → ((q : ℕ) (s : List Lexeme) → ts ≡ symbol signs.Open q ∷ s → ⊥)
          → (a : List Lexeme) (y : Parse atom × ℕ) (z : List Lexeme) → Of atom a y → SharesPrefix (name x p ∷ []) ts (a ++ z)
          → (a ≡ name x p ∷ []) × (y ≡ (named x p, 1))
      only ts none a y z h b =
          by_name (λ d. tokens d ≡ a → levels d ≡ y.1 → (a ≡ name x p ∷ []) × ◌≡◌ {A = Parse atom × ℕ} (d, y.1) (named x p, 1))
          (λ t l. (sym t, ap (λ n. (named x p, n)) (sym l))) (λ es t l. absurd (no_call ts none a z es t b)) y.0
          (known_head y.0 tt (name x p) ts a z h.0 (begins_shorter [] (name x p ∷ []) ts (a ++ z) b)) h.0 h.1

-- ---- parentheses
no_close_starts : (d : Parse expression) (q : ℕ) → head d ≡ symbol signs.Close q → ⊥
no_close_starts d q e = starts_not d (symbol signs.Close q) refl e

module _ (p : ℕ) where
  -- an atom that begins with this parenthesis
  by_open : (P : Parse atom → Type 0) → ((q : ℕ) → P (nothing p q)) → ((d : Parse expression) (q : ℕ) → P (group p d q))
      → ((a : Parse expression) (q : ℕ) (b : Parse expression) (r : ℕ) → P (pair p a q b r)) → (d : Parse atom)
      → head d ≡ symbol signs.Open p
      → P d
  by_open P u g k (nothing n q) e = let same : p ≡ n = cc in subst (λ m. P (nothing m q)) same (u q)
  by_open P u g k (group n d q) e = let same : p ≡ n = cc in subst (λ m. P (group m d q)) same (g d q)
  by_open P u g k (pair n a q b r) e = let same : p ≡ n = cc in subst (λ m. P (pair m a q b r)) same (k a q b r)
  by_open P u g k (digits t q) e = absurd cc
  by_open P u g k (quoted t v q) e = absurd cc
  by_open P u g k (constant b q) e = absurd cc
  by_open P u g k (named y q) e = absurd cc
  by_open P u g k (call y q es) e = absurd cc
  by_open P u g k (content q y r) e = absurd cc
  by_open P u g k (elements q es r) e = absurd cc
  by_open P u g k (nil q b) e = absurd cc

  -- nothing stands in them
  pub closed : {room : ℕ} {q : ℕ} {ts s : List Lexeme} → ts ≡ symbol signs.Close q ∷ s → 1 ≤ room
      → Right (Of atom) (IsWithinLevels room) (EndsForm atom) (symbol signs.Open p ∷ ts) (Ok ((nothing p q, 1), s))
  closed {room = room} {q = q} {ts = ts} {s = s} e le =
      subst (λ l. Right (Of atom) (IsWithinLevels room) (EndsForm atom) (symbol signs.Open p ∷ l) (Ok ((nothing p q, 1), s))) (sym e)
      (record {
        by = record {
          front = symbol signs.Open p ∷ (symbol signs.Close q ∷ []);
          split = refl;
          found = (refl, refl);
          fits = le;
          only = λ a y z h _ b. only a y z h b;
        };
      })
    where
      only : (a : List Lexeme) (y : Parse atom × ℕ) (z : List Lexeme) → Of atom a y
          → SharesPrefix (symbol signs.Open p ∷ (symbol signs.Close q ∷ [])) s (a ++ z)
          → (a ≡ symbol signs.Open p ∷ (symbol signs.Close q ∷ [])) × (y ≡ (nothing p q, 1))
      only a y z h b =
          let (w, e') = seen_first (symbol signs.Open p ∷ (symbol signs.Close q ∷ [])) s (a ++ z) b in
          let open_first : SharesPrefix [] (symbol signs.Open p ∷ (symbol signs.Close q ∷ w)) (a ++ z) = (symbol signs.Close q ∷ w, e') in
          by_open (λ d. tokens d ≡ a → levels d ≡ y.1 → (a ≡ symbol signs.Open p ∷ (symbol signs.Close q ∷ []))
          × ◌≡◌ {A = Parse atom × ℕ} (d, y.1) (nothing p q, 1))
          (λ r t l.
          let same : symbol signs.Open p ∷ (symbol signs.Close r ∷ z) ≡ symbol signs.Open p ∷ (symbol signs.Close q ∷ w) =
          ap (λ l. l ++ z) t ∙ e' in
          let r_is : r ≡ q = cc in (
            sym t ∙ ap (λ n. symbol signs.Open p ∷ (symbol signs.Close n ∷ [])) r_is,
            ap (λ n. (nothing p r, n)) (sym l)
                ∙ ap (λ n. (nothing p n, 1)) r_is,
          ))
          (λ d r t l.
          let same : symbol signs.Open p ∷ ((tokens d ++ (symbol signs.Close r ∷ [])) ++ z) ≡ symbol signs.Open p
          ∷ (symbol signs.Close q ∷ w) =
          ap (λ l. l ++ z) t ∙ e' in
          let inside : (tokens d ++ (symbol signs.Close r ∷ [])) ++ z ≡ symbol signs.Close q ∷ w = cc in
          absurd (no_close_starts d q (known_head d tt (symbol signs.Close q) w (tokens d) ((symbol signs.Close r ∷ []) ++ z) refl
          (w, sym (append_assoc (tokens d) (symbol signs.Close r ∷ []) z) ∙ inside))))
          (λ d r f n t l.
          let rest = symbol signs.Comma r ∷ (tokens f ++ (symbol signs.Close n ∷ [])) in
          let shape : tokens (pair p d r f n) ≡ symbol signs.Open p ∷ (tokens d ++ rest) =
          append_assoc (symbol signs.Open p ∷ tokens d) (symbol signs.Comma r ∷ tokens f) (symbol signs.Close n ∷ []) in
          let same : symbol signs.Open p ∷ ((tokens d ++ rest) ++ z) ≡ symbol signs.Open p ∷ (symbol signs.Close q ∷ w) =
          ap (λ l. l ++ z) (sym shape ∙ t) ∙ e' in
          let inside : (tokens d ++ rest) ++ z ≡ symbol signs.Close q ∷ w = cc in
          absurd (no_close_starts d q (known_head d tt (symbol signs.Close q) w (tokens d) (rest ++ z) refl
          (w, sym (append_assoc (tokens d) rest z) ∙ inside))))
          y.0 (known_head y.0 tt (symbol signs.Open p) (symbol signs.Close q ∷ w) a z h.0 open_first) h.0 h.1

  -- ---- an expression stands in them
  abbrev pub group_symbols : List (Sym grammar)
  group_symbols = one (a_sign signs.Close) ∷ []

  abbrev pub pair_symbols : List (Sym grammar)
  pair_symbols = one (a_sign signs.Comma) ∷ part expression ∷ one (a_sign signs.Close) ∷ []

  abbrev pub group_build : Parse expression → Values grammar group_symbols → Parse atom
  group_build d vs = group p d vs.0

  abbrev pub pair_build : Parse expression → Values grammar pair_symbols → Parse atom
  pair_build d vs = pair p d vs.0 vs.1.0 vs.1.1.0

  -- what may stand behind the first expression
  pub record Behind (x : Parse expression × ℕ) (ts : List Lexeme) (y : Parse atom × ℕ) : Type 0 where
    pub by : Seq grammar 1 group_symbols (group_build x.0) x.1 ts y ⊎ Seq grammar 1 pair_symbols (pair_build x.0) x.1 ts y

  -- the parenthesis closes
  pub group_right : {room : ℕ} {x : Parse expression × ℕ} {ts : List Lexeme} {r : Answer Lexeme (Parse atom × ℕ)} {q : ℕ} {s : List Lexeme}
      → ts ≡ symbol signs.Close q ∷ s → Right (Sequence grammar 1 group_symbols (group_build x.0) x.1) (IsWithinLevels room)
      (EndsForm atom) ts r
      → Right (Behind x) (IsWithinLevels room) (EndsForm atom) ts r
  group_right {x = x} {ts = ts} {q = q} {s = s} e right =
      by_production (Seq grammar 1 group_symbols (group_build x.0) x.1) (Behind x) (λ a y h. record { by = inl h })
      (λ a y z h _ b. go a y z h.by (subst (λ l. SharesPrefix [] l (a ++ z)) e b)) (open_up grammar 1 right)
    where
      go : (a : List Lexeme) (y : Parse atom × ℕ) (z : List Lexeme)
          → (Seq grammar 1 group_symbols (group_build x.0) x.1 a y ⊎ Seq grammar 1 pair_symbols (pair_build x.0) x.1 a y)
          → SharesPrefix [] (symbol signs.Close q ∷ s) (a ++ z) → Seq grammar 1 group_symbols (group_build x.0) x.1 a y
      go a y z (inl h) b = h
      go a y z (inr h) (w, b) =
          let k = built 1 pair_symbols (pair_build x.0) x.1 a y h in
          let same : symbol signs.Comma k.parts.0 ∷ ((tokens k.parts.1.0 ++ (symbol signs.Close k.parts.1.1.0 ∷ [])) ++ z)
          ≡ symbol signs.Close q
          ∷ w = ap (λ l. l ++ z) (sym k.are) ∙ b in
          absurd cc

  -- it doesn't close
  pub pair_right : {room : ℕ} {x : Parse expression × ℕ} {ts : List Lexeme} {r : Answer Lexeme (Parse atom × ℕ)}
      → ((q : ℕ) (s : List Lexeme) → ts ≡ symbol signs.Close q ∷ s → ⊥)
      → Right (Sequence grammar 1 pair_symbols (pair_build x.0) x.1) (IsWithinLevels room) (EndsForm atom) ts r
      → Right (Behind x) (IsWithinLevels room) (EndsForm atom) ts r
  pair_right {x = x} {ts = ts} none right =
      by_production (Seq grammar 1 pair_symbols (pair_build x.0) x.1) (Behind x) (λ a y h. record { by = inr h })
      (λ a y z h _ b. go ts none a y z h.by b) (open_up grammar 1 right)
    where
      go : (ts : List Lexeme) → ((q : ℕ) (s : List Lexeme) → ts ≡ symbol signs.Close q ∷ s → ⊥)
          → (a : List Lexeme) (y : Parse atom × ℕ) (z : List Lexeme)
          → (Seq grammar 1 group_symbols (group_build x.0) x.1 a y ⊎ Seq grammar 1 pair_symbols (pair_build x.0) x.1 a y)
          → SharesPrefix [] ts (a ++ z) → Seq grammar 1 pair_symbols (pair_build x.0) x.1 a y
      go ts none a y z (inr h) b = h
      go [] none a y z (inl h) b =
          let k = built 1 group_symbols (group_build x.0) x.1 a y h in
          let same : symbol signs.Close k.parts.0 ∷ z ≡ [] = ap (λ l. l ++ z) (sym k.are) ∙ b in
          absurd cc
      go (t ∷ ts) none a y z (inl h) (w, b) =
          let k = built 1 group_symbols (group_build x.0) x.1 a y h in
          let same : symbol signs.Close k.parts.0 ∷ z ≡ t ∷ w = ap (λ l. l ++ z) (sym k.are) ∙ b in
          let t_is : t ≡ symbol signs.Close k.parts.0 = cc in
          absurd (none k.parts.0 ts (ap (λ q. q ∷ ts) t_is))

  least_behind : (x : Parse expression × ℕ) → Least (1 + x.1) (Behind x)
  least_behind x =
      let g = least_seq grammar 1 group_symbols (group_build x.0) x.1 in
      record { text = g.text; result = g.result; here = record { by = inl g.here }; few = g.few; above = λ b y h. go b y h.by }
    where
      go : (b : List Lexeme) (y : Parse atom × ℕ) → (Seq grammar 1 group_symbols (group_build x.0) x.1 b y ⊎ Seq grammar 1 pair_symbols
          (pair_build x.0) x.1 b y) → 1 + x.1 ≤ y.1
      go b y (inl h) = (least_seq grammar 1 group_symbols (group_build x.0) x.1).above b y h
      go b y (inr h) =
          let n = (least_seq grammar 1 pair_symbols (pair_build x.0) x.1).above b y h in let m = size_above grammar 1 pair_symbols x.1 in
          omega (arith, n, m)

  behind_follow : (x : Parse expression × ℕ) (b : List Lexeme) (y : Parse atom × ℕ) (z : List Lexeme) → Behind x b y → EndsForm atom z
      → EndsForm expression (b ++ z)
  behind_follow x b y z h hz = go h.by
    where
      go : (Seq grammar 1 group_symbols (group_build x.0) x.1 b y ⊎ Seq grammar 1 pair_symbols (pair_build x.0) x.1 b y)
          → EndsForm expression (b ++ z)
      go (inl k) = subst (λ l. EndsForm expression (l ++ z)) (sym (built 1 group_symbols (group_build x.0) x.1 b y k).are) refl
      go (inr k) = subst (λ l. EndsForm expression (l ++ z)) (sym (built 1 pair_symbols (pair_build x.0) x.1 b y k).are) refl

  abbrev pub Inner : Language Lexeme (Parse atom × ℕ)
  Inner = Bind (Of expression) Behind

  inner_in : (a : List Lexeme) (y : Parse atom × ℕ) → Inner a y → After (symbol signs.Open p) (Of atom) a y
  inner_in a y h = go h.next.by
    where
      before : (b : List Lexeme) → h.back ≡ b → symbol signs.Open p ∷ a ≡ symbol signs.Open p ∷ (tokens h.value.0 ++ b)
      before b e = ap (λ l. symbol signs.Open p ∷ l) (h.split ∙ ap (λ l. l ++ h.back) (sym h.first.0) ∙ ap (λ l. tokens h.value.0 ++ l) e)

      go : (Seq grammar 1 group_symbols (group_build h.value.0) h.value.1 h.back y ⊎ Seq grammar 1 pair_symbols
          (pair_build h.value.0) h.value.1 h.back y) → Of atom (symbol signs.Open p ∷ a) y
      go (inl k) =
          let b = built 1 group_symbols (group_build h.value.0) h.value.1 h.back y k in
          let e0 : y.0 ≡ group p h.value.0 b.parts.0 = ap (λ q. q.0) b.is in
          let e1 : y.1 ≡ 1 + h.value.1 = ap (λ q. q.1) b.is in
          let l0 = h.first.1 in
          let l : suc (levels h.value.0) ≡ y.1 = omega (arith, e1, l0) in
          (ap (λ q. tokens q) e0 ∙ sym (before _ b.are), ap (λ q. levels q) e0 ∙ l)
      go (inr k) =
          let b = built 1 pair_symbols (pair_build h.value.0) h.value.1 h.back y k in
          let e0 : y.0 ≡ pair p h.value.0 b.parts.0 b.parts.1.0 b.parts.1.1.0 = ap (λ q. q.0) b.is in
          let e1 : y.1 ≡ 1 + max h.value.1 (levels b.parts.1.0) = ap (λ q. q.1) b.is in
          let l0 = h.first.1 in
          let l : suc (max (levels h.value.0) (levels b.parts.1.0)) ≡ y.1 = omega (arith, e1, l0) in (
            ap (λ q. tokens q) e0 ∙ append_assoc (symbol signs.Open p ∷ tokens h.value.0)
                (symbol signs.Comma b.parts.0 ∷ tokens b.parts.1.0)
                (symbol signs.Close b.parts.1.1.0 ∷ []) ∙ sym (before _ b.are),
            ap (λ q. levels q) e0 ∙ l,
          )

  opened_head : (d : Parse atom) (a : List Lexeme) → tokens d ≡ symbol signs.Open p ∷ a → head d ≡ symbol signs.Open p
  opened_head d a e = let (w, h) = head_first d tt in let same : head d ∷ w ≡ symbol signs.Open p ∷ a = sym h ∙ e in cc

  inner_out : (ts : List Lexeme) → ((q : ℕ) (s : List Lexeme) → ts ≡ symbol signs.Close q ∷ s → ⊥)
      → (a : List Lexeme) (y : Parse atom × ℕ) (z : List Lexeme) → After (symbol signs.Open p) (Of atom) a y → SharesPrefix [] ts (a ++ z)
      → Inner a y
  inner_out ts none a y z h b =
      by_open (λ d. tokens d ≡ symbol signs.Open p ∷ a → levels d ≡ y.1 → Inner a (d, y.1))
      (λ q t l. let same : symbol signs.Close q ∷ [] ≡ a = cc in absurd (no_close ts none q (ap (λ l. l ++ z) same) b))
      (λ d q t l. record {
        front = tokens d;
        back = symbol signs.Close q ∷ [];
        value = (d, levels d);
        split = let same : tokens d ++ (symbol signs.Close q ∷ []) ≡ a = cc in sym same;
        first = (refl, refl);
        next = record {
          by = inl
              (subst (λ n. Seq grammar 1 group_symbols (group_build d) (levels d) (symbol signs.Close q ∷ []) (group p d q, n))
              (let m : 1 + levels d ≡ y.1 = omega (arith, l) in m) (build_up 1 group_symbols (group_build d) (levels d) (q, tt)));
        };
      })
      (λ d q f r t l. record {
        front = tokens d;
        back = symbol signs.Comma q ∷ (tokens f ++ (symbol signs.Close r ∷ []));
        value = (d, levels d);
        split =
            let shape : symbol signs.Open p ∷ (tokens d ++ (symbol signs.Comma q ∷ (tokens f ++ (symbol signs.Close r ∷ []))))
            ≡ symbol signs.Open p
            ∷ a = sym (append_assoc (symbol signs.Open p ∷ tokens d) (symbol signs.Comma q ∷ tokens f) (symbol signs.Close r ∷ [])) ∙ t in
            let same : tokens d ++ (symbol signs.Comma q ∷ (tokens f ++ (symbol signs.Close r ∷ []))) ≡ a = cc in
            sym same;
        first = (refl, refl);
        next = record {
          by = inr
              (subst (λ n. Seq grammar 1 pair_symbols (pair_build d) (levels d)
              (symbol signs.Comma q ∷ (tokens f ++ (symbol signs.Close r ∷ [])))
              (pair p d q f r, n)) (let m : 1 + max (levels d) (levels f) ≡ y.1 = omega (arith, l) in m)
              (build_up 1 pair_symbols (pair_build d) (levels d) (q, (f, (r, tt)))));
        };
      })
      y.0 (opened_head y.0 a h.0) h.0 h.1
    where
      no_close : (ts : List Lexeme) → ((q : ℕ) (s : List Lexeme) → ts ≡ symbol signs.Close q ∷ s → ⊥) → (q : ℕ)
          → symbol signs.Close q ∷ z ≡ a ++ z → SharesPrefix [] ts (a ++ z) → ⊥
      no_close [] none q t b = let same : symbol signs.Close q ∷ z ≡ [] = t ∙ b in cc
      no_close (u ∷ ts) none q t (w, b) =
          let same : symbol signs.Close q ∷ z ≡ u ∷ w = t ∙ b in
          let u_is : u ≡ symbol signs.Close q = cc in
          none q ts (ap (λ l. l ∷ ts) u_is)

  -- an expression stands in them
  pub inside : {room : ℕ} {ts : List Lexeme} {r : Answer Lexeme (Parse atom × ℕ)}
      → ((q : ℕ) (s : List Lexeme) → ts ≡ symbol signs.Close q ∷ s → ⊥) → 1 ≤ room → Right Inner (IsWithinLevels room) (EndsForm atom) ts r
      → Right (Of atom) (IsWithinLevels room) (EndsForm atom) (symbol signs.Open p ∷ ts) r
  inside {room = room} {ts = ts} none le right =
      after_right (Of atom) (λ t. Unit {0}) (λ a y h. let (w, e) = head_first y.0 tt in (head y.0, w, sym h.0 ∙ e, tt)) refl
      (symbol signs.Close 0 ∷ [], (nothing p 0, 1), (refl, refl), le)
      (by_production Inner (After (symbol signs.Open p) (Of atom)) inner_in (λ a y z h _ b. inner_out ts none a y z h b) right)

  pub inside_stop : {room : ℕ} {ts : List Lexeme} {e : ParseStop} → 1 ≤ room
      → Right (Of expression) (IsWithinLevels (room - 1)) (EndsForm expression) ts (Err e)
      → Right Inner (IsWithinLevels room) (EndsForm atom) ts (Err e)
  inside_stop {room = room} le right =
      bind_stop {B = Behind} behind_follow
      (λ x b y h fits. let n = (least_behind x).above b y h in omega (arith, n, fits))
      (λ a x h fits. least_alive (1 + x.1) room (Behind x) (omega (arith, fits, le)) (least_behind x))
      (λ a x h. least_ever (1 + x.1) (Behind x) (least_behind x)) right

  pub inside_found : {room : ℕ} {x : Parse expression × ℕ} {ts rest : List Lexeme} {r : Answer Lexeme (Parse atom × ℕ)} → 1 ≤ room
      → Right (Of expression) (IsWithinLevels (room - 1)) (EndsForm expression) ts (Ok (x, rest))
      → Right (Behind x) (IsWithinLevels room) (EndsForm atom) rest r
      → Right Inner (IsWithinLevels room) (EndsForm atom) ts r
  inside_found {room = room} {x = x} le found right =
      let fits = found.by.fits in
      bind_right {B = Behind} behind_follow (least_alive (1 + x.1) room (Behind x) (omega (arith, fits, le)) (least_behind x)) found right
