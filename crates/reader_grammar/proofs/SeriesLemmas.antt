-- A series: a part, and then an operator and the part again, as often as they come, grouped to the left.
use Rattle.std.proofs.Common.{◌≡◌, ℕ, ◌+◌, ◌≤◌, ◌<◌, max, true, false, List, [], ◌∷◌, ◌++◌, length, Ok, Err, refl, sym, ap, ◌∙◌, subst, arith, append_assoc}
use Rattle.exact_reading.specs.declared.stop.ParseStop.{ParseStop}
use Rattle.exact_reading.specs.declared.stop.ParseStop.TheVariants.{Fault}
use Rattle.exact_reading.specs.declared.stop.FaultKind.TheVariants.{TooNested}
use Rattle.exact_reading.specs.Reading.{Language, IsWithinLevels, SharesPrefix, Answer, Right, Tok}
use Rattle.task_model.specs.Syntax.Lexemes.{Lexeme}
use Rattle.task_model.specs.Syntax.Grammar.{parameters, arguments, Series, list, choice, chain, either, both, sum, product, series, Operator, comma, internal, external, together, or, and, plus, minus, join, times, quot, rem, operator, part_of, above, Parse, single, joined, tokens, levels}
use Rattle.reader_grammar.specs.Languages.{Of, EndsForm, stops_at, rank, reach}
use Rattle.exact_reading.proofs.Sequences.{Bind, append_nil}
use Rattle.exact_reading.proofs.Productions.{Least, least_bind, least_alive, least_ever, bind_right, bind_stop, by_production, same_language, tok_right, refused_deep, at_tokens}
use Rattle.reader_grammar.proofs.GrammarLemmas.{smallest, stops_within}

pub record Item (s : Series) : Type 0 where
  pub op : Operator s
  pub place : ℕ
  pub part : Parse (part_of s)

-- the tokens of what repeats
abbrev pub tail_tokens : {s : Series} → List (Item s) → List Lexeme
tail_tokens [] = []
tail_tokens (i ∷ is) = operator i.op i.place ∷ (tokens i.part ++ tail_tokens is)

-- what a parse on the left comes to, and its levels
abbrev pub grown : {s : Series} → Parse (series s) → List (Item s) → Parse (series s)
grown x [] = x
grown {s} x (i ∷ is) = grown (joined s x i.op i.place i.part) is

abbrev pub grown_levels : {s : Series} → ℕ → List (Item s) → ℕ
grown_levels n [] = n
grown_levels {s} n (i ∷ is) = grown_levels (above s + max n (levels i.part)) is

-- what repeats, with this parse and its levels on the left
pub record Tail (s : Series) (x : Parse (series s) × ℕ) (ts : List Lexeme) (y : Parse (series s) × ℕ) : Type 0 where
  pub items : List (Item s)
  pub are : ts ≡ tail_tokens items
  pub is : y ≡ (grown x.0 items, grown_levels x.1 items)

-- one more part behind an operator
abbrev pub Grow : (s : Series) → Parse (series s) × ℕ → Operator s → ℕ → Parse (part_of s) × ℕ → Parse (series s) × ℕ
Grow s x o p r = (joined s x.0 o p r.0, above s + max x.1 r.1)

abbrev pub More : (s : Series) → Parse (series s) × ℕ → Operator s → ℕ → Language Lexeme (Parse (series s) × ℕ)
More s x o p = Bind (Of (part_of s)) (λ r. Tail s (Grow s x o p r))

abbrev Whole : (s : Series) → Language Lexeme (Parse (series s) × ℕ)
Whole s = Bind (Of (part_of s)) (λ r. Tail s (single s r.0, r.1))

tokens_grown : {s : Series} (x : Parse (series s)) (is : List (Item s)) → tokens (grown x is) ≡ tokens x ++ tail_tokens is
tokens_grown x [] = sym (append_nil (tokens x))
tokens_grown {s} x (i ∷ is) = tokens_grown (joined s x i.op i.place i.part) is
    ∙ append_assoc (tokens x) (operator i.op i.place ∷ tokens i.part) (tail_tokens is)

levels_grown : {s : Series} (x : Parse (series s)) (is : List (Item s)) → levels (grown x is) ≡ grown_levels (levels x) is
levels_grown x [] = refl
levels_grown {s} x (i ∷ is) = levels_grown (joined s x i.op i.place i.part) is

not_fewer : {s : Series} (n : ℕ) (is : List (Item s)) → n ≤ grown_levels n is
not_fewer n [] = omega arith
not_fewer {s} n (i ∷ is) = let h = not_fewer (above s + max n (levels i.part)) is in omega (arith, h)

ungrown : {s : Series} (d : Parse (series s)) (is : List (Item s))
    → (a : Parse (part_of s)) × (js : List (Item s)) × (grown (single s a) js ≡ grown d is)
ungrown (single s a) is = (a, is, refl)
ungrown (joined s d o p b) is = ungrown d (record { op = o; place = p; part = b } ∷ is)

-- ---- what follows
-- a part reaches no further than the series, and there is one of a level
part_bounds : (s : Series) → (reach (part_of s) ≤ reach (series s)) × (levels (smallest (part_of s)) ≤ 1)
part_bounds (list parameters) = (omega arith, omega arith)
part_bounds (list arguments) = (omega arith, omega arith)
part_bounds choice = (omega arith, omega arith)
part_bounds chain = (omega arith, omega arith)
part_bounds either = (omega arith, omega arith)
part_bounds both = (omega arith, omega arith)
part_bounds sum = (omega arith, omega arith)
part_bounds product = (omega arith, omega arith)

-- an operator ends a part, and goes on with the series
operator_bounds : {s : Series} (o : Operator s) (p : ℕ)
    → (stops_at (reach (part_of s)) (rank (operator o p)) ≡ true) × (stops_at (reach (series s)) (rank (operator o p)) ≡ false)
operator_bounds (comma parameters) p = (refl, refl)
operator_bounds (comma arguments) p = (refl, refl)
operator_bounds internal p = (refl, refl)
operator_bounds external p = (refl, refl)
operator_bounds together p = (refl, refl)
operator_bounds or p = (refl, refl)
operator_bounds and p = (refl, refl)
operator_bounds plus p = (refl, refl)
operator_bounds minus p = (refl, refl)
operator_bounds join p = (refl, refl)
operator_bounds times p = (refl, refl)
operator_bounds quot p = (refl, refl)
operator_bounds rem p = (refl, refl)

module _ (s : Series) where
  tail_follow : (x : Parse (series s) × ℕ) (b : List Lexeme) (y : Parse (series s) × ℕ) (z : List Lexeme) → Tail s x b y
      → EndsForm (series s) z → EndsForm (part_of s) (b ++ z)
  tail_follow x b y z h hz = go h.items h.are
    where
      go : (is : List (Item s)) → b ≡ tail_tokens is → EndsForm (part_of s) (b ++ z)
      go [] e = subst (λ l. EndsForm (part_of s) (l ++ z)) (sym e) (stops_within (part_of s) (series s) (part_bounds s).0 z hz)
      go (i ∷ is) e = subst (λ l. EndsForm (part_of s) (l ++ z)) (sym e) (operator_bounds i.op i.place).0

  above_tail : (x : Parse (series s) × ℕ) (b : List Lexeme) (y : Parse (series s) × ℕ) → Tail s x b y → x.1 ≤ y.1
  above_tail x b y h = let e : y.1 ≡ grown_levels x.1 h.items = ap (λ q. q.1) h.is in let n = not_fewer x.1 h.items in omega (arith, e, n)

  least_tail : (x : Parse (series s) × ℕ) → Least x.1 (Tail s x)
  least_tail x = record {
    text = [];
    result = x;
    here = record { items = []; are = refl; is = refl };
    few = omega arith;
    above = above_tail x;
  }

  -- ---- the first part
  whole_in : (a : List Lexeme) (y : Parse (series s) × ℕ) → Whole s a y → Of (series s) a y
  whole_in a y h =
      let d = h.value.0 in
      let is = h.next.items in
      let e0 : y.0 ≡ grown (single s d) is = ap (λ q. q.0) h.next.is in
      let e1 : y.1 ≡ grown_levels h.value.1 is = ap (λ q. q.1) h.next.is in (
        ap (λ q. tokens q) e0 ∙ tokens_grown (single s d) is ∙ ap (λ l. l ++ tail_tokens is) h.first.0
            ∙ ap (λ l. h.front ++ l) (sym h.next.are) ∙ sym h.split,
        ap (λ q. levels q) e0 ∙ levels_grown (single s d) is ∙ ap (λ n. grown_levels n is) h.first.1 ∙ sym e1,
      )

  whole_out : (a : List Lexeme) (y : Parse (series s) × ℕ) → Of (series s) a y → Whole s a y
  whole_out a y h =
      let (d, is, e) = ungrown y.0 [] in
      record {
        front = tokens d;
        back = tail_tokens is;
        value = (d, levels d);
        split = sym h.0 ∙ ap (λ q. tokens q) (sym e) ∙ tokens_grown (single s d) is;
        first = (refl, refl);
        next = record {
          items = is;
          are = refl;
          is = ap (λ n. (y.0, n)) (sym h.1) ∙ ap (λ q. (q, levels q)) (sym e)
              ∙ ap (λ n. (grown (single s d) is, n)) (levels_grown (single s d) is);
        };
      }

  pub part_stop : {room : ℕ} {ts : List Lexeme} {e : ParseStop} → Right (Of (part_of s)) (IsWithinLevels room) (EndsForm (part_of s)) ts
      (Err e)
      → Right (Of (series s)) (IsWithinLevels room) (EndsForm (series s)) ts (Err e)
  part_stop {room = room} right =
      same_language (Whole s) (Of (series s)) whole_in whole_out
      (bind_stop {B = λ r. Tail s (single s r.0, r.1)} (λ r b y z h hz. tail_follow (single s r.0, r.1) b y z h hz)
      (λ r b y h fits. let n = above_tail (single s r.0, r.1) b y h in omega (arith, n, fits))
      (λ a r h fits. least_alive r.1 room (Tail s (single s r.0, r.1)) fits (least_tail (single s r.0, r.1)))
      (λ a r h. least_ever r.1 (Tail s (single s r.0, r.1)) (least_tail (single s r.0, r.1))) right)

  pub part_found : {room : ℕ} {x : Parse (part_of s) × ℕ} {ts rest : List Lexeme} {r : Answer Lexeme (Parse (series s) × ℕ)}
      → Right (Of (part_of s)) (IsWithinLevels room) (EndsForm (part_of s)) ts (Ok (x, rest))
      → Right (Tail s (single s x.0, x.1)) (IsWithinLevels room) (EndsForm (series s)) rest r
      → Right (Of (series s)) (IsWithinLevels room) (EndsForm (series s)) ts r
  part_found {room = room} {x = x} found right =
      same_language (Whole s) (Of (series s)) whole_in whole_out
      (bind_right {B = λ r. Tail s (single s r.0, r.1)} (λ r b y z h hz. tail_follow (single s r.0, r.1) b y z h hz)
      (least_alive x.1 room (Tail s (single s x.0, x.1)) found.by.fits (least_tail (single s x.0, x.1))) found right)

  -- ---- an operator, and one more part
  abbrev Operated : Parse (series s) × ℕ → Operator s → ℕ → Language Lexeme (Parse (series s) × ℕ)
  Operated x o p = Bind (Tok (operator o p)) (λ _. More s x o p)

  least_more : (x : Parse (series s) × ℕ) (o : Operator s) (p : ℕ) → 1 ≤ x.1 → Least (above s + x.1) (More s x o p)
  least_more x o p pos =
      let small = (part_bounds s).1 in
      least_bind (above s + x.1) (Of (part_of s)) (λ r. Tail s (Grow s x o p r)) (λ r. above s + max x.1 r.1)
      (λ r. least_tail (Grow s x o p r)) (tokens (smallest (part_of s))) (smallest (part_of s), levels (smallest (part_of s)))
      (refl, refl) (omega (arith, small, pos)) (λ _ _ _. omega arith)

  more_in : (x : Parse (series s) × ℕ) (o : Operator s) (p : ℕ) (a : List Lexeme) (y : Parse (series s) × ℕ) → Operated x o p a y
      → Tail s x a y
  more_in x o p a y h =
      let k = h.next in
      let is = k.next.items in
      record {
        items = record { op = o; place = p; part = k.value.0 } ∷ is;
        are = h.split ∙ ap (λ l. l ++ h.back) h.first
            ∙ ap (λ l. operator o p ∷ l) (k.split ∙ ap (λ l. l ++ k.back) (sym k.first.0) ∙ ap (λ l. tokens k.value.0 ++ l) k.next.are);
        is = k.next.is ∙ ap (λ n. (grown (joined s x.0 o p k.value.0) is, grown_levels (above s + max x.1 n) is)) (sym k.first.1);
      }

  -- operators that stand at one place are one
  abbrev pub Apart : Type 0
  Apart = (o q : Operator s) (p n : ℕ) → operator o p ≡ operator q n → (o ≡ q) × (p ≡ n)

  module _ (apart : Apart) where
    more_out : (x : Parse (series s) × ℕ) (o : Operator s) (p : ℕ) (rest a : List Lexeme) (y : Parse (series s) × ℕ) (z : List Lexeme)
        → Tail s x a y → EndsForm (series s) z → SharesPrefix [] (operator o p ∷ rest) (a ++ z) → Operated x o p a y
    more_out x o p rest a y z h hz b = go h.items h.are h.is
      where
        go : (is : List (Item s)) → a ≡ tail_tokens is → y ≡ (grown x.0 is, grown_levels x.1 is) → Operated x o p a y
        go [] e v =
            let (w, b') = b in
            let same : z ≡ operator o p ∷ w = ap (λ l. l ++ z) (sym e) ∙ b' in
            let yes' : stops_at (reach (series s)) (rank (operator o p)) ≡ true = subst (EndsForm (series s)) same hz in
            let no' = (operator_bounds o p).1 in
            absurd cc
        go (i ∷ is) e v =
            let (w, b') = b in
            let same : operator i.op i.place ∷ ((tokens i.part ++ tail_tokens is) ++ z) ≡ operator o p ∷ w =
            ap (λ l. l ++ z) (sym e) ∙ b' in
            let heads : operator i.op i.place ≡ operator o p = cc in
            let (op_is, place_is) = apart i.op o i.place p heads in
            record {
              front = operator o p ∷ [];
              back = tokens i.part ++ tail_tokens is;
              value = tt;
              split = e ∙ ap (λ q. q ∷ (tokens i.part ++ tail_tokens is)) heads;
              first = refl;
              next = record {
                front = tokens i.part;
                back = tail_tokens is;
                value = (i.part, levels i.part);
                split = refl;
                first = (refl, refl);
                next = record {
                  items = is;
                  are = refl;
                  is = v
                      ∙ ap (λ q. (grown (joined s x.0 q i.place i.part) is, grown_levels (above s + max x.1 (levels i.part)) is)) op_is
                      ∙ ap (λ n. (grown (joined s x.0 o n i.part) is, grown_levels (above s + max x.1 (levels i.part)) is)) place_is;
                };
              };
            }

    -- the operator is there, and so is room for it
    pub more : {room : ℕ} {x : Parse (series s) × ℕ} {ts rest : List Lexeme} {r : Answer Lexeme (Parse (series s) × ℕ)} (o : Operator s)
        (p : ℕ) → ts ≡ operator o p ∷ rest → 1 ≤ x.1 → above s + x.1 ≤ room
        → Right (More s x o p) (IsWithinLevels room) (EndsForm (series s)) rest r
        → Right (Tail s x) (IsWithinLevels room) (EndsForm (series s)) ts r
    more {room = room} {x = x} {rest = rest} o p e pos le right =
        at_tokens e (by_production (Operated x o p) (Tail s x) (more_in x o p) (λ a y z h hz b. more_out x o p rest a y z h hz b)
        (bind_right (λ _ _ _ _ _ _. tt) (least_alive (above s + x.1) room (More s x o p) le (least_more x o p pos))
        (tok_right (operator o p) refl) right))

    -- the operator is there, and no room for it
    pub deep : {room : ℕ} {x : Parse (series s) × ℕ} {ts rest : List Lexeme} (o : Operator s) (p : ℕ) → ts ≡ operator o p ∷ rest → 1 ≤ x.1
        → room < above s + x.1 → Right (Tail s x) (IsWithinLevels room) (EndsForm (series s)) ts (Err (Fault TooNested (length ts)))
    deep {room = room} {x = x} {rest = rest} o p e pos lt =
        let q = least_more x o p pos in
        refused_deep (Tail s x) e (λ a y z h fits hz b. let k = (more_out x o p rest a y z h hz b).next in let n = q.above _ y k in
        omega (arith, n, fits, lt)) (
          q.text,
          q.result,
          more_in x o p (operator o p ∷ q.text) q.result
              (record { front = operator o p ∷ []; back = q.text; value = tt; split = refl; first = refl; next = q.here }),
          tt,
        )

  -- the part behind the operator was refused
  pub next_stop : {within room : ℕ} {ts : List Lexeme} {e : ParseStop} (x : Parse (series s) × ℕ) (o : Operator s) (p : ℕ)
      → above s + within ≡ room → above s + x.1 ≤ room → Right (Of (part_of s)) (IsWithinLevels within) (EndsForm (part_of s)) ts (Err e)
      → Right (More s x o p) (IsWithinLevels room) (EndsForm (series s)) ts (Err e)
  next_stop {room = room} x o p up le right =
      bind_stop {B = λ r. Tail s (Grow s x o p r)} (λ r b y z h hz. tail_follow (Grow s x o p r) b y z h hz)
      (λ r b y h fits. let n = above_tail (Grow s x o p r) b y h in omega (arith, n, fits, up))
      (λ a r h fits. least_alive (above s + max x.1 r.1) room (Tail s (Grow s x o p r)) (omega (arith, fits, up, le))
      (least_tail (Grow s x o p r)))
      (λ a r h. least_ever (above s + max x.1 r.1) (Tail s (Grow s x o p r)) (least_tail (Grow s x o p r))) right

  -- the part behind the operator was read
  pub next_found : {within room : ℕ} {y : Parse (part_of s) × ℕ} {ts rest : List Lexeme} {r : Answer Lexeme (Parse (series s) × ℕ)}
      (x : Parse (series s) × ℕ) (o : Operator s) (p : ℕ) → above s + within ≡ room → above s + x.1 ≤ room
      → Right (Of (part_of s)) (IsWithinLevels within) (EndsForm (part_of s)) ts (Ok (y, rest))
      → Right (Tail s (Grow s x o p y)) (IsWithinLevels room) (EndsForm (series s)) rest r
      → Right (More s x o p) (IsWithinLevels room) (EndsForm (series s)) ts r
  next_found {room = room} {y = y} x o p up le found right =
      let fits = found.by.fits in
      bind_right {B = λ r. Tail s (Grow s x o p r)} (λ r b y z h hz. tail_follow (Grow s x o p r) b y z h hz)
      (least_alive (above s + max x.1 y.1) room (Tail s (Grow s x o p y)) (omega (arith, fits, up, le)) (least_tail (Grow s x o p y)))
      found right

  -- no operator comes
  pub end : {room : ℕ} {x : Parse (series s) × ℕ} {ts : List Lexeme}
      → ((o : Operator s) (p : ℕ) (rest : List Lexeme) → ts ≡ operator o p ∷ rest → ⊥) → x.1 ≤ room
      → Right (Tail s x) (IsWithinLevels room) (EndsForm (series s)) ts (Ok (x, ts))
  end {x = x} {ts = ts} none le =
      record {
        by = record {
          front = [];
          split = refl;
          found = record { items = []; are = refl; is = refl };
          fits = le;
          only = λ a y z h _ b. only a y z ts none h.items h.are h.is b;
        };
      }
    where
      only : (a : List Lexeme) (y : Parse (series s) × ℕ) (z ts : List Lexeme)
          → ((o : Operator s) (p : ℕ) (rest : List Lexeme) → ts ≡ operator o p ∷ rest → ⊥) → (is : List (Item s)) → a ≡ tail_tokens is
          → y ≡ (grown x.0 is, grown_levels x.1 is) → SharesPrefix [] ts (a ++ z) → (a ≡ []) × (y ≡ x)
      only a y z ts none [] e v b = (e, v)
      only a y z [] none (i ∷ is) e v b =
          let same : operator i.op i.place ∷ ((tokens i.part ++ tail_tokens is) ++ z) ≡ [] = ap (λ l. l ++ z) (sym e) ∙ b in absurd cc
      only a y z (t ∷ ts) none (i ∷ is) e v (w, b) =
          let same : operator i.op i.place ∷ ((tokens i.part ++ tail_tokens is) ++ z) ≡ t ∷ w = ap (λ l. l ++ z) (sym e) ∙ b in
          let t_is : t ≡ operator i.op i.place = cc in
          absurd (none i.op i.place ts (ap (λ q. q ∷ ts) t_is))
