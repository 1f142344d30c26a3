-- Names of types.
use Rattle.std.proofs.Common.{◌≡◌, ◌≢◌, ℕ, suc, ◌+◌, ◌-◌, ◌<◌, ◌≤◌, [], ◌∷◌, ◌++◌, length, Ok, Err, refl, sym, ap, ◌∙◌, subst, arith, append_assoc}
use Rattle.std.specs.Prelude.{codes}
use Rattle.task_model.specs.Terms.Text.{Text}
use Rattle.task_model.specs.Terms.Basic.{BasicTerm, unit_type, bool_type, int_type, text_type, pair_type, list_type}
use Rattle.task_model.specs.Checking.TypeParts.{symbols_of}
use Rattle.exact_reading.specs.declared.stop.ParseStop.{ParseStop}
use Rattle.exact_reading.specs.declared.stop.ParseStop.TheVariants.{Fault}
use Rattle.exact_reading.specs.declared.stop.FaultKind.TheVariants.{Unexpected}
use Rattle.exact_reading.specs.Reading.{Language, SharesPrefix, IsViablePrefix, Always, Answer, Right, NoToken}
use Rattle.exact_reading.proofs.Sequences.{Bind, Done}
use Rattle.exact_reading.proofs.Productions.{Follows, then_right, then_stop, by_production, same_language, refused_first}
use Rattle.exact_reading.proofs.Starts.{first_token}
use Rattle.literal_text.specs.Literals.{spaces}
use Rattle.literal_text.specs.Types.{TypeParse, unit, bool, int, text, pair, list, type_bytes, basic}
use Rattle.literal_text.specs.LiteralReading.{NoBlank, SpelledWord, TypeName, PairName, ListName}
use Rattle.literal_text.proofs.Completions.{part_alive}
use Rattle.literal_text.proofs.LiteralLemmas.{Marked, marked_are, marked_right, marked_stop, word_are, word_is, no_blank}

abbrev pub Measured : Type 0
Measured = BasicTerm × ℕ

some_symbol : (b : BasicTerm) → 1 ≤ symbols_of b
some_symbol unit_type = omega arith
some_symbol bool_type = omega arith
some_symbol int_type = omega arith
some_symbol text_type = omega arith
some_symbol (pair_type a b) = omega arith
some_symbol (list_type a) = omega arith

pub name_alive : (room : ℕ) → 1 ≤ room → IsViablePrefix (TypeName room) Always []
name_alive room some = (type_bytes (unit 0), (unit_type, 1), record { parse = unit 0; are = refl; stands_for = refl; symbols = some }, tt)

-- the first byte of a type's name
abbrev Head : TypeParse → ℕ → Type 0
Head (unit n) t = t ≡ 117
Head (bool n) t = t ≡ 98
Head (int n) t = t ≡ 105
Head (text n) t = t ≡ 116
Head (pair m a k b n) t = t ≡ 40
Head (list m a n) t = t ≡ 91

head_of : (d : TypeParse) → (t : ℕ) × (s : Text) × (type_bytes d ≡ t ∷ s) × Head d t
head_of (unit n) = (_, _, refl, refl)
head_of (bool n) = (_, _, refl, refl)
head_of (int n) = (_, _, refl, refl)
head_of (text n) = (_, _, refl, refl)
head_of (pair m a k b n) = (_, _, refl, refl)
head_of (list m a n) = (_, _, refl, refl)

head_no : (d : TypeParse) (t : ℕ) → Head d t → t ≢ 32
head_no (unit n) t e = omega arith
head_no (bool n) t e = omega arith
head_no (int n) t e = omega arith
head_no (text n) t e = omega arith
head_no (pair m a k b n) t e = omega arith
head_no (list m a n) t e = omega arith

head_is : (d : TypeParse) (u : ℕ) (s a z : Text) → a ≡ type_bytes d → SharesPrefix [] (u ∷ s) (a ++ z) → Head d u
head_is d u s a z e b =
    let (t, w, starts, head) = head_of d in
    let (behind, is) = first_token t w a z (u ∷ s) (e ∙ starts) b in
    subst (Head d) (same t u behind s (sym is)) head
  where
    same : (t u : ℕ) (w s : Text) → t ∷ w ≡ u ∷ s → t ≡ u
    same t u w s e = cc

pub name_no_blank : {room : ℕ} {a : Text} {x : Measured} (z : Text) → TypeName room a x → NoBlank (a ++ z)
name_no_blank z h = let (t, s, e, is) = head_of h.parse in
    subst (λ l. NoBlank (l ++ z)) (sym (h.are ∙ e)) (no_blank t (s ++ z) (head_no h.parse t is))

-- ---- pairs
module _ (room : ℕ) where
  abbrev Pair4 : Measured → Measured → Language ℕ Measured
  Pair4 x y = Bind (SpelledWord (41 ∷ [])) (λ _. Done (pair_type x.0 y.0, suc (x.1 + y.1)))

  abbrev Pair3 : Measured → Language ℕ Measured
  Pair3 x = Bind (TypeName (room - 1 - x.1)) (Pair4 x)

  abbrev Pair2 : Measured → Language ℕ Measured
  Pair2 x = Marked 44 (Pair3 x)

  abbrev Pair1 : Language ℕ Measured
  Pair1 = Bind (TypeName (room - 2)) Pair2

  abbrev Pair0 : Language ℕ Measured
  Pair0 = Marked 40 Pair1

  pair_in : 3 ≤ room → (a : Text) (y : Measured) → Pair0 a y → PairName room a y
  pair_in big a y h =
      let g = h.next in
      let k = g.next in
      let l = k.next in
      let q = l.next in
      let x_is = g.first.stands_for in
      let y_is = l.first.stands_for in
      let x_size : g.value.1 ≡ symbols_of (basic g.first.parse) = ap (λ p. p.1) x_is in
      let x_most = g.first.symbols in
      let y_most = l.first.symbols in
      record {
        before = h.first.behind;
        first = g.first.parse;
        between = k.first.behind;
        second = l.first.parse;
        behind = q.first.behind;
        are = marked_are 40 Pair1 h ∙ ap (λ r. 40 ∷ (spaces h.first.behind ++ r))
            (g.split ∙ ap (λ r. r ++ g.back) g.first.are ∙ ap (λ r. type_bytes g.first.parse ++ r)
            (marked_are 44 (Pair3 g.value) k ∙ ap (λ r. 44 ∷ (spaces k.first.behind ++ r))
            (l.split ∙ ap (λ r. r ++ l.back) l.first.are ∙ ap (λ r. type_bytes l.first.parse ++ r)
            (word_are (41 ∷ []) (pair_type g.value.0 l.value.0, suc (g.value.1 + l.value.1)) q))));
        stands_for = q.next.same ∙ ap (λ p. (pair_type p.0 l.value.0, suc (p.1 + l.value.1))) x_is
            ∙ ap (λ p. (pair_type (basic g.first.parse) p.0, suc (symbols_of (basic g.first.parse) + p.1))) y_is;
        symbols = omega (arith, x_size, x_most, y_most, big);
      }

  pair_out : (a : Text) (y : Measured) → PairName room a y → Pair0 a y
  pair_out a y h =
      let n = h.symbols in
      let s1 = some_symbol (basic h.first) in
      let s2 = some_symbol (basic h.second) in
      record {
        front = 40 ∷ spaces h.before;
        back = type_bytes h.first ++ (44 ∷ (spaces h.between ++ (type_bytes h.second ++ (41 ∷ spaces h.behind))));
        value = tt;
        split = h.are;
        first = record { behind = h.before; are = refl };
        next = record {
          front = type_bytes h.first;
          back = 44 ∷ (spaces h.between ++ (type_bytes h.second ++ (41 ∷ spaces h.behind)));
          value = (basic h.first, symbols_of (basic h.first));
          split = refl;
          first = record { parse = h.first; are = refl; stands_for = refl; symbols = omega (arith, n, s2) };
          next = record {
            front = 44 ∷ spaces h.between;
            back = type_bytes h.second ++ (41 ∷ spaces h.behind);
            value = tt;
            split = refl;
            first = record { behind = h.between; are = refl };
            next = record {
              front = type_bytes h.second;
              back = 41 ∷ spaces h.behind;
              value = (basic h.second, symbols_of (basic h.second));
              split = refl;
              first = record { parse = h.second; are = refl; stands_for = refl; symbols = omega (arith, n, s1) };
              next = word_is (41 ∷ [])
                  (pair_type (basic h.first) (basic h.second), suc (symbols_of (basic h.first) + symbols_of (basic h.second))) h.behind refl
                  h.stands_for;
            };
          };
        };
      }

  alive4 : (x y : Measured) → IsViablePrefix (Pair4 x y) Always []
  alive4 x y = (41 ∷ [], (pair_type x.0 y.0, suc (x.1 + y.1)), word_is (41 ∷ []) (pair_type x.0 y.0, suc (x.1 + y.1)) 0 refl refl, tt)

  alive3 : (x : Measured) → 1 ≤ room - 1 - x.1 → IsViablePrefix (Pair3 x) Always []
  alive3 x le = let (t, y, h, o) = name_alive (room - 1 - x.1) le in part_alive t y h (alive4 x y)

  alive2 : (x : Measured) → 1 ≤ room - 1 - x.1 → IsViablePrefix (Pair2 x) Always []
  alive2 x le = part_alive (44 ∷ []) tt (record { behind = 0; are = refl }) (alive3 x le)

  -- a first part within its room leaves some for the second
  leaves : 3 ≤ room → {a : Text} {x : Measured} → TypeName (room - 2) a x → 1 ≤ room - 1 - x.1
  leaves big {x = x} h = let e : x.1 ≡ symbols_of (basic h.parse) = ap (λ p. p.1) h.stands_for in let n = h.symbols in
      omega (arith, e, n, big)

  alive1 : 3 ≤ room → IsViablePrefix Pair1 Always []
  alive1 big = let (t, x, h, o) = name_alive (room - 2) (omega arith) in part_alive t x h (alive2 x (leaves big h))

  follow4 : (x : Measured) → Follows NoBlank (Pair4 x) NoBlank
  follow4 x y b v z h hz = subst (λ l. NoBlank (l ++ z)) (sym (word_are (41 ∷ []) (pair_type x.0 y.0, suc (x.1 + y.1)) h))
      (no_blank 41 (spaces h.first.behind ++ z) (omega arith))

  follow3 : (x : Measured) → Follows {X = Unit {0}} NoBlank (λ _. Pair3 x) NoBlank
  follow3 x y b v z h hz = subst (λ l. NoBlank (l ++ z)) (sym h.split)
      (subst NoBlank (sym (append_assoc h.front h.back z)) (name_no_blank (h.back ++ z) h.first))

  follow2 : Follows NoBlank Pair2 NoBlank
  follow2 x b v z h hz = subst (λ l. NoBlank (l ++ z)) (sym (marked_are 44 (Pair3 x) h))
      (no_blank 44 ((spaces h.first.behind ++ h.back) ++ z) (omega arith))

  follow1 : Follows {X = Unit {0}} NoBlank (λ _. Pair1) NoBlank
  follow1 y b v z h hz = subst (λ l. NoBlank (l ++ z)) (sym h.split)
      (subst NoBlank (sym (append_assoc h.front h.back z)) (name_no_blank (h.back ++ z) h.first))

  -- no room for two parts
  pub pair_full : {ts : Text} → room < 3 → Right (PairName room) Always NoBlank ts (Err (Fault Unexpected (length ts)))
  pair_full {ts = ts} lt = refused_first (PairName room) ts (λ a y z h _ _. let n = h.symbols in let s1 = some_symbol (basic h.first) in
      let s2 = some_symbol (basic h.second) in omega (arith, n, s1, s2, lt))

  module _ (big : 3 ≤ room) where
    by_pair : {ts : Text} {r : Answer ℕ Measured} → Right Pair0 Always NoBlank ts r → Right (PairName room) Always NoBlank ts r
    by_pair right = same_language Pair0 (PairName room) (pair_in big) pair_out right

    pub bracket_stop : {ts : Text} {e : ParseStop} → Right (SpelledWord (40 ∷ [])) Always NoBlank ts (Err e)
        → Right (PairName room) Always NoBlank ts (Err e)
    bracket_stop right = by_pair (marked_stop follow1 (alive1 big) right)

    pub bracket_right : {ts rest : Text} {r : Answer ℕ Measured} → Right (SpelledWord (40 ∷ [])) Always NoBlank ts (Ok (tt, rest))
        → Right Pair1 Always NoBlank rest r → Right (PairName room) Always NoBlank ts r
    bracket_right found right = by_pair (marked_right follow1 (alive1 big) found right)

    pub first_stop : {ts : Text} {e : ParseStop} → Right (TypeName (room - 2)) Always NoBlank ts (Err e)
        → Right Pair1 Always NoBlank ts (Err e)
    first_stop right = then_stop follow2 (λ _ x h. alive2 x (leaves big h)) right

    pub first_right : {ts rest : Text} {x : Measured} {r : Answer ℕ Measured} → Right (TypeName (room - 2)) Always NoBlank ts (Ok (x, rest))
        → Right (Pair2 x) Always NoBlank rest r → Right Pair1 Always NoBlank ts r
    first_right {x = x} found right = then_right follow2 (alive2 x (leaves big found.by.found)) found right

  module _ (x : Measured) (le : 1 ≤ room - 1 - x.1) where
    pub comma_stop : {ts : Text} {e : ParseStop} → Right (SpelledWord (44 ∷ [])) Always NoBlank ts (Err e)
        → Right (Pair2 x) Always NoBlank ts (Err e)
    comma_stop right = marked_stop (follow3 x) (alive3 x le) right

    pub comma_right : {ts rest : Text} {r : Answer ℕ Measured} → Right (SpelledWord (44 ∷ [])) Always NoBlank ts (Ok (tt, rest))
        → Right (Pair3 x) Always NoBlank rest r → Right (Pair2 x) Always NoBlank ts r
    comma_right found right = marked_right (follow3 x) (alive3 x le) found right

    pub second_stop : {ts : Text} {e : ParseStop} → Right (TypeName (room - 1 - x.1)) Always NoBlank ts (Err e)
        → Right (Pair3 x) Always NoBlank ts (Err e)
    second_stop right = then_stop (follow4 x) (λ _ y _. alive4 x y) right

    pub second_right : {ts rest : Text} {y : Measured} {r : Answer ℕ Measured}
        → Right (TypeName (room - 1 - x.1)) Always NoBlank ts (Ok (y, rest)) → Right (Pair4 x y) Always NoBlank rest r
        → Right (Pair3 x) Always NoBlank ts r
    second_right {y = y} found right = then_right (follow4 x) (alive4 x y) found right

  pub leaves_some : {ts rest : Text} {x : Measured} → 3 ≤ room → Right (TypeName (room - 2)) Always NoBlank ts (Ok (x, rest))
      → 1 ≤ room - 1 - x.1
  leaves_some big found = leaves big found.by.found

  -- ---- lists
  abbrev List2 : Measured → Language ℕ Measured
  List2 x = Bind (SpelledWord (93 ∷ [])) (λ _. Done (list_type x.0, suc x.1))

  abbrev List1 : Language ℕ Measured
  List1 = Bind (TypeName (room - 1)) List2

  list_in : 2 ≤ room → (a : Text) (y : Measured) → Marked 91 List1 a y → ListName room a y
  list_in big a y h =
      let g = h.next in
      let x_is = g.first.stands_for in
      let x_most = g.first.symbols in
      record {
        before = h.first.behind;
        item = g.first.parse;
        behind = g.next.first.behind;
        are = marked_are 91 List1 h ∙ ap (λ r. 91 ∷ (spaces h.first.behind ++ r))
            (g.split ∙ ap (λ r. r ++ g.back) g.first.are ∙ ap (λ r. type_bytes g.first.parse ++ r)
            (word_are (93 ∷ []) (list_type g.value.0, suc g.value.1) g.next));
        stands_for = g.next.next.same ∙ ap (λ p. (list_type p.0, suc p.1)) x_is;
        symbols = omega (arith, x_most, big);
      }

  list_out : (a : Text) (y : Measured) → ListName room a y → Marked 91 List1 a y
  list_out a y h =
      let n = h.symbols in
      record {
        front = 91 ∷ spaces h.before;
        back = type_bytes h.item ++ (93 ∷ spaces h.behind);
        value = tt;
        split = h.are;
        first = record { behind = h.before; are = refl };
        next = record {
          front = type_bytes h.item;
          back = 93 ∷ spaces h.behind;
          value = (basic h.item, symbols_of (basic h.item));
          split = refl;
          first = record { parse = h.item; are = refl; stands_for = refl; symbols = omega (arith, n) };
          next = word_is (93 ∷ []) (list_type (basic h.item), suc (symbols_of (basic h.item))) h.behind refl h.stands_for;
        };
      }

  list_alive2 : (x : Measured) → IsViablePrefix (List2 x) Always []
  list_alive2 x = (93 ∷ [], (list_type x.0, suc x.1), word_is (93 ∷ []) (list_type x.0, suc x.1) 0 refl refl, tt)

  list_alive1 : 2 ≤ room → IsViablePrefix List1 Always []
  list_alive1 big = let (t, x, h, o) = name_alive (room - 1) (omega arith) in part_alive t x h (list_alive2 x)

  list_follow2 : Follows NoBlank List2 NoBlank
  list_follow2 x b v z h hz = subst (λ l. NoBlank (l ++ z)) (sym (word_are (93 ∷ []) (list_type x.0, suc x.1) h))
      (no_blank 93 (spaces h.first.behind ++ z) (omega arith))

  list_follow1 : Follows {X = Unit {0}} NoBlank (λ _. List1) NoBlank
  list_follow1 y b v z h hz = subst (λ l. NoBlank (l ++ z)) (sym h.split)
      (subst NoBlank (sym (append_assoc h.front h.back z)) (name_no_blank (h.back ++ z) h.first))

  pub list_full : {ts : Text} → room < 2 → Right (ListName room) Always NoBlank ts (Err (Fault Unexpected (length ts)))
  list_full {ts = ts} lt = refused_first (ListName room) ts (λ a y z h _ _. let n = h.symbols in let s = some_symbol (basic h.item) in
      omega (arith, n, s, lt))

  module _ (big : 2 ≤ room) where
    by_list : {ts : Text} {r : Answer ℕ Measured} → Right (Marked 91 List1) Always NoBlank ts r → Right (ListName room) Always NoBlank ts r
    by_list right = same_language (Marked 91 List1) (ListName room) (list_in big) list_out right

    pub list_stop : {ts : Text} {e : ParseStop} → Right (SpelledWord (91 ∷ [])) Always NoBlank ts (Err e)
        → Right (ListName room) Always NoBlank ts (Err e)
    list_stop right = by_list (marked_stop list_follow1 (list_alive1 big) right)

    pub list_right : {ts rest : Text} {r : Answer ℕ Measured} → Right (SpelledWord (91 ∷ [])) Always NoBlank ts (Ok (tt, rest))
        → Right List1 Always NoBlank rest r → Right (ListName room) Always NoBlank ts r
    list_right found right = by_list (marked_right list_follow1 (list_alive1 big) found right)

  pub item_stop : {ts : Text} {e : ParseStop} → Right (TypeName (room - 1)) Always NoBlank ts (Err e)
      → Right List1 Always NoBlank ts (Err e)
  item_stop right = then_stop list_follow2 (λ _ x _. list_alive2 x) right

  pub item_right : {ts rest : Text} {x : Measured} {r : Answer ℕ Measured} → Right (TypeName (room - 1)) Always NoBlank ts (Ok (x, rest))
      → Right (List2 x) Always NoBlank rest r → Right List1 Always NoBlank ts r
  item_right {x = x} found right = then_right list_follow2 (list_alive2 x) found right

-- ---- by the first byte
module _ (room : ℕ) (some : 1 ≤ room) where
  abbrev Name : Text → BasicTerm → Language ℕ Measured
  Name word b = Bind (SpelledWord word) (λ _. Done (b, 1))

  -- these begin with this byte
  by_first : {ts : Text} {r : Answer ℕ Measured} (A : Language ℕ Measured) (t : ℕ) → ((a : Text) (y : Measured) → A a y → TypeName room a y)
      → ((a : Text) (y : Measured) (d : TypeParse) → a ≡ type_bytes d → y ≡ (basic d, symbols_of (basic d)) → symbols_of (basic d) ≤ room
      → Head d t → A a y)
      → (s : Text) × (ts ≡ t ∷ s) → Right A Always NoBlank ts r → Right (TypeName room) Always NoBlank ts r
  by_first A t into out (s, e) right = by_production A (TypeName room) into
      (λ a y z h _ b. out a y h.parse h.are h.stands_for h.symbols
      (head_is h.parse t s a z h.are (subst (λ l. SharesPrefix [] l (a ++ z)) e b))) right

  pub as_pair : {ts : Text} {r : Answer ℕ Measured} → (s : Text) × (ts ≡ 40 ∷ s) → Right (PairName room) Always NoBlank ts r
      → Right (TypeName room) Always NoBlank ts r
  as_pair begins right = by_first (PairName room) 40 (λ a y h. record {
    parse = pair h.before h.first h.between h.second h.behind;
    are = h.are;
    stands_for = h.stands_for;
    symbols = h.symbols;
  }) out begins right
    where
      out : (a : Text) (y : Measured) (d : TypeParse) → a ≡ type_bytes d → y ≡ (basic d, symbols_of (basic d)) → symbols_of (basic d) ≤ room
          → Head d 40 → PairName room a y
      out a y (pair m c k d n) e f le is = record {
        before = m;
        first = c;
        between = k;
        second = d;
        behind = n;
        are = e;
        stands_for = f;
        symbols = le;
      }
      out a y d e f le is = absurd (omega (arith, is))

  pub as_list : {ts : Text} {r : Answer ℕ Measured} → (s : Text) × (ts ≡ 91 ∷ s) → Right (ListName room) Always NoBlank ts r
      → Right (TypeName room) Always NoBlank ts r
  as_list begins right = by_first (ListName room) 91 (λ a y h. record {
    parse = list h.before h.item h.behind;
    are = h.are;
    stands_for = h.stands_for;
    symbols = h.symbols;
  }) out begins right
    where
      out : (a : Text) (y : Measured) (d : TypeParse) → a ≡ type_bytes d → y ≡ (basic d, symbols_of (basic d)) → symbols_of (basic d) ≤ room
          → Head d 91 → ListName room a y
      out a y (list m c n) e f le is = record { before = m; item = c; behind = n; are = e; stands_for = f; symbols = le }
      out a y d e f le is = absurd (omega (arith, is))

  -- a name that is a word
  named : (make : ℕ → TypeParse) (word : Text) (b : BasicTerm) → ((n : ℕ) → type_bytes (make n) ≡ word ++ spaces n)
      → ((n : ℕ) → basic (make n) ≡ b) → symbols_of b ≡ 1 → (a : Text) (y : Measured) → Name word b a y → TypeName room a y
  named make word b are is one a y h =
      let size : symbols_of (basic (make h.first.behind)) ≡ 1 = ap (λ d. symbols_of d) (is h.first.behind) ∙ one in record {
        parse = make h.first.behind;
        are = word_are word (b, 1) h ∙ sym (are h.first.behind);
        stands_for = h.next.same ∙ ap (λ d. (d, 1)) (sym (is h.first.behind)) ∙ ap (λ n. (basic (make h.first.behind), n)) (sym size);
        symbols = omega (arith, size, some);
      }

  pub as_unit : {ts : Text} {r : Answer ℕ Measured} → (s : Text) × (ts ≡ 117 ∷ s)
      → Right (Name (codes "unit") unit_type) Always NoBlank ts r → Right (TypeName room) Always NoBlank ts r
  as_unit begins right =
      by_first (Name (codes "unit") unit_type) 117 (named unit (codes "unit") unit_type (λ n. refl) (λ n. refl) refl) out begins right
    where
      out : (a : Text) (y : Measured) (d : TypeParse) → a ≡ type_bytes d → y ≡ (basic d, symbols_of (basic d)) → symbols_of (basic d) ≤ room
          → Head d 117 → Name (codes "unit") unit_type a y
      out a y (unit n) e f le is = word_is (codes "unit") (unit_type, 1) n e f
      out a y d e f le is = absurd (omega (arith, is))

  pub as_bool : {ts : Text} {r : Answer ℕ Measured} → (s : Text) × (ts ≡ 98 ∷ s)
      → Right (Name (codes "bool") bool_type) Always NoBlank ts r → Right (TypeName room) Always NoBlank ts r
  as_bool begins right =
      by_first (Name (codes "bool") bool_type) 98 (named bool (codes "bool") bool_type (λ n. refl) (λ n. refl) refl) out begins right
    where
      out : (a : Text) (y : Measured) (d : TypeParse) → a ≡ type_bytes d → y ≡ (basic d, symbols_of (basic d)) → symbols_of (basic d) ≤ room
          → Head d 98 → Name (codes "bool") bool_type a y
      out a y (bool n) e f le is = word_is (codes "bool") (bool_type, 1) n e f
      out a y d e f le is = absurd (omega (arith, is))

  pub as_int : {ts : Text} {r : Answer ℕ Measured} → (s : Text) × (ts ≡ 105 ∷ s)
      → Right (Name (codes "int") int_type) Always NoBlank ts r → Right (TypeName room) Always NoBlank ts r
  as_int begins right =
      by_first (Name (codes "int") int_type) 105 (named int (codes "int") int_type (λ n. refl) (λ n. refl) refl) out begins right
    where
      out : (a : Text) (y : Measured) (d : TypeParse) → a ≡ type_bytes d → y ≡ (basic d, symbols_of (basic d)) → symbols_of (basic d) ≤ room
          → Head d 105 → Name (codes "int") int_type a y
      out a y (int n) e f le is = word_is (codes "int") (int_type, 1) n e f
      out a y d e f le is = absurd (omega (arith, is))

  pub as_text : {ts : Text} {r : Answer ℕ Measured} → NoToken 40 ts → NoToken 91 ts → NoToken 117 ts → NoToken 98 ts → NoToken 105 ts
      → Right (Name (codes "text") text_type) Always NoBlank ts r → Right (TypeName room) Always NoBlank ts r
  as_text {ts = ts} n40 n91 n117 n98 n105 right = by_production (Name (codes "text") text_type) (TypeName room)
      (named text (codes "text") text_type (λ n. refl) (λ n. refl) refl)
      (λ a y z h _ b. let (t, w, starts, head) = head_of h.parse in let (behind, is) = first_token t w a z ts (h.are ∙ starts) b in
      out a y h.parse h.are h.stands_for t behind is head) right
    where
      out : (a : Text) (y : Measured) (d : TypeParse) → a ≡ type_bytes d → y ≡ (basic d, symbols_of (basic d)) → (t : ℕ) (w : Text)
          → ts ≡ t ∷ w → Head d t → Name (codes "text") text_type a y
      out a y (unit n) e f t w is head = absurd (n117 w (is ∙ ap (λ q. q ∷ w) head))
      out a y (bool n) e f t w is head = absurd (n98 w (is ∙ ap (λ q. q ∷ w) head))
      out a y (int n) e f t w is head = absurd (n105 w (is ∙ ap (λ q. q ∷ w) head))
      out a y (text n) e f t w is head = word_is (codes "text") (text_type, 1) n e f
      out a y (pair m c k d n) e f t w is head = absurd (n40 w (is ∙ ap (λ q. q ∷ w) head))
      out a y (list m c n) e f t w is head = absurd (n91 w (is ∙ ap (λ q. q ∷ w) head))
