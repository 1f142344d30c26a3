-- Literals of several tokens.
use Rattle.std.proofs.Common.{◌≡◌, ◌≢◌, ℕ, ◌≤◌, Bool, true, false, Option, ◌⊎◌, inl, inr, [], ◌∷◌, ◌++◌, Ok, Err, refl, sym, ap, ◌∙◌, subst, arith, append_assoc}
use Rattle.task_model.specs.Terms.Text.{Text}
use Rattle.task_model.specs.Terms.Basic.{BasicTerm}
use Rattle.task_model.specs.Terms.Value.{ValueTerm, unit_value, bool_value, pair_value}
use Rattle.task_model.specs.Syntax.Literal.{bool_text}
use Rattle.task_model.specs.Terms.Token.{IsDigit}
use Rattle.exact_reading.specs.declared.stop.ParseStop.{ParseStop}
use Rattle.exact_reading.specs.Reading.{Language, SharesPrefix, IsViablePrefix, Always, Answer, Right, NoToken}
use Rattle.exact_reading.proofs.Sequences.{Bind, Done, append_nil}
use Rattle.exact_reading.proofs.Productions.{Follows, then_right, then_stop, done_right, by_production, same_language}
use Rattle.exact_reading.proofs.Starts.{first_token}
use Rattle.literal_text.specs.Literals.{LiteralParse, literal, unit, bool, int, text, pair, empty, list, literal_bytes, value, spaces}
use Rattle.literal_text.specs.LiteralReading.{NoBlank, Ends, SpelledWord, BoolLiteral, fewest, Fit, Lit, UnitEnd, UnitLiteral, PairEnd}
use Rattle.literal_text.proofs.Completions.{done_alive, part_alive}
use Rattle.literal_text.proofs.FitLemmas.{least_lit}

-- ---- what may follow
pub ends_blank : (z : Text) → Ends z → NoBlank z
ends_blank z h = h.blank

-- a byte that ends a literal
abbrev pub Closes : ℕ → Type 0
Closes t = (t ≢ 32) × (IsDigit t → ⊥)

pub closes_ends : (t : ℕ) (z : Text) → Closes t → Ends (t ∷ z)
closes_ends t z h = record { blank = λ y e. h.0 (let same : t ≡ 32 = cc in same); digit = h.1 }

closes_41 : Closes 41
closes_41 = (omega arith, λ d. let low = d.0 in omega (arith, low))

pub closes_44 : Closes 44
closes_44 = (omega arith, λ d. let low = d.0 in omega (arith, low))

pub closes_93 : Closes 93
closes_93 = (omega arith, λ d. let high = d.1 in omega (arith, high))

pub no_blank : (t : ℕ) (z : Text) → t ≢ 32 → NoBlank (t ∷ z)
no_blank t z n y e = n (let same : t ≡ 32 = cc in same)

-- two lists with other first bytes
pub apart : (t u : ℕ) (s w : Text) → t ≢ u → t ∷ s ≡ u ∷ w → ⊥
apart t u s w n e = n cc

-- ---- a word, and what comes after it
module _ {Y : Type 0} (mark : ℕ) (B : Language ℕ Y) where
  abbrev pub Marked : Language ℕ Y
  Marked = Bind (SpelledWord (mark ∷ [])) (λ _. B)

  pub marked_are : {a : Text} {y : Y} (h : Marked a y) → a ≡ mark ∷ (spaces h.first.behind ++ h.back)
  marked_are h = h.split ∙ ap (λ l. l ++ h.back) h.first.are

pub marked_right : {Y : Type 0} {word : Text} {B : Language ℕ Y} {E : Text → Type 0} {ts rest : Text} {r : Answer ℕ Y}
    → Follows {X = Unit {0}} NoBlank (λ _. B) E → IsViablePrefix B Always [] → Right (SpelledWord word) Always NoBlank ts (Ok (tt, rest))
    → Right B Always E rest r → Right (Bind (SpelledWord word) (λ _. B)) Always E ts r
marked_right follow fill found right = then_right follow fill found right

pub marked_stop : {Y : Type 0} {word : Text} {B : Language ℕ Y} {E : Text → Type 0} {ts : Text} {e : ParseStop}
    → Follows {X = Unit {0}} NoBlank (λ _. B) E → IsViablePrefix B Always [] → Right (SpelledWord word) Always NoBlank ts (Err e)
    → Right (Bind (SpelledWord word) (λ _. B)) Always E ts (Err e)
marked_stop follow fill right = then_stop follow (λ _ _ _. fill) right

pub done_follow : {Y : Type 0} (v : Y) → Follows {X = Unit {0}} NoBlank (λ _. Done v) NoBlank
done_follow v x b y z h hz = subst (λ l. NoBlank (l ++ z)) (sym h.none) hz

-- a word that stands for a value
pub word_right : {Y : Type 0} {word : Text} {v : Y} {ts rest : Text} → Right (SpelledWord word) Always NoBlank ts (Ok (tt, rest))
    → Right (Bind (SpelledWord word) (λ _. Done v)) Always NoBlank ts (Ok (v, rest))
word_right {v = v} found = marked_right (done_follow v) (done_alive v) found (done_right tt)

pub word_stop : {Y : Type 0} {word : Text} {v : Y} {ts : Text} {e : ParseStop} → Right (SpelledWord word) Always NoBlank ts (Err e)
    → Right (Bind (SpelledWord word) (λ _. Done v)) Always NoBlank ts (Err e)
word_stop {v = v} right = marked_stop (done_follow v) (done_alive v) right

-- the text of a word that stands for a value
pub word_are : {Y : Type 0} (word : Text) (v : Y) {a : Text} {y : Y} (h : Bind (SpelledWord word) (λ _. Done v) a y)
    → a ≡ word ++ spaces h.first.behind
word_are word v h = h.split ∙ ap (λ l. h.front ++ l) h.next.none ∙ append_nil h.front ∙ h.first.are

pub word_is : {Y : Type 0} (word : Text) (v : Y) {a : Text} {y : Y} (n : ℕ) → a ≡ word ++ spaces n → y ≡ v
    → Bind (SpelledWord word) (λ _. Done v) a y
word_is word v n e f = record {
  front = word ++ spaces n;
  back = [];
  value = tt;
  split = e ∙ sym (append_nil (word ++ spaces n));
  first = record {
    behind = n;
    are = refl;
  };
  next = record { none = refl; same = f };
}

-- ---- true and false
abbrev Truth : Bool → Language ℕ ValueTerm
Truth b = Bind (SpelledWord (bool_text b)) (λ _. Done (bool_value b))

truth_in : (b : Bool) (a : Text) (y : ValueTerm) → Truth b a y → BoolLiteral a y
truth_in b a y h = record { truth = b; behind = h.first.behind; are = word_are (bool_text b) (bool_value b) h; stands_for = h.next.same }

false_out : (s a : Text) (y : ValueTerm) (z : Text) → BoolLiteral a y → SharesPrefix [] (102 ∷ s) (a ++ z) → Truth false a y
false_out s a y z h b = go h.truth h.are h.stands_for
  where
    go : (b : Bool) → a ≡ bool_text b ++ spaces h.behind → y ≡ bool_value b → Truth false a y
    go true e f = let (behind, is) = first_token 116 _ a z (102 ∷ s) e b in absurd (apart 102 116 s behind (omega arith) is)
    go false e f = word_is (bool_text false) (bool_value false) h.behind e f

true_out : (ts a : Text) (y : ValueTerm) (z : Text) → NoToken 102 ts → BoolLiteral a y → SharesPrefix [] ts (a ++ z) → Truth true a y
true_out ts a y z no_f h b = go h.truth h.are h.stands_for
  where
    go : (b : Bool) → a ≡ bool_text b ++ spaces h.behind → y ≡ bool_value b → Truth true a y
    go true e f = word_is (bool_text true) (bool_value true) h.behind e f
    go false e f = let (behind, is) = first_token 102 _ a z ts e b in absurd (no_f behind is)

pub read_false : {ts : Text} {r : Answer ℕ ValueTerm} → (s : Text) × (ts ≡ 102 ∷ s) → Right (Truth false) Always NoBlank ts r
    → Right BoolLiteral Always NoBlank ts r
read_false {ts = ts} (s, e) right = by_production (Truth false) BoolLiteral (truth_in false)
    (λ a y z h _ b. false_out s a y z h (subst (λ l. SharesPrefix [] l (a ++ z)) e b)) right

pub read_true : {ts : Text} {r : Answer ℕ ValueTerm} → NoToken 102 ts → Right (Truth true) Always NoBlank ts r
    → Right BoolLiteral Always NoBlank ts r
read_true {ts = ts} no_f right = by_production (Truth true) BoolLiteral (truth_in true) (λ a y z h _ b. true_out ts a y z no_f h b) right

-- ---- unit
abbrev Close : Language ℕ ValueTerm
Close = Bind (SpelledWord (41 ∷ [])) (λ _. Done unit_value)

pub read_end : {ts : Text} {r : Answer ℕ ValueTerm} → Right Close Always NoBlank ts r → Right UnitEnd Always NoBlank ts r
read_end right = same_language Close UnitEnd (λ a y h. record {
  behind = h.first.behind;
  are = word_are (41 ∷ []) unit_value h;
  stands_for = h.next.same;
})
    (λ a y h. word_is (41 ∷ []) unit_value h.behind h.are h.stands_for) right

end_alive : IsViablePrefix UnitEnd Always []
end_alive = (41 ∷ [], unit_value, record { behind = 0; are = refl; stands_for = refl }, tt)

end_follow : Follows {X = Unit {0}} NoBlank (λ _. UnitEnd) NoBlank
end_follow x b y z h hz = subst (λ l. NoBlank (l ++ z)) (sym h.are) (no_blank 41 (spaces h.behind ++ z) (omega arith))

unit_in : (a : Text) (y : ValueTerm) → Marked 40 UnitEnd a y → UnitLiteral a y
unit_in a y h = record {
  between = h.first.behind;
  behind = h.next.behind;
  are = marked_are 40 UnitEnd h
      ∙ ap (λ l. 40 ∷ (spaces h.first.behind ++ l)) h.next.are;
  stands_for = h.next.stands_for;
}

unit_out : (a : Text) (y : ValueTerm) → UnitLiteral a y → Marked 40 UnitEnd a y
unit_out a y h = record {
  front = 40 ∷ spaces h.between;
  back = 41 ∷ spaces h.behind;
  value = tt;
  split = h.are;
  first = record {
    behind = h.between;
    are = refl;
  };
  next = record { behind = h.behind; are = refl; stands_for = h.stands_for };
}

pub unit_right : {ts rest : Text} {r : Answer ℕ ValueTerm} → Right (SpelledWord (40 ∷ [])) Always NoBlank ts (Ok (tt, rest))
    → Right UnitEnd Always NoBlank rest r → Right UnitLiteral Always NoBlank ts r
unit_right found right = same_language (Marked 40 UnitEnd) UnitLiteral unit_in unit_out (marked_right end_follow end_alive found right)

pub unit_stop : {ts : Text} {e : ParseStop} → Right (SpelledWord (40 ∷ [])) Always NoBlank ts (Err e)
    → Right UnitLiteral Always NoBlank ts (Err e)
unit_stop right = same_language (Marked 40 UnitEnd) UnitLiteral unit_in unit_out (marked_stop end_follow end_alive right)

-- ---- the first byte of a literal
abbrev pub Head : LiteralParse literal → ℕ → Type 0
Head (unit m n) t = t ≡ 40
Head (bool true n) t = t ≡ 116
Head (bool false n) t = t ≡ 102
Head (int negative digits k is n) t = (t ≡ 45) ⊎ IsDigit t
Head (text quoted content is n) t = t ≡ 34
Head (pair m v k w n) t = t ≡ 40
Head (empty m n) t = t ≡ 91
Head (list m v vs) t = t ≡ 91

pub head_of : (d : LiteralParse literal) → (t : ℕ) × (s : Text) × (literal_bytes d ≡ t ∷ s) × Head d t
head_of (unit m n) = (_, _, refl, refl)
head_of (bool true n) = (_, _, refl, refl)
head_of (bool false n) = (_, _, refl, refl)
head_of (int true digits k is n) = (45, _, refl, inl refl)
head_of (int false [] k is n) = absurd (is.0 refl)
head_of (int false (d ∷ digits) k is n) = (d, _, refl, inr is.1.0)
head_of (text quoted content (ps, e, is) n) = (34, _, ap (λ l. l ++ spaces n) e, refl)
head_of (pair m v k w n) = (_, _, refl, refl)
head_of (empty m n) = (_, _, refl, refl)
head_of (list m v vs) = (_, _, refl, refl)

head_no : (d : LiteralParse literal) (t : ℕ) → Head d t → (t ≢ 32) × (t ≢ 41) × (t ≢ 93)
head_no (unit m n) t e = (omega arith, omega arith, omega arith)
head_no (bool true n) t e = (omega arith, omega arith, omega arith)
head_no (bool false n) t e = (omega arith, omega arith, omega arith)
head_no (int negative digits k is n) t (inl e) = (omega arith, omega arith, omega arith)
head_no (int negative digits k is n) t (inr (l, h)) = (omega arith, omega arith, omega arith)
head_no (text quoted content is n) t e = (omega arith, omega arith, omega arith)
head_no (pair m v k w n) t e = (omega arith, omega arith, omega arith)
head_no (empty m n) t e = (omega arith, omega arith, omega arith)
head_no (list m v vs) t e = (omega arith, omega arith, omega arith)

-- the same of what is read
pub lit_head : {want : Option BasicTerm} {room : ℕ} {a : Text} {y : ValueTerm} → Lit want room a y → (t : ℕ) × (s : Text) × (a ≡ t ∷ s)
    × (t ≢ 32) × (t ≢ 41) × (t ≢ 93)
lit_head h = let (t, s, e, is) = head_of h.parse in let q = head_no h.parse t is in (t, s, h.are ∙ e, q.0, q.1, q.2)

pub lit_no_blank : {want : Option BasicTerm} {room : ℕ} {a : Text} {y : ValueTerm} (z : Text) → Lit want room a y → NoBlank (a ++ z)
lit_no_blank z h = let (t, s, e, blank, _, _) = lit_head h in subst (λ l. NoBlank (l ++ z)) (sym e) (no_blank t (s ++ z) blank)

-- ---- pairs, behind the bracket
module _ (want other : Option BasicTerm) (room : ℕ) where
  abbrev Pair3 : ValueTerm → ValueTerm → Language ℕ ValueTerm
  Pair3 v w = Bind (SpelledWord (41 ∷ [])) (λ _. Done (pair_value v w))

  abbrev Pair2 : ValueTerm → Language ℕ ValueTerm
  Pair2 v = Bind (Lit other room) (Pair3 v)

  abbrev Pair1 : ValueTerm → Language ℕ ValueTerm
  Pair1 v = Marked 44 (Pair2 v)

  abbrev Pair0 : Language ℕ ValueTerm
  Pair0 = Bind (Lit want room) Pair1

  alive3 : (v w : ValueTerm) → IsViablePrefix (Pair3 v w) Always []
  alive3 v w = (41 ∷ [], pair_value v w, word_is (41 ∷ []) (pair_value v w) 0 refl refl, tt)

  alive2 : (v : ValueTerm) → fewest other ≤ room → IsViablePrefix (Pair2 v) Always []
  alive2 v le = let (t, w, h) = least_lit other room le in part_alive t w h (alive3 v w)

  alive1 : (v : ValueTerm) → fewest other ≤ room → IsViablePrefix (Pair1 v) Always []
  alive1 v le = part_alive (44 ∷ []) tt (record { behind = 0; are = refl }) (alive2 v le)

  alive0 : fewest want ≤ room → fewest other ≤ room → IsViablePrefix Pair0 Always []
  alive0 le le' = let (t, v, h) = least_lit want room le in part_alive t v h (alive1 v le')

  follow3 : (v : ValueTerm) → Follows Ends (Pair3 v) NoBlank
  follow3 v w b y z h hz = subst (λ l. Ends (l ++ z)) (sym (word_are (41 ∷ []) (pair_value v w) h))
      (closes_ends 41 (spaces h.first.behind ++ z) closes_41)

  follow2 : (v : ValueTerm) → Follows {X = Unit {0}} NoBlank (λ _. Pair2 v) NoBlank
  follow2 v x b y z h hz = subst (λ l. NoBlank (l ++ z)) (sym h.split)
      (subst NoBlank (sym (append_assoc h.front h.back z)) (lit_no_blank (h.back ++ z) h.first))

  follow1 : Follows Ends Pair1 NoBlank
  follow1 v b y z h hz = subst (λ l. Ends (l ++ z)) (sym (marked_are 44 (Pair2 v) h))
      (closes_ends 44 ((spaces h.first.behind ++ h.back) ++ z) closes_44)

  pair_in : (a : Text) (y : ValueTerm) → Pair0 a y → PairEnd want other room a y
  pair_in a y h =
      let g = h.next in
      let k = g.next in
      let l = k.next in
      let v_is = h.first.stands_for in
      let w_is = k.first.stands_for in
      record {
        first = h.first.parse;
        between = g.first.behind;
        second = k.first.parse;
        behind = l.first.behind;
        are = h.split ∙ ap (λ q. q ++ h.back) h.first.are ∙ ap (λ q. literal_bytes h.first.parse ++ q)
            (marked_are 44 (Pair2 h.value) g ∙ ap (λ q. 44 ∷ (spaces g.first.behind ++ q))
            (k.split ∙ ap (λ q. q ++ k.back) k.first.are ∙ ap (λ q. literal_bytes k.first.parse ++ q)
            (word_are (41 ∷ []) (pair_value h.value k.value) l)));
        stands_for = l.next.same ∙ ap (λ q. pair_value q k.value) v_is ∙ ap (λ q. pair_value (value h.first.parse) q) w_is;
        first_fits = subst (Fit want room) v_is h.first.fit;
        second_fits = subst (Fit other room) w_is k.first.fit;
      }

  pair_out : (a : Text) (y : ValueTerm) → PairEnd want other room a y → Pair0 a y
  pair_out a y h = record {
    front = literal_bytes h.first;
    back = 44 ∷ (spaces h.between ++ (literal_bytes h.second ++ (41 ∷ spaces h.behind)));
    value = value h.first;
    split = h.are;
    first = record { parse = h.first; are = refl; stands_for = refl; fit = h.first_fits };
    next = record {
      front = 44 ∷ spaces h.between;
      back = literal_bytes h.second ++ (41 ∷ spaces h.behind);
      value = tt;
      split = refl;
      first = record { behind = h.between; are = refl };
      next = record {
        front = literal_bytes h.second;
        back = 41 ∷ spaces h.behind;
        value = value h.second;
        split = refl;
        first = record { parse = h.second; are = refl; stands_for = refl; fit = h.second_fits };
        next = word_is (41 ∷ []) (pair_value (value h.first) (value h.second)) h.behind refl h.stands_for;
      };
    };
  }

  pub by_pair : {ts : Text} {r : Answer ℕ ValueTerm} → Right Pair0 Always NoBlank ts r → Right (PairEnd want other room) Always NoBlank ts r
  by_pair right = same_language Pair0 (PairEnd want other room) pair_in pair_out right

  module _ (le : fewest other ≤ room) where
    pub first_stop : {ts : Text} {e : ParseStop} → Right (Lit want room) Always Ends ts (Err e) → Right Pair0 Always NoBlank ts (Err e)
    first_stop right = then_stop follow1 (λ _ v _. alive1 v le) right

    pub first_right : {ts rest : Text} {v : ValueTerm} {r : Answer ℕ ValueTerm} → Right (Lit want room) Always Ends ts (Ok (v, rest))
        → Right (Pair1 v) Always NoBlank rest r → Right Pair0 Always NoBlank ts r
    first_right {v = v} found right = then_right follow1 (alive1 v le) found right

    pub comma_stop : {ts : Text} {v : ValueTerm} {e : ParseStop} → Right (SpelledWord (44 ∷ [])) Always NoBlank ts (Err e)
        → Right (Pair1 v) Always NoBlank ts (Err e)
    comma_stop {v = v} right = marked_stop (follow2 v) (alive2 v le) right

    pub comma_right : {ts rest : Text} {v : ValueTerm} {r : Answer ℕ ValueTerm}
        → Right (SpelledWord (44 ∷ [])) Always NoBlank ts (Ok (tt, rest)) → Right (Pair2 v) Always NoBlank rest r
        → Right (Pair1 v) Always NoBlank ts r
    comma_right {v = v} found right = marked_right (follow2 v) (alive2 v le) found right

  pub second_stop : {ts : Text} {v : ValueTerm} {e : ParseStop} → Right (Lit other room) Always Ends ts (Err e)
      → Right (Pair2 v) Always NoBlank ts (Err e)
  second_stop {v = v} right = then_stop (follow3 v) (λ _ w _. alive3 v w) right

  pub second_right : {ts rest : Text} {v w : ValueTerm} {r : Answer ℕ ValueTerm} → Right (Lit other room) Always Ends ts (Ok (w, rest))
      → Right (Pair3 v w) Always NoBlank rest r → Right (Pair2 v) Always NoBlank ts r
  second_right {v = v} {w = w} found right = then_right (follow3 v) (alive3 v w) found right

  pub pair_alive : fewest want ≤ room → fewest other ≤ room → IsViablePrefix (PairEnd want other room) Always []
  pair_alive le le' = let (t, y, h, o) = alive0 le le' in (t, y, pair_in t y h, tt)

pub pair_head : {want other : Option BasicTerm} {room : ℕ} {a : Text} {y : ValueTerm} → PairEnd want other room a y → (t : ℕ) × (s : Text)
    × (a ≡ t ∷ s) × (t ≢ 32) × (t ≢ 41) × (t ≢ 93)
pair_head {want = want} {room = room} h =
    let (t, s, e, q0, q1, q2) = lit_head {want = want} {room = room} (record {
      parse = h.first;
      are = refl;
      stands_for = refl;
      fit = h.first_fits;
    }) in
    let rest : Text = 44 ∷ (spaces h.between ++ (literal_bytes h.second ++ (41 ∷ spaces h.behind))) in
    (t, s ++ rest, h.are ∙ ap (λ l. l ++ rest) e, q0, q1, q2)
