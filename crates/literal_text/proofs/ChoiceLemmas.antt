-- Which production a literal is read by: the wanted type tells, and else the first byte.
use Rattle.std.specs.Prelude.{nat_le}
use Rattle.std.proofs.lemmas.Bool.Decides.{nat_tests}
use Rattle.std.proofs.Common.{◌≡◌, ℕ, suc, ◌-◌, ◌<◌, ◌≤◌, max, Bool, true, false, Option, None, Some, ◌⊎◌, inl, inr, [], ◌∷◌, ◌++◌, length, Ok, Err, refl, sym, ap, ◌∙◌, subst, arith}
use Rattle.task_model.specs.Terms.Text.{Text}
use Rattle.task_model.specs.Terms.Basic.{BasicTerm, unit_type, bool_type, int_type, text_type, pair_type, list_type}
use Rattle.task_model.specs.Terms.Value.{ValueTerm, unit_value, bool_value, int_value, text_value, list_value, no_values, as_values, value_has}
use Rattle.exact_reading.specs.declared.stop.ParseStop.{ParseStop}
use Rattle.exact_reading.specs.Reading.{SharesPrefix, IsViablePrefix, Always, Answer, Right, NoToken}
use Rattle.exact_reading.proofs.Productions.{Follows, by_production, same_language, tighter}
use Rattle.exact_reading.proofs.Starts.{first_token}
use Rattle.literal_text.specs.Literals.{LiteralParse, literal, unit, bool, int, text, pair, empty, list, literal_bytes, value, spaces, signed, IsWithinLiteralLimits, levels_of}
use Rattle.literal_text.specs.LiteralReading.{NoBlank, Ends, SpelledWord, BoolLiteral, IntLiteral, TextLiteral, HasWanted, fewest, Fit, Lit, NoElements, Elements, ListLiteral, UnitEnd, UnitLiteral, PairEnd}
use Rattle.literal_text.proofs.IntLemmas.{signed_fits, fits_signed}
use Rattle.literal_text.proofs.FitLemmas.{some_level, fit_pair, pair_fit, fit_any_pair, any_pair_fit, list_of, fit_list, list_fit}
use Rattle.literal_text.proofs.LiteralLemmas.{ends_blank, apart, Marked, marked_are, marked_right, marked_stop, no_blank, pair_alive, pair_head, head_of, Head}

text_few : (n : ℕ) → n ≤ 65536 → nat_le n 65536 ≡ true
text_few n le = grind (arith, nat_tests)

two : {room : ℕ} (m n : ℕ) → suc (max m n) ≤ room → 1 ≤ m → 2 ≤ room
two m n le some = omega arith

not_true : false ≡ true → ⊥
not_true e = cc

-- ---- from literals of one production to literals
module _ (want : Option BasicTerm) (room : ℕ) (some : 1 ≤ room) where
  unit_in : HasWanted want unit_value → (a : Text) (y : ValueTerm) → UnitLiteral a y → Lit want room a y
  unit_in typed a y h = record {
    parse = unit h.between h.behind;
    are = h.are;
    stands_for = h.stands_for;
    fit = subst (Fit want room) (sym h.stands_for) (record {
      limits = tt;
      levels = some;
      typed = typed;
    });
  }

  bool_in : ((b : Bool) → HasWanted want (bool_value b)) → (a : Text) (y : ValueTerm) → BoolLiteral a y → Lit want room a y
  bool_in typed a y h = record {
    parse = bool h.truth h.behind;
    are = h.are;
    stands_for = h.stands_for;
    fit = subst (Fit want room) (sym h.stands_for) (record {
      limits = tt;
      levels = some;
      typed = typed h.truth;
    });
  }

  int_in : ((b : Bool) (n : ℕ) → HasWanted want (int_value (signed b n))) → (a : Text) (y : ValueTerm) → IntLiteral a y → Lit want room a y
  int_in typed a y h = record {
    parse = int h.negative h.digits h.number h.is h.behind;
    are = h.are;
    stands_for = h.stands_for;
    fit = subst (Fit want room) (sym h.stands_for) (record {
      limits = signed_fits h.negative h.number h.within;
      levels = some;
      typed = typed h.negative h.number;
    });
  }

  text_in : ((t : Text) → length t ≤ 65536 → HasWanted want (text_value t)) → (a : Text) (y : ValueTerm) → TextLiteral a y
      → Lit want room a y
  text_in typed a y h = record {
    parse = text h.quoted h.content h.is h.behind;
    are = h.are;
    stands_for = h.stands_for;
    fit = subst (Fit want room) (sym h.stands_for) (record { limits = h.fits; levels = some; typed = typed h.content h.fits });
  }

  int_of : {a : Text} {y : ValueTerm} → Fit want room y → (b : Bool) (digits : Text) (n : ℕ) → (is : _) → (k : ℕ)
      → a ≡ literal_bytes (int b digits n is k) → y ≡ int_value (signed b n) → IntLiteral a y
  int_of fit b digits n is k e f = record {
    negative = b;
    digits = digits;
    number = n;
    is = is;
    behind = k;
    are = e;
    stands_for = f;
    within = fits_signed b n (subst IsWithinLiteralLimits f fit.limits);
  }

  text_of : {a : Text} {y : ValueTerm} → Fit want room y → (quoted content : Text) → (is : _) → (k : ℕ)
      → a ≡ literal_bytes (text quoted content is k) → y ≡ text_value content → TextLiteral a y
  text_of fit quoted content is k e f = record {
    quoted = quoted;
    content = content;
    is = is;
    behind = k;
    are = e;
    stands_for = f;
    fits = subst IsWithinLiteralLimits f fit.limits;
  }

-- a list, of any elements or of a type's
module _ (want : Option BasicTerm) (room : ℕ) (some : 1 ≤ room) where
  list_in : (a : Text) (y : ValueTerm) → ListLiteral want (room - 1) a y → Lit (list_of want) room a y
  list_in a y h = go h.elements
    where
      go : NoElements h.inside y ⊎ Elements want (room - 1) h.inside y → Lit (list_of want) room a y
      go (inl n) = record {
        parse = empty h.behind n.behind;
        are = h.are ∙ ap (λ l. 91 ∷ (spaces h.behind ++ l)) n.are;
        stands_for = n.stands_for;
        fit = subst (Fit (list_of want) room) (sym n.stands_for) (fit_list want room [] some (omega arith) tt);
      }
      go (inr k) = let n = k.count in record {
        parse = list h.behind k.first k.others;
        are = h.are ∙ ap (λ l. 91 ∷ (spaces h.behind ++ l)) k.are;
        stands_for = k.stands_for;
        fit = subst (Fit (list_of want) room) (sym k.stands_for)
            (fit_list want room (value k.first ∷ value k.others) some (omega (arith, n)) k.fit);
      }

  empty_of : {a : Text} {y : ValueTerm} (m n : ℕ) → a ≡ literal_bytes (empty m n) → y ≡ list_value no_values
      → ListLiteral want (room - 1) a y
  empty_of m n e f = record {
    behind = m;
    inside = 93 ∷ spaces n;
    are = e;
    elements = inl (record { behind = n; are = refl; stands_for = f });
  }

  list_from : {a : Text} {y : ValueTerm} → Fit (list_of want) room y → (m : ℕ) (v : LiteralParse literal) (vs : _)
      → a ≡ literal_bytes (list m v vs) → y ≡ list_value (as_values (value v ∷ value vs)) → ListLiteral want (room - 1) a y
  list_from fit m v vs e f =
      let (some', few, all) = list_fit want room (value v ∷ value vs) (subst (Fit (list_of want) room) f fit) in
      record {
        behind = m;
        inside = literal_bytes v ++ literal_bytes vs;
        are = e;
        elements = inr (record {
          first = v;
          others = vs;
          are = refl;
          stands_for = f;
          count = omega (arith, few);
          fit = all;
        });
      }

-- ---- by the wanted type
module _ (b : BasicTerm) (room : ℕ) where
  typed_of : {a : Text} {y : ValueTerm} (h : Lit (Some b) room a y) → value_has (value h.parse) b ≡ true
  typed_of h = subst (λ v. value_has v b ≡ true) h.stands_for h.fit.typed

unit_out : (room : ℕ) (a : Text) (y : ValueTerm) → Lit (Some unit_type) room a y → UnitLiteral a y
unit_out room a y h = go h.parse h.are h.stands_for (typed_of unit_type room h)
  where
    go : (d : LiteralParse literal) → a ≡ literal_bytes d → y ≡ value d → value_has (value d) unit_type ≡ true → UnitLiteral a y
    go (unit m n) e f t = record { between = m; behind = n; are = e; stands_for = f }
    go (bool c n) e f t = absurd (not_true t)
    go (int c digits k is n) e f t = absurd (not_true t)
    go (text quoted content is n) e f t = absurd (not_true t)
    go (pair m v k w n) e f t = absurd (not_true t)
    go (empty m n) e f t = absurd (not_true t)
    go (list m v vs) e f t = absurd (not_true t)

bool_out : (room : ℕ) (a : Text) (y : ValueTerm) → Lit (Some bool_type) room a y → BoolLiteral a y
bool_out room a y h = go h.parse h.are h.stands_for (typed_of bool_type room h)
  where
    go : (d : LiteralParse literal) → a ≡ literal_bytes d → y ≡ value d → value_has (value d) bool_type ≡ true → BoolLiteral a y
    go (unit m n) e f t = absurd (not_true t)
    go (bool c n) e f t = record { truth = c; behind = n; are = e; stands_for = f }
    go (int c digits k is n) e f t = absurd (not_true t)
    go (text quoted content is n) e f t = absurd (not_true t)
    go (pair m v k w n) e f t = absurd (not_true t)
    go (empty m n) e f t = absurd (not_true t)
    go (list m v vs) e f t = absurd (not_true t)

int_out : (room : ℕ) → 1 ≤ room → (a : Text) (y : ValueTerm) → Lit (Some int_type) room a y → IntLiteral a y
int_out room some a y h = go h.parse h.are h.stands_for (typed_of int_type room h)
  where
    go : (d : LiteralParse literal) → a ≡ literal_bytes d → y ≡ value d → value_has (value d) int_type ≡ true → IntLiteral a y
    go (unit m n) e f t = absurd (not_true t)
    go (bool c n) e f t = absurd (not_true t)
    go (int c digits k is n) e f t = int_of (Some int_type) room some h.fit c digits k is n e f
    go (text quoted content is n) e f t = absurd (not_true t)
    go (pair m v k w n) e f t = absurd (not_true t)
    go (empty m n) e f t = absurd (not_true t)
    go (list m v vs) e f t = absurd (not_true t)

text_out : (room : ℕ) → 1 ≤ room → (a : Text) (y : ValueTerm) → Lit (Some text_type) room a y → TextLiteral a y
text_out room some a y h = go h.parse h.are h.stands_for (typed_of text_type room h)
  where
    go : (d : LiteralParse literal) → a ≡ literal_bytes d → y ≡ value d → value_has (value d) text_type ≡ true → TextLiteral a y
    go (unit m n) e f t = absurd (not_true t)
    go (bool c n) e f t = absurd (not_true t)
    go (int c digits k is n) e f t = absurd (not_true t)
    go (text quoted content is n) e f t = text_of (Some text_type) room some h.fit quoted content is n e f
    go (pair m v k w n) e f t = absurd (not_true t)
    go (empty m n) e f t = absurd (not_true t)
    go (list m v vs) e f t = absurd (not_true t)

pair_out : (c b : BasicTerm) (room : ℕ) (a : Text) (y : ValueTerm) → Lit (Some (pair_type c b)) room a y
    → Marked 40 (PairEnd (Some c) (Some b) (room - 1)) a y
pair_out c b room a y h = go h.parse h.are h.stands_for (typed_of (pair_type c b) room h)
  where
    go : (d : LiteralParse literal) → a ≡ literal_bytes d → y ≡ value d → value_has (value d) (pair_type c b) ≡ true
        → Marked 40 (PairEnd (Some c) (Some b) (room - 1)) a y
    go (unit m n) e f t = absurd (not_true t)
    go (bool x n) e f t = absurd (not_true t)
    go (int x digits k is n) e f t = absurd (not_true t)
    go (text quoted content is n) e f t = absurd (not_true t)
    go (pair m v k w n) e f t =
        let p = pair_fit {a = c} {b = b} {room = room} {v = value v} {w = value w} (subst (Fit (Some (pair_type c b)) room) f h.fit) in
        record {
          front = 40 ∷ spaces m;
          back = literal_bytes v ++ (44 ∷ (spaces k ++ (literal_bytes w ++ (41 ∷ spaces n))));
          value = tt;
          split = e;
          first = record {
            behind = m;
            are = refl;
          };
          next = record {
            first = v;
            between = k;
            second = w;
            behind = n;
            are = refl;
            stands_for = f;
            first_fits = p.0;
            second_fits = p.1;
          };
        }
    go (empty m n) e f t = absurd (not_true t)
    go (list m v vs) e f t = absurd (not_true t)

list_out : (b : BasicTerm) (room : ℕ) → 1 ≤ room → (a : Text) (y : ValueTerm) → Lit (Some (list_type b)) room a y
    → ListLiteral (Some b) (room - 1) a y
list_out b room some a y h = go h.parse h.are h.stands_for (typed_of (list_type b) room h)
  where
    go : (d : LiteralParse literal) → a ≡ literal_bytes d → y ≡ value d → value_has (value d) (list_type b) ≡ true
        → ListLiteral (Some b) (room - 1) a y
    go (unit m n) e f t = absurd (not_true t)
    go (bool x n) e f t = absurd (not_true t)
    go (int x digits k is n) e f t = absurd (not_true t)
    go (text quoted content is n) e f t = absurd (not_true t)
    go (pair m v k w n) e f t = absurd (not_true t)
    go (empty m n) e f t = empty_of (Some b) room some m n e f
    go (list m v vs) e f t = list_from (Some b) room some h.fit m v vs e f

module _ (want other : Option BasicTerm) (room : ℕ) where
  pair_follow : Follows {X = Unit {0}} NoBlank (λ _. PairEnd want other room) NoBlank
  pair_follow x b y z h hz = let (t, s, e, q0, q1, q2) = pair_head h in subst (λ l. NoBlank (l ++ z)) (sym e) (no_blank t (s ++ z) q0)

typed_pair_in : (c b : BasicTerm) (room : ℕ) → 1 ≤ room → (a : Text) (y : ValueTerm) → Marked 40 (PairEnd (Some c) (Some b) (room - 1)) a y
    → Lit (Some (pair_type c b)) room a y
typed_pair_in c b room some a y h =
    let k = h.next in
    record {
      parse = pair h.first.behind k.first k.between k.second k.behind;
      are = marked_are 40 (PairEnd (Some c) (Some b) (room - 1)) h ∙ ap (λ l. 40 ∷ (spaces h.first.behind ++ l)) k.are;
      stands_for = k.stands_for;
      fit = subst (Fit (Some (pair_type c b)) room) (sym k.stands_for) (fit_pair some k.first_fits k.second_fits);
    }

pub as_unit : {room : ℕ} {ts : Text} {r : Answer ℕ ValueTerm} → 1 ≤ room → Right UnitLiteral Always NoBlank ts r
    → Right (Lit (Some unit_type) room) Always Ends ts r
as_unit {room = room} some right = tighter ends_blank
    (same_language UnitLiteral (Lit (Some unit_type) room) (unit_in (Some unit_type) room some refl) (unit_out room) right)

pub as_bool : {room : ℕ} {ts : Text} {r : Answer ℕ ValueTerm} → 1 ≤ room → Right BoolLiteral Always NoBlank ts r
    → Right (Lit (Some bool_type) room) Always Ends ts r
as_bool {room = room} some right = tighter ends_blank
    (same_language BoolLiteral (Lit (Some bool_type) room) (bool_in (Some bool_type) room some (λ _. refl)) (bool_out room) right)

pub as_int : {room : ℕ} {ts : Text} {r : Answer ℕ ValueTerm} → 1 ≤ room → Right IntLiteral Always Ends ts r
    → Right (Lit (Some int_type) room) Always Ends ts r
as_int {room = room} some right = same_language IntLiteral (Lit (Some int_type) room) (int_in (Some int_type) room some (λ _ _. refl))
    (int_out room some) right

pub as_text : {room : ℕ} {ts : Text} {r : Answer ℕ ValueTerm} → 1 ≤ room → Right TextLiteral Always NoBlank ts r
    → Right (Lit (Some text_type) room) Always Ends ts r
as_text {room = room} some right = tighter ends_blank
    (same_language TextLiteral (Lit (Some text_type) room) (text_in (Some text_type) room some (λ t le. text_few (length t) le))
    (text_out room some) right)

pub as_list : {b : BasicTerm} {room : ℕ} {ts : Text} {r : Answer ℕ ValueTerm} → 1 ≤ room
    → Right (ListLiteral (Some b) (room - 1)) Always NoBlank ts r → Right (Lit (Some (list_type b)) room) Always Ends ts r
as_list {b = b} {room = room} some right = tighter ends_blank
    (same_language (ListLiteral (Some b) (room - 1)) (Lit (Some (list_type b)) room) (list_in (Some b) room some)
    (list_out b room some) right)

module _ (c b : BasicTerm) (room : ℕ) (le : fewest (Some (pair_type c b)) ≤ room) where
  fill : IsViablePrefix (PairEnd (Some c) (Some b) (room - 1)) Always []
  fill = pair_alive (Some c) (Some b) (room - 1) (omega arith) (omega arith)

  by_bracket : {ts : Text} {r : Answer ℕ ValueTerm} → Right (Marked 40 (PairEnd (Some c) (Some b) (room - 1))) Always NoBlank ts r
      → Right (Lit (Some (pair_type c b)) room) Always Ends ts r
  by_bracket right = tighter ends_blank (same_language (Marked 40 (PairEnd (Some c) (Some b) (room - 1))) (Lit (Some (pair_type c b)) room)
      (typed_pair_in c b room (omega arith)) (pair_out c b room) right)

  pub as_pair : {ts rest : Text} {r : Answer ℕ ValueTerm} → Right (SpelledWord (40 ∷ [])) Always NoBlank ts (Ok (tt, rest))
      → Right (PairEnd (Some c) (Some b) (room - 1)) Always NoBlank rest r → Right (Lit (Some (pair_type c b)) room) Always Ends ts r
  as_pair found right = by_bracket (marked_right (pair_follow (Some c) (Some b) (room - 1)) fill found right)

  pub as_pair_stop : {ts : Text} {e : ParseStop} → Right (SpelledWord (40 ∷ [])) Always NoBlank ts (Err e)
      → Right (Lit (Some (pair_type c b)) room) Always Ends ts (Err e)
  as_pair_stop right = by_bracket (marked_stop (pair_follow (Some c) (Some b) (room - 1)) fill right)

-- ---- by the first byte, where any literal is wanted
head_is : (d : LiteralParse literal) (u : ℕ) (s a z : Text) → a ≡ literal_bytes d → SharesPrefix [] (u ∷ s) (a ++ z) → Head d u
head_is d u s a z e b =
    let (t, w, starts, head) = head_of d in
    let (behind, is) = first_token t w a z (u ∷ s) (e ∙ starts) b in
    let t_is : t ≡ u = same t u behind s (sym is) in
    subst (Head d) t_is head
  where
    same : (t u : ℕ) (w s : Text) → t ∷ w ≡ u ∷ s → t ≡ u
    same t u w s e = cc

module _ (room : ℕ) (some : 1 ≤ room) where
  -- what may stand behind a first round bracket
  pub record Opened (t : Text) (v : ValueTerm) : Type 0 where
    pub by : UnitEnd t v ⊎ ((2 ≤ room) × PairEnd None None (room - 1) t v)

  opened_in : (a : Text) (y : ValueTerm) → Marked 40 Opened a y → Lit None room a y
  opened_in a y h = go h.next.by
    where
      go : UnitEnd h.back y ⊎ ((2 ≤ room) × PairEnd None None (room - 1) h.back y) → Lit None room a y
      go (inl u) = record {
        parse = unit h.first.behind u.behind;
        are = marked_are 40 Opened h ∙ ap (λ l. 40 ∷ (spaces h.first.behind ++ l)) u.are;
        stands_for = u.stands_for;
        fit = subst (Fit None room) (sym u.stands_for) (record { limits = tt; levels = some; typed = tt });
      }
      go (inr (two, k)) = record {
        parse = pair h.first.behind k.first k.between k.second k.behind;
        are = marked_are 40 Opened h
            ∙ ap (λ l. 40 ∷ (spaces h.first.behind ++ l)) k.are;
        stands_for = k.stands_for;
        fit = subst (Fit None room) (sym k.stands_for) (fit_any_pair some k.first_fits k.second_fits);
      }

  opened_out : (s a : Text) (y : ValueTerm) (z : Text) → Lit None room a y → SharesPrefix [] (40 ∷ s) (a ++ z) → Marked 40 Opened a y
  opened_out s a y z h b = go h.parse h.are h.stands_for (head_is h.parse 40 s a z h.are b)
    where
      go : (d : LiteralParse literal) → a ≡ literal_bytes d → y ≡ value d → Head d 40 → Marked 40 Opened a y
      go (unit m n) e f is = record {
        front = 40 ∷ spaces m;
        back = 41 ∷ spaces n;
        value = tt;
        split = e;
        first = record {
          behind = m;
          are = refl;
        };
        next = record { by = inl (record { behind = n; are = refl; stands_for = f }) };
      }
      go (bool true n) e f is = absurd (omega (arith, is))
      go (bool false n) e f is = absurd (omega (arith, is))
      go (int c digits k is' n) e f (inl is) = absurd (omega (arith, is))
      go (int c digits k is' n) e f (inr (l, r)) = absurd (omega (arith, l))
      go (text quoted content is' n) e f is = absurd (omega (arith, is))
      go (pair m v k w n) e f is =
          let fit = subst (Fit None room) f h.fit in
          let p = any_pair_fit {room = room} {v = value v} {w = value w} fit in
          record {
            front = 40 ∷ spaces m;
            back = literal_bytes v ++ (44 ∷ (spaces k ++ (literal_bytes w ++ (41 ∷ spaces n))));
            value = tt;
            split = e;
            first = record { behind = m; are = refl };
            next = record {
              by = inr (
                two (levels_of (value v)) (levels_of (value w)) fit.levels (some_level (value v)),
                record {
                  first = v;
                  between = k;
                  second = w;
                  behind = n;
                  are = refl;
                  stands_for = f;
                  first_fits = p.0;
                  second_fits = p.1;
                },
              );
            };
          }
      go (empty m n) e f is = absurd (omega (arith, is))
      go (list m v vs) e f is = absurd (omega (arith, is))

  opened_follow : Follows {X = Unit {0}} NoBlank (λ _. Opened) NoBlank
  opened_follow x b y z h hz = go h.by
    where
      go : UnitEnd b y ⊎ ((2 ≤ room) × PairEnd None None (room - 1) b y) → NoBlank (b ++ z)
      go (inl u) = subst (λ l. NoBlank (l ++ z)) (sym u.are) (no_blank 41 (spaces u.behind ++ z) (omega arith))
      go (inr (two, k)) = pair_follow None None (room - 1) tt b y z k hz

  opened_alive : IsViablePrefix Opened Always []
  opened_alive = (41 ∷ [], unit_value, record { by = inl (record { behind = 0; are = refl; stands_for = refl }) }, tt)

  by_round : {ts : Text} {r : Answer ℕ ValueTerm} → (s : Text) × (ts ≡ 40 ∷ s) → Right (Marked 40 Opened) Always NoBlank ts r
      → Right (Lit None room) Always Ends ts r
  by_round {ts = ts} (s, e) right = tighter ends_blank
      (by_production (Marked 40 Opened) (Lit None room) opened_in
      (λ a y z h _ b. opened_out s a y z h (subst (λ l. SharesPrefix [] l (a ++ z)) e b)) right)

  pub any_round : {ts rest : Text} {r : Answer ℕ ValueTerm} → (s : Text) × (ts ≡ 40 ∷ s)
      → Right (SpelledWord (40 ∷ [])) Always NoBlank ts (Ok (tt, rest)) → Right Opened Always NoBlank rest r
      → Right (Lit None room) Always Ends ts r
  any_round is found right = by_round is (marked_right opened_follow opened_alive found right)

  pub any_round_stop : {ts : Text} {e : ParseStop} → (s : Text) × (ts ≡ 40 ∷ s) → Right (SpelledWord (40 ∷ [])) Always NoBlank ts (Err e)
      → Right (Lit None room) Always Ends ts (Err e)
  any_round_stop is right = by_round is (marked_stop opened_follow opened_alive right)

  -- no room for a pair
  pub opened_full : {ts : Text} {r : Answer ℕ ValueTerm} → room < 2 → Right UnitEnd Always NoBlank ts r → Right Opened Always NoBlank ts r
  opened_full lt right = same_language UnitEnd Opened (λ a y h. record { by = inl h }) (λ a y h. out a y h.by) right
    where
      out : (a : Text) (y : ValueTerm) → UnitEnd a y ⊎ ((2 ≤ room) × PairEnd None None (room - 1) a y) → UnitEnd a y
      out a y (inl u) = u
      out a y (inr (two, k)) = absurd (omega arith)

  -- the bracket at the end comes at once
  pub opened_unit : {ts : Text} {r : Answer ℕ ValueTerm} → (s : Text) × (ts ≡ 41 ∷ s) → Right UnitEnd Always NoBlank ts r
      → Right Opened Always NoBlank ts r
  opened_unit {ts = ts} (s, e) right = by_production UnitEnd Opened (λ a y h. record {
    by = inl h;
  }) (λ a y z h _ b. out a y z (subst (λ l. SharesPrefix [] l (a ++ z)) e b) h.by) right
    where
      out : (a : Text) (y : ValueTerm) (z : Text) → SharesPrefix [] (41 ∷ s) (a ++ z) → UnitEnd a y
          ⊎ ((2 ≤ room) × PairEnd None None (room - 1) a y) → UnitEnd a y
      out a y z b (inl u) = u
      out a y z b (inr (two, k)) = let (t, w, e, q0, q1, q2) = pair_head k in let (behind, is) = first_token t w a z (41 ∷ s) e b in
          absurd (apart t 41 behind s q1 (sym is))

  -- a part of a pair comes
  pub opened_pair : {ts : Text} {r : Answer ℕ ValueTerm} → 2 ≤ room → NoToken 41 ts
      → Right (PairEnd None None (room - 1)) Always NoBlank ts r → Right Opened Always NoBlank ts r
  opened_pair {ts = ts} two no_close right = by_production (PairEnd None None (room - 1)) Opened (λ a y h. record {
    by = inr (two, h);
  }) (λ a y z h _ b. out a y z b h.by) right
    where
      out : (a : Text) (y : ValueTerm) (z : Text) → SharesPrefix [] ts (a ++ z) → UnitEnd a y
          ⊎ ((2 ≤ room) × PairEnd None None (room - 1) a y) → PairEnd None None (room - 1) a y
      out a y z b (inl u) = let (behind, is) = first_token 41 (spaces u.behind) a z ts u.are b in absurd (no_close behind is)
      out a y z b (inr (two', k)) = k

  any_list_out : (s a : Text) (y : ValueTerm) (z : Text) → Lit None room a y → SharesPrefix [] (91 ∷ s) (a ++ z)
      → ListLiteral None (room - 1) a y
  any_list_out s a y z h b = go h.parse h.are h.stands_for (head_is h.parse 91 s a z h.are b)
    where
      go : (d : LiteralParse literal) → a ≡ literal_bytes d → y ≡ value d → Head d 91 → ListLiteral None (room - 1) a y
      go (unit m n) e f is = absurd (omega (arith, is))
      go (bool true n) e f is = absurd (omega (arith, is))
      go (bool false n) e f is = absurd (omega (arith, is))
      go (int c digits k is' n) e f (inl is) = absurd (omega (arith, is))
      go (int c digits k is' n) e f (inr (l, r)) = absurd (omega (arith, r))
      go (text quoted content is' n) e f is = absurd (omega (arith, is))
      go (pair m v k w n) e f is = absurd (omega (arith, is))
      go (empty m n) e f is = empty_of None room some m n e f
      go (list m v vs) e f is = list_from None room some h.fit m v vs e f

  pub any_list : {ts : Text} {r : Answer ℕ ValueTerm} → (s : Text) × (ts ≡ 91 ∷ s) → Right (ListLiteral None (room - 1)) Always NoBlank ts r
      → Right (Lit None room) Always Ends ts r
  any_list {ts = ts} (s, e) right = tighter ends_blank (by_production (ListLiteral None (room - 1)) (Lit None room) (list_in None room some)
      (λ a y z h _ b. any_list_out s a y z h (subst (λ l. SharesPrefix [] l (a ++ z)) e b)) right)

  any_text_out : (s a : Text) (y : ValueTerm) (z : Text) → Lit None room a y → SharesPrefix [] (34 ∷ s) (a ++ z) → TextLiteral a y
  any_text_out s a y z h b = go h.parse h.are h.stands_for (head_is h.parse 34 s a z h.are b)
    where
      go : (d : LiteralParse literal) → a ≡ literal_bytes d → y ≡ value d → Head d 34 → TextLiteral a y
      go (unit m n) e f is = absurd (omega (arith, is))
      go (bool true n) e f is = absurd (omega (arith, is))
      go (bool false n) e f is = absurd (omega (arith, is))
      go (int c digits k is' n) e f (inl is) = absurd (omega (arith, is))
      go (int c digits k is' n) e f (inr (l, r)) = absurd (omega (arith, l))
      go (text quoted content is' n) e f is = text_of None room some h.fit quoted content is' n e f
      go (pair m v k w n) e f is = absurd (omega (arith, is))
      go (empty m n) e f is = absurd (omega (arith, is))
      go (list m v vs) e f is = absurd (omega (arith, is))

  pub any_text : {ts : Text} {r : Answer ℕ ValueTerm} → (s : Text) × (ts ≡ 34 ∷ s) → Right TextLiteral Always NoBlank ts r
      → Right (Lit None room) Always Ends ts r
  any_text {ts = ts} (s, e) right = tighter ends_blank
      (by_production TextLiteral (Lit None room) (text_in None room some (λ _ _. tt))
      (λ a y z h _ b. any_text_out s a y z h (subst (λ l. SharesPrefix [] l (a ++ z)) e b)) right)

  any_bool_out : (u : ℕ) → (u ≡ 116) ⊎ (u ≡ 102) → (s a : Text) (y : ValueTerm) (z : Text) → Lit None room a y
      → SharesPrefix [] (u ∷ s) (a ++ z) → BoolLiteral a y
  any_bool_out u letter s a y z h b = go h.parse h.are h.stands_for (head_is h.parse u s a z h.are b) (both letter)
    where
      both : (u ≡ 116) ⊎ (u ≡ 102) → (102 ≤ u) × (u ≤ 116)
      both (inl e) = (omega arith, omega arith)
      both (inr e) = (omega arith, omega arith)

      go : (d : LiteralParse literal) → a ≡ literal_bytes d → y ≡ value d → Head d u → (102 ≤ u) × (u ≤ 116) → BoolLiteral a y
      go (unit m n) e f is q = absurd (omega (arith, is, q.0))
      go (bool c n) e f is q = record { truth = c; behind = n; are = e; stands_for = f }
      go (int c digits k is' n) e f (inl is) q = absurd (omega (arith, is, q.0))
      go (int c digits k is' n) e f (inr (l, r)) q = absurd (omega (arith, r, q.0))
      go (text quoted content is' n) e f is q = absurd (omega (arith, is, q.0))
      go (pair m v k w n) e f is q = absurd (omega (arith, is, q.0))
      go (empty m n) e f is q = absurd (omega (arith, is, q.0))
      go (list m v vs) e f is q = absurd (omega (arith, is, q.0))

  pub any_bool : (u : ℕ) → (u ≡ 116) ⊎ (u ≡ 102) → {ts : Text} {r : Answer ℕ ValueTerm} → (s : Text) × (ts ≡ u ∷ s)
      → Right BoolLiteral Always NoBlank ts r → Right (Lit None room) Always Ends ts r
  any_bool u letter {ts = ts} (s, e) right = tighter ends_blank
      (by_production BoolLiteral (Lit None room) (bool_in None room some (λ _. tt))
      (λ a y z h _ b. any_bool_out u letter s a y z h (subst (λ l. SharesPrefix [] l (a ++ z)) e b)) right)

  any_int_out : (ts a : Text) (y : ValueTerm) (z : Text) → NoToken 40 ts → NoToken 91 ts → NoToken 34 ts → NoToken 116 ts → NoToken 102 ts
      → Lit None room a y → SharesPrefix [] ts (a ++ z) → IntLiteral a y
  any_int_out ts a y z n40 n91 n34 n116 n102 h b =
      let (t, w, starts, head) = head_of h.parse in
      let (behind, is) = first_token t w a z ts (h.are ∙ starts) b in
      go h.parse h.are h.stands_for t behind is head
    where
      go : (d : LiteralParse literal) → a ≡ literal_bytes d → y ≡ value d → (t : ℕ) (w : Text) → ts ≡ t ∷ w → Head d t → IntLiteral a y
      go (unit m n) e f t w is head = absurd (n40 w (is ∙ ap (λ q. q ∷ w) head))
      go (bool true n) e f t w is head = absurd (n116 w (is ∙ ap (λ q. q ∷ w) head))
      go (bool false n) e f t w is head = absurd (n102 w (is ∙ ap (λ q. q ∷ w) head))
      go (int c digits k is' n) e f t w is head = int_of None room some h.fit c digits k is' n e f
      go (text quoted content is' n) e f t w is head = absurd (n34 w (is ∙ ap (λ q. q ∷ w) head))
      go (pair m v k x n) e f t w is head = absurd (n40 w (is ∙ ap (λ q. q ∷ w) head))
      go (empty m n) e f t w is head = absurd (n91 w (is ∙ ap (λ q. q ∷ w) head))
      go (list m v vs) e f t w is head = absurd (n91 w (is ∙ ap (λ q. q ∷ w) head))

  pub any_int : {ts : Text} {r : Answer ℕ ValueTerm} → NoToken 40 ts → NoToken 91 ts → NoToken 34 ts → NoToken 116 ts → NoToken 102 ts
      → Right IntLiteral Always Ends ts r → Right (Lit None room) Always Ends ts r
  any_int {ts = ts} n40 n91 n34 n116 n102 right = by_production IntLiteral (Lit None room) (int_in None room some (λ _ _. tt))
      (λ a y z h _ b. any_int_out ts a y z n40 n91 n34 n116 n102 h b) right
