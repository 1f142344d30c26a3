-- Lists.
use Rattle.std.proofs.Common.{◌≡◌, ◌≢◌, ℕ, suc, ◌+◌, ◌<◌, ◌≤◌, Option, ◌⊎◌, inl, inr, List, [], ◌∷◌, ◌++◌, length, Ok, Err, refl, sym, ap, ◌∙◌, subst, arith, append_assoc, length-append}
use Rattle.task_model.specs.Terms.Text.{Text}
use Rattle.task_model.specs.Terms.Basic.{BasicTerm}
use Rattle.task_model.specs.Terms.Value.{ValueTerm, list_value, no_values, as_values}
use Rattle.exact_reading.specs.declared.stop.ParseStop.{ParseStop}
use Rattle.exact_reading.specs.declared.stop.ParseStop.TheVariants.{Fault}
use Rattle.exact_reading.specs.declared.stop.FaultKind.TheVariants.{Unexpected}
use Rattle.exact_reading.specs.Reading.{Language, SharesPrefix, IsViablePrefix, Always, Answer, Right, NoToken}
use Rattle.exact_reading.proofs.Sequences.{Bind, Done, append_nil}
use Rattle.exact_reading.proofs.Productions.{Follows, then_right, then_stop, by_production, same_language, refused_first}
use Rattle.exact_reading.proofs.Starts.{first_token}
use Rattle.literal_text.specs.Literals.{LiteralParse, further, last, literal_bytes, value, spaces}
use Rattle.literal_text.specs.Literals as grammar
use Rattle.literal_text.specs.LiteralReading.{NoBlank, Ends, SpelledWord, fewest, Fit, AllFit, Lit, Further, NoElements, Elements, ListLiteral}
use Rattle.literal_text.proofs.Completions.{part_alive}
use Rattle.literal_text.proofs.FitLemmas.{fewest_least, least_lit}
use Rattle.literal_text.proofs.LiteralLemmas.{apart, Marked, marked_are, marked_right, marked_stop, word_are, word_is, lit_head, lit_no_blank, no_blank, closes_ends, closes_44, closes_93}

-- ---- the end of an empty list
abbrev Close : List ValueTerm → Language ℕ ValueTerm
Close vs = Bind (SpelledWord (93 ∷ [])) (λ _. Done (list_value (as_values vs)))

pub no_elements : {ts : Text} {r : Answer ℕ ValueTerm} → Right (Close []) Always NoBlank ts r → Right NoElements Always NoBlank ts r
no_elements right = same_language (Close []) NoElements (λ a y h. record {
  behind = h.first.behind;
  are = word_are (93 ∷ []) (list_value no_values) h;
  stands_for = h.next.same;
})
    (λ a y h. word_is (93 ∷ []) (list_value no_values) h.behind h.are h.stands_for) right

-- ---- further elements
module _ (want : Option BasicTerm) (room : ℕ) where
  abbrev Next : List ValueTerm → Language ℕ ValueTerm
  Next vs = Bind (Lit want room) (λ v. Further want room (vs ++ (v ∷ [])))

  abbrev Comma : List ValueTerm → Language ℕ ValueTerm
  Comma vs = Marked 44 (Next vs)

  further_alive : (vs : List ValueTerm) → length vs ≤ 1024 → IsViablePrefix (Further want room vs) Always []
  further_alive vs le = (
    93 ∷ [],
    list_value (as_values (vs ++ [])),
    record {
      parse = last 0;
      are = refl;
      stands_for = refl;
      count = omega (arith, le);
      fit = tt;
    },
    tt,
  )

  -- what stands behind an element begins with a comma or the bracket
  further_head : {vs : List ValueTerm} {a : Text} {y : ValueTerm} → Further want room vs a y → (t : ℕ) × (s : Text) × (a ≡ t ∷ s)
      × ((t ≡ 44) ⊎ (t ≡ 93))
  further_head h = go h.parse h.are
    where
      go : {a : Text} (d : LiteralParse further) → a ≡ literal_bytes d → (t : ℕ) × (s : Text) × (a ≡ t ∷ s) × ((t ≡ 44) ⊎ (t ≡ 93))
      go (grammar.last n) e = (93, _, e, inr refl)
      go (grammar.more k v vs) e = (44, _, e, inl refl)

  further_ends : {vs : List ValueTerm} {a : Text} {y : ValueTerm} (z : Text) → Further want room vs a y → Ends (a ++ z)
  further_ends z h = let (t, s, e, is) = further_head h in subst (λ l. Ends (l ++ z)) (sym e) (closed t s is)
    where
      closed : (t : ℕ) (s : Text) → (t ≡ 44) ⊎ (t ≡ 93) → Ends (t ∷ (s ++ z))
      closed t s (inl e) = subst (λ q. Ends (q ∷ (s ++ z))) (sym e) (closes_ends 44 (s ++ z) closes_44)
      closed t s (inr e) = subst (λ q. Ends (q ∷ (s ++ z))) (sym e) (closes_ends 93 (s ++ z) closes_93)

  next_follow : (vs : List ValueTerm) → Follows Ends (λ v. Further want room (vs ++ (v ∷ []))) NoBlank
  next_follow vs v b y z h hz = further_ends z h

  comma_follow : (vs : List ValueTerm) → Follows {X = Unit {0}} NoBlank (λ _. Next vs) NoBlank
  comma_follow vs x b y z h hz = subst (λ l. NoBlank (l ++ z)) (sym h.split)
      (subst NoBlank (sym (append_assoc h.front h.back z)) (lit_no_blank (h.back ++ z) h.first))

  shifted : (vs : List ValueTerm) (v : ValueTerm) (ws : List ValueTerm) → (vs ++ (v ∷ [])) ++ ws ≡ vs ++ (v ∷ ws)
  shifted vs v ws = append_assoc vs (v ∷ []) ws

  longer : (vs : List ValueTerm) (v : ValueTerm) → length (vs ++ (v ∷ [])) ≡ suc (length vs)
  longer vs v = let n = length-append vs (v ∷ []) in omega (arith, n)

  comma_in : (vs : List ValueTerm) (a : Text) (y : ValueTerm) → Comma vs a y → Further want room vs a y
  comma_in vs a y h =
      let g = h.next in
      let k = g.next in
      let v_is = g.first.stands_for in
      let n = k.count in
      let m = longer vs g.value in
      record {
        parse = grammar.more h.first.behind g.first.parse k.parse;
        are = marked_are 44 (Next vs) h ∙ ap (λ q. 44 ∷ (spaces h.first.behind ++ q))
            (g.split ∙ ap (λ q. q ++ g.back) g.first.are ∙ ap (λ q. literal_bytes g.first.parse ++ q) k.are);
        stands_for = k.stands_for ∙ ap (λ l. list_value (as_values l))
            (shifted vs g.value (value k.parse) ∙ ap (λ q. vs ++ (q ∷ value k.parse)) v_is);
        count = omega (arith, n, m);
        fit = (subst (Fit want room) v_is g.first.fit, k.fit);
      }

  comma_out : (vs : List ValueTerm) (s a : Text) (y : ValueTerm) (z : Text) → Further want room vs a y → SharesPrefix [] (44 ∷ s) (a ++ z)
      → Comma vs a y
  comma_out vs s a y z h b = go h.parse h.are h.stands_for h.count h.fit
    where
      go : (d : LiteralParse further) → a ≡ literal_bytes d → y ≡ list_value (as_values (vs ++ value d)) → length vs + length (value d)
          ≤ 1024 → AllFit want room (value d) → Comma vs a y
      go (grammar.last n) e f count fit = let (behind, is) = first_token 93 (spaces n) a z (44 ∷ s) e b in
          absurd (apart 44 93 s behind (omega arith) is)
      go (grammar.more k v ws) e f count fit =
          let m = longer vs (value v) in
          record {
            front = 44 ∷ spaces k;
            back = literal_bytes v ++ literal_bytes ws;
            value = tt;
            split = e;
            first = record { behind = k; are = refl };
            next = record {
              front = literal_bytes v;
              back = literal_bytes ws;
              value = value v;
              split = refl;
              first = record { parse = v; are = refl; stands_for = refl; fit = fit.0 };
              next = record {
                parse = ws;
                are = refl;
                stands_for = f ∙ ap (λ l. list_value (as_values l)) (sym (shifted vs (value v) (value ws)));
                count = omega (arith, count, m);
                fit = fit.1;
              };
            };
          }

  next_alive : (vs : List ValueTerm) → fewest want ≤ room → length vs < 1024 → IsViablePrefix (Next vs) Always []
  next_alive vs le lt =
      let (t, v, h) = least_lit want room le in
      let m = longer vs v in
      part_alive t v h (further_alive (vs ++ (v ∷ [])) (omega (arith, m, lt)))

  module _ (vs : List ValueTerm) (le : fewest want ≤ room) (lt : length vs < 1024) where
    by_comma : {ts : Text} {r : Answer ℕ ValueTerm} → (s : Text) × (ts ≡ 44 ∷ s) → Right (Comma vs) Always NoBlank ts r
        → Right (Further want room vs) Always NoBlank ts r
    by_comma {ts = ts} (s, e) right = by_production (Comma vs) (Further want room vs) (comma_in vs)
        (λ a y z h _ b. comma_out vs s a y z h (subst (λ l. SharesPrefix [] l (a ++ z)) e b)) right

    fill : (a : Text) (v : ValueTerm) → Lit want room a v → IsViablePrefix (Further want room (vs ++ (v ∷ []))) Always []
    fill a v h = let m = longer vs v in further_alive (vs ++ (v ∷ [])) (omega (arith, m, lt))

    pub comma_stop : {ts : Text} {e : ParseStop} → (s : Text) × (ts ≡ 44 ∷ s) → Right (SpelledWord (44 ∷ [])) Always NoBlank ts (Err e)
        → Right (Further want room vs) Always NoBlank ts (Err e)
    comma_stop is right = by_comma is (marked_stop (comma_follow vs) (next_alive vs le lt) right)

    pub next_stop : {ts rest : Text} {e : ParseStop} → (s : Text) × (ts ≡ 44 ∷ s)
        → Right (SpelledWord (44 ∷ [])) Always NoBlank ts (Ok (tt, rest)) → Right (Lit want room) Always Ends rest (Err e)
        → Right (Further want room vs) Always NoBlank ts (Err e)
    next_stop is found right = by_comma is
        (marked_right (comma_follow vs) (next_alive vs le lt) found (then_stop (next_follow vs) fill right))

    pub next_right : {ts rest rest' : Text} {v : ValueTerm} {r : Answer ℕ ValueTerm} → (s : Text) × (ts ≡ 44 ∷ s)
        → Right (SpelledWord (44 ∷ [])) Always NoBlank ts (Ok (tt, rest)) → Right (Lit want room) Always Ends rest (Ok (v, rest'))
        → Right (Further want room (vs ++ (v ∷ []))) Always NoBlank rest' r → Right (Further want room vs) Always NoBlank ts r
    next_right {v = v} is found element right = by_comma is
        (marked_right (comma_follow vs) (next_alive vs le lt) found
        (then_right (next_follow vs) (let m = longer vs v in further_alive (vs ++ (v ∷ [])) (omega (arith, m, lt))) element right))

  -- a comma behind as many elements as a list may have
  pub too_many : {vs : List ValueTerm} {ts : Text} → 1024 ≤ length vs → (s : Text) × (ts ≡ 44 ∷ s)
      → Right (Further want room vs) Always NoBlank ts (Err (Fault Unexpected (length ts)))
  too_many {vs = vs} {ts = ts} full (s, e) = refused_first (Further want room vs) ts
      (λ a y z h _ b. never a y z h (subst (λ l. SharesPrefix [] l (a ++ z)) e b))
    where
      never : (a : Text) (y : ValueTerm) (z : Text) → Further want room vs a y → SharesPrefix [] (44 ∷ s) (a ++ z) → ⊥
      never a y z h b = let k = (comma_out vs s a y z h b).next.next in let n = k.count in
          let m = longer vs (comma_out vs s a y z h b).next.value in omega (arith, n, m, full)

  -- ---- the bracket at the end
  close_in : (vs : List ValueTerm) → length vs ≤ 1024 → (a : Text) (y : ValueTerm) → Close vs a y → Further want room vs a y
  close_in vs le a y h = record {
    parse = grammar.last h.first.behind;
    are = word_are (93 ∷ []) (list_value (as_values vs)) h;
    stands_for = h.next.same ∙ ap (λ l. list_value (as_values l)) (sym (append_nil vs));
    count = omega (arith, le);
    fit = tt;
  }

  close_out : (vs : List ValueTerm) (ts a : Text) (y : ValueTerm) (z : Text) → NoToken 44 ts → Further want room vs a y
      → SharesPrefix [] ts (a ++ z) → Close vs a y
  close_out vs ts a y z no_comma h b = go h.parse h.are h.stands_for
    where
      go : (d : LiteralParse further) → a ≡ literal_bytes d → y ≡ list_value (as_values (vs ++ value d)) → Close vs a y
      go (grammar.last n) e f = word_is (93 ∷ []) (list_value (as_values vs)) n e (f ∙ ap (λ l. list_value (as_values l)) (append_nil vs))
      go (grammar.more k v ws) e f = let (behind, is) = first_token 44 _ a z ts e b in absurd (no_comma behind is)

  pub close : {vs : List ValueTerm} {ts : Text} {r : Answer ℕ ValueTerm} → length vs ≤ 1024 → NoToken 44 ts
      → Right (Close vs) Always NoBlank ts r → Right (Further want room vs) Always NoBlank ts r
  close {vs = vs} {ts = ts} le no_comma right = by_production (Close vs) (Further want room vs) (close_in vs le)
      (λ a y z h _ b. close_out vs ts a y z no_comma h b) right

  -- ---- all elements
  abbrev First : Language ℕ ValueTerm
  First = Bind (Lit want room) (λ v. Further want room (v ∷ []))

  elements_in : (a : Text) (y : ValueTerm) → First a y → Elements want room a y
  elements_in a y h =
      let v_is = h.first.stands_for in
      let k = h.next in
      let n = k.count in
      record {
        first = h.first.parse;
        others = k.parse;
        are = h.split ∙ ap (λ q. q ++ h.back) h.first.are ∙ ap (λ q. literal_bytes h.first.parse ++ q) k.are;
        stands_for = k.stands_for ∙ ap (λ q. list_value (as_values (q ∷ value k.parse))) v_is;
        count = omega (arith, n);
        fit = (subst (Fit want room) v_is h.first.fit, k.fit);
      }

  elements_out : (a : Text) (y : ValueTerm) → Elements want room a y → First a y
  elements_out a y h = let n = h.count in record {
    front = literal_bytes h.first;
    back = literal_bytes h.others;
    value = value h.first;
    split = h.are;
    first = record { parse = h.first; are = refl; stands_for = refl; fit = h.fit.0 };
    next = record { parse = h.others; are = refl; stands_for = h.stands_for; count = omega (arith, n); fit = h.fit.1 };
  }

  first_follow : Follows Ends (λ v. Further want room (v ∷ [])) NoBlank
  first_follow v b y z h hz = further_ends z h

  pub first_stop : {ts : Text} {e : ParseStop} → Right (Lit want room) Always Ends ts (Err e)
      → Right (Elements want room) Always NoBlank ts (Err e)
  first_stop right = same_language First (Elements want room) elements_in elements_out
      (then_stop first_follow (λ _ v _. further_alive (v ∷ []) (omega arith)) right)

  pub first_right : {ts rest : Text} {v : ValueTerm} {r : Answer ℕ ValueTerm} → Right (Lit want room) Always Ends ts (Ok (v, rest))
      → Right (Further want room (v ∷ [])) Always NoBlank rest r → Right (Elements want room) Always NoBlank ts r
  first_right {v = v} found right = same_language First (Elements want room) elements_in elements_out
      (then_right first_follow (further_alive (v ∷ []) (omega arith)) found right)

  -- ---- from the bracket on
  pub record Inside (t : Text) (v : ValueTerm) : Type 0 where
    pub by : NoElements t v ⊎ Elements want room t v

  elements_head : {a : Text} {y : ValueTerm} → Elements want room a y → (t : ℕ) × (s : Text) × (a ≡ t ∷ s) × (t ≢ 32) × (t ≢ 41) × (t ≢ 93)
  elements_head {a = a} h = let k = elements_out a _ h in let (t, s, e, q0, q1, q2) = lit_head k.first in
      (t, s ++ k.back, k.split ∙ ap (λ l. l ++ k.back) e, q0, q1, q2)

  inside_no_blank : {a : Text} {y : ValueTerm} (z : Text) → Inside a y → NoBlank (a ++ z)
  inside_no_blank {a = a} {y = y} z h = go h.by
    where
      go : NoElements a y ⊎ Elements want room a y → NoBlank (a ++ z)
      go (inl n) = subst (λ l. NoBlank (l ++ z)) (sym n.are) (no_blank 93 (spaces n.behind ++ z) (omega arith))
      go (inr k) = let (t, s, e, q0, q1, q2) = elements_head k in subst (λ l. NoBlank (l ++ z)) (sym e) (no_blank t (s ++ z) q0)

  inside_follow : Follows {X = Unit {0}} NoBlank (λ _. Inside) NoBlank
  inside_follow x b y z h hz = inside_no_blank z h

  inside_alive : IsViablePrefix Inside Always []
  inside_alive = (93 ∷ [], list_value no_values, record { by = inl (record { behind = 0; are = refl; stands_for = refl }) }, tt)

  list_in : (a : Text) (y : ValueTerm) → Marked 91 Inside a y → ListLiteral want room a y
  list_in a y h = record {
    behind = h.first.behind;
    inside = h.back;
    are = h.split ∙ ap (λ l. l ++ h.back) h.first.are;
    elements = h.next.by;
  }

  list_out : (a : Text) (y : ValueTerm) → ListLiteral want room a y → Marked 91 Inside a y
  list_out a y h = record {
    front = 91 ∷ spaces h.behind;
    back = h.inside;
    value = tt;
    split = h.are;
    first = record {
      behind = h.behind;
      are = refl;
    };
    next = record { by = h.elements };
  }

  pub list_stop : {ts : Text} {e : ParseStop} → Right (SpelledWord (91 ∷ [])) Always NoBlank ts (Err e)
      → Right (ListLiteral want room) Always NoBlank ts (Err e)
  list_stop right = same_language (Marked 91 Inside) (ListLiteral want room) list_in list_out (marked_stop inside_follow inside_alive right)

  pub list_right : {ts rest : Text} {r : Answer ℕ ValueTerm} → Right (SpelledWord (91 ∷ [])) Always NoBlank ts (Ok (tt, rest))
      → Right Inside Always NoBlank rest r → Right (ListLiteral want room) Always NoBlank ts r
  list_right found right = same_language (Marked 91 Inside) (ListLiteral want room) list_in list_out
      (marked_right inside_follow inside_alive found right)

  -- the bracket comes at once
  closed_out : (s a : Text) (y : ValueTerm) (z : Text) → Inside a y → SharesPrefix [] (93 ∷ s) (a ++ z) → NoElements a y
  closed_out s a y z h b = go h.by
    where
      go : NoElements a y ⊎ Elements want room a y → NoElements a y
      go (inl n) = n
      go (inr k) = let (t, w, e, q0, q1, q2) = elements_head k in let (behind, is) = first_token t w a z (93 ∷ s) e b in
          let t_is : t ≡ 93 = cc in absurd (q2 t_is)

  pub inside_closed : {ts : Text} {r : Answer ℕ ValueTerm} → (s : Text) × (ts ≡ 93 ∷ s) → Right NoElements Always NoBlank ts r
      → Right Inside Always NoBlank ts r
  inside_closed {ts = ts} (s, e) right = by_production NoElements Inside (λ a y h. record {
    by = inl h;
  }) (λ a y z h _ b. closed_out s a y z h (subst (λ l. SharesPrefix [] l (a ++ z)) e b)) right

  -- no element has room
  full_out : (fewest want ≤ room → ⊥) → (a : Text) (y : ValueTerm) → Inside a y → NoElements a y
  full_out full a y h = go h.by
    where
      go : NoElements a y ⊎ Elements want room a y → NoElements a y
      go (inl n) = n
      go (inr k) = let f = k.fit.0 in let low = fewest_least want (value k.first) f.typed in let most = f.levels in
          absurd (full (omega (arith, low, most)))

  pub inside_full : {ts : Text} {r : Answer ℕ ValueTerm} → (fewest want ≤ room → ⊥) → Right NoElements Always NoBlank ts r
      → Right Inside Always NoBlank ts r
  inside_full full right = same_language NoElements Inside (λ a y h. record { by = inl h }) (full_out full) right

  -- an element comes
  open_out : (ts a : Text) (y : ValueTerm) (z : Text) → NoToken 93 ts → Inside a y → SharesPrefix [] ts (a ++ z) → Elements want room a y
  open_out ts a y z no_close h b = go h.by
    where
      go : NoElements a y ⊎ Elements want room a y → Elements want room a y
      go (inl n) = let (behind, is) = first_token 93 (spaces n.behind) a z ts n.are b in absurd (no_close behind is)
      go (inr k) = k

  pub inside_open : {ts : Text} {r : Answer ℕ ValueTerm} → NoToken 93 ts → Right (Elements want room) Always NoBlank ts r
      → Right Inside Always NoBlank ts r
  inside_open {ts = ts} no_close right = by_production (Elements want room) Inside (λ a y h. record {
    by = inr h;
  }) (λ a y z h _ b. open_out ts a y z no_close h b) right
