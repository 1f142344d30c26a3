-- Texts: parts between quotes.
use Rattle.std.proofs.Common.{◌≡◌, ℕ, suc, ◌-◌, ◌<◌, ◌≤◌, List, [], ◌∷◌, ◌++◌, length, Ok, Err, refl, sym, ap, ◌∙◌, subst, arith, append_assoc, length-append}
use Rattle.task_model.specs.Terms.Text.{Text}
use Rattle.task_model.specs.Terms.Value.{ValueTerm, text_value}
use Rattle.task_model.specs.Terms.Token.{TextPart, part_spelling, PartsAre, spelled}
use Rattle.exact_reading.specs.declared.stop.ParseStop.{ParseStop}
use Rattle.exact_reading.specs.Reading.{Language, SharesPrefix, IsViablePrefix, Always, Answer, Right, Tok, Anything, NoToken}
use Rattle.exact_reading.proofs.Sequences.{Bind, Done, append_nil}
use Rattle.exact_reading.proofs.Productions.{Follows, then_right, then_stop, done_right, by_production, same_language, at_tokens, tok_right}
use Rattle.exact_reading.proofs.Starts.{first_token}
use Rattle.literal_text.specs.Literals.{spaces}
use Rattle.literal_text.specs.LiteralReading.{NoBlank, Gap, TextLiteral, Content, Part}
use Rattle.literal_text.proofs.Completions.{done_alive, part_alive}
use Rattle.literal_text.proofs.EscapeLemmas.{part_starts}

module _ (so_far : Text) (fits : length so_far ≤ 65536) where
  end_in : (a y : Text) → Bind (Tok 34) (λ _. Done so_far) a y → Content so_far a y
  end_in a y h = record {
    parts = [];
    more = [];
    are = h.split ∙ ap (λ l. l ++ h.back) h.first ∙ ap (λ l. 34 ∷ l) h.next.none;
    is = refl;
    stands_for = h.next.same ∙ sym (append_nil so_far);
    fits = let e = ap length h.next.same in omega (arith, e, fits);
  }

  end_out : (s a y z : Text) → Content so_far a y → SharesPrefix [] (34 ∷ s) (a ++ z) → Bind (Tok 34) (λ _. Done so_far) a y
  end_out s a y z h b = go h.parts h.more h.are h.is h.stands_for
    where
      go : (ps : List TextPart) (more : Text) → a ≡ spelled ps ++ (34 ∷ []) → PartsAre ps more → y ≡ so_far ++ more
          → Bind (Tok 34) (λ _. Done so_far) a y
      go [] more e is v = record {
        front = 34 ∷ [];
        back = [];
        value = tt;
        split = e;
        first = refl;
        next = record {
          none = refl;
          same = v ∙ ap (λ l. so_far ++ l) is ∙ append_nil so_far;
        };
      }
      go (p ∷ ps) more e (t, rest, is, others, m) v =
          let (u, w, starts, other) = part_starts (length t) (part_spelling p) t (record {
            part = p;
            are = refl;
            is = is;
            fits = omega arith;
          }) in
          let (behind, first) = first_token u (w ++ (spelled ps ++ (34 ∷ []))) a z (34 ∷ s)
          (e ∙ append_assoc (part_spelling p) (spelled ps) (34 ∷ []) ∙ ap (λ l. l ++ (spelled ps ++ (34 ∷ []))) starts) b in
          let u_is : u ≡ 34 = cc in
          absurd (other u_is)

  -- the quote at the end
  pub content_end : {ts s : Text} → ts ≡ 34 ∷ s → Right (Content so_far) Always Anything ts (Ok (so_far, s))
  content_end {s = s} e = at_tokens e
      (by_production (Bind (Tok 34) (λ _. Done so_far)) (Content so_far) end_in (λ a y z h _ b. end_out s a y z h b)
      (then_right (λ _ _ _ _ _ _. tt) (done_alive so_far) (tok_right 34 refl) (done_right tt)))

  abbrev room : ℕ
  room = 65536 - length so_far

  abbrev More : Language ℕ Text
  More = Bind (Part room) (λ x. Content (so_far ++ x))

  more_in : (a y : Text) → More a y → Content so_far a y
  more_in a y h =
      let g = h.next in
      record {
        parts = h.first.part ∷ g.parts;
        more = h.value ++ g.more;
        are = h.split ∙ ap (λ l. l ++ h.back) h.first.are ∙ ap (λ l. part_spelling h.first.part ++ l) g.are
            ∙ sym (append_assoc (part_spelling h.first.part) (spelled g.parts) (34 ∷ []));
        is = (h.value, g.more, h.first.is, g.is, refl);
        stands_for = g.stands_for ∙ append_assoc so_far h.value g.more;
        fits = g.fits;
      }

  more_out : (ts a y z : Text) → NoToken 34 ts → Content so_far a y → SharesPrefix [] ts (a ++ z) → More a y
  more_out ts a y z no_quote h b = go h.parts h.more h.are h.is h.stands_for
    where
      go : (ps : List TextPart) (more : Text) → a ≡ spelled ps ++ (34 ∷ []) → PartsAre ps more → y ≡ so_far ++ more → More a y
      go [] more e is v = let (behind, first) = first_token 34 [] a z ts e b in absurd (no_quote behind first)
      go (p ∷ ps) more e (t, rest, is, others, m) v =
          let whole : y ≡ (so_far ++ t) ++ rest = v ∙ ap (λ l. so_far ++ l) m ∙ sym (append_assoc so_far t rest) in
          let n = ap length whole in
          let n1 = length-append (so_far ++ t) rest in
          let n2 = length-append so_far t in
          let most = h.fits in
          record {
            front = part_spelling p;
            back = spelled ps ++ (34 ∷ []);
            value = t;
            split = e ∙ append_assoc (part_spelling p) (spelled ps) (34 ∷ []);
            first = record { part = p; are = refl; is = is; fits = omega (arith, n, n1, n2, most) };
            next = record { parts = ps; more = rest; are = refl; is = others; stands_for = whole; fits = h.fits };
          }

  more_alive : (x : Text) → length x ≤ room → IsViablePrefix (Content (so_far ++ x)) Always []
  more_alive x le = (
    34 ∷ [],
    so_far ++ x,
    record {
      parts = [];
      more = [];
      are = refl;
      is = refl;
      stands_for = sym (append_nil (so_far ++ x));
      fits = let n = length-append so_far x in
          omega (arith, n, fits, le);
    },
    tt,
  )

  pub content_more : {ts rest x : Text} {r : Answer ℕ Text} → NoToken 34 ts → Right (Part room) Always Anything ts (Ok (x, rest))
      → Right (Content (so_far ++ x)) Always Anything rest r → Right (Content so_far) Always Anything ts r
  content_more {ts = ts} {x = x} no_quote found right = by_production More (Content so_far) more_in
      (λ a y z h _ b. more_out ts a y z no_quote h b) (then_right (λ _ _ _ _ _ _. tt) (more_alive x found.by.found.fits) found right)

  pub content_stop : {ts : Text} {e : ParseStop} → NoToken 34 ts → Right (Part room) Always Anything ts (Err e)
      → Right (Content so_far) Always Anything ts (Err e)
  content_stop {ts = ts} no_quote right = by_production More (Content so_far) more_in (λ a y z h _ b. more_out ts a y z no_quote h b)
      (then_stop (λ _ _ _ _ _ _. tt) (λ a x h. more_alive x h.fits) right)

-- a part takes at least one byte
pub part_shorter : {room : ℕ} {ts rest x : Text} → Right (Part room) Always Anything ts (Ok (x, rest)) → length rest < length ts
part_shorter {room = room} {rest = rest} {x = x} right =
    let f = right.by in
    let (t, s, e, other) = part_starts room f.front x f.found in
    let n : length f.front ≡ suc (length s) = ap length e in
    let m = ap length f.split in
    let k = length-append f.front rest in
    omega (arith, n, m, k)

-- ---- a text with its quotes
abbrev Closed : Text → Language ℕ ValueTerm
Closed t = Bind Gap (λ _. Done (text_value t))

abbrev Opened : Language ℕ ValueTerm
Opened = Bind (Content []) Closed

text_in : (a : Text) (y : ValueTerm) → Bind (Tok 34) (λ _. Opened) a y → TextLiteral a y
text_in a y h =
    let g = h.next in
    let k = g.next in
    let content : g.value ≡ g.first.more = g.first.stands_for in
    let quoted : Text = (34 ∷ spelled g.first.parts) ++ (34 ∷ []) in
    let k_is : g.back ≡ spaces k.first.many = k.split ∙ ap (λ l. k.front ++ l) k.next.none ∙ append_nil k.front ∙ k.first.are in
    record {
      quoted = quoted;
      content = g.value;
      is = (g.first.parts, refl, subst (λ t. PartsAre g.first.parts t) (sym content) g.first.is);
      behind = k.first.many;
      are = h.split ∙ ap (λ l. l ++ h.back) h.first
          ∙ ap (λ l. 34 ∷ l) (g.split ∙ ap (λ l. l ++ g.back) g.first.are ∙ ap (λ l. (spelled g.first.parts ++ (34 ∷ [])) ++ l) k_is);
      stands_for = k.next.same;
      fits = g.first.fits;
    }

text_out : (a : Text) (y : ValueTerm) → TextLiteral a y → Bind (Tok 34) (λ _. Opened) a y
text_out a y h = let (ps, quoted, is) = h.is in
    record {
      front = 34 ∷ [];
      back = (spelled ps ++ (34 ∷ [])) ++ spaces h.behind;
      value = tt;
      split = h.are ∙ ap (λ l. l ++ spaces h.behind) quoted;
      first = refl;
      next = record {
        front = spelled ps ++ (34 ∷ []);
        back = spaces h.behind;
        value = h.content;
        split = refl;
        first = record { parts = ps; more = h.content; are = refl; is = is; stands_for = refl; fits = h.fits };
        next = record {
          front = spaces h.behind;
          back = [];
          value = tt;
          split = sym (append_nil (spaces h.behind));
          first = record {
            many = h.behind;
            are = refl;
          };
          next = record { none = refl; same = h.stands_for };
        };
      };
    }

closed_alive : (t : Text) → IsViablePrefix (Closed t) Always []
closed_alive t = part_alive [] tt (record { many = 0; are = refl }) (done_alive (text_value t))

opened_alive : IsViablePrefix Opened Always []
opened_alive =
    let none : Content [] (34 ∷ []) [] = record { parts = []; more = []; are = refl; is = refl; stands_for = refl; fits = omega arith } in
    part_alive (34 ∷ []) [] none (closed_alive [])

closed_follow : (t : Text) → Follows NoBlank (λ (_ : Unit {0}). Done (text_value t)) NoBlank
closed_follow t x b y z h hz = subst (λ l. NoBlank (l ++ z)) (sym h.none) hz

pub quote_stop : {ts : Text} {e : ParseStop} → Right (Tok 34) Always Anything ts (Err e) → Right TextLiteral Always NoBlank ts (Err e)
quote_stop right = same_language (Bind (Tok 34) (λ _. Opened)) TextLiteral text_in text_out
    (then_stop (λ _ _ _ _ _ _. tt) (λ _ _ _. opened_alive) right)

pub inside_stop : {ts rest : Text} {e : ParseStop} → Right (Tok 34) Always Anything ts (Ok (tt, rest))
    → Right (Content []) Always Anything rest (Err e) → Right TextLiteral Always NoBlank ts (Err e)
inside_stop found right = same_language (Bind (Tok 34) (λ _. Opened)) TextLiteral text_in text_out
    (then_right (λ _ _ _ _ _ _. tt) opened_alive found (then_stop (λ _ _ _ _ _ _. tt) (λ _ t _. closed_alive t) right))

pub text_right : {ts rest rest' rest'' t : Text} → Right (Tok 34) Always Anything ts (Ok (tt, rest))
    → Right (Content []) Always Anything rest (Ok (t, rest')) → Right Gap Always NoBlank rest' (Ok (tt, rest''))
    → Right TextLiteral Always NoBlank ts (Ok (text_value t, rest''))
text_right {t = t} found content gap = same_language (Bind (Tok 34) (λ _. Opened)) TextLiteral text_in text_out
    (then_right (λ _ _ _ _ _ _. tt) opened_alive found
    (then_right (λ _ _ _ _ _ _. tt) (closed_alive t) content
    (then_right (closed_follow t) (done_alive (text_value t)) gap (done_right tt))))
