-- Characters, escapes and texts.
use Rattle.std.specs.Prelude.{encode_utf8}
use Rattle.std.specs.Char.{IsScalar}
use Rattle.std.specs.Str.Lossy.{second_byte_min, second_byte_max}
use Rattle.std.proofs.lemmas.Bool.Decides.{nat_tests}
use Rattle.std.proofs.Common.{◌≡◌, ◌≢◌, ℕ, ◌+◌, ◌-◌, ◌*◌, ◌≤◌, ◌⊎◌, inl, inr, [], ◌∷◌, ◌++◌, length, Ok, Err, refl, sym, ap, ◌∙◌, arith}
use Rattle.task_model.specs.Terms.Text.{Text}
use Rattle.task_model.specs.Terms.Token.{raw, PartIs}
use Rattle.exact_reading.specs.declared.stop.ParseStop.{ParseStop}
use Rattle.exact_reading.specs.declared.stop.ParseStop.TheVariants.{Fault}
use Rattle.exact_reading.specs.declared.stop.FaultKind.TheVariants.{Unexpected}
use Rattle.exact_reading.specs.Reading.{Language, SharesPrefix, IsViablePrefix, Always, Answer, Right, Tok, Anything}
use Rattle.exact_reading.proofs.Sequences.{Bind, Done}
use Rattle.exact_reading.proofs.Productions.{then_right, then_stop, done_right, by_production, same_language, same_answer, at_tokens, tok_right}
use Rattle.exact_reading.proofs.Starts.{StartsBy, starts_none, first_token}
use Rattle.literal_text.specs.LiteralReading.{Wide, WideEnd, InRange, width_of}
use Rattle.literal_text.proofs.Completions.{done_alive, part_alive, wider_alive}
use Rattle.literal_text.proofs.CharacterLemmas.{only_scalar, is_only_scalar, wide_shape, encode_two, decode_two, encode_three, decode_three, encode_four, decode_four, width_three, width_four}

-- ---- characters of more than one byte
raw_is : (c : ℕ) → IsScalar c → 128 ≤ c → (t : Text) → t ≡ encode_utf8 c → PartIs (raw c) t
raw_is c s high t e = (is_only_scalar c s, omega arith, (omega arith), (omega arith), (omega arith), e)

module _ (lead : ℕ) where
  abbrev Two : Language ℕ Text
  Two = Bind (InRange 128 191) (λ b. Done (lead ∷ (b ∷ [])))

  abbrev ThreeEnd : ℕ → Language ℕ Text
  ThreeEnd b = Bind (InRange 128 191) (λ d. Done (lead ∷ (b ∷ (d ∷ []))))

  abbrev Three : Language ℕ Text
  Three = Bind (InRange (second_byte_min lead) (second_byte_max lead)) ThreeEnd

  abbrev FourEnd : ℕ → ℕ → Language ℕ Text
  FourEnd b d = Bind (InRange 128 191) (λ x. Done (lead ∷ (b ∷ (d ∷ (x ∷ [])))))

  abbrev FourRest : ℕ → Language ℕ Text
  FourRest b = Bind (InRange 128 191) (FourEnd b)

  abbrev Four : Language ℕ Text
  Four = Bind (InRange (second_byte_min lead) (second_byte_max lead)) FourRest

  two_in : width_of lead ≡ 2 → (a : Text) (y : Text) → Two a y → WideEnd lead a y
  two_in w a y h =
      let b = h.value in
      let e = encode_two lead b w h.first.above h.first.below in
      let a_is : a ≡ b ∷ [] = h.split ∙ ap (λ l. l ++ h.back) h.first.are ∙ ap (λ l. b ∷ l) h.next.none in
      record {
        character = (lead - 192) * 64 + (b - 128);
        are = ap (λ l. lead ∷ l) a_is ∙ sym h.next.same;
        is = raw_is _ e.1 e.2 y (h.next.same ∙ sym e.0);
        wide = e.2;
      }

  two_out : width_of lead ≡ 2 → (a : Text) (y : Text) → WideEnd lead a y → Two a y
  two_out w a y h =
      let (b, e, low, high) = decode_two h.character lead a (only_scalar h.character h.is.0) h.wide w (sym h.is.5 ∙ sym h.are) in
      record {
        front = b ∷ [];
        back = [];
        value = b;
        split = e;
        first = record {
          are = refl;
          above = low;
          below = high;
        };
        next = record { none = refl; same = sym h.are ∙ ap (λ l. lead ∷ l) e };
      }

  three_in : width_of lead ≡ 3 → (a : Text) (y : Text) → Three a y → WideEnd lead a y
  three_in w a y h =
      let b = h.value in
      let g = h.next in
      let d = g.value in
      let e = encode_three lead b d w h.first.above h.first.below g.first.above g.first.below in
      let back_is : h.back ≡ d ∷ [] = g.split ∙ ap (λ l. l ++ g.back) g.first.are ∙ ap (λ l. d ∷ l) g.next.none in
      let a_is : a ≡ b ∷ (d ∷ []) = h.split ∙ ap (λ l. l ++ h.back) h.first.are ∙ ap (λ l. b ∷ l) back_is in
      record {
        character = ((lead - 224) * 64 + (b - 128)) * 64 + (d - 128);
        are = ap (λ l. lead ∷ l) a_is ∙ sym g.next.same;
        is = raw_is _ e.1 e.2 y (g.next.same ∙ sym e.0);
        wide = e.2;
      }

  three_out : width_of lead ≡ 3 → (a : Text) (y : Text) → WideEnd lead a y → Three a y
  three_out w a y h =
      let (b, d, e, low, high, low', high') = decode_three h.character lead a (only_scalar h.character h.is.0) h.wide w
      (sym h.is.5 ∙ sym h.are) in
      record {
        front = b ∷ [];
        back = d ∷ [];
        value = b;
        split = e;
        first = record { are = refl; above = low; below = high };
        next = record {
          front = d ∷ [];
          back = [];
          value = d;
          split = refl;
          first = record {
            are = refl;
            above = low';
            below = high';
          };
          next = record { none = refl; same = sym h.are ∙ ap (λ l. lead ∷ l) e };
        };
      }

  four_in : width_of lead ≡ 4 → (a : Text) (y : Text) → Four a y → WideEnd lead a y
  four_in w a y h =
      let b = h.value in
      let g = h.next in
      let d = g.value in
      let k = g.next in
      let x = k.value in
      let e = encode_four lead b d x w h.first.above h.first.below g.first.above g.first.below k.first.above k.first.below in
      let end_is : g.back ≡ x ∷ [] = k.split ∙ ap (λ l. l ++ k.back) k.first.are ∙ ap (λ l. x ∷ l) k.next.none in
      let back_is : h.back ≡ d ∷ (x ∷ []) = g.split ∙ ap (λ l. l ++ g.back) g.first.are ∙ ap (λ l. d ∷ l) end_is in
      let a_is : a ≡ b ∷ (d ∷ (x ∷ [])) = h.split ∙ ap (λ l. l ++ h.back) h.first.are ∙ ap (λ l. b ∷ l) back_is in
      record {
        character = (((lead - 240) * 64 + (b - 128)) * 64 + (d - 128)) * 64 + (x - 128);
        are = ap (λ l. lead ∷ l) a_is
            ∙ sym k.next.same;
        is = raw_is _ e.1 e.2 y (k.next.same ∙ sym e.0);
        wide = e.2;
      }

  four_out : width_of lead ≡ 4 → (a : Text) (y : Text) → WideEnd lead a y → Four a y
  four_out w a y h =
      let (b, d, x, e, low, high, low', high', low'', high'') = decode_four h.character lead a (only_scalar h.character h.is.0) h.wide w
      (sym h.is.5 ∙ sym h.are) in
      record {
        front = b ∷ [];
        back = d ∷ (x ∷ []);
        value = b;
        split = e;
        first = record { are = refl; above = low; below = high };
        next = record {
          front = d ∷ [];
          back = x ∷ [];
          value = d;
          split = refl;
          first = record { are = refl; above = low'; below = high' };
          next = record {
            front = x ∷ [];
            back = [];
            value = x;
            split = refl;
            first = record {
              are = refl;
              above = low'';
              below = high'';
            };
            next = record { none = refl; same = sym h.are ∙ ap (λ l. lead ∷ l) e };
          };
        };
      }

  continuation : InRange 128 191 (128 ∷ []) 128
  continuation = record { are = refl; above = omega arith; below = omega arith }

  three_end_alive : (b : ℕ) → IsViablePrefix (ThreeEnd b) Always []
  three_end_alive b = part_alive (128 ∷ []) 128 continuation (done_alive (lead ∷ (b ∷ (128 ∷ []))))

  four_end_alive : (b d : ℕ) → IsViablePrefix (FourEnd b d) Always []
  four_end_alive b d = part_alive (128 ∷ []) 128 continuation (done_alive (lead ∷ (b ∷ (d ∷ (128 ∷ [])))))

  four_rest_alive : (b : ℕ) → IsViablePrefix (FourRest b) Always []
  four_rest_alive b = part_alive (128 ∷ []) 128 continuation (four_end_alive b 128)

  seconds : width_of lead ≡ 3 ⊎ width_of lead ≡ 4 → second_byte_min lead ≤ second_byte_max lead
  seconds (inl w) = let r = width_three lead w in grind (arith, nat_tests)
  seconds (inr w) = let r = width_four lead w in grind (arith, nat_tests)

  second : width_of lead ≡ 3 ⊎ width_of lead ≡ 4
      → InRange (second_byte_min lead) (second_byte_max lead) (second_byte_min lead ∷ []) (second_byte_min lead)
  second w = record { are = refl; above = omega arith; below = seconds w }

  two_alive : width_of lead ≡ 2 → IsViablePrefix (WideEnd lead) Always []
  two_alive w = wider_alive (two_in w) (part_alive (128 ∷ []) 128 continuation (done_alive (lead ∷ (128 ∷ []))))

  three_alive : width_of lead ≡ 3 → IsViablePrefix (WideEnd lead) Always []
  three_alive w =
      let b = second_byte_min lead in wider_alive (three_in w) (part_alive (b ∷ []) b (second (inl w)) (three_end_alive b))

  four_alive : width_of lead ≡ 4 → IsViablePrefix (WideEnd lead) Always []
  four_alive w =
      let b = second_byte_min lead in wider_alive (four_in w) (part_alive (b ∷ []) b (second (inr w)) (four_rest_alive b))

  pub two_stop : {ts : Text} {e : ParseStop} → width_of lead ≡ 2 → Right (InRange 128 191) Always Anything ts (Err e)
      → Right (WideEnd lead) Always Anything ts (Err e)
  two_stop w right = same_language Two (WideEnd lead) (two_in w) (two_out w)
      (then_stop (λ _ _ _ _ _ _. tt) (λ _ b _. done_alive (lead ∷ (b ∷ []))) right)

  pub two_right : {ts rest : Text} {b : ℕ} → width_of lead ≡ 2 → Right (InRange 128 191) Always Anything ts (Ok (b, rest))
      → Right (WideEnd lead) Always Anything ts (Ok (encode_utf8 ((lead - 192) * 64 + (b - 128)), rest))
  two_right {b = b} w found =
      let f = found.by.found in
      same_answer (sym (encode_two lead b w f.above f.below).0)
      (same_language Two (WideEnd lead) (two_in w) (two_out w)
      (then_right (λ _ _ _ _ _ _. tt) (done_alive (lead ∷ (b ∷ []))) found (done_right tt)))

  pub three_stop : {ts : Text} {e : ParseStop} → width_of lead ≡ 3
      → Right (InRange (second_byte_min lead) (second_byte_max lead)) Always Anything ts (Err e)
      → Right (WideEnd lead) Always Anything ts (Err e)
  three_stop w right = same_language Three (WideEnd lead) (three_in w) (three_out w)
      (then_stop (λ _ _ _ _ _ _. tt) (λ _ b _. three_end_alive b) right)

  pub three_stop_end : {ts rest : Text} {b : ℕ} {e : ParseStop} → width_of lead ≡ 3
      → Right (InRange (second_byte_min lead) (second_byte_max lead)) Always Anything ts (Ok (b, rest))
      → Right (InRange 128 191) Always Anything rest (Err e) → Right (WideEnd lead) Always Anything ts (Err e)
  three_stop_end {b = b} w found right = same_language Three (WideEnd lead) (three_in w) (three_out w)
      (then_right (λ _ _ _ _ _ _. tt) (three_end_alive b) found
      (then_stop (λ _ _ _ _ _ _. tt) (λ _ d _. done_alive (lead ∷ (b ∷ (d ∷ [])))) right))

  pub three_right : {ts rest rest' : Text} {b d : ℕ} → width_of lead ≡ 3
      → Right (InRange (second_byte_min lead) (second_byte_max lead)) Always Anything ts (Ok (b, rest))
      → Right (InRange 128 191) Always Anything rest (Ok (d, rest'))
      → Right (WideEnd lead) Always Anything ts (Ok (encode_utf8 (((lead - 224) * 64 + (b - 128)) * 64 + (d - 128)), rest'))
  three_right {b = b} {d = d} w found last =
      let f = found.by.found in
      let g = last.by.found in
      same_answer (sym (encode_three lead b d w f.above f.below g.above g.below).0)
      (same_language Three (WideEnd lead) (three_in w) (three_out w)
      (then_right (λ _ _ _ _ _ _. tt) (three_end_alive b) found
      (then_right (λ _ _ _ _ _ _. tt) (done_alive (lead ∷ (b ∷ (d ∷ [])))) last (done_right tt))))

  pub four_stop : {ts : Text} {e : ParseStop} → width_of lead ≡ 4
      → Right (InRange (second_byte_min lead) (second_byte_max lead)) Always Anything ts (Err e)
      → Right (WideEnd lead) Always Anything ts (Err e)
  four_stop w right = same_language Four (WideEnd lead) (four_in w) (four_out w)
      (then_stop (λ _ _ _ _ _ _. tt) (λ _ b _. four_rest_alive b) right)

  pub four_stop_third : {ts rest : Text} {b : ℕ} {e : ParseStop} → width_of lead ≡ 4
      → Right (InRange (second_byte_min lead) (second_byte_max lead)) Always Anything ts (Ok (b, rest))
      → Right (InRange 128 191) Always Anything rest (Err e) → Right (WideEnd lead) Always Anything ts (Err e)
  four_stop_third {b = b} w found right = same_language Four (WideEnd lead) (four_in w) (four_out w)
      (then_right (λ _ _ _ _ _ _. tt) (four_rest_alive b) found (then_stop (λ _ _ _ _ _ _. tt) (λ _ d _. four_end_alive b d) right))

  pub four_stop_end : {ts rest rest' : Text} {b d : ℕ} {e : ParseStop} → width_of lead ≡ 4
      → Right (InRange (second_byte_min lead) (second_byte_max lead)) Always Anything ts (Ok (b, rest))
      → Right (InRange 128 191) Always Anything rest (Ok (d, rest')) → Right (InRange 128 191) Always Anything rest' (Err e)
      → Right (WideEnd lead) Always Anything ts (Err e)
  four_stop_end {b = b} {d = d} w found third right = same_language Four (WideEnd lead) (four_in w) (four_out w)
      (then_right (λ _ _ _ _ _ _. tt) (four_rest_alive b) found
      (then_right (λ _ _ _ _ _ _. tt) (four_end_alive b d) third
      (then_stop (λ _ _ _ _ _ _. tt) (λ _ x _. done_alive (lead ∷ (b ∷ (d ∷ (x ∷ []))))) right)))

  pub four_right : {ts rest rest' rest'' : Text} {b d x : ℕ} → width_of lead ≡ 4
      → Right (InRange (second_byte_min lead) (second_byte_max lead)) Always Anything ts (Ok (b, rest))
      → Right (InRange 128 191) Always Anything rest (Ok (d, rest')) → Right (InRange 128 191) Always Anything rest' (Ok (x, rest''))
      → Right (WideEnd lead) Always Anything ts
      (Ok (encode_utf8 ((((lead - 240) * 64 + (b - 128)) * 64 + (d - 128)) * 64 + (x - 128)), rest''))
  four_right {b = b} {d = d} {x = x} w found third last =
      let f = found.by.found in
      let g = third.by.found in
      let k = last.by.found in
      same_answer (sym (encode_four lead b d x w f.above f.below g.above g.below k.above k.below).0)
      (same_language Four (WideEnd lead) (four_in w) (four_out w)
      (then_right (λ _ _ _ _ _ _. tt) (four_rest_alive b) found
      (then_right (λ _ _ _ _ _ _. tt) (four_end_alive b d) third
      (then_right (λ _ _ _ _ _ _. tt) (done_alive (lead ∷ (b ∷ (d ∷ (x ∷ []))))) last (done_right tt)))))

-- such a character as a whole
module _ (room : ℕ) where
  wide_in : (lead : ℕ) → width_of lead ≤ room → (a y : Text) → Bind (Tok lead) (λ _. WideEnd lead) a y → Wide room a y
  wide_in lead le a y h =
      let e = h.next in
      let s = wide_shape e.character (only_scalar e.character e.is.0) e.wide in
      let a_is : a ≡ y = h.split ∙ ap (λ l. l ++ h.back) h.first ∙ e.are in
      let heads : s.lead ∷ s.rest ≡ lead ∷ h.back = sym s.are ∙ sym e.is.5 ∙ sym e.are in
      let lead_is : s.lead ≡ lead = cc in
      let many : length y ≡ width_of lead = ap length e.is.5 ∙ s.width ∙ ap width_of lead_is in
      record { character = e.character; are = a_is; is = e.is; wide = e.wide; fits = omega (arith, many, le) }

  wide_out : (lead : ℕ) (s a y z : Text) → Wide room a y → SharesPrefix [] (lead ∷ s) (a ++ z) → Bind (Tok lead) (λ _. WideEnd lead) a y
  wide_out lead s a y z h b =
      let q = wide_shape h.character (only_scalar h.character h.is.0) h.wide in
      let a_is : a ≡ q.lead ∷ q.rest = h.are ∙ h.is.5 ∙ q.are in
      let (more, first) = first_token q.lead q.rest a z (lead ∷ s) a_is b in
      let lead_is : q.lead ≡ lead = cc in
      let whole : a ≡ lead ∷ q.rest = a_is ∙ ap (λ l. l ∷ q.rest) lead_is in
      record {
        front = lead ∷ [];
        back = q.rest;
        value = tt;
        split = whole;
        first = refl;
        next = record {
          character = h.character;
          are = sym whole ∙ h.are;
          is = h.is;
          wide = h.wide;
        };
      }

  abbrev Leads : ℕ → Type 0
  Leads lead = (2 ≤ width_of lead) × (width_of lead ≤ room)

  wide_starts : StartsBy (Wide room) Leads
  wide_starts a y h =
      let q = wide_shape h.character (only_scalar h.character h.is.0) h.wide in
      let many : length y ≡ width_of q.lead = ap length h.is.5 ∙ q.width in
      (q.lead, q.rest, h.are ∙ h.is.5 ∙ q.are, (q.some, let fits = h.fits in omega (arith, many, fits)))

  pub wide_none : {ts : Text} → ((lead : ℕ) (s : Text) → ts ≡ lead ∷ s → 2 ≤ width_of lead → width_of lead ≤ room → ⊥)
      → Right (Wide room) Always Anything ts (Err (Fault Unexpected (length ts)))
  wide_none {ts = ts} none = starts_none (Wide room) Leads ts wide_starts (λ t s e q. none t s e q.0 q.1)

  wide_by : (lead : ℕ) {ts s : Text} {r : Answer ℕ Text} → width_of lead ≤ room → IsViablePrefix (WideEnd lead) Always [] → ts ≡ lead ∷ s
      → Right (WideEnd lead) Always Anything s r → Right (Wide room) Always Anything ts r
  wide_by lead {s = s} le fill e right = at_tokens e
      (by_production (Bind (Tok lead) (λ _. WideEnd lead)) (Wide room) (wide_in lead le) (λ a y z h _ b. wide_out lead s a y z h b)
      (then_right (λ _ _ _ _ _ _. tt) fill (tok_right lead refl) right))

  pub wide_two : (lead : ℕ) {ts s : Text} {r : Answer ℕ Text} → width_of lead ≡ 2 → width_of lead ≤ room → ts ≡ lead ∷ s
      → Right (WideEnd lead) Always Anything s r → Right (Wide room) Always Anything ts r
  wide_two lead w le e right = wide_by lead le (two_alive lead w) e right

  pub wide_three : (lead : ℕ) {ts s : Text} {r : Answer ℕ Text} → width_of lead ≡ 3 → width_of lead ≤ room → ts ≡ lead ∷ s
      → Right (WideEnd lead) Always Anything s r → Right (Wide room) Always Anything ts r
  wide_three lead w le e right = wide_by lead le (three_alive lead w) e right

  pub wide_four : (lead : ℕ) {ts s : Text} {r : Answer ℕ Text} → width_of lead ≡ 4 → width_of lead ≤ room → ts ≡ lead ∷ s
      → Right (WideEnd lead) Always Anything s r → Right (Wide room) Always Anything ts r
  wide_four lead w le e right = wide_by lead le (four_alive lead w) e right

-- a first byte tells nothing, one, two, three or four
pub no_width : (lead : ℕ) → width_of lead ≢ 2 → width_of lead ≢ 3 → width_of lead ≢ 4 → 2 ≤ width_of lead → ⊥
no_width lead n2 n3 n4 some = grind (arith, nat_tests)
