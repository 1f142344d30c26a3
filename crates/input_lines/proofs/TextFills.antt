-- The content of a text, filled from where it breaks off.
use Rattle.std.specs.Prelude.{encode_utf8}
use Rattle.std.proofs.str.Laws as laws
use Rattle.std.proofs.lemmas.Bool.Decides.{nat_tests}
use Rattle.std.proofs.Common.{◌≡◌, ◌≢◌, ℕ, ◌+◌, ◌<◌, ◌≤◌, List, [], ◌∷◌, ◌++◌, length, refl, sym, ap, ◌∙◌, subst, arith, append_assoc, length-append}
use Rattle.exact_reading.proofs.Sequences.{append_nil}
use Rattle.task_model.specs.Terms.Text.{Text}
use Rattle.task_model.specs.Terms.Token.{TextPart, raw, letter, hex, part_spelling, PartIs, PartsAre, spelled, Escapes, quote, backslash, line_feed, tab, carriage_return}
use Rattle.literal_text.proofs.CharacterLemmas.{only_scalar, shape_of}
use Rattle.input_lines.specs.declared.next.Next.TheVariants as nexts
use Rattle.input_lines.specs.declared.bracket.Bracket.{Bracket}
use Rattle.input_lines.specs.declared.standing.Standing.{Standing}
use Rattle.input_lines.specs.ShortestRest.{behind_byte, next_in_text}
use Rattle.input_lines.proofs.FillLemmas.{standing, Fills, Both, both_are, both, widen, none, first, counted}

-- ---- content
-- a text's content of at most so many bytes
pub record ContentWithin (room : ℕ) (t : Text) : Type 0 where
  pub parts : List TextPart
  pub content : Text
  pub are : t ≡ spelled parts
  pub is : PartsAre parts content
  pub fits : length content ≤ room

pub no_content : (room : ℕ) → ContentWithin room []
no_content room = record { parts = []; content = []; are = refl; is = refl; fits = omega arith }

one_part : (room : ℕ) (p : TextPart) (c : Text) → PartIs p c → length c ≤ room → ContentWithin room (part_spelling p)
one_part room p c is le = record {
  parts = p ∷ [];
  content = c;
  are = sym (append_nil (part_spelling p));
  is = (c, [], is, refl, sym (append_nil c));
  fits = le;
}

spelled_append : (ps qs : List TextPart) → spelled (ps ++ qs) ≡ spelled ps ++ spelled qs
spelled_append [] qs = refl
spelled_append (p ∷ ps) qs = ap (λ l. part_spelling p ++ l) (spelled_append ps qs)
    ∙ sym (append_assoc (part_spelling p) (spelled ps) (spelled qs))

parts_append : (ps qs : List TextPart) (c d : Text) → PartsAre ps c → PartsAre qs d → PartsAre (ps ++ qs) (c ++ d)
parts_append [] qs c d e is = subst (PartsAre qs) (ap (λ l. l ++ d) (sym e)) is
parts_append (p ∷ ps) qs c d (t, rest, is, are, e) more =
    (t, rest ++ d, is, parts_append ps qs rest d are more, ap (λ l. l ++ d) e ∙ append_assoc t rest d)

joined : (m n room : ℕ) → m + n ≤ room → (t : Text) → Both (ContentWithin m) (ContentWithin n) t → ContentWithin room t
joined m n room le t h = record {
  parts = h.first.parts ++ h.next.parts;
  content = h.first.content ++ h.next.content;
  are = both_are h h.first.are h.next.are ∙ sym (spelled_append h.first.parts h.next.parts);
  is = parts_append h.first.parts h.next.parts h.first.content h.next.content h.first.is h.next.is;
  fits = let long = length-append h.first.content h.next.content in
      let few = h.first.fits in let more = h.next.fits in omega (arith, long, few, more);
}

-- ---- parts
abbrev pub in_text : List Bracket → ℕ → Standing
in_text k n = standing (nexts.Text n) k

rest_of_character : (k : List Bracket) (t : Text) → Fills (in_text k (length t)) (in_text k 0) (λ a. a ≡ t) t
rest_of_character k t = counted (in_text k) (λ n c. refl) (λ n. omega arith) t

narrow_byte : (c : ℕ) → c < 128 → c ≢ 34 → c ≢ 92 → next_in_text c ≡ nexts.Text 0
narrow_byte c h no_quote no_backslash = grind (arith, nat_tests)

two_bytes : (a : ℕ) → 192 ≤ a → a < 224 → next_in_text a ≡ nexts.Text 1
two_bytes a l h = grind (arith, nat_tests)

three_bytes : (a : ℕ) → 224 ≤ a → a < 240 → next_in_text a ≡ nexts.Text 2
three_bytes a l h = grind (arith, nat_tests)

four_bytes : (a : ℕ) → 240 ≤ a → next_in_text a ≡ nexts.Text 3
four_bytes a l = grind (arith, nat_tests)

module _ (room : ℕ) (k : List Bracket) where
  abbrev FillsPart : Text → Type 0
  FillsPart t = Fills (in_text k 0) (in_text k 0) (ContentWithin room) t

  raw_fills : (c : ℕ) (content : Text) → PartIs (raw c) content → length content ≤ room → FillsPart (encode_utf8 c)
  raw_fills c content is le = go (shape_of c (only_scalar c is.0))
    where
      whole : ContentWithin room (encode_utf8 c)
      whole = one_part room (raw c) content is le

      wide : (lead : ℕ) (rest : Text) → next_in_text lead ≡ nexts.Text (length rest) → encode_utf8 c ≡ lead ∷ rest
          → FillsPart (encode_utf8 c)
      wide lead rest to e = subst FillsPart (sym e)
          (first lead [] (ap (λ n. standing n k) to) (no_content room) (omega arith)
          (widen (λ a same. subst (ContentWithin room) (e ∙ ap (λ l. lead ∷ l) (sym same)) whole) (rest_of_character k rest)))

      go : laws.Shape c → FillsPart (encode_utf8 c)
      go (laws.of1 h e) = wide c [] (narrow_byte c h is.2 is.3) e
      go (laws.of2 a b l h f s e) = wide a (b ∷ []) (two_bytes a l h) e
      go (laws.of3 a b d l h f g s e) = wide a (b ∷ (d ∷ [])) (three_bytes a l h) e
      go (laws.of4 a b d x l h f g i s e) = wide a (b ∷ (d ∷ (x ∷ []))) (four_bytes a l) e

  -- an escape that is only begun becomes a line feed
  line_feed_fits : 1 ≤ room → ContentWithin room (92 ∷ (110 ∷ []))
  line_feed_fits le = one_part room (letter 110) (10 ∷ []) (10, line_feed, refl) le

  letter_byte : (c byte : ℕ) → Escapes c byte → behind_byte (standing nexts.Escape k) c ≡ in_text k 0
  letter_byte c byte quote = refl
  letter_byte c byte backslash = refl
  letter_byte c byte line_feed = refl
  letter_byte c byte tab = refl
  letter_byte c byte carriage_return = refl

  part_fills : (p : TextPart) (content : Text) → PartIs p content → length content ≤ room → FillsPart (part_spelling p)
  part_fills (raw c) content is le = raw_fills c content is le
  part_fills (letter c) content (byte, escapes, e) le =
      let some : 1 ≤ room = let one = ap length e in omega (arith, one, le) in
      first 92 [] refl (no_content room) (omega arith)
      (first c (110 ∷ []) (letter_byte c byte escapes) (line_feed_fits some) (omega arith)
      (none (one_part room (letter c) content (byte, escapes, e) le)))
  part_fills (hex a b) content (high, low, ascii, e) le =
      let some : 1 ≤ room = let one = ap length e in omega (arith, one, le) in
      let whole = one_part room (hex a b) content (high, low, ascii, e) le in
      first 92 [] refl (no_content room) (omega arith)
      (first 120 (110 ∷ []) refl (line_feed_fits some) (omega arith)
      (widen (λ t same. subst (λ l. ContentWithin room (92 ∷ (120 ∷ l))) (sym same) whole)
      (rest_of_character k (a ∷ (b ∷ [])))))

pub content_fills : (room : ℕ) (k : List Bracket) (ps : List TextPart) (content : Text) → PartsAre ps content → length content ≤ room
    → Fills (in_text k 0) (in_text k 0) (ContentWithin room) (spelled ps)
content_fills room k [] content is le = none (no_content room)
content_fills room k (p ∷ ps) content (t, rest, is, are, e) le =
    let long = ap length e ∙ length-append t rest in
    widen (joined (length t) (length rest) room (omega (arith, long, le)))
    (both (part_fills (length t) k p t is (omega arith)) (content_fills (length rest) k ps rest are (omega arith)))
