-- What was read of a source so far.
use Rattle.std.proofs.Common.{◌≡◌, ◌≢◌, ℕ, ◌+◌, ◌-◌, ◌<◌, ◌≤◌, List, [], ◌∷◌, ◌++◌, length, take, drop, refl, sym, ap, ◌∙◌, subst, arith, append-nil, length-append, slice_range}
use Rattle.std.specs.Str.{IsUtf8}
use Rattle.task_model.specs.Terms.Text.{Text}
use Rattle.task_model.specs.Terms.Token.{TokenTerm, IsLongest, IsBlank, NoLf, EndsLine, Piece, blank, comment, lexeme, piece_bytes, bytes_of, AreRight, tokens_from, HasTokens}
use Rattle.task_syntax.specs.declared.token.Token.{Token}
use Rattle.task_syntax.specs.declared.stop.LexKind.{LexKind}
use Rattle.task_syntax.specs.Tokens.{IsToken, AreTokens, AreSpans}
use Rattle.task_syntax.specs.Fault.{AreRightBefore, IsFaultAt, HasFault}
use Rattle.task_syntax.specs.Front.{Leads}
use Rattle.task_syntax.proofs.Classes.{token_some}
use Rattle.task_syntax.proofs.Pieces.{IsRight, bytes_push, right_push, tokens_push, piece_tokens}

pub record Reached (source : Text) (list : List Token) (rest : Text) : Type 0 where
  pub pieces : List Piece
  pub bytes : bytes_of pieces ++ rest ≡ source
  pub right : AreRightBefore pieces rest
  pub are : AreTokens source list (tokens_from 0 pieces)

pub reached_start : (source : Text) → Reached source [] source
reached_start source = record { pieces = []; bytes = refl; right = tt; are = tt }

pub reached_length : (source : Text) (list : List Token) (rest : Text) (r : Reached source list rest)
    → length source ≡ length (bytes_of r.pieces) + length rest
reached_length source list rest r = ap length (sym r.bytes) ∙ length-append (bytes_of r.pieces) rest

-- one piece more
push :
    (source : Text) (list new : List Token) (rest after : Text) (p : Piece)
    → (r : Reached source list rest)
    → rest ≡ piece_bytes p ++ after
    → IsRight p after
    → AreTokens source new (tokens_from 0 r.pieces ++ piece_tokens (0 + length (bytes_of r.pieces)) p)
    → Reached source new after
push source list new rest after p r e right are = record {
  pieces = r.pieces ++ p ∷ [];
  bytes = bytes_push r.pieces p after ∙ ap (λ x. bytes_of r.pieces ++ x) (sym e) ∙ r.bytes;
  right = right_push r.pieces p rest after r.right e right;
  are = subst (AreTokens source new) (sym (tokens_push 0 r.pieces p)) are;
}

pub reached_blank : (source : Text) (list : List Token) (rest after : Text) (b : ℕ) → Reached source list rest → rest ≡ b ∷ after
    → IsBlank b → Reached source list after
reached_blank source list rest after b r e h = push source list list rest after (blank b) r e (h, tt)
    (subst (AreTokens source list) (sym (append-nil (tokens_from 0 r.pieces))) r.are)

pub reached_comment : (source : Text) (list : List Token) (rest t after : Text) → Reached source list rest → rest ≡ 35 ∷ t ++ after → NoLf t
    → EndsLine after → Reached source list after
reached_comment source list rest t after r e h ends = push source list list rest after (comment t) r e ((h, ends), tt)
    (subst (AreTokens source list) (sym (append-nil (tokens_from 0 r.pieces))) r.are)

tokens_more : (source : Text) (list : List Token) (ts : List TokenTerm) (t : Token) (term : TokenTerm) → AreTokens source list ts
    → IsToken source t term → AreTokens source (list ++ t ∷ []) (ts ++ term ∷ [])
tokens_more source [] [] t term h k = (k, tt)
tokens_more source [] (u ∷ ts) t term h k = absurd h
tokens_more source (l ∷ list) [] t term h k = absurd h
tokens_more source (l ∷ list) (u ∷ ts) t term h k = (h.0, tokens_more source list ts t term h.1 k)

slice_is : (front t back : Text) (from to : ℕ) → from ≡ length front → to ≡ from + length t → slice_range (front ++ (t ++ back)) from to ≡ t
slice_is front t back from to e f =
    let n : to - from ≡ length t = omega (arith, f) in
    subst (λ m. take (to - m) (drop m (front ++ (t ++ back))) ≡ t) (sym e)
    (subst (λ m. take (to - m) (drop (length front) (front ++ (t ++ back))) ≡ t) e
    (subst (λ k. take k (drop (length front) (front ++ (t ++ back))) ≡ t) (sym n)
    (subst (λ x. take (length t) x ≡ t) (sym (dropped front (t ++ back))) (taken t back))))
  where
    dropped : (xs ys : Text) → drop (length xs) (xs ++ ys) ≡ ys
    dropped [] ys = refl
    dropped (x ∷ xs) ys = dropped xs ys

    taken : (xs ys : Text) → take (length xs) (xs ++ ys) ≡ xs
    taken [] ys = refl
    taken (x ∷ xs) ys = ap (λ l. x ∷ l) (taken xs ys)

pub reached_token :
    (source : Text) (list : List Token) (rest after : Text) (t : Token)
    → Reached source list rest
    → Leads rest t.kind after
    → t.from ≡ length source - length rest
    → t.to ≡ length source - length after
    → Reached source (list ++ t ∷ []) after
reached_token source list rest after t r lead from to =
    let n = reached_length source list rest r in
    let m : length rest ≡ length lead.spelling + length after = ap length lead.split ∙ length-append lead.spelling after in
    let from_is : t.from ≡ length (bytes_of r.pieces) = omega (arith, from, n) in
    let to_is : t.to ≡ t.from + length lead.spelling = omega (arith, from_is, to, n, m) in
    let whole : source ≡ bytes_of r.pieces ++ (lead.spelling ++ after) = sym r.bytes ∙ ap (λ x. bytes_of r.pieces ++ x) lead.split in
    let is : IsToken source t (record { kind = lead.term; from = 0 + length (bytes_of r.pieces); spelling = lead.spelling }) = record {
      kind = lead.is;
      from = omega (arith, from_is);
      to = omega (arith, from_is, to_is);
      slice = subst (λ x. slice_range x t.from t.to ≡ lead.spelling) (sym whole)
          (slice_is (bytes_of r.pieces) lead.spelling after t.from t.to from_is to_is);
    } in
    push source list (list ++ t ∷ []) rest after (lexeme lead.spelling lead.term) r lead.split ((lead.spells, lead.longest), lead.within)
    (tokens_more source list (tokens_from 0 r.pieces) t _ r.are is)

-- a token takes some bytes
pub lead_shorter : (text rest : Text) (kind : _) (lead : Leads text kind rest) → length rest < length text
lead_shorter text rest kind lead = go lead.spelling (token_some lead.spelling lead.term lead.spells)
    (ap length lead.split ∙ length-append lead.spelling rest)
  where
    go : (t : Text) → t ≢ [] → length text ≡ length t + length rest → length rest < length text
    go [] some e = absurd (some refl)
    go (b ∷ t) some e = omega (arith, e)

-- ---- at the end
pub whole_right : (ps : List Piece) → AreRightBefore ps [] → AreRight ps
whole_right [] h = tt
whole_right (blank b ∷ ps) h = (h.0, whole_right ps h.1)
whole_right (comment t ∷ ps) h = (h.0, subst EndsLine (append-nil (bytes_of ps)) h.1, whole_right ps h.2)
whole_right (lexeme t kind ∷ ps) h = (h.0, h.1, subst (IsLongest t) (append-nil (bytes_of ps)) h.2, whole_right ps h.3)

pub reached_end : (source : Text) (list : List Token) (rest : Text) → IsUtf8 source → rest ≡ [] → Reached source list rest
    → (ts : List TokenTerm) × HasTokens source ts × AreTokens source list ts
reached_end source list rest utf8 empty r = (
  tokens_from 0 r.pieces,
  record {
    utf8 = utf8;
    pieces = r.pieces;
    bytes = sym (append-nil (bytes_of r.pieces)) ∙ ap (λ x. bytes_of r.pieces ++ x) (sym empty) ∙ r.bytes;
    right = whole_right r.pieces (subst (AreRightBefore r.pieces) empty r.right);
    are = refl;
  },
  r.are,
)

spans : (source : Text) (ps : List Piece) (rest : Text) (list : List Token) (from place : ℕ) → AreRightBefore ps rest → from ≤ place
    → AreTokens source list (tokens_from place ps) → AreSpans from list (place + length (bytes_of ps))
spans source [] rest [] from place right le are = omega (arith, le)
spans source [] rest (t ∷ ts) from place right le are = absurd are
spans source (blank b ∷ ps) rest list from place right le are =
    subst (AreSpans from list) (omega arith) (spans source ps rest list from (place + 1) right.1 (omega (arith, le)) are)
spans source (comment t ∷ ps) rest list from place right le are =
    subst (AreSpans from list) (omega (arith, length-append t (bytes_of ps)))
    (spans source ps rest list from (place + 1 + length t) right.2 (omega (arith, le)) are)
spans source (lexeme s kind ∷ ps) rest [] from place right le are = absurd are
spans source (lexeme s kind ∷ ps) rest (t ∷ ts) from place right le are =
    let full = some s (token_some s kind right.0) in
    let here = are.0 in (
      omega (arith, le, here.from),
      omega (arith, here.from, here.to, full),
      subst (λ n. AreSpans t.to ts n) (omega (arith, length-append s (bytes_of ps)))
          (spans source ps rest ts t.to (place + length s) right.3 (omega (arith, here.to)) are.1),
    )
  where
    some : (u : Text) → u ≢ [] → 0 < length u
    some [] h = absurd (h refl)
    some (b ∷ u) h = omega arith

pub reached_spans : (source : Text) (list : List Token) (rest : Text) → rest ≡ [] → Reached source list rest
    → AreSpans 0 list (length source)
reached_spans source list rest empty r =
    let n = reached_length source list rest r in
    subst (AreSpans 0 list) (omega (arith, n, ap length empty)) (spans source r.pieces rest list 0 0 r.right (omega arith) r.are)

pub reached_fault :
    (source : Text) (list : List Token) (rest : Text) (kind : LexKind) (left inside place : ℕ)
    → IsUtf8 source
    → Reached source list rest
    → IsFaultAt rest kind inside
    → left + inside ≡ length rest
    → place ≡ length source - left
    → HasFault source kind place
reached_fault source list rest kind left inside place utf8 r fault e is =
    let n = reached_length source list rest r in record {
      utf8 = utf8;
      pieces = r.pieces;
      rest = rest;
      bytes = r.bytes;
      right = r.right;
      inside = inside;
      fault = fault;
      is_place = omega (arith, n, e, is);
    }
