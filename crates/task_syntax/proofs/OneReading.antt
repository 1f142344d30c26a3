-- A source has at most one list of tokens, or one first fault.
use Rattle.std.proofs.Common.{◌≡◌, ℕ, ◌+◌, ◌<◌, ◌≤◌, false, List, [], ◌∷◌, ◌++◌, length, refl, sym, ap, ◌∙◌, subst, arith, inl, inr, append_assoc, append-nil}
use Rattle.std.specs.Prelude.{if◌then◌else◌, ◌==◌}
use Rattle.std.proofs.lemmas.Bool.Decides.{nat_tests}
use Rattle.task_model.specs.Terms.Text.{Text}
use Rattle.task_model.specs.Terms.Token.{TokenKindTerm, TokenTerm, name_token, keyword_token, number_token, text_token, symbol_token, TextPart, spelled, Spells, IsWithinTokenLimits, IsLongest, IsBlank, NoLf, EndsLine, Piece, blank, comment, lexeme, piece_bytes, bytes_of, AreRight, tokens_from, HasTokens}
use Rattle.task_syntax.specs.declared.stop.LexKind.{LexKind}
use Rattle.task_syntax.specs.declared.stop.LexKind.TheVariants.{BadChar, OpenText, BadEscape, LongText, WideNumber}
use Rattle.task_syntax.specs.Fault.{AreRightBefore, BeginsNoToken, IsWide, IsTextBefore, IsNotRaw, IsNoEscape, IsFaultAt, HasFault}
use Rattle.task_syntax.proofs.Bytes.{same_head, low_begins}
use Rattle.task_syntax.proofs.Classes.{digit, quote, none, class_of, class-quote, class-comment, class-blank, front_class, starts, token_some}
use Rattle.task_syntax.proofs.PartLemmas.{Stuck, parts_same, stuck_end, stuck_quote, stuck_bad, stuck_escape, text_same}
use Rattle.task_syntax.proofs.Pieces.{IsShaped, IsRight, right_head}

-- ---- one piece
no_none : (kind : TokenKindTerm) → none ≡ class_of kind → ⊥
no_none name_token e = absurd cc
no_none keyword_token e = absurd cc
no_none (number_token n) e = absurd cc
no_none (text_token t) e = absurd cc
no_none symbol_token e = absurd cc

blank_low : (b : ℕ) → IsBlank b → b < 128
blank_low b h = grind (arith, nat_tests, h)

blank_token : (b : ℕ) (u t v : Text) (kind : TokenKindTerm) → IsBlank b → Spells t kind → b ∷ u ≡ t ++ v → ⊥
blank_token b u t v kind h s e = no_none kind
    (sym (class-blank b h) ∙ front_class (b ∷ u) t v kind b u e s (low_begins b u (blank_low b h)))

comment_token : (u t v : Text) (kind : TokenKindTerm) → Spells t kind → 35 ∷ u ≡ t ++ v → ⊥
comment_token u t v kind s e = no_none kind (sym class-comment ∙ front_class (35 ∷ u) t v kind 35 u e s (low_begins 35 u (omega arith)))

blank_comment : (b : ℕ) → IsBlank b → b ≡ 35 → ⊥
blank_comment b h e = absurd (grind (arith, nat_tests, h, e))

line_same : (t u v w : Text) → t ++ u ≡ v ++ w → NoLf t → EndsLine u → NoLf v → EndsLine w → (t ≡ v) × (u ≡ w)
line_same [] u [] w e bad ends bad' ends' = (refl, e)
line_same [] u (b ∷ v) w e bad ends bad' ends' = absurd (bad'.0 (subst EndsLine e ends))
line_same (b ∷ t) u [] w e bad ends bad' ends' = absurd (bad.0 (subst EndsLine (sym e) ends'))
line_same (b ∷ t) u (c ∷ v) w e bad ends bad' ends' =
    let first : b ≡ c = cc in
    let later : t ++ u ≡ v ++ w = cc in
    let same = line_same t u v w later bad.1 ends bad'.1 ends' in
    (ap (λ x. x ∷ t) first ∙ ap (λ x. c ∷ x) same.0, same.1)

-- one of two fronts of a list begins with the other
data Fronts (t u v w : Text) : Type 0 where
  longer : (more : Text) → v ≡ t ++ more → u ≡ more ++ w → Fronts t u v w
  shorter : (more : Text) → t ≡ v ++ more → w ≡ more ++ u → Fronts t u v w

fronts : (t u v w : Text) → t ++ u ≡ v ++ w → Fronts t u v w
fronts [] u v w e = longer v refl e
fronts (b ∷ t) u [] w e = shorter (b ∷ t) refl (sym e)
fronts (b ∷ t) u (c ∷ v) w e =
    let first : b ≡ c = cc in
    let later : t ++ u ≡ v ++ w = cc in
    go first (fronts t u v w later)
  where
    go : b ≡ c → Fronts t u v w → Fronts (b ∷ t) u (c ∷ v) w
    go first (longer more is rest) = longer more (ap (λ x. x ∷ v) (sym first) ∙ ap (λ x. b ∷ x) is) rest
    go first (shorter more is rest) = shorter more (ap (λ x. x ∷ t) first ∙ ap (λ x. c ∷ x) is) rest

-- bytes spell a token of one kind
spells_same : (t : Text) (k l : TokenKindTerm) → Spells t k → Spells t l → k ≡ l
spells_same t k l s s' = let (c, v, b, is) = starts t k s in go k l s s' (sym is ∙ front_class t t [] l c v (sym (append-nil t)) s' b)
  where
    go : (k l : TokenKindTerm) → Spells t k → Spells t l → class_of k ≡ class_of l → k ≡ l
    go name_token name_token s s' e = refl
    go name_token keyword_token s s' e = let a = s.1 in absurd cc
    go name_token (number_token m) s s' e = absurd cc
    go name_token (text_token d) s s' e = absurd cc
    go name_token symbol_token s s' e = absurd cc
    go keyword_token name_token s s' e = let a = s'.1 in absurd cc
    go keyword_token keyword_token s s' e = refl
    go keyword_token (number_token m) s s' e = absurd cc
    go keyword_token (text_token d) s s' e = absurd cc
    go keyword_token symbol_token s s' e = absurd cc
    go (number_token n) name_token s s' e = absurd cc
    go (number_token n) keyword_token s s' e = absurd cc
    go (number_token n) (number_token m) s s' e = ap number_token (s.2 ∙ sym s'.2)
    go (number_token n) (text_token d) s s' e = absurd cc
    go (number_token n) symbol_token s s' e = absurd cc
    go (text_token c) name_token s s' e = absurd cc
    go (text_token c) keyword_token s s' e = absurd cc
    go (text_token c) (number_token m) s s' e = absurd cc
    go (text_token c) (text_token d) s s' e = ap text_token
        (text_same t t [] c d (34 ∷ []) s'.0 (sym (append-nil t)) s s'.1 s'.2 (stuck_quote [])).0
    go (text_token c) symbol_token s s' e = absurd cc
    go symbol_token name_token s s' e = absurd cc
    go symbol_token keyword_token s s' e = absurd cc
    go symbol_token (number_token m) s s' e = absurd cc
    go symbol_token (text_token d) s s' e = absurd cc
    go symbol_token symbol_token s s' e = refl

text_kind : (text t u v : Text) (kind : TokenKindTerm) → text ≡ t ++ u → Spells t kind → text ≡ 34 ∷ v → (content : Text)
    × (kind ≡ text_token content)
text_kind text t u v kind e s f = go kind (sym class-quote ∙ front_class text t u kind 34 v e s (f ∙ low_begins 34 v (omega arith)))
  where
    go : (kind : TokenKindTerm) → quote ≡ class_of kind → (content : Text) × (kind ≡ text_token content)
    go name_token k = absurd cc
    go keyword_token k = absurd cc
    go (number_token n) k = absurd cc
    go (text_token content) k = (content, refl)
    go symbol_token k = absurd cc

token_same : (t u v w : Text) (k l : TokenKindTerm) → t ++ u ≡ v ++ w → Spells t k → Spells v l → IsLongest t u → IsLongest v w → (t ≡ v)
    × (k ≡ l) × (u ≡ w)
token_same t u v w k l e s s' longest longest' = go (fronts t u v w e)
  where
    found : t ≡ v → u ≡ w → (t ≡ v) × (k ≡ l) × (u ≡ w)
    found same rest = (same, spells_same v k l (subst (λ x. Spells x k) same s) s', rest)

    go : Fronts t u v w → (t ≡ v) × (k ≡ l) × (u ≡ w)
    go (longer [] is rest) = found (sym (is ∙ append-nil t)) rest
    go (longer (b ∷ more) is rest) = absurd (longest (b ∷ more) w l rest (λ n. cc) (subst (λ x. Spells x l) is s'))
    go (shorter [] is rest) = found (is ∙ append-nil v) (sym rest)
    go (shorter (b ∷ more) is rest) = absurd (longest' (b ∷ more) u k rest (λ n. cc) (subst (λ x. Spells x k) is s))

piece_same : (p q : Piece) (u v : Text) → piece_bytes p ++ u ≡ piece_bytes q ++ v → IsShaped p u → IsShaped q v → (p ≡ q) × (u ≡ v)
piece_same (blank b) (blank c) u v e h k = let first : b ≡ c = cc in let later : u ≡ v = cc in (ap blank first, later)
piece_same (blank b) (comment t) u v e h k = let first : b ≡ 35 = cc in absurd (blank_comment b h first)
piece_same (blank b) (lexeme t kind) u v e h k = absurd (blank_token b u t v kind h k.0 e)
piece_same (comment t) (blank b) u v e h k = let first : b ≡ 35 = cc in absurd (blank_comment b k first)
piece_same (comment t) (comment s) u v e h k =
    let later : t ++ u ≡ s ++ v = cc in
    let same = line_same t u s v later h.0 h.1 k.0 k.1 in
    (ap comment same.0, same.1)
piece_same (comment t) (lexeme s kind) u v e h k = absurd (comment_token (t ++ u) s v kind k.0 e)
piece_same (lexeme t kind) (blank b) u v e h k = absurd (blank_token b v t u kind k h.0 (sym e))
piece_same (lexeme t kind) (comment s) u v e h k = absurd (comment_token (s ++ v) t u kind h.0 (sym e))
piece_same (lexeme t k) (lexeme s l) u v e h i =
    let same = token_same t u s v k l e h.0 i.0 h.1 i.1 in
    (ap (λ x. lexeme x k) same.0 ∙ ap (lexeme s) same.1, same.2)

-- ---- several pieces
-- no right piece stands first
abbrev Ends : Text → Type 0
Ends r = (p : Piece) (u : Text) → r ≡ piece_bytes p ++ u → IsRight p u → ⊥

cut_same : (ps qs : List Piece) (r s : Text) → bytes_of ps ++ r ≡ bytes_of qs ++ s → AreRightBefore ps r → AreRightBefore qs s → Ends r
    → Ends s → (ps ≡ qs) × (r ≡ s)
cut_same [] [] r s e h k end end' = (refl, e)
cut_same [] (q ∷ qs) r s e h k end end' = absurd
    (end q (bytes_of qs ++ s) (e ∙ append_assoc (piece_bytes q) (bytes_of qs) s) (right_head q qs s k).0)
cut_same (p ∷ ps) [] r s e h k end end' = absurd
    (end' p (bytes_of ps ++ r) (sym e ∙ append_assoc (piece_bytes p) (bytes_of ps) r) (right_head p ps r h).0)
cut_same (p ∷ ps) (q ∷ qs) r s e h k end end' =
    let one = right_head p ps r h in
    let two = right_head q qs s k in
    let first = piece_same p q (bytes_of ps ++ r) (bytes_of qs ++ s)
    (sym (append_assoc (piece_bytes p) (bytes_of ps) r) ∙ e ∙ append_assoc (piece_bytes q) (bytes_of qs) s) one.0.0 two.0.0 in
    let more = cut_same ps qs r s first.1 one.1 two.1 end end' in
    (ap (λ x. x ∷ ps) first.0 ∙ ap (λ x. q ∷ x) more.0, more.1)

ends_nil : Ends []
ends_nil (blank b) u e h = cc
ends_nil (comment t) u e h = cc
ends_nil (lexeme [] kind) u e h = absurd (token_some [] kind h.0.0 refl)
ends_nil (lexeme (b ∷ t) kind) u e h = cc

-- ---- faults
-- what follows the parts of a text says its fault
abbrev said_kind : Text → LexKind
said_kind [] = OpenText
said_kind (b ∷ bs) = if b == 34 then LongText else if b == 92 then BadEscape else BadChar

abbrev said_place : ℕ → Text → ℕ
said_place n [] = 0
said_place n (b ∷ bs) = if b == 34 then 0 else n

record InText (rest : Text) (k : LexKind) (at : ℕ) : Type 0 where
  parts : List TextPart
  tail : Text
  before : IsTextBefore rest parts tail
  stuck : Stuck tail
  kind_is : k ≡ said_kind tail
  place_is : at ≡ said_place (1 + length (spelled parts)) tail
  long : (back : Text) → tail ≡ 34 ∷ back → 65536 < length before.content

data Cause (rest : Text) (k : LexKind) (at : ℕ) : Type 0 where
  no_token : BeginsNoToken rest → k ≡ BadChar → at ≡ 0 → Cause rest k at
  wide : IsWide rest → k ≡ WideNumber → at ≡ 0 → Cause rest k at
  in_text : InText rest k at → Cause rest k at

bad_said : (n : ℕ) (back : Text) → IsNotRaw back → (BadChar ≡ said_kind back) × (n ≡ said_place n back)
    × ((after : Text) → back ≡ 34 ∷ after → ⊥)
bad_said n [] bad = absurd bad
bad_said n (b ∷ bs) bad =
    let one : (b == 34) ≡ false = grind (arith, nat_tests, bad) in
    let two : (b == 92) ≡ false = grind (arith, nat_tests, bad) in
    (rw (one, two) refl, rw one refl, λ after e. let same : b ≡ 34 = cc in absurd (grind (arith, nat_tests, bad, same)))

escape_said : (n : ℕ) (back : Text) → IsNoEscape back → (BadEscape ≡ said_kind back) × (n ≡ said_place n back)
    × ((after : Text) → back ≡ 34 ∷ after → ⊥)
escape_said n [] bad = absurd bad
escape_said n (b ∷ bs) bad = subst (λ x. (BadEscape ≡ said_kind (x ∷ bs)) × (n ≡ said_place n (x ∷ bs))
    × ((after : Text) → x ∷ bs ≡ 34 ∷ after → ⊥)) (sym bad.0) (refl, refl, λ after e. absurd (omega (arith, same_head 92 34 bs after e)))

cause : (rest : Text) (k : LexKind) (at : ℕ) → IsFaultAt rest k at → Cause rest k at
cause rest BadChar at (inl h) = no_token h.0 refl h.1
cause rest BadChar at (inr (parts, back, before, bad, is)) =
    let said = bad_said (1 + length (spelled parts)) back bad in
    in_text (record {
      parts = parts;
      tail = back;
      before = before;
      stuck = stuck_bad back bad;
      kind_is = said.0;
      place_is = is ∙ said.1;
      long = λ after e. absurd (said.2 after e);
    })
cause rest BadEscape at (parts, back, before, bad, is) =
    let said = escape_said (1 + length (spelled parts)) back bad in
    in_text (record {
      parts = parts;
      tail = back;
      before = before;
      stuck = stuck_escape back bad;
      kind_is = said.0;
      place_is = is ∙ said.1;
      long = λ after e. absurd (said.2 after e);
    })
cause rest OpenText at (parts, before, is) =
    in_text (record { parts = parts; tail = []; before = before; stuck = stuck_end; kind_is = refl; place_is = is; long = λ after e. cc })
cause rest LongText at (h, is) =
    in_text (record {
      parts = h.parts;
      tail = 34 ∷ h.back;
      before = h.before;
      stuck = stuck_quote h.back;
      kind_is = refl;
      place_is = is;
      long = λ after e. h.long;
    })
cause rest WideNumber at (h, is) = wide h refl is

-- a fault is no right piece
digit_text : (rest : Text) (w : IsWide rest) (v : Text) → rest ≡ 34 ∷ v → ⊥
digit_text rest w v e = go (sym class-quote ∙ front_class rest w.digits w.back (number_token w.number) 34 v w.bytes w.are
    (e ∙ low_begins 34 v (omega arith)))
  where
    go : quote ≡ digit → ⊥
    go k = absurd cc

cause_ends : (rest : Text) (k : LexKind) (at : ℕ) → Cause rest k at → Ends rest
cause_ends [] k at (no_token h _ _) p u e right = absurd h
cause_ends (c ∷ cs) k at (no_token h _ _) (blank b) u e right = let same : c ≡ b = cc in h.0 (subst IsBlank (sym same) right.0)
cause_ends (c ∷ cs) k at (no_token h _ _) (comment t) u e right = let same : c ≡ 35 = cc in h.1 same
cause_ends (c ∷ cs) k at (no_token h _ _) (lexeme t kind) u e right = h.3 t u kind e right.0.0
cause_ends rest k at (wide w _ _) p u e right =
    let same = piece_same p (lexeme w.digits (number_token w.number)) u w.back (sym e ∙ w.bytes) right.0 (w.are, w.longest) in
    let within : w.number ≤ 9223372036854775807 = (subst (λ x. IsRight x u) same.0 right).1 in
    absurd (omega (arith, within, w.wide))
cause_ends rest k at (in_text h) (blank b) u e right =
    let both : b ∷ u ≡ 34 ∷ (spelled h.parts ++ h.tail) = sym e ∙ h.before.bytes in
    let same : b ≡ 34 = cc in
    absurd (grind (arith, nat_tests, right.0, same))
cause_ends rest k at (in_text h) (comment t) u e right =
    absurd (omega (arith, same_head 35 34 (t ++ u) (spelled h.parts ++ h.tail) (sym e ∙ h.before.bytes)))
cause_ends rest k at (in_text h) (lexeme t kind) u e right =
    let (content, kind_is) = text_kind rest t u (spelled h.parts ++ h.tail) kind e right.0.0 h.before.bytes in
    let same = text_same rest t u content h.before.content h.tail h.parts e (subst (Spells t) kind_is right.0.0) h.before.bytes h.before.are
    h.stuck in
    let within : length content ≤ 65536 = subst IsWithinTokenLimits kind_is right.1 in
    absurd (omega (arith, within, ap length same.0, h.long u (sym same.1)))

-- two causes at one place are one
no_wide : (rest : Text) → BeginsNoToken rest → IsWide rest → ⊥
no_wide [] h w = absurd h
no_wide (c ∷ cs) h w = h.3 w.digits w.back (number_token w.number) w.bytes w.are

no_text : (rest : Text) → BeginsNoToken rest → (v : Text) → rest ≡ 34 ∷ v → ⊥
no_text [] h v e = absurd h
no_text (c ∷ cs) h v e = let same : c ≡ 34 = cc in h.2 same

cause_same : (rest : Text) (k l : LexKind) (i j : ℕ) → Cause rest k i → Cause rest l j → (k ≡ l) × (i ≡ j)
cause_same rest k l i j (no_token _ a b) (no_token _ c d) = (a ∙ sym c, b ∙ sym d)
cause_same rest k l i j (wide _ a b) (wide _ c d) = (a ∙ sym c, b ∙ sym d)
cause_same rest k l i j (in_text h) (in_text g) =
    let both : 34 ∷ (spelled h.parts ++ h.tail) ≡ 34 ∷ (spelled g.parts ++ g.tail) = sym h.before.bytes ∙ g.before.bytes in
    let inner : spelled h.parts ++ h.tail ≡ spelled g.parts ++ g.tail = cc in
    let same =
    parts_same h.parts g.parts h.before.content g.before.content h.tail g.tail h.before.are g.before.are inner h.stuck g.stuck in (
      h.kind_is ∙ ap said_kind same.2 ∙ sym g.kind_is,
      h.place_is ∙ ap (λ x. said_place (1 + length (spelled x)) h.tail) same.0
          ∙ ap (said_place (1 + length (spelled g.parts))) same.2 ∙ sym g.place_is,
    )
cause_same rest k l i j (no_token h _ _) (wide w _ _) = absurd (no_wide rest h w)
cause_same rest k l i j (wide w _ _) (no_token h _ _) = absurd (no_wide rest h w)
cause_same rest k l i j (no_token h _ _) (in_text g) = absurd (no_text rest h _ g.before.bytes)
cause_same rest k l i j (in_text g) (no_token h _ _) = absurd (no_text rest h _ g.before.bytes)
cause_same rest k l i j (wide w _ _) (in_text g) = absurd (digit_text rest w _ g.before.bytes)
cause_same rest k l i j (in_text g) (wide w _ _) = absurd (digit_text rest w _ g.before.bytes)

-- ---- whole sources
right_whole : (ps : List Piece) → AreRight ps → AreRightBefore ps []
right_whole [] h = tt
right_whole (blank b ∷ ps) h = (h.0, right_whole ps h.1)
right_whole (comment t ∷ ps) h = (h.0, subst EndsLine (sym (append-nil (bytes_of ps))) h.1, right_whole ps h.2)
right_whole (lexeme t kind ∷ ps) h = (h.0, h.1, subst (IsLongest t) (sym (append-nil (bytes_of ps))) h.2, right_whole ps h.3)

pub one_list : (source : Text) (ts us : List TokenTerm) → HasTokens source ts → HasTokens source us → ts ≡ us
one_list source ts us h g =
    let same = cut_same h.pieces g.pieces [] [] (ap (λ x. x ++ []) (h.bytes ∙ sym g.bytes)) (right_whole h.pieces h.right)
    (right_whole g.pieces g.right) ends_nil ends_nil in
    sym h.are ∙ ap (tokens_from 0) same.0 ∙ g.are

pub one_fault : (source : Text) (k l : LexKind) (p q : ℕ) → HasFault source k p → HasFault source l q → (k ≡ l) × (p ≡ q)
one_fault source k l p q h g =
    let a = cause h.rest k h.inside h.fault in
    let b = cause g.rest l g.inside g.fault in
    let same = cut_same h.pieces g.pieces h.rest g.rest (h.bytes ∙ sym g.bytes) h.right g.right (cause_ends h.rest k h.inside a)
    (cause_ends g.rest l g.inside b) in
    let one = cause_same g.rest k l h.inside g.inside (subst (λ x. Cause x k h.inside) same.1 a) b in
    (one.0, h.is_place ∙ ap (λ x. length (bytes_of x) + h.inside) same.0 ∙ ap (λ n. length (bytes_of g.pieces) + n) one.1 ∙ sym g.is_place)

pub apart : (source : Text) (ts : List TokenTerm) (k : LexKind) (p : ℕ) → HasTokens source ts → HasFault source k p → ⊥
apart source ts k p h g =
    let b = cause g.rest k g.inside g.fault in
    let same = cut_same h.pieces g.pieces [] g.rest (append-nil (bytes_of h.pieces) ∙ h.bytes ∙ sym g.bytes) (right_whole h.pieces h.right)
    g.right ends_nil (cause_ends g.rest k g.inside b) in
    empty (subst (λ x. Cause x k g.inside) (sym same.1) b)
  where
    nil : (t u : Text) → t ++ u ≡ [] → t ≡ []
    nil [] u e = refl
    nil (b ∷ t) u e = cc

    empty : {i : ℕ} → Cause [] k i → ⊥
    empty (no_token h _ _) = absurd h
    empty (wide w _ _) = token_some w.digits (number_token w.number) w.are (nil w.digits w.back (sym w.bytes))
    empty (in_text h) = let e : [] ≡ 34 ∷ (spelled h.parts ++ h.tail) = h.before.bytes in absurd cc
