-- The pieces of a source, one by one.
use Rattle.std.proofs.Common.{◌≡◌, ℕ, ◌+◌, List, [], ◌∷◌, ◌++◌, length, sym, ap, ◌∙◌, subst, append_assoc, append-nil, arith, length-append}
use Rattle.task_model.specs.Terms.Text.{Text}
use Rattle.task_model.specs.Terms.Token.{TokenTerm, Spells, IsWithinTokenLimits, IsLongest, IsBlank, NoLf, EndsLine, Piece, blank, comment, lexeme, piece_bytes, bytes_of, tokens_from}
use Rattle.task_syntax.specs.Fault.{AreRightBefore}

-- a piece, whatever the limits, where this follows it
abbrev pub IsShaped : Piece → Text → Type 0
IsShaped (blank b) after = IsBlank b
IsShaped (comment t) after = NoLf t × EndsLine after
IsShaped (lexeme t kind) after = Spells t kind × IsLongest t after

abbrev pub IsLimited : Piece → Type 0
IsLimited (blank b) = Unit {0}
IsLimited (comment t) = Unit {0}
IsLimited (lexeme t kind) = IsWithinTokenLimits kind

abbrev pub IsRight : Piece → Text → Type 0
IsRight p after = IsShaped p after × IsLimited p

pub right_head : (p : Piece) (ps : List Piece) (rest : Text) → AreRightBefore (p ∷ ps) rest → IsRight p (bytes_of ps ++ rest)
    × AreRightBefore ps rest
right_head (blank b) ps rest h = ((h.0, tt), h.1)
right_head (comment t) ps rest h = (((h.0, h.1), tt), h.2)
right_head (lexeme t kind) ps rest h = (((h.0, h.2), h.1), h.3)

right_cons : (p : Piece) (ps : List Piece) (rest : Text) → IsRight p (bytes_of ps ++ rest) → AreRightBefore ps rest
    → AreRightBefore (p ∷ ps) rest
right_cons (blank b) ps rest h k = (h.0, k)
right_cons (comment t) ps rest h k = (h.0.0, h.0.1, k)
right_cons (lexeme t kind) ps rest h k = (h.0.0, h.1, h.0.1, k)

-- ---- one piece more
pub bytes_push : (ps : List Piece) (p : Piece) (rest : Text) → bytes_of (ps ++ p ∷ []) ++ rest ≡ bytes_of ps ++ (piece_bytes p ++ rest)
bytes_push [] p rest = ap (λ x. x ++ rest) (append-nil (piece_bytes p))
bytes_push (q ∷ ps) p rest =
    append_assoc (piece_bytes q) (bytes_of (ps ++ p ∷ [])) rest ∙ ap (λ x. piece_bytes q ++ x) (bytes_push ps p rest)
    ∙ sym (append_assoc (piece_bytes q) (bytes_of ps) (piece_bytes p ++ rest))

pub right_push : (ps : List Piece) (p : Piece) (rest after : Text) → AreRightBefore ps rest → rest ≡ piece_bytes p ++ after
    → IsRight p after → AreRightBefore (ps ++ p ∷ []) after
right_push [] p rest after h e right = right_cons p [] after right tt
right_push (q ∷ ps) p rest after h e right =
    let (first, later) = right_head q ps rest h in
    let same : bytes_of ps ++ rest ≡ bytes_of (ps ++ p ∷ []) ++ after = ap (λ x. bytes_of ps ++ x) e ∙ sym (bytes_push ps p after) in
    right_cons q (ps ++ p ∷ []) after (subst (IsRight q) same first) (right_push ps p rest after later e right)

-- the tokens of a piece at a place
abbrev pub piece_tokens : ℕ → Piece → List TokenTerm
piece_tokens place p = tokens_from place (p ∷ [])

pub tokens_push : (place : ℕ) (ps : List Piece) (p : Piece) → tokens_from place (ps ++ p ∷ []) ≡ tokens_from place ps
    ++ piece_tokens (place + length (bytes_of ps)) p
tokens_push place [] p = ap (λ n. piece_tokens n p) (omega arith)
tokens_push place (blank b ∷ ps) p = tokens_push (place + 1) ps p ∙ ap (λ n. tokens_from (place + 1) ps ++ piece_tokens n p) (omega arith)
tokens_push place (comment t ∷ ps) p = tokens_push (place + 1 + length t) ps p
    ∙ ap (λ n. tokens_from (place + 1 + length t) ps ++ piece_tokens n p) (omega (arith, length-append t (bytes_of ps)))
tokens_push place (lexeme t kind ∷ ps) p = ap (λ x. record {
  kind = kind;
  from = place;
  spelling = t;
} ∷ x)
    (tokens_push (place + length t) ps p ∙ ap (λ n. tokens_from (place + length t) ps ++ piece_tokens n p)
    (omega (arith, length-append t (bytes_of ps))))
