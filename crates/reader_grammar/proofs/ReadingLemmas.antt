-- A source has at most one first fault, and none where it has a program.
use Rattle.std.proofs.Common.{◌≡◌, ℕ, ◌+◌, List, [], ◌∷◌, length, refl, sym, ap, ◌∙◌, subst, arith}
use Rattle.task_model.specs.Terms.Text.{Text}
use Rattle.task_model.specs.Terms.Program.{ProgramTerm}
use Rattle.task_model.specs.Terms.Token.{TokenTerm, Piece, blank, comment, lexeme, AreRight, tokens_from, HasTokens}
use Rattle.task_syntax.proofs.OneReading as lexing
use Rattle.exact_reading.specs.declared.stop.FaultKind.{FaultKind}
use Rattle.exact_reading.specs.Reading.{IsViablePrefix, IsWithinLevels}
use Rattle.exact_reading.specs.Whole.{IsFirstFault}
use Rattle.exact_reading.proofs.Whole.{no_word}
use Rattle.task_syntax.specs.declared.stop.ReadKind.{ReadKind}
use Rattle.task_syntax.specs.declared.stop.ReadKind.TheVariants.{TooLong, NotUtf8, Lex, Unexpected, TooNested}
use Rattle.task_model.specs.Syntax.Grammar.{no_definitions, levels}
use Rattle.task_model.specs.Syntax.Meaning.{program_of}
use Rattle.task_model.specs.Syntax.ProgramText.{HasReading, IsProgramText}
use Rattle.reader_grammar.specs.Faults.{AreSpelled, IsProgram, numbered_place, IsTokenFault, IsLongestUtf8, IsFaultOf}
use Rattle.reader_grammar.proofs.FaultLemmas.{one_fault}

-- the tokens of a source are spelled as their kinds say
pieces_spelled : (from : ℕ) (ps : List Piece) → AreRight ps → AreSpelled (tokens_from from ps)
pieces_spelled from [] right = tt
pieces_spelled from (blank byte ∷ ps) right = pieces_spelled (from + 1) ps right.1
pieces_spelled from (comment t ∷ ps) right = pieces_spelled (from + 1 + length t) ps right.2
pieces_spelled from (lexeme t kind ∷ ps) right =
    (record { spells = right.0; within = right.1 }, pieces_spelled (from + length t) ps right.3)

pub are_spelled : {source : Text} {terms : List TokenTerm} → HasTokens source terms → AreSpelled terms
are_spelled h = subst AreSpelled h.are (pieces_spelled 0 h.pieces h.right)

-- the program without definitions
pub some_program : IsViablePrefix IsProgram (IsWithinLevels 200) []
some_program = (
  [],
  (program_of no_definitions, 0),
  record { spelled = tt; parse = no_definitions; reads = refl; stands_for = refl },
  omega arith,
)

one_longest : {source : Text} {n m : ℕ} → IsLongestUtf8 source n → IsLongestUtf8 source m → n ≡ m
one_longest {n = n} {m = m} a b =
    let up = a.longest m b.within b.valid in
    let down = b.longest n a.within a.valid in
    omega (arith, up, down)

-- faults of the tokens of one source are one
one_token_fault : {source : Text} {kind kind' : FaultKind} {token token' place place' : ℕ} → IsTokenFault source kind token place
    → IsTokenFault source kind' token' place' → (kind ≡ kind') × (token ≡ token') × (place ≡ place')
one_token_fault {source = source} {kind' = kind'} {token = token} {token' = token'} f g =
    let same = lexing.one_list source g.terms f.terms g.has f.has in
    let q = one_fault IsProgram (IsWithinLevels 200) some_program f.terms f.first
    (subst (λ ts. IsFirstFault IsProgram (IsWithinLevels 200) ts kind' token') same g.first) in
    let first = ap (λ n. numbered_place f.terms n (length source)) q.1 in
    let second = ap (λ ts. numbered_place ts token' (length source)) (sym same) in
    (q.0, q.1, f.at ∙ first ∙ second ∙ sym g.at)

module _ (source : Text) where
  -- a source has at most one first fault
  pub fault_once : (kind kind' : ReadKind) (place place' : ℕ) → IsFaultOf source kind place → IsFaultOf source kind' place'
      → (kind ≡ kind') × (place ≡ place')
  fault_once TooLong TooLong p q f g = (refl, f.1 ∙ sym g.1)
  fault_once NotUtf8 NotUtf8 p q f g = (refl, one_longest f.2 g.2)
  fault_once (Lex k) (Lex l) p q f g = let same = lexing.one_fault source k l p q f.1 g.1 in (ap (λ x. Lex x) same.0, same.1)
  fault_once (Unexpected t) (Unexpected u) p q f g = let same = one_token_fault f.1 g.1 in (ap (λ x. Unexpected x) same.1, same.2)
  fault_once TooNested TooNested p q f g = let same = one_token_fault f.2 g.2 in (refl, same.2)
  fault_once TooLong NotUtf8 p q f g = absurd (omega (arith, f.0, g.0))
  fault_once TooLong (Lex l) p q f g = absurd (omega (arith, f.0, g.0))
  fault_once TooLong (Unexpected u) p q f g = absurd (omega (arith, f.0, g.0))
  fault_once TooLong TooNested p q f g = absurd (omega (arith, f.0, g.0))
  fault_once NotUtf8 TooLong p q f g = absurd (omega (arith, f.0, g.0))
  fault_once (Lex k) TooLong p q f g = absurd (omega (arith, f.0, g.0))
  fault_once (Unexpected t) TooLong p q f g = absurd (omega (arith, f.0, g.0))
  fault_once TooNested TooLong p q f g = absurd (omega (arith, f.0, g.0))
  fault_once NotUtf8 (Lex l) p q f g = absurd (f.1 g.1.utf8)
  fault_once NotUtf8 (Unexpected u) p q f g = absurd (f.1 g.1.has.utf8)
  fault_once NotUtf8 TooNested p q f g = absurd (f.1 g.2.has.utf8)
  fault_once (Lex k) NotUtf8 p q f g = absurd (g.1 f.1.utf8)
  fault_once (Unexpected t) NotUtf8 p q f g = absurd (g.1 f.1.has.utf8)
  fault_once TooNested NotUtf8 p q f g = absurd (g.1 f.2.has.utf8)
  fault_once (Lex k) (Unexpected u) p q f g = absurd (lexing.apart source g.1.terms k p g.1.has f.1)
  fault_once (Lex k) TooNested p q f g = absurd (lexing.apart source g.2.terms k p g.2.has f.1)
  fault_once (Unexpected t) (Lex l) p q f g = absurd (lexing.apart source f.1.terms l q f.1.has g.1)
  fault_once TooNested (Lex l) p q f g = absurd (lexing.apart source f.2.terms l q f.2.has g.1)
  fault_once (Unexpected t) TooNested p q f g = let same = (one_token_fault f.1 g.2).0 in absurd (cc)
  fault_once TooNested (Unexpected u) p q f g = let same = (one_token_fault f.2 g.1).0 in absurd (cc)

  no_token_fault : {kind : FaultKind} {token place : ℕ} {p : ProgramTerm} {places : List ℕ} → HasReading source p places
      → IsTokenFault source kind token place → ⊥
  no_token_fault {kind = kind} {token = token} {p = p} r f =
      let same = lexing.one_list source f.terms r.terms f.has r.has in
      no_word {x = (p, levels r.parse)} (subst (λ ts. IsFirstFault IsProgram (IsWithinLevels 200) ts kind token) same f.first)
      (record { spelled = are_spelled r.has; parse = r.parse; reads = r.reads; stands_for = ap (λ q. (q, levels r.parse)) r.stands_for })
      r.within

  -- a source that has a program has no fault
  pub fault_apart : (kind : ReadKind) (place : ℕ) (p : ProgramTerm) (places : List ℕ) → IsFaultOf source kind place
      → IsProgramText source p places → ⊥
  fault_apart TooLong place p places f t = let short = t.short in omega (arith, f.0, short)
  fault_apart NotUtf8 place p places f t = f.1 t.reading.has.utf8
  fault_apart (Lex k) place p places f t = lexing.apart source t.reading.terms k place t.reading.has f.1
  fault_apart (Unexpected u) place p places f t = no_token_fault t.reading f.1
  fault_apart TooNested place p places f t = no_token_fault t.reading f.2
