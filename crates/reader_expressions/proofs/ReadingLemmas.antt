-- What holds of each answer of a reader.
use Rattle.std.proofs.Common.{◌≡◌, ℕ, suc, ◌+◌, ◌≤◌, ◌<◌, List, [], ◌∷◌, ◌++◌, length, Result, Ok, Err, refl, sym, ap, ◌∙◌, subst, arith}
use Rattle.std.proofs.lemmas.List.{length-map, length-append}
use Rattle.exact_reading.specs.declared.stop.FaultKind.{FaultKind}
use Rattle.exact_reading.specs.declared.stop.ParseStop.{ParseStop}
use Rattle.exact_reading.specs.declared.stop.ParseStop.TheVariants.{Fault}
use Rattle.exact_reading.specs.declared.stop.FaultKind.TheVariants.{TooNested}
use Rattle.task_model.specs.declared.symbol.Symbol.{Symbol}
use Rattle.exact_reading.specs.Reading.{Language, IsWithinLevels, Always, Anything, SharesPrefix, Right}
use Rattle.exact_reading.proofs.Sequences.{begins_shorter}
use Rattle.exact_reading.proofs.Productions.{refused_deep, at_tokens}
use Rattle.task_model.specs.Syntax.Lexemes.{Lexeme, symbol}
use Rattle.task_model.specs.Syntax.Grammar.{Form, comparison, operand, series, both, product, part_of, Parse, tokens, levels}
use Rattle.task_model.specs.Terms.Host.{HostTerm}
use Rattle.reader_grammar.specs.declared.series.Level.{Level}
use Rattle.reader_grammar.specs.declared.series.Level.TheVariants.{Either, Both, Sum, Product}
use Rattle.task_model.specs.Syntax.Meaning.{Meaning}
use Rattle.reader_grammar.specs.Languages.{Of, EndsForm, SymbolToken, ReadsAs, Reads}
use Rattle.reader_grammar.specs.Parts.{lexeme, lexemes, series_of, shown_part, ParsedTerm, shown}
use Rattle.reader_grammar.specs.declared.lexeme.PositionedToken.{PositionedToken}
use Rattle.reader_grammar.proofs.GrammarLemmas.{least, least_levels, head, head_first}
use Rattle.reader_grammar.proofs.GrammarLemmas as lemmas
use Rattle.reader_grammar.proofs.PassingLemmas.{Passing, pass_stop, pass_found}

-- the same of the same tokens
pub at_reading : {X Y : Type 0} {A : Language Lexeme X} {F : X → Type 0} {E : List Lexeme → Type 0} {show : X → Y} {ts ts' : List Lexeme}
    {r : Result (Y × List Lexeme) ParseStop} → ts ≡ ts' → ReadsAs A F E show ts' r → ReadsAs A F E show ts r
at_reading {A = A} {F = F} {E = E} {show = show} {r = r} e right = subst (λ l. ReadsAs A F E show l r) (sym e) right

-- a fault's place, by the tokens of the code
pub counted_at : {X Y : Type 0} {A : Language Lexeme X} {F : X → Type 0} {E : List Lexeme → Type 0} {show : X → Y} {ts : List Lexeme}
    {kind : FaultKind} (tokens : List PositionedToken) → ReadsAs A F E show ts (Err (Fault kind (length (lexemes tokens))))
    → ReadsAs A F E show ts (Err (Fault kind (length tokens)))
counted_at {A = A} {F = F} {E = E} {show = show} {ts = ts} {kind = kind} tokens right =
    subst (λ n. ReadsAs A F E show ts (Err (Fault kind n))) (length-map tokens lexeme) right

-- a symbol was seen
pub sign_read : {s : Symbol} {p : ℕ} {ts rest : List Lexeme} → ts ≡ symbol s p ∷ rest
    → Right (SymbolToken s) Always Anything ts (Ok (p, rest))
sign_read {s = s} {p = p} {rest = rest} e =
    at_tokens e (record { by = record { front = symbol s p ∷ []; split = refl; found = refl; fits = tt; only = only } })
  where
    only : (a : List Lexeme) (q : ℕ) (z : List Lexeme) → SymbolToken s a q → Anything z → SharesPrefix (symbol s p ∷ []) rest (a ++ z)
        → (a ≡ symbol s p ∷ []) × (q ≡ p)
    only a q z h _ b =
        let (w, begun) = begins_shorter [] (symbol s p ∷ []) rest (a ++ z) b in
        let same : symbol s q ∷ z ≡ symbol s p ∷ w = ap (λ l. l ++ z) (sym h) ∙ begun in
        let q_is : q ≡ p = cc in
        (h ∙ ap (λ n. symbol s n ∷ []) q_is, q_is)

-- what was read has no more levels than there was room for, by what the code keeps of them
pub count_within : {f : Form} {Y : Type 0} (show : Parse f → Y) (count : Y → ℕ) → ((d : Parse f) → count (show d) ≡ levels d)
    → {room : ℕ} {ts rest : List Lexeme} {y : Y} → Reads f show room ts (Ok (y, rest)) → count y ≤ room
count_within show count same h =
    let (x, shows, right) = h.by in
    let fits = right.by.fits in
    let are = right.by.found.1 in
    let counted = sym (same x.0) ∙ ap count shows in
    omega (arith, fits, are, counted)

pub levels_within : (f : Form) {room : ℕ} {ts rest : List Lexeme} {s : ParsedTerm (Meaning f)} → Reads f shown room ts (Ok (s, rest))
    → s.levels ≤ room
levels_within f h = count_within {f = f} shown (λ s. s.levels) (λ d. refl) h

-- a form that is another one is read as that one is
pub passed : {f g : Form} {room : ℕ} {ts : List Lexeme} (P : Passing f g ts) {Y : Type 0} (show : Parse f → Y) (show' : Parse g → Y)
    → ((d : Parse g) → show (P.pass d) ≡ show' d) → (r : Result (Y × List Lexeme) ParseStop) → Reads g show' room ts r
    → Reads f show room ts r
passed P show show' same (Ok r) h =
    let (x, shows, right) = h.by in record { by = ((P.pass x.0, x.1), same x.0 ∙ shows, pass_found P right) }
passed P show show' same (Err e) h = record { by = pass_stop P h.by }

-- the first token is that of this parse, and there is no room for any
pub no_room : {f : Form} (d : Parse f) → lemmas.Some f → {room : ℕ} {ts rest : List Lexeme} → ts ≡ head d ∷ rest → room < least f
    → Right (Of f) (IsWithinLevels room) (EndsForm f) ts (Err (Fault TooNested (length ts)))
no_room {f} d some e lt =
    let (w, is) = head_first d some in
    refused_deep (Of f) e (λ a y z h fits _ _. let few = least_levels y.0 in let same = h.1 in omega (arith, few, same, fits, lt))
    (w, (d, levels d), (is, refl), tt)

-- what stands behind a token has fewer
pub fewer : {t : Lexeme} (more rest : List PositionedToken) → lexemes more ≡ t ∷ lexemes rest → length rest < length more
fewer more rest e =
    let whole = length-map more lexeme in
    let behind = length-map rest lexeme in
    let counts : length (lexemes more) ≡ suc (length (lexemes rest)) = ap length e in
    omega (arith, whole, behind, counts)

-- the part of a level that is known
pub at_level : {level known : Level} {room : ℕ} {ts : List Lexeme} {r : Result (ParsedTerm HostTerm × List Lexeme) ParseStop}
    → level ≡ known
    → Reads (part_of (series_of known)) (shown_part known) room ts r → Reads (part_of (series_of level)) (shown_part level) room ts r
at_level {room = room} {ts = ts} {r = r} e right = subst (λ l. Reads (part_of (series_of l)) (shown_part l) room ts r) (sym e) right

pub part_within : (l : Level) {room : ℕ} {ts rest : List Lexeme} {s : ParsedTerm HostTerm}
    → Reads (part_of (series_of l)) (shown_part l) room ts (Ok (s, rest)) → s.levels ≤ room
part_within Either h = levels_within (series both) h
part_within Both h = levels_within comparison h
part_within Sum h = levels_within (series product) h
part_within Product h = levels_within operand h

-- what was left of the tokens has no more
pub no_more : {X Y : Type 0} {A : Language Lexeme X} {F : X → Type 0} {E : List Lexeme → Type 0} {show : X → Y} {y : Y}
    (tokens rest : List PositionedToken) → ReadsAs A F E show (lexemes tokens) (Ok (y, lexemes rest)) → length rest ≤ length tokens
no_more tokens rest h =
    let (x, shows, right) = h.by in
    let front = right.by.front in
    let counts : length (lexemes tokens) ≡ length front + length (lexemes rest) =
    ap length right.by.split ∙ length-append front (lexemes rest) in
    let whole = length-map tokens lexeme in
    let behind = length-map rest lexeme in
    omega (arith, counts, whole, behind)
