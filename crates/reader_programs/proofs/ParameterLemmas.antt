-- Parameters, as the loop over them goes on.
use Rattle.std.proofs.Common.{◌≡◌, ℕ, ◌+◌, ◌≤◌, List, [], ◌∷◌, ◌++◌, Ok, Err, refl, sym, ap, ◌∙◌, arith}
use Rattle.task_model.specs.Terms.Text.{Text}
use Rattle.task_model.specs.Terms.Basic.{BasicTerm}
use Rattle.task_model.specs.Terms.Program.{ParamTerm, plain_kind, ref_kind}
use Rattle.task_model.specs.declared.symbol.Symbol.TheVariants as signs
use Rattle.exact_reading.specs.declared.stop.ParseStop.{ParseStop}
use Rattle.task_model.specs.Syntax.Lexemes.{Lexeme, symbol}
use Rattle.task_model.specs.Syntax.Grammar.{basic, parameter, series, list, parameters, Operator, comma, operator, Parse, value_named, reference_named}
use Rattle.task_model.specs.Syntax.Meaning.{meaning}
use Rattle.task_model.specs.Syntax.Nodes.{start, places}
use Rattle.reader_grammar.specs.Languages.{Reads}
use Rattle.reader_grammar.specs.Parts.{shown_type}
use Rattle.reader_grammar.proofs.SeriesReading as loops
use Rattle.reader_programs.specs.Definitions.{shown_parameter, shown_parameter_list}

-- ---- one parameter
pub value_shown : (x : Text) (p q : ℕ) (b : Parse basic) {bt : BasicTerm} {n : ℕ} {text : Text} → shown_type b ≡ (bt, n) → text ≡ x
    → shown_parameter (value_named x p q b) ≡ (record { name = text; kind = plain_kind bt }, p)
value_shown x p q b {bt = bt} eb en = ap (λ t. (record { name = x; kind = plain_kind t }, p)) (ap (λ k. k.0) eb)
    ∙ ap (λ t. (record { name = t; kind = plain_kind bt }, p)) (sym en)

pub reference_shown : (x : Text) (p q r : ℕ) (b : Parse basic) {bt : BasicTerm} {n : ℕ} {text : Text} → shown_type b ≡ (bt, n) → text ≡ x
    → shown_parameter (reference_named x p q r b) ≡ (record { name = text; kind = ref_kind bt }, p)
reference_shown x p q r b {bt = bt} eb en = ap (λ t. (record { name = x; kind = ref_kind t }, p)) (ap (λ k. k.0) eb)
    ∙ ap (λ t. (record { name = t; kind = ref_kind bt }, p)) (sym en)

-- a parameter is one node
one_place : (d : Parse parameter) → places d ≡ start d ∷ []
one_place (value_named x p q b) = refl
one_place (reference_named x p q r b) = refl

-- ---- some parameters were read, and the rest goes on
abbrev pub Going : ℕ → List Lexeme → List ParamTerm × List ℕ → List Lexeme → Type 0
Going room ts left rest = loops.Going (list parameters) shown_parameter_list room ts left rest

module _ {room : ℕ} {ts : List Lexeme} where
  pub begin_stop : {e : ParseStop} → Reads parameter shown_parameter room ts (Err e)
      → Reads (series (list parameters)) shown_parameter_list room ts (Err e)
  begin_stop h = loops.begin_stop (list parameters) shown_parameter_list shown_parameter h

  pub begin : {q : ParamTerm} {p : ℕ} {left : List ParamTerm × List ℕ} {rest : List Lexeme} → left ≡ (q ∷ [], p ∷ [])
      → Reads parameter shown_parameter room ts (Ok ((q, p), rest)) → Going room ts left rest
  begin is h =
      loops.begin (list parameters) shown_parameter_list
      (λ d shows. ap (λ l. (meaning d ∷ [], l)) (one_place d) ∙ ap (λ k. (k.0 ∷ [], k.1 ∷ [])) shows ∙ sym is) h

  module _ {left : List ParamTerm × List ℕ} {rest after : List Lexeme} (g : Going room ts left rest) (c : ℕ)
      (e : rest ≡ symbol signs.Comma c ∷ after) where
    up : 0 + room ≡ room
    up = omega arith

    enough : 0 + g.parse.1 ≤ room
    enough = let fits = g.fits in omega (arith, fits)

    pub next_stop : {s : ParseStop} → Reads parameter shown_parameter room after (Err s)
        → Reads (series (list parameters)) shown_parameter_list room ts (Err s)
    next_stop h = loops.next_stop (list parameters) shown_parameter_list g (comma parameters) c e up enough shown_parameter h

    pub next : {q : ParamTerm} {p : ℕ} {new : List ParamTerm × List ℕ} {behind : List Lexeme} → new ≡ (left.0 ++ q ∷ [], left.1 ++ p ∷ [])
        → Reads parameter shown_parameter room after (Ok ((q, p), behind)) → Going room ts new behind
    next {q = q} {p = p} is h =
        loops.next (list parameters) shown_parameter_list g (comma parameters) c e up enough
        (λ x y left_is right_is. ap (λ l. (meaning x ++ meaning y ∷ [], places x ++ l)) (one_place y)
        ∙ ap (λ k. (meaning x ++ k.0 ∷ [], places x ++ k.1 ∷ [])) right_is ∙ ap (λ k. (k.0 ++ q ∷ [], k.1 ++ p ∷ [])) left_is ∙ sym is) h

  pub finish : {left : List ParamTerm × List ℕ} {rest : List Lexeme} → Going room ts left rest
      → ((c : ℕ) (y : List Lexeme) → rest ≡ symbol signs.Comma c ∷ y → ⊥)
      → Reads (series (list parameters)) shown_parameter_list room ts (Ok (left, rest))
  finish {rest = rest} g none = loops.finish (list parameters) shown_parameter_list g no_comma
    where
      no_comma : (o : Operator (list parameters)) (p : ℕ) (y : List Lexeme) → rest ≡ operator o p ∷ y → ⊥
      no_comma (comma l) p y e = none p y e
