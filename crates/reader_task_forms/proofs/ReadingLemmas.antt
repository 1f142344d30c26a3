-- What holds of each answer of a reader of tasks.
use Rattle.std.proofs.Common.{◌≡◌, ℕ, ◌+◌, ◌≤◌, List, Result, length, Ok, Err, refl, sym, subst, arith}
use Rattle.exact_reading.specs.declared.stop.ParseStop.{ParseStop}
use Rattle.exact_reading.specs.declared.stop.ParseStop.TheVariants.{Memory}
use Rattle.exact_reading.specs.Reading.{Language, Answer, Right}
use Rattle.exact_reading.proofs.Productions.{no_memory}
use Rattle.task_model.specs.Syntax.Lexemes.{Lexeme}
use Rattle.task_model.specs.Syntax.Grammar.{Form, basic}
use Rattle.task_model.specs.Syntax.Meaning.{Meaning}
use Rattle.reader_grammar.specs.Languages.{ReadsAs, Reads}
use Rattle.reader_grammar.specs.Parts.{shown_type, Listed, shown_list}
use Rattle.task_model.specs.Terms.Basic.{BasicTerm}
use Rattle.exact_reading.proofs.Whole.{rest_within}
use Rattle.reader_expressions.proofs.ReadingLemmas.{count_within}

-- want of memory says nothing of the tokens
pub starved : {X Y : Type 0} {A : Language Lexeme X} {F : X → Type 0} {E : List Lexeme → Type 0} {show : X → Y} {ts : List Lexeme}
    {e : ParseStop} → e ≡ Memory → ReadsAs A F E show ts (Err e)
starved {A = A} {F = F} {E = E} {show = show} {ts = ts} same = subst (λ e. ReadsAs A F E show ts (Err e)) (sym same) (record {
  by = no_memory;
})

-- what was read has no more levels than there was room for
pub listing_within : (f : Form) {room : ℕ} {ts rest : List Lexeme} {s : Listed (Meaning f)} → Reads f shown_list room ts (Ok (s, rest))
    → s.levels ≤ room
listing_within f h = count_within {f = f} shown_list (λ s. s.levels) (λ d. refl) h

pub type_within : {room : ℕ} {ts rest : List Lexeme} {s : BasicTerm × ℕ} → Reads basic shown_type room ts (Ok (s, rest)) → s.1 ≤ room
type_within h = count_within shown_type (λ s. s.1) (λ d. refl) h

-- parts of a production that is no node have the same levels as it has
pub level : {room : ℕ} → 0 + room ≡ room
level = omega arith

-- no more tokens are left than there were
pub read_past : {X Y : Type 0} {A : Language Lexeme X} {F : X → Type 0} {E : List Lexeme → Type 0} {show : X → Y}
    {ts rest : List Lexeme} {y : Y} → ReadsAs A F E show ts (Ok (y, rest)) → length rest ≤ length ts
read_past h = let (x, shows, right) = h.by in rest_within right

-- an answer for a language is one for another
pub onto_language : {X Y : Type 0} {A B : Language Lexeme X} {F : X → Type 0} {E : List Lexeme → Type 0} {show : X → Y} {ts : List Lexeme}
    → ((q : Answer Lexeme X) → Right A F E ts q → Right B F E ts q) → (r : Result (Y × List Lexeme) ParseStop) → ReadsAs A F E show ts r
    → ReadsAs B F E show ts r
onto_language on (Ok r) h = let (x, shows, right) = h.by in record { by = (x, shows, on _ right) }
onto_language on (Err e) h = record { by = on _ h.by }
