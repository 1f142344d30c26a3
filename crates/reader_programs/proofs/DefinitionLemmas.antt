-- What definitions and programs show, from what their parts do, and the loop over the definitions.
use Rattle.std.proofs.Common.{◌≡◌, ℕ, suc, ◌+◌, ◌≤◌, max, List, [], ◌∷◌, ◌++◌, length, length-append, map, Ok, Err, refl, sym, ap, ◌∙◌, subst, arith, ◌<◌, append_assoc}
use Rattle.task_model.specs.Terms.Text.{Text}
use Rattle.task_model.specs.Terms.Basic.{BasicTerm}
use Rattle.task_model.specs.Terms.Host.{HostTerm}
use Rattle.task_model.specs.Terms.Program.{ParamTerm, param_term}
use Rattle.task_model.specs.declared.program.Param.{Param}
use Rattle.exact_reading.specs.declared.stop.ParseStop.{ParseStop}
use Rattle.exact_reading.specs.Reading.{IsWithinLevels, Answer, Right}
use Rattle.task_model.specs.Syntax.Lexemes.{Lexeme, keyword}
use Rattle.task_model.specs.Syntax.Grammar.{program, definition, basic, task, expression, enclosed, parameters, Parse, no_definitions, more_definitions, function, task_named, tokens}
use Rattle.task_model.specs.Syntax.Meaning.{meaning, bodies, bodies_of}
use Rattle.task_model.specs.Syntax.Nodes.{places}
use Rattle.reader_grammar.specs.Languages.{Of, EndsForm, Reads}
use Rattle.reader_grammar.specs.Parts.{ParsedTerm, shown, shown_type, lexeme, lexemes}
use Rattle.std.proofs.lemmas.List.{length-map}
use Rattle.reader_grammar.specs.declared.lexeme.PositionedToken.{PositionedToken}
use Rattle.task_model.specs.Terms.Task.{TaskTerm}
use Rattle.reader_tasks.specs.Tasks.{shown_task}
use Rattle.reader_programs.specs.Definitions.{shown_enclosed, ShownDefinition, shown_meaning, ShownProgram, shown_program, more_shown, function_definition, task_definition}
use Rattle.reader_programs.specs.DefinitionKeywords.{word_of}
use Rattle.reader_programs.specs.declared.definition_words.DefinitionWord.{DefinitionWord}
use Rattle.task_model.proofs.BodyCounts.{bodies_count}
use Rattle.reader_grammar.proofs.BodyTokens.{before_rest, room_left}
use Rattle.reader_programs.proofs.ProgramLemmas.{Tail, start_right, more_stop, more_found, end, begins_word}

pub function_shown : (next p : ℕ) (x : Text) (q : ℕ) (ps : Parse (enclosed parameters)) (r : ℕ) (b : Parse basic) (s : ℕ)
    (e : Parse expression) {list : List ParamTerm × List ℕ} {type' : BasicTerm × ℕ} {value : ParsedTerm HostTerm} → shown_enclosed ps ≡ list
    → shown_type b ≡ type' → shown e ≡ value → shown_meaning next (function p x q ps r b s e) ≡ function_definition p x list type' value
function_shown next p x q ps r b s e {list = list} {type' = type'} eps eb ee =
    ap (λ l. function_definition p x l (shown_type b) (shown e)) eps ∙ ap (λ t. function_definition p x list t (shown e)) eb
    ∙ ap (λ v. function_definition p x list type' v) ee

-- the names of parameters
names_are : (qs : List Param) → map (λ q. q.name) (map param_term qs) ≡ map (λ q. q.name) qs
names_are [] = refl
names_are (q ∷ qs) = ap (λ l. q.name ∷ l) (names_are qs)

pub task_shown : (next p : ℕ) (x : Text) (q : ℕ) (ps : Parse (enclosed parameters)) (r : ℕ) (b : Parse basic) (s : ℕ) (t : Parse task)
    (qs : List Param) {where' : List ℕ} {type' : BasicTerm × ℕ} {body : ParsedTerm TaskTerm}
    → shown_enclosed ps ≡ (map param_term qs, where') → shown_type b ≡ type' → shown_task (map (λ q. q.name) qs) next t ≡ body
    → shown_meaning next (task_named p x q ps r b s t) ≡ task_definition p x (map param_term qs, where') type' body
task_shown next p x q ps r b s t qs {where' = where'} {type' = type'} eps eb et =
    ap (λ l. task_definition p x l (shown_type b) (shown_task (map (λ q. q.name) l.0) next t)) eps
    ∙ ap (λ l. task_definition p x (map param_term qs, where') (shown_type b) (shown_task l next t)) (names_are qs)
    ∙ ap (λ k. task_definition p x (map param_term qs, where') k (shown_task (map (λ q. q.name) qs) next t)) eb
    ∙ ap (λ v. task_definition p x (map param_term qs, where') type' v) et

-- one more definition
more_is : (x : Parse program) (d : Parse definition) {left : ShownProgram} {one : ShownDefinition} {next : ℕ} → shown_program x ≡ left
    → next ≡ length left.bodies → shown_meaning next d ≡ one → shown_program (more_definitions x d) ≡ more_shown left one
more_is x d {left = left} {next = next} ex en ed =
    let plain : bodies x ≡ next = sym (bodies_count x [] 0) ∙ ap (λ q. length q.bodies) ex ∙ sym en in
    let count : 0 + bodies x ≡ next = omega (arith, plain) in
    ap (λ n. record {
      defs = meaning x ++ meaning d n ∷ [];
      places = places x ++ places d;
      bodies = bodies_of x [] 0 ++ bodies_of d [] (0 + bodies x);
    })
    plain
    ∙ ap (λ n. record {
      defs = meaning x ++ meaning d next ∷ [];
      places = places x ++ places d;
      bodies = bodies_of x [] 0 ++ bodies_of d [] n;
    }) count
    ∙ ap (λ q. more_shown q (shown_meaning next d)) ex ∙ ap (λ q. more_shown left q) ed

-- some definitions were read, and the rest goes on
pub record Going (room : ℕ) (ts : List Lexeme) (left : ShownProgram) (rest : List Lexeme) : Type 0 where
  pub parse : Parse program × ℕ
  pub shows : shown_program parse.0 ≡ left
  pub split : ts ≡ tokens parse.0 ++ rest
  pub fits : parse.1 ≤ room
  pub goes_on : (r : Answer Lexeme (Parse program × ℕ)) → Right (Tail parse) (IsWithinLevels room) (EndsForm program) rest r
      → Right (Of program) (IsWithinLevels room) (EndsForm program) ts r

module _ {room : ℕ} {ts : List Lexeme} where
  pub begin : {left : ShownProgram} → left ≡ record { defs = []; places = []; bodies = [] } → Going room ts left ts
  begin is = record { parse = (no_definitions, 0); shows = sym is; split = refl; fits = omega arith; goes_on = λ r tail. start_right tail }

  module _ {left : ShownProgram} {rest after : List Lexeme} (g : Going room ts left rest) (k : DefinitionWord) (p : ℕ)
      (e : rest ≡ keyword (word_of k) p ∷ after) {number : ℕ} where
    pub next_stop : {s : ParseStop} → Reads definition (shown_meaning number) room (keyword (word_of k) p ∷ after) (Err s)
        → Reads program shown_program room ts (Err s)
    next_stop {s = s} h = record {
      by = g.goes_on _
          (more_stop k p e g.fits (subst (λ l. Right (Of definition) (IsWithinLevels room) (EndsForm definition) l (Err s)) (sym e) h.by));
    }

    pub next : {one : ShownDefinition} {new : ShownProgram} {behind : List Lexeme} → number ≡ length left.bodies
        → new ≡ more_shown left one → Reads definition (shown_meaning number) room (keyword (word_of k) p ∷ after) (Ok (one, behind))
        → Going room ts new behind
    next {behind = behind} number_is is h =
        let (y, shows, found) = h.by in
        let here : Right (Of definition) (IsWithinLevels room) (EndsForm definition) rest (Ok (y, behind)) = subst
        (λ l. Right (Of definition) (IsWithinLevels room) (EndsForm definition) l (Ok (y, behind))) (sym e) found in
        let fits = found.by.fits in
        let few = g.fits in
        record {
          parse = (more_definitions g.parse.0 y.0, max g.parse.1 y.1);
          shows = more_is g.parse.0 y.0 g.shows number_is shows ∙ sym is;
          split = g.split ∙ ap (λ l. tokens g.parse.0 ++ l) (before_rest here) ∙ sym (append_assoc (tokens g.parse.0) (tokens y.0) behind);
          fits = omega (arith, few, fits);
          goes_on = λ r tail. g.goes_on r (more_found k p e g.fits here tail);
        }

  -- the tokens that are left, and the bodies that were read, are no more than there were tokens
  pub few : {left : ShownProgram} {rest : List Lexeme} → Going room ts left rest → length left.bodies + length rest ≤ length ts
  few {left = left} {rest = rest} g =
      let counted = ap (λ q. length q.bodies) (sym g.shows) ∙ bodies_count g.parse.0 [] 0 in
      let least = room_left g.parse.0 ts rest (length left.bodies) counted g.split in
      omega (arith, least)

  pub finish : {left : ShownProgram} {rest : List Lexeme} → Going room ts left rest
      → ((k : DefinitionWord) (p : ℕ) (y : List Lexeme) → rest ≡ keyword (word_of k) p ∷ y → ⊥)
      → Reads program shown_program room ts (Ok (left, rest))
  finish g none = record { by = (g.parse, g.shows, g.goes_on _ (end none g.fits)) }

-- what stands behind a definition has fewer tokens
pub fewer_behind : {room next : ℕ} {one : ShownDefinition} {t : Lexeme} (more after rest : List PositionedToken)
    → lexemes more ≡ t ∷ lexemes after
    → Reads definition (shown_meaning next) room (t ∷ lexemes after) (Ok (one, lexemes rest)) → length rest < length more
fewer_behind {t = t} more after rest e h =
    let (y, shows, found) = h.by in
    let (k, p, w, is) = begins_word y.0 in
    let front = found.by.front in
    let split : length (lexemes more) ≡ length (front ++ lexemes rest) = ap length (e ∙ found.by.split) in
    let parts = length-append front (lexemes rest) in
    let some : length front ≡ suc (length w) = ap length (sym found.by.found.0 ∙ is) in
    let whole = length-map more lexeme in
    let behind = length-map rest lexeme in
    omega (arith, split, parts, some, whole, behind)
