-- Programs line by line: a definition's tokens with spaces between them and a line feed behind the last.
use Rattle.std.proofs.Common.{◌≡◌, ℕ, ◌+◌, max, true, false, List, [], ◌∷◌, ◌++◌, refl, sym, ap, ◌∙◌, subst, arith, append_assoc, append-nil, zero-add}
use Rattle.std.specs.Prelude.{codes}
use Rattle.std.proofs.lemmas.List.{map-append}
use Rattle.task_model.specs.Terms.Text.{Text}
use Rattle.task_model.specs.Terms.Task.{BodyTerm}
use Rattle.task_model.specs.Terms.Program.{DefTerm}
use Rattle.task_model.specs.Terms.Token.{bytes_of}
use Rattle.task_model.specs.Syntax.Lexemes.{Lexeme}
use Rattle.task_model.specs.Syntax.Grammar as grammar
use Rattle.task_model.specs.Syntax.Grammar.{Parse, tokens, levels}
use Rattle.task_model.specs.Syntax.Meaning.{meaning, bodies, bodies_of}
use Rattle.task_model.specs.Syntax.Printed.{BodyText, definition_tokens, definitions_text, spaced}
use Rattle.reader_printer.proofs.Placing.{spelling, spellings, AreSpelled, spelled_append, behind_all, placed_from, joined_placed}
use Rattle.reader_printer.proofs.TokenLines.{Spaced, gap, pieces, tokens_in}
use Rattle.reader_printer.proofs.Showing.{Shown, Stands}
use Rattle.reader_printer.proofs.DefinitionProductions.{DefinitionMeaning, definition_in}

-- ---- a line
abbrev line : List Lexeme → List Spaced
line [] = []
line (l ∷ []) = (l, true) ∷ []
line (l ∷ m ∷ ls) = (l, false) ∷ line (m ∷ ls)

line_tokens : (ls : List Lexeme) → tokens_in (line ls) ≡ ls
line_tokens [] = refl
line_tokens (l ∷ []) = refl
line_tokens (l ∷ m ∷ ls) = ap (λ x. l ∷ x) (line_tokens (m ∷ ls))

line_bytes : (l : Lexeme) (ls : List Lexeme) → bytes_of (pieces (line (l ∷ ls))) ≡ spaced (spellings (l ∷ ls)) ++ codes "\n"
line_bytes l [] = refl
line_bytes l (m ∷ ls) =
    ap (λ x. spelling l ++ (codes " " ++ x)) (line_bytes m ls)
    ∙ ap (λ x. spelling l ++ x) (sym (append_assoc (codes " ") (spaced (spellings (m ∷ ls))) (codes "\n")))
    ∙ sym (append_assoc (spelling l) (codes " " ++ spaced (spellings (m ∷ ls))) (codes "\n"))
    ∙ ap (λ x. x ++ codes "\n") (sym (append_assoc (spelling l) (codes " ") (spaced (spellings (m ∷ ls)))))

some_line : (ls : List Lexeme) (t : Text) (ts : List Text) → spellings ls ≡ t ∷ ts
    → bytes_of (pieces (line ls)) ≡ spaced (t ∷ ts) ++ codes "\n"
some_line [] t ts e = absurd cc
some_line (l ∷ ls) t ts e = line_bytes l ls ∙ ap (λ x. spaced x ++ codes "\n") e

pieces_append : (xs ys : List Spaced) → bytes_of (pieces (xs ++ ys)) ≡ bytes_of (pieces xs) ++ bytes_of (pieces ys)
pieces_append [] ys = refl
pieces_append (x ∷ xs) ys =
    ap (λ b. spelling x.0 ++ gap x.1 ∷ b) (pieces_append xs ys)
    ∙ sym (append_assoc (spelling x.0) (gap x.1 ∷ bytes_of (pieces xs)) (bytes_of (pieces ys)))

definitions_more : (bs : List BodyText) (ds : List DefTerm) (d : DefTerm)
    → definitions_text bs (ds ++ d ∷ []) ≡ definitions_text bs ds ++ (spaced (definition_tokens bs d) ++ codes "\n")
definitions_more bs [] d = append-nil _
definitions_more bs (e ∷ ds) d = ap (λ x. spaced (definition_tokens bs e) ++ codes "\n" ++ x) (definitions_more bs ds d)
    ∙ sym (append_assoc (spaced (definition_tokens bs e) ++ codes "\n") (definitions_text bs ds)
    (spaced (definition_tokens bs d) ++ codes "\n"))

-- ---- a program
-- definitions, how many bodies they have, and those bodies
abbrev pub ProgramMeaning : Type 0
ProgramMeaning = List DefTerm × ℕ × List BodyTerm

abbrev pub program_in : Parse grammar.program → ProgramMeaning
program_in d = (meaning d, bodies d, bodies_of d [] 0)

pub record ShownProgram (bs : List BodyText) (v : ProgramMeaning) (most : ℕ) : Type 0 where
  pub written : List Spaced
  pub right : AreSpelled (tokens_in written)
  pub bytes : bytes_of (pieces written) ≡ definitions_text bs v.0
  pub stands : (n : ℕ) → Stands program_in v most (tokens_in written) n

pub no_definitions_shown : (bs : List BodyText) → ShownProgram bs ([], 0, []) 0
no_definitions_shown bs = record {
  written = [];
  right = tt;
  bytes = refl;
  stands = λ n. record { parse = grammar.no_definitions; tokens_are = refl; means = refl; within = omega arith };
}

program_is : (v : ProgramMeaning) (w : DefinitionMeaning) (ds : List DefTerm) (n : ℕ) (B : List BodyTerm) (d : ℕ → DefTerm) (m : ℕ)
    (C : ℕ → List BodyTerm)
    → ◌≡◌ {A = ProgramMeaning} (ds, n, B) v → ◌≡◌ {A = DefinitionMeaning} (d v.1, m, C v.1) w
    → ◌≡◌ {A = ProgramMeaning} (ds ++ d n ∷ [], n + m, B ++ C (0 + n)) (v.0 ++ w.0 ∷ [], v.1 + w.1, v.2 ++ w.2)
program_is v w ds n B d m C e f =
    let defs = ap (λ (z : ProgramMeaning). z.0) e in
    let count = ap (λ (z : ProgramMeaning). z.1) e in
    let all = ap (λ (z : ProgramMeaning). z.2) e in
    let def = ap (λ (z : DefinitionMeaning). z.0) f in
    let more = ap (λ (z : DefinitionMeaning). z.1) f in
    let theirs = ap (λ (z : DefinitionMeaning). z.2) f in
    ap {A = List DefTerm} {B = ProgramMeaning} (λ z. (z, n + m, B ++ C (0 + n)))
    (ap (λ k. ds ++ d k ∷ []) count ∙ ap (λ z. ds ++ z ∷ []) def ∙ ap (λ z. z ++ w.0 ∷ []) defs)
    ∙ ap {A = ℕ} {B = ProgramMeaning} (λ z. (v.0 ++ w.0 ∷ [], z, B ++ C (0 + n))) (ap (λ k. k + m) count ∙ ap (λ k. v.1 + k) more)
    ∙ ap {A = List BodyTerm} {B = ProgramMeaning} (λ z. (v.0 ++ w.0 ∷ [], v.1 + w.1, z))
    (ap (λ k. B ++ C k) (zero-add n ∙ count) ∙ ap (λ z. B ++ z) theirs ∙ ap (λ z. z ++ w.2) all)

pub more_definitions_shown : (bs : List BodyText) (v : ProgramMeaning) (w : DefinitionMeaning) (j k : ℕ) → ShownProgram bs v j
    → Shown (definition_in v.1) w k (definition_tokens bs w.0) → ShownProgram bs (v.0 ++ w.0 ∷ [], v.1 + w.1, v.2 ++ w.2) (max j k)
more_definitions_shown bs v w j k p s =
    let toks = s.written.toks in
    let all = p.written ++ line toks in
    let are : tokens_in all ≡ tokens_in p.written ++ toks =
    map-append (λ (x : Spaced). x.0) p.written (line toks) ∙ ap (λ x. tokens_in p.written ++ x) (line_tokens toks) in
    let whole = let z : ProgramMeaning = (v.0 ++ w.0 ∷ [], v.1 + w.1, v.2 ++ w.2) in z in
    record {
      written = all;
      right = subst AreSpelled (sym are) (spelled_append (tokens_in p.written) toks p.right s.written.right);
      bytes = pieces_append p.written (line toks) ∙ ap (λ x. x ++ bytes_of (pieces (line toks))) p.bytes
          ∙ ap (λ x. definitions_text bs v.0 ++ x) (some_line toks _ _ s.written.texts) ∙ sym (definitions_more bs v.0 w.0);
      stands = λ n.
          let x = p.stands n in
          let y = s.stands (behind_all n (tokens_in p.written)) in
          record {
            parse = grammar.more_definitions x.parse y.parse;
            tokens_are = joined_placed n (tokens_in p.written) toks (tokens x.parse) (tokens y.parse) x.tokens_are y.tokens_are
                ∙ ap (placed_from n) (sym are);
            means = program_is v w (meaning x.parse) (bodies x.parse) (bodies_of x.parse [] 0) (meaning y.parse) (bodies y.parse)
                (bodies_of y.parse []) x.means y.means;
            within = (let a = x.within in let b = y.within in omega (arith, a, b));
          };
    }
