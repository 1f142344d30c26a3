-- The program of a drill is accepted: its text has the tokens of this parse, and each of its demands is met.
use Rattle.std.proofs.Common.{◌≡◌, ◌≢◌, ◌∙◌, ℕ, ◌<◌, true, false, List, [], ◌∷◌, ◌++◌, map, refl, sym, ap, ap₂, subst, arith}
use Rattle.std.specs.Fmt.{digits}
use Rattle.std.specs.Prelude.{codes}
use Rattle.std.specs.Str.{encode_utf8_all}
use Rattle.std.proofs.lemmas.Str.{encode_ascii}
use Rattle.unicode_ident.proofs.IdentLemmas.{is_xid_start-ascii, is_xid_continue-ascii}
use Rattle.task_model.specs.Terms.Text.{Text}
use Rattle.task_model.specs.Terms.Token.{IsWord, HasTokens, bytes_of}
use Rattle.task_model.specs.Terms.Basic.{BasicTerm, basic_term, int_type}
use Rattle.task_model.specs.Terms.Program.{ProgramTerm, program_term, main_name}
use Rattle.task_model.specs.Running.Checked.{CheckedTerm}
use Rattle.task_model.specs.declared.basic.Basic.{Basic}
use Rattle.task_model.specs.declared.program.Program.{Program}
use Rattle.task_model.specs.declared.keyword.Keyword.TheVariants as words
use Rattle.task_model.specs.declared.symbol.Symbol.TheVariants as signs
use Rattle.task_model.specs.Syntax.Lexemes.{keyword, symbol, name, number, token_terms}
use Rattle.task_model.specs.Syntax.Grammar.{program, Parse, parameters, choice, chain, either, both, sum, product, int, levels, no_definitions, more_definitions, task_named, scalar_type, task_new, task_plain, task_share, plain, uncompared, unlisted, unprefixed, single, empty}
use Rattle.task_model.specs.Syntax.Grammar as grammar
use Rattle.task_model.specs.Syntax.Printed.{program_text}
use Rattle.task_model.specs.Syntax.Written.{IsWritten}
use Rattle.task_model.specs.Checking.Accepted.{IsAccepted, typed_program}
use Rattle.reader_printer.proofs.Placing.{AreSpelled, placed_from}
use Rattle.reader_printer.proofs.TokenLines.{Spaced, pieces, tokens_in, tokens_of_pieces}
use Rattle.drill_program.specs.Drill.{drill_program}

-- the tokens of the text, and which of them ends its line
abbrev line : List Spaced
line =
    (keyword words.Task 0, false) ∷ (name main_name 0, false) ∷ (symbol signs.Open 0, false) ∷ (symbol signs.Close 0, false)
    ∷ (symbol signs.Colon 0, false) ∷ (keyword words.Int 0, false) ∷ (symbol signs.Define 0, false) ∷ (keyword words.New 0, false)
    ∷ (name (codes "r") 0, false) ∷ (symbol signs.Define 0, false) ∷ (number (codes "0") 0, false) ∷ (keyword words.In 0, false)
    ∷ (keyword words.Share 0, false) ∷ (name (codes "r") 0, true) ∷ []

-- one ASCII character more
ascii : (b : ℕ) (t : Text) → b < 128 → encode_utf8_all t ≡ t → encode_utf8_all (b ∷ t) ≡ b ∷ t
ascii b t low e = ap (λ x. x ++ encode_utf8_all t) (encode_ascii b low) ∙ ap (λ x. b ∷ x) e

main_word : IsWord main_name
main_word = record {
  first = 109;
  rest = 97 ∷ 105 ∷ 110 ∷ [];
  scalars = refl;
  bytes = ascii 109 (97 ∷ 105 ∷ 110 ∷ []) (omega arith) (ascii 97 (105 ∷ 110 ∷ []) (omega arith)
      (ascii 105 (110 ∷ []) (omega arith) (ascii 110 [] (omega arith) refl)));
  starts = is_xid_start-ascii 109 (omega arith);
  continues = (
    is_xid_continue-ascii 97 (omega arith),
    (is_xid_continue-ascii 105 (omega arith), (is_xid_continue-ascii 110 (omega arith), tt)),
  );
}

place_word : IsWord (codes "r")
place_word = record {
  first = 114;
  rest = [];
  scalars = refl;
  bytes = ascii 114 [] (omega arith) refl;
  starts = is_xid_start-ascii 114 (omega arith);
  continues = tt;
}

some_digit : codes "0" ≢ []
some_digit e = cc

spelled : AreSpelled (tokens_in line)
spelled = (
  (refl, tt),
  (
    ((main_word, refl), tt),
    (
      (refl, tt),
      (
        (refl, tt),
        (
          (refl, tt),
          (
            (refl, tt),
            (
              (refl, tt),
              (
                (refl, tt),
                (
                  ((place_word, refl), tt),
                  (
                    (refl, tt),
                    (
                      ((some_digit, ((omega arith, omega arith), tt), refl), omega arith),
                      ((refl, tt), ((refl, tt), (((place_word, refl), tt), tt))),
                    ),
                  ),
                ),
              ),
            ),
          ),
        ),
      ),
    ),
  ),
)

abbrev parse : Parse program
parse = more_definitions no_definitions
    (task_named 0 main_name 5 (empty parameters 10 12) 14 (scalar_type int 16) 20
    (task_new 22 (codes "r") 26 28
    (plain (single either (single both (uncompared (unlisted
    (single sum (single product (unprefixed (grammar.digits (codes "0") 30))))))))) 32
    (task_plain (single choice (single chain (task_share 35 (codes "r") 41))))))

text : bytes_of (pieces line) ≡ program_text drill_program
unfolding digits
text = refl

written : IsWritten drill_program
written = (
  _,
  record {
    terms = token_terms (placed_from 0 (tokens_in line));
    has = subst (λ s. HasTokens s (token_terms (placed_from 0 (tokens_in line)))) text (tokens_of_pieces line spelled);
    parse = parse;
    reads = refl;
    within = (let two : levels parse ≡ 2 = refl in omega arith);
    stands_for = refl;
    placed = refl;
  },
)

pub drill_accepted : IsAccepted (typed_program drill_program)
drill_accepted = record { written = written; met = refl; types = refl }

-- a program and types of the code that are those of the drill
pub accepted_as : (p : Program) (types : List Basic) → program_term p ≡ drill_program → map basic_term types ≡ int_type ∷ []
    → IsAccepted (record { program = program_term p; types = map basic_term types })
accepted_as p types is typed = subst IsAccepted (ap₂ pair (sym is) (sym typed)) drill_accepted
  where
    pair : ProgramTerm → List BasicTerm → CheckedTerm
    pair p types = record { program = p; types = types }
