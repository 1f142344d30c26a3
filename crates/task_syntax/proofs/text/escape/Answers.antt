use Rattle.std.proofs.Common.{refl, arith}
use Rattle.task_model.specs.Terms.Token.{quote, backslash, line_feed, tab, carriage_return}
use Rattle.task_syntax.specs.Runs.{BeginsWithCharacter}
use Rattle.task_syntax.proofs.EscapeLemmas.{no_escape_digits, digits_stand, no_escape_end, no_escape_other, letter_stands}
use Rattle.task_syntax.proofs.TableLemmas.{weaker}
use Rattle.task_syntax.proofs.text.escape.Goals as goal

pub returns-in_err-letter : goal.returns-in_err-letter
returns-in_err-letter c = rw c.from_residual.ensures (refl, no_escape_end c.args.text.now c.in_err-letter.ensures.cases)

pub returns-in-34 : goal.returns-in-34
returns-in-34 c = letter_stands c.args.text.now 34 34 c.in_ok-letter.rest.now quote (omega arith)
    (rw c.in-34.is at c.in_ok-letter.ensures.cases)

pub returns-in-92 : goal.returns-in-92
returns-in-92 c = letter_stands c.args.text.now 92 92 c.in_ok-letter.rest.now backslash (omega arith)
    (rw c.in-92.is at c.in_ok-letter.ensures.cases)

pub returns-in-n : goal.returns-in-n
returns-in-n c = letter_stands c.args.text.now 110 10 c.in_ok-letter.rest.now line_feed (omega arith)
    (rw c.in-n.is at c.in_ok-letter.ensures.cases)

pub returns-in-t : goal.returns-in-t
returns-in-t c = letter_stands c.args.text.now 116 9 c.in_ok-letter.rest.now tab (omega arith)
    (rw c.in-t.is at c.in_ok-letter.ensures.cases)

pub returns-in-r : goal.returns-in-r
returns-in-r c = letter_stands c.args.text.now 114 13 c.in_ok-letter.rest.now carriage_return (omega arith)
    (rw c.in-r.is at c.in_ok-letter.ensures.cases)

pub returns-in-x : goal.returns-in-x
returns-in-x c =
    let begins : BeginsWithCharacter c.args.text.now 120 c.in_ok-letter.rest.now = rw c.in-x.is at c.in_ok-letter.ensures.cases in
    weaker c.hex_escape.result
    (λ none. (refl, no_escape_digits c.args.text.now c.in_ok-letter.rest.now begins none))
    (λ r (a, b, rest_is, is). digits_stand c.args.text.now c.in_ok-letter.rest.now a b r.0 r.1.now begins rest_is is)
    c.hex_escape.ensures

pub returns-in_default : goal.returns-in_default
returns-in_default c = (
  refl,
  no_escape_other c.args.text.now c.in_ok-letter.letter c.in_ok-letter.rest.now c.in_ok-letter.ensures.cases
      (omega arith) (omega arith) (omega arith) (omega arith) (omega arith) (omega arith),
)
