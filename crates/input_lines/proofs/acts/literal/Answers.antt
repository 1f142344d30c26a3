use Rattle.std.proofs.Common.{arith}
use Rattle.input_lines.proofs.LiteralEndLemmas.{literal_right, literal_stop, place_within}
use Rattle.input_lines.proofs.acts.literal.Goals as goal

pub returns-in-Ok : goal.returns-in-Ok
returns-in-Ok c = literal_right c.split_return.ensures.split c.split_return.ensures.front c.split_return.ensures.back c.in-Ok.ensures.found
    c.in-Ok.ensures.only

pub returns-in-Err-Bad : goal.returns-in-Err-Bad
returns-in-Err-Bad c =
    let fault = rw c.in-Err-Bad.field-0-is at c.in-Err-Bad.ensures.bad in
    let split = c.split_return.ensures.split in
    let le = place_within c.split_return.result.1.now split fault in
    rw c.in-Err-Bad.field-0-is
    (literal_stop _ _ c.split_return.ensures.front c.split_return.ensures.back split fault (omega (arith, le)))
