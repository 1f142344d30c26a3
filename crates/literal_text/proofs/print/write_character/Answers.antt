use Rattle.std.proofs.Common.{◌≤◌, ◌≢◌, arith}
use Rattle.literal_text.proofs.PrintLemmas.{escaped_raw}
use Rattle.literal_text.proofs.print.write_character.Goals as goal

pub returns-in_default : goal.returns-in_default
returns-in_default c =
    let l : 32 ≤ c.args.character = omega arith in
    let n34 : c.args.character ≢ 34 = omega arith in
    let n92 : c.args.character ≢ 92 = omega arith in
    let n127 : c.args.character ≢ 127 = omega arith in
    rw (escaped_raw c.args.character c.ranges.character.0 l n34 n92 n127) c.push.ensures
