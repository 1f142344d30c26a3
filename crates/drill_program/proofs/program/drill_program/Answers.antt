use Rattle.std.proofs.Common.{rules}
use Rattle.drill_program.proofs.ProgramLemmas.{accepted_as}
use Rattle.drill_program.proofs.program.drill_program.Goals as goal

pub of-requires : goal.of-requires
of-requires c =
    rw c.in_ok-program.ensures (accepted_as c.in_ok-made.made c.of_vec-types.result.list c.in_ok-made.ensures (search rules))
