use Rattle.tophat.specs.Top.{limits}
use Rattle.tophat.proofs.WorkLemmas.{found_over}
use Rattle.tophat.proofs.program_file.read_file.Goals as goal

pub returns-in-TooLong-clause-file : goal.returns-in-TooLong-clause-file
returns-in-TooLong-clause-file g c = found_over _ limits.file c.in-TooLong.ensures.file
