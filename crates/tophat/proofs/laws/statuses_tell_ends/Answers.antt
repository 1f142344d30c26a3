use Rattle.tophat.proofs.WorkLemmas.{is_usage, is_read_fault, is_write_fault}
use Rattle.tophat.proofs.StatusLemmas.{ends_0, ends_1, ends_3, ends_4, ends_7, ends_8, ends_9, silent_ends}
use Rattle.tophat.proofs.laws.statuses_tell_ends.Goals as goal

pub returns-clause-zero : goal.returns-clause-zero
returns-clause-zero k = λ ending. ends_0 ending

pub returns-clause-one : goal.returns-clause-one
returns-clause-one k = λ ending. ends_1 ending

pub returns-clause-two : goal.returns-clause-two
returns-clause-two k = λ ending. is_usage ending

pub returns-clause-three : goal.returns-clause-three
returns-clause-three k = λ ending. ends_3 ending

pub returns-clause-four : goal.returns-clause-four
returns-clause-four k = λ ending. ends_4 ending

pub returns-clause-five : goal.returns-clause-five
returns-clause-five k = λ ending. is_read_fault ending

pub returns-clause-six : goal.returns-clause-six
returns-clause-six k = λ ending. is_write_fault ending

pub returns-clause-seven : goal.returns-clause-seven
returns-clause-seven k = λ ending. ends_7 ending

pub returns-clause-eight : goal.returns-clause-eight
returns-clause-eight k = λ ending. ends_8 ending

pub returns-clause-nine : goal.returns-clause-nine
returns-clause-nine k = λ ending. ends_9 ending

pub returns-clause-silent : goal.returns-clause-silent
returns-clause-silent k = λ l command file verdict script report. silent_ends l command file verdict script report
