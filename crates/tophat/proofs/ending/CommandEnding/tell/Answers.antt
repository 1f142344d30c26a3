use Rattle.tophat.proofs.ending.CommandEnding.tell.Goals as goal

pub returns-in-Absent-clause-text : goal.returns-in-Absent-clause-text
returns-in-Absent-clause-text g c = rw c.in-Absent.is c.write_four.ensures.bytes

pub returns-in-FileTooLong-clause-text : goal.returns-in-FileTooLong-clause-text
returns-in-FileTooLong-clause-text g c = rw c.in-FileTooLong.is c.write_four-in-FileTooLong.ensures.bytes

pub returns-in-FileFault-clause-text : goal.returns-in-FileFault-clause-text
returns-in-FileFault-clause-text g c = rw c.in-FileFault.is c.write_all-in-FileFault.ensures.bytes
