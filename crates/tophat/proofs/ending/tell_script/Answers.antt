use Rattle.tophat.proofs.ending.tell_script.Goals as goal

pub returns-in-Bad-clause-text : goal.returns-in-Bad-clause-text
returns-in-Bad-clause-text g c = rw c.in-Bad.is c.write_pair.ensures.text

pub returns-in-InputTooLong-clause-text : goal.returns-in-InputTooLong-clause-text
returns-in-InputTooLong-clause-text g c = rw c.in-InputTooLong.is c.write_all.ensures.bytes

pub returns-in-ReadFault-clause-text : goal.returns-in-ReadFault-clause-text
returns-in-ReadFault-clause-text g c = rw c.in-ReadFault.is c.write_all-in-ReadFault.ensures.bytes

pub returns-in-WriteFault-clause-text : goal.returns-in-WriteFault-clause-text
returns-in-WriteFault-clause-text g c = rw c.in-WriteFault.is c.write_all-in-WriteFault.ensures.bytes

pub returns-in-Memory-clause-text : goal.returns-in-Memory-clause-text
returns-in-Memory-clause-text g c = rw c.in-Memory.is c.write_all-in-Memory.ensures.bytes
