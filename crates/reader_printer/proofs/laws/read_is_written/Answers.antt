use Rattle.reader_printer.proofs.Reprinted.{written_again}
use Rattle.reader_printer.proofs.laws.read_is_written.Goals as goal

pub returns : goal.returns
returns c = written_again
