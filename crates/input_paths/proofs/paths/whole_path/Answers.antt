use Rattle.std.proofs.Common.{sym, ◌∙◌}
use Rattle.input_paths.proofs.PathLemmas.{whole_read, not_whole, no_path}
use Rattle.input_paths.proofs.paths.whole_path.Goals as goal

pub returns-then-is_empty : goal.returns-then-is_empty
returns-then-is_empty c = whole_read (sym c.is_empty.ensures ∙ c.if-is_empty.true) c.in-Ok.ensures

pub returns-else-is_empty : goal.returns-else-is_empty
returns-else-is_empty c = not_whole (sym c.is_empty.ensures ∙ c.if-is_empty.false) c.in-Ok.ensures

pub returns-in-Err-Fault : goal.returns-in-Err-Fault
returns-in-Err-Fault c = no_path c.in-Err-Fault.field-0-is c.in-Err-Fault.ensures
