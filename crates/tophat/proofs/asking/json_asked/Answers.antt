use Rattle.std.proofs.Common.{refl}
use Rattle.tophat.proofs.asking.json_asked.Goals as goal

pub returns-in-Err-Bad-clause-bad : goal.returns-in-Err-Bad-clause-bad
returns-in-Err-Bad-clause-bad c = (0, ((λ asked is. let e = c.in-Err-Bad.ensures.only asked is in let f = c.in-Err-Bad.field-0-is in cc), refl), refl)
