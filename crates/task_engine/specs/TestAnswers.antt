-- What a test tells.
use Rattle.std.specs.Prelude.{◌≡◌, Bool, true, false, Result, Ok, Err, IfOk}
use Rattle.task_model.specs.declared.memory.OutOfMemory.{OutOfMemory}
use Rattle.task_model.specs.declared.purse.Stop.{Stop}
use Rattle.task_model.specs.declared.purse.Stop.TheVariants.{Over, Memory}
use Rattle.task_model.specs.declared.widget.Sign.{Sign}
use Rattle.task_model.specs.declared.widget.Sign.TheVariants as signs

-- no where what was tested is failing, and yes where it isn't
abbrev pub TellsSign : Result Bool Stop → Result Sign OutOfMemory → Type 0
TellsSign (Ok true) r = r ≡ Ok signs.No
TellsSign (Ok false) r = r ≡ Ok signs.Yes
TellsSign (Err Over) r = r ≡ Ok signs.Over
TellsSign (Err Memory) r = IfOk r (λ s. ⊥)
