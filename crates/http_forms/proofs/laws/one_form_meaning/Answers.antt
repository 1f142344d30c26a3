use Rattle.http_forms.proofs.OneForm.{same_input, same_place, no_act}
use Rattle.http_forms.proofs.SomeForm.{some_form}
use Rattle.http_forms.proofs.laws.one_form_meaning.Goals as goal

pub returns-clause-some : goal.returns-clause-some
returns-clause-some c = some_form

pub returns-clause-inputs : goal.returns-clause-inputs
returns-clause-inputs c = same_input

pub returns-clause-places : goal.returns-clause-places
returns-clause-places c = λ form p q h k. same_place form p q h.value k.value

pub returns-clause-apart : goal.returns-clause-apart
returns-clause-apart c = λ form i p g h. no_act form p h.value i.act g.act
