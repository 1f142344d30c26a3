use Rattle.std.proofs.Common.{◌≡◌, ◌∙◌, [], ◌∷◌, length, refl, sym, arith}
use Rattle.std.proofs.lemmas.Bool.{eqb-true}
use Rattle.task_model.specs.Terms.Text.{Text}
use Rattle.input_lines.proofs.EndLemmas.{nothing_right, nothing_stop}
use Rattle.literal_text.proofs.ReadLemmas.{not_empty}
use Rattle.input_lines.proofs.ends.nothing.Goals as goal

is_empty : (t : Text) → length t ≡ 0 → t ≡ []
is_empty [] h = refl
is_empty (byte ∷ t) h = absurd (omega (arith, h))

pub returns-then-is_empty : goal.returns-then-is_empty
returns-then-is_empty c = nothing_right (is_empty _ (eqb-true _ _ (sym c.is_empty.ensures ∙ c.if-is_empty.true)))

pub returns-else-is_empty : goal.returns-else-is_empty
returns-else-is_empty c = rw c.unexpected.ensures (nothing_stop _ (not_empty _ c.if-is_empty.ensures))
