use Rattle.std.proofs.Common.{sym, ap, ◌∙◌}
use Rattle.std.specs.Option.{option_map}
use Rattle.task_model.specs.Terms.Value.{value_term}
use Rattle.task_engine.proofs.FittingLemmas.{step_fits}
use Rattle.kept_rows.proofs.signs.step_sign.Goals as goal

pub test_next-requires : goal.test_next-requires
test_next-requires g c = record {
  fits = step_fits _ _ _ _ _ c.requires.fits
      (sym c.in_ok-v.ensures.value ∙ ap (option_map value_term) c.in-Some.is);
}
