use Rattle.std.proofs.Common.{inl, refl}
use Rattle.journal_runs.proofs.keeper.Keeper.answer.Goals as goal

pub returns-in-Blank-clause-moves : goal.returns-in-Blank-clause-moves
returns-in-Blank-clause-moves g c = inl (record { world = refl; disk = refl; closed = refl })
