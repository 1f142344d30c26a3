-- The place that a replay tells.
use Rattle.std.proofs.Common.{◌≡◌, ℕ, List, sym, subst}
use Rattle.history_journal.specs.Restarting.{IsBadJournal}
use Rattle.history_journal.specs.declared.replaying.ReplayStop.{ReplayStop}
use Rattle.history_journal.specs.declared.replaying.ReplayStop.TheVariants as replays

same_place : (a b : ℕ) → replays.Bad a ≡ replays.Bad b → a ≡ b
same_place a b e = cc

pub bad_place : (bytes : List ℕ) (here place : ℕ) → replays.Bad here ≡ replays.Bad place → IsBadJournal bytes here → IsBadJournal bytes place
bad_place bytes here place is bad = subst (λ (n : ℕ). IsBadJournal bytes n) (same_place here place is) bad
