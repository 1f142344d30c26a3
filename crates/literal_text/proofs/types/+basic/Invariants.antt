use Rattle.std.proofs.Common.{◌+◌, ◌*◌}
use Rattle.literal_text.proofs.types.+basic.Given as goal

abbrev pub decreases-basic : goal.decreases-basic
decreases-basic l = 2 * l.room + 1

abbrev pub decreases-pair : goal.decreases-pair
decreases-pair l = 2 * l.room

abbrev pub decreases-list : goal.decreases-list
decreases-list l = 2 * l.room
