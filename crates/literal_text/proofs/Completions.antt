-- What can be completed: a sequence by a part and what comes after it.
use Rattle.std.proofs.Common.{List, [], ◌++◌, refl}
use Rattle.exact_reading.specs.Reading.{Language, IsViablePrefix, Always}
use Rattle.exact_reading.proofs.Sequences.{Bind, Done}

-- where nothing is left
pub done_alive : {T X : Type 0} (x : X) → IsViablePrefix {T = T} (Done x) Always []
done_alive x = ([], x, record { none = refl; same = refl }, tt)

-- by this part first
pub part_alive : {T X Y : Type 0} {A : Language T X} {B : X → Language T Y} (a : List T) (x : X) → A a x → IsViablePrefix (B x) Always []
    → IsViablePrefix (Bind A B) Always []
part_alive a x h (t, y, k, o) = (a ++ t, y, record { front = a; back = t; value = x; split = refl; first = h; next = k }, tt)

-- in a language with more words
pub wider_alive : {T X : Type 0} {A C : Language T X} → ((a : List T) (y : X) → A a y → C a y) → IsViablePrefix A Always []
    → IsViablePrefix C Always []
wider_alive into (t, y, h, o) = (t, y, into t y h, tt)
