-- The parts of data, with something for data that has none.
use Rattle.std.proofs.Common.{ℕ, [], ◌∷◌, Option, Some, None}
use Rattle.task_model.specs.Terms.Text.{Text}
use Rattle.serde_json.specs.Data.{Num, unsigned, Data, null, number, string, array, object, Items, no_items, item, Members, no_members, member}

abbrev pub some_or : {A : Type 0} → A → Option A → A
some_or d None = d
some_or d (Some x) = x

abbrev pub members_in : Data → Members
members_in (object ms) = ms
members_in d = no_members

abbrev pub first_in : Members → Data
first_in no_members = null
first_in (member k d ms) = d

abbrev pub rest_in : Members → Members
rest_in no_members = no_members
rest_in (member k d ms) = ms

abbrev pub key_in : Members → Text
key_in no_members = []
key_in (member k d ms) = k

abbrev pub text_in : Data → Text
text_in (string t) = t
text_in d = []

abbrev pub first_byte : Text → ℕ
first_byte [] = 0
first_byte (x ∷ xs) = x

abbrev pub count_in : Data → ℕ
count_in (number (unsigned n)) = n
count_in d = 0

abbrev pub num_in : Data → Num
num_in (number n) = n
num_in d = unsigned 0

abbrev pub items_in : Data → Items
items_in (array ds) = ds
items_in d = no_items

abbrev pub others_in : Items → Items
others_in no_items = no_items
others_in (item e es) = es

abbrev pub first_item : Items → Data
first_item no_items = null
first_item (item e es) = e
