-- How the log and the marks tell the earlier lists.
use Rattle.std.specs.Prelude.{ℕ, ◌≤◌, List, [], ◌∷◌, take, drop, slice_set}
use Rattle.shared_store.specs.declared.store.Overwritten.{Overwritten}
use Rattle.shared_store.specs.declared.store.Mark.{Mark}

-- with the entries undone, the last one first
abbrev pub rewound : {A : Type 0} → List (Overwritten A) → List A → List A
rewound [] xs = xs
rewound (w ∷ ws) xs = slice_set (rewound ws xs) w.place w.value

-- the list at a mark
abbrev pub earlier : {A : Type 0} → List A → List (Overwritten A) → Mark → List A
earlier xs log m = take m.count (rewound (drop m.log log) xs)

-- marks never fall, and end within a list and a log of these lengths
abbrev pub IsStack : List Mark → ℕ → ℕ → Type 0
IsStack [] count log = Unit {0}
IsStack (m ∷ []) count log = (m.count ≤ count) × (m.log ≤ log)
IsStack (m ∷ n ∷ ms) count log = (m.count ≤ n.count) × (m.log ≤ n.log) × IsStack (n ∷ ms) count log
