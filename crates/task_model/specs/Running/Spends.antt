-- What a call that works with a purse answers (docs/RULES.md, "Units and heights").
use Rattle.std.specs.Prelude.{◌≡◌, ℕ, ◌+◌, ◌≤◌, Result, Ok, Err}
use Rattle.task_model.specs.Terms.Left.{Left}
use Rattle.task_model.specs.Running.Work.{Work}
use Rattle.task_model.specs.declared.purse.Stop.{Stop}
use Rattle.task_model.specs.declared.purse.Stop.TheVariants.{Over, Memory}

-- Ok: the one result, and its units are spent. Over: no derivation is within the purse.
abbrev pub Spends : {A X : Type 0} → Work A → (X → A) → Left → Left → Result X Stop → Type 0
Spends work view old new (Ok x) =
    (n : ℕ) × (h : ℕ) × work (view x) n h × (h ≤ old.height) × (old.units ≡ n + new.units) × (new.height ≡ old.height)
Spends {A} work view old new (Err Over) = (v : A) (n h : ℕ) → work v n h → n ≤ old.units → h ≤ old.height → ⊥
Spends work view old new (Err Memory) = Unit {0}

-- the same within an evaluation, where the height that the purse has left is in the work itself
abbrev pub RunsAtHeight : {A X : Type 0} → Work A → (X → A) → Left → Left → Result X Stop → Type 0
RunsAtHeight work view old new (Ok x) =
    (n : ℕ) × (h : ℕ) × work (view x) n h × (old.units ≡ n + new.units) × (new.height ≡ old.height)
RunsAtHeight {A} work view old new (Err Over) = (v : A) (n h : ℕ) → work v n h → n ≤ old.units → ⊥
RunsAtHeight work view old new (Err Memory) = Unit {0}
