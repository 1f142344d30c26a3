-- The four objects of the outside, before a command and after it.
use Rattle.std.specs.Prelude.{ℕ, ◌≡◌, Option}
use Rattle.task_model.specs.Terms.Text.{Text}

-- a count of faults before a call and after it
pub record Counted : Type 0 where
  pub before : ℕ
  pub now : ℕ

-- an object before a call and after it: what it tells, the count of its faults, and the fact that the call left it as it was
pub record Around (Told : Type 0) : Type 1 where
  pub before : Told
  pub now : Told
  pub faults : Counted
  pub Untouched : Type 0

-- an object around a call, by what such an object tells and by its count
abbrev pub around : {Object Told : Type 0} → (Object → Told) → (Object → ℕ) → Object → Object → Around Told
around told faults old new = record {
  before = told old;
  now = told new;
  faults = record { before = faults old; now = faults new };
  Untouched = new ≡ old;
}

-- The files tell what each name holds, the input what is left of it, and both sinks what they took. `None`: an object doesn't tell.
pub record Objects : Type 1 where
  pub files : Around (Text → Option (Option Text))
  pub input : Around (Option Text)
  pub out : Around (Option Text)
  pub err : Around (Option Text)

-- all but the error sink is as it was
abbrev pub IsUntouched : Objects → Type 0
IsUntouched o = o.files.Untouched × o.input.Untouched × o.out.Untouched
