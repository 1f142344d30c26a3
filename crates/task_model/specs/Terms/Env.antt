-- Slots and environments as plain terms (docs/RULES.md, "Programs").
use Rattle.std.specs.Prelude.{ℕ, List, [], map}
use Rattle.task_model.specs.Terms.Text.{Text}
use Rattle.task_model.specs.Terms.Value.{ValueTerm, value_term}
use Rattle.task_model.specs.declared.env.Env.{Env}
use Rattle.task_model.specs.declared.env.Slot.{Slot}
use Rattle.task_model.specs.declared.env.Slot.TheVariants as slots

-- what a name stands for: a value, or a place of the store
pub data SlotTerm : Type 0 where
  plain_slot : ValueTerm → SlotTerm
  place_slot : ℕ → SlotTerm

abbrev pub slot_term : Slot → SlotTerm
slot_term (slots.Plain v) = plain_slot (value_term v)
slot_term (slots.Place n) = place_slot n

-- names with their slots, outermost first, and how many `edit` and `share` nodes of the program stand before the task
pub record EnvTerm : Type 0 where
  pub names : List Text
  pub slots : List SlotTerm
  pub first : ℕ

abbrev pub env_term : Env → EnvTerm
env_term e = record { names = e.names.list; slots = map slot_term e.slots.list; first = e.first }

-- no names, before the program's first node
abbrev pub empty_env : EnvTerm
empty_env = record { names = []; slots = []; first = 0 }
