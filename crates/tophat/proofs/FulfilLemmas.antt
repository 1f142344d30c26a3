-- The whole promise, from how a command ended and what its words ask for.
use Rattle.std.proofs.Common.{◌≡◌, ℕ, Option, ◌⊎◌, inl, inr, sym, ◌∙◌, subst}
use Rattle.std.specs.Prelude.{MatchOption}
use Rattle.command_words.specs.Commands.{CommandTerm}
use Rattle.tophat.specs.Top.{limits, named, NeedsMore, source_of}
use Rattle.tophat.specs.Objects.{Objects}
use Rattle.tophat.specs.Ended.{Ended, HasRisen}
use Rattle.tophat.specs.Asks.{Asks}
use Rattle.tophat.specs.Fulfils.{Fulfils}
use Rattle.tophat.specs.Promise.{Promised}
use Rattle.tophat.specs.Worked.{HasVerdictAt}
use Rattle.tophat.specs.declared.ending.CommandEnding.{CommandEnding}
use Rattle.tophat.proofs.PromiseLemmas.{promised}
use Rattle.tophat.proofs.StatusLemmas.{ends_9}
use Rattle.tophat.proofs.CompleteLemmas.{completes}
use Rattle.tophat.proofs.WorkLemmas.{is_read_fault, is_write_fault, failed_by, files_risen, input_risen, output_risen}

-- at status 5 the count of the files or that of the input has risen
read_risen : (command : Option CommandTerm) (o : Objects) (status : ℕ) → Ended limits command o status → status ≡ 5
    → HasRisen o.files.faults ⊎ HasRisen o.input.faults
read_risen command o status e five = elim (is_read_fault e.ending (sym e.status_is ∙ five)) [
  | inl p ↦ inl (files_risen e.ending o.files.faults e.file_count p)
  | inr q ↦ inr (input_risen e.ending o.input.faults e.input_count q)
]

-- no plain command ends by a fault of the listening side
no_gate : (command : Option CommandTerm) (o : Objects) (status : ℕ) → Ended limits command o status → status ≡ 9 → ⊥
no_gate command o status e nine =
    subst (λ (z : CommandEnding). HasVerdictAt z (source_of command e.worked.file)) (ends_9 e.ending (sym e.status_is ∙ nine)) e.worked.verdict_is

pub fulfils : (command : Option CommandTerm) (o : Objects) (status : ℕ) → Ended limits command o status
    → MatchOption command ((status ≡ 2) ⊎ (status ≡ 8)) (λ _. status ≡ 2 → ⊥) → Asks limits command o status
    → Fulfils limits command o status
fulfils command o status e usage asks =
    let told : (NeedsMore command → ⊥)
    → Promised limits command (o.files.before (named command)) o.input.before o.out.before o.out.now status =
    λ plain. promised limits command (o.files.before (named command)) o.input.before o.input.now o.out.before o.out.now e.ending status
    plain e.status_is e.worked in
    record {
      ended = e;
      told = told;
      usage = usage;
      no_gate = no_gate command o status e;
      asks = asks;
      faults = failed_by e.ending status o.files.faults o.input.faults o.out.faults e.status_is e.file_count e.input_count e.output_count;
      complete = completes command (o.files.before (named command)) o.input.before o.out.before o.out.now
          (HasRisen o.files.faults ⊎ (HasRisen o.input.faults ⊎ HasRisen o.out.faults)) status told
          (λ five. elim (read_risen command o status e five) [ inl p ↦ inl p | inr q ↦ inr (inl q) ])
          (λ six. inr (inr (output_risen e.ending o.out.faults e.output_count (is_write_fault e.ending (sym e.status_is ∙ six)))));
    }
