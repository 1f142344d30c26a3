-- The bound of a program, or that it has none (docs/RULES.md, "A printed bound on work").
use Rattle.std.specs.Prelude.{◌≡◌, ℕ, Option, Some, None}
use Rattle.task_model.specs.Terms.Program.{ProgramTerm}
use Rattle.stride_bound.specs.declared.bounds.Bound.{Bound}
use Rattle.stride_bound.specs.declared.figures.Figures.{Figures}
use Rattle.stride_bound.specs.Figures.{IsLeast, program_bound}
use Rattle.stride_bound.specs.TextLinks.{links_of, LeadsBack}

-- A program has no bound where a tight link leads back. Else its bound is that of the least table that holds.
pub record HasBound (p : ProgramTerm) (b : Bound) : Type 0 where
  pub loose : LeadsBack (links_of p) → ⊥
  pub table : ℕ → Figures
  pub least : IsLeast p table
  pub is : b ≡ program_bound p table

abbrev pub IsBound : ProgramTerm → Option Bound → Type 0
IsBound p None = LeadsBack (links_of p)
IsBound p (Some b) = HasBound p b
