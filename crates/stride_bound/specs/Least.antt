-- Tables on the way to the least one that holds.
use Rattle.std.specs.Prelude.{◌≡◌, ℕ, ◌+◌, ◌-◌, ◌^◌, List, sum_by, Some, slice_get}
use Rattle.task_model.specs.Terms.Program.{DefBodyTerm, ProgramTerm}
use Rattle.stride_bound.specs.declared.figures.Figures.{Figures}
use Rattle.stride_bound.specs.Figures.{AtMost, IsAmple, tables_of, text_figures, texts_of}
use Rattle.stride_bound.specs.BoundTerms.{figures_at}

-- each table that holds has at least these figures
abbrev pub IsBelow : ProgramTerm → List Figures → Type 0
IsBelow p fs = (other : ℕ → Figures) → IsAmple p other → (n : ℕ) → AtMost (figures_at fs n) (other n)

-- the figures of this text are at least what it comes to
abbrev pub ComesTo : ProgramTerm → List Figures → ℕ → Type 0
ComesTo p fs n = (w : DefBodyTerm) → slice_get (texts_of p) n ≡ Some w
    → AtMost (text_figures (tables_of p (figures_at fs)) w) (figures_at fs n)

-- how much one text's figures may rise as numbers of 64 bits, and all of them together
abbrev pub room_of : Figures → ℕ
room_of f =
    (2 ^ 64 - f.evaluating.units) + (2 ^ 64 - f.evaluating.height) + (2 ^ 64 - f.fires) + (2 ^ 64 - f.striding.units)
    + (2 ^ 64 - f.striding.height) + (2 ^ 64 - f.failing.units) + (2 ^ 64 - f.failing.height)

abbrev pub room : List Figures → ℕ
room = sum_by room_of
