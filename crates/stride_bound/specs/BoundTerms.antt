-- What the types of the code stand for.
use Rattle.std.specs.Prelude.{ℕ, List, slice_get, unwrap_or}
use Rattle.task_model.specs.Terms.Host.{host_term}
use Rattle.task_model.specs.Terms.Task.{task_term}
use Rattle.task_model.specs.Terms.Program.{DefBodyTerm, fun_body, task_body, program_term}
use Rattle.stride_bound.specs.declared.figures.Figures.{Figures}
use Rattle.stride_bound.specs.declared.table.Table.{Table}
use Rattle.stride_bound.specs.declared.pieces.Piece.{Piece}
use Rattle.stride_bound.specs.declared.pieces.Piece.TheVariants as pieces
use Rattle.stride_bound.specs.Sums.{nothing}
use Rattle.stride_bound.specs.Figures.{Tables, tables_of}

-- what a list has of a text; nothing where there is none
abbrev pub figures_at : List Figures → ℕ → Figures
figures_at fs n = unwrap_or (slice_get fs n) nothing

abbrev pub table_term : Table → Tables
table_term t = tables_of (program_term t.definitions.now.program) (figures_at t.figures.now)

abbrev pub piece_term : Piece → DefBodyTerm
piece_term (pieces.Function e) = fun_body (host_term e.now)
piece_term (pieces.Task t) = task_body (task_term t.now)
