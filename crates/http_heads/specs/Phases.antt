-- How far the search for the end of a block has come (docs/FORMATS.md, "Where a request ends").
use Rattle.std.specs.Prelude.{◌≡◌, ℕ, ◌+◌, ◌-◌, ◌≤◌, Option, Some, option_map, ◌∷◌, ◌++◌, length, take}
use Rattle.task_model.specs.Terms.Text.{Text}
use Rattle.http_heads.specs.declared.phase.Phase.{Phase}
use Rattle.http_heads.specs.declared.phase.Phase.TheVariants as phases
use Rattle.http_heads.specs.declared.head_scan.HeadScan.{HeadScan}
use Rattle.http_heads.specs.Blocks.{head_limit, block_length, end_of_block}

-- Behind bytes that end in this phase, the block takes so many of the bytes that follow.
abbrev pub rest_behind : Phase → Text → Option ℕ
rest_behind phases.Blank t = end_of_block t
rest_behind phases.BlankReturn t = option_map (λ n. n - 1) (end_of_block (13 ∷ t))
rest_behind phases.Line t = block_length t
rest_behind phases.LineEnd t = option_map (λ n. n - 1) (block_length (10 ∷ t))
rest_behind phases.LineEndReturn t = option_map (λ n. n - 2) (block_length (10 ∷ (13 ∷ t)))
rest_behind phases.Ended t = Some 0

-- So many of the bytes were looked at, and they end in the phase, whatever follows them.
pub record HasLookedAt (scan : HeadScan) (bytes : Text) : Type 0 where
  pub within : scan.looked ≤ length bytes
  pub short : scan.looked ≤ head_limit
  pub rest : (t : Text) → end_of_block (take scan.looked bytes ++ t) ≡ option_map (λ n. scan.looked + n) (rest_behind scan.phase t)
