-- Where the head of a request ends (docs/FORMATS.md, "Where a request ends"): blank lines, and then a block.
use Rattle.std.specs.Prelude.{ℕ, suc, ◌-◌, ◌==◌, ◌&&◌, ◌||◌, nat_lt, if◌then◌else◌, Bool, false, Option, None, Some, option_map, [], ◌∷◌, take}
use Rattle.std.specs.List.{count_by}
use Rattle.task_model.specs.Terms.Text.{Text}

-- The blank lines and the block of a request have at most so many bytes.
abbrev pub head_limit : ℕ
head_limit = 8192

-- An LF comes first.
abbrev pub begins_with_lf : Text → Bool
begins_with_lf [] = false
begins_with_lf (byte ∷ bytes) = byte == 10

-- The line end at the front, LF or CR LF, has so many bytes: none where there is no line end.
abbrev pub line_end_length : Text → ℕ
line_end_length [] = 0
line_end_length (byte ∷ bytes) = if byte == 10 then 1 else if byte == 13 && begins_with_lf bytes then 2 else 0

-- The byte belongs to a line end, where these bytes follow it: it is an LF, or a CR before an LF.
abbrev pub in_line_end : ℕ → Text → Bool
in_line_end byte bytes = byte == 10 || (byte == 13 && begins_with_lf bytes)

-- The LF and CR LF in front of a request are dropped.
abbrev pub without_blanks : Text → Text
without_blanks [] = []
without_blanks (byte ∷ bytes) = if in_line_end byte bytes then without_blanks bytes else byte ∷ bytes

-- The block at the front has so many bytes: it is the shortest start that ends with an LF and then a line end.
abbrev pub block_length : Text → Option ℕ
block_length [] = None
block_length (byte ∷ bytes) =
    if byte == 10 && nat_lt 0 (line_end_length bytes) then Some (suc (line_end_length bytes))
    else option_map (λ n. suc n) (block_length bytes)

-- The blank lines at the front and the block behind them have so many bytes.
abbrev pub end_of_block : Text → Option ℕ
end_of_block [] = None
end_of_block (byte ∷ bytes) =
    if in_line_end byte bytes then option_map (λ n. suc n) (end_of_block bytes) else block_length (byte ∷ bytes)

-- The head of the first request has so many bytes, where its block ends within the limit.
abbrev pub head_length : Text → Option ℕ
head_length bytes = end_of_block (take head_limit bytes)

-- The bytes have so many LF.
abbrev pub line_ends : Text → ℕ
line_ends bytes = count_by (λ byte. byte == 10) bytes

-- A block has so many lines between its first and the empty one.
abbrev pub field_lines : Text → ℕ
field_lines block = line_ends block - 2
