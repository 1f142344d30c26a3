-- Bytes in memory that come in pieces.
use Rattle.std.specs.Prelude.{ℕ, List, drop}
use Rattle.outer_io.specs.declared.plain_source.PlainSource.{PlainSource}

-- the bytes that are left
abbrev pub left_of : PlainSource → List ℕ
left_of source = drop source.at source.bytes.list
