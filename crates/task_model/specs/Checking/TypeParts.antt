-- The symbols and the parts of types (docs/LANGUAGE.md, "Types and values").
use Rattle.std.specs.Prelude.{ℕ, suc, ◌+◌, Bool, true, false, if◌then◌else◌}
use Rattle.task_model.specs.Terms.Basic.{BasicTerm, unit_type, bool_type, int_type, text_type, pair_type, list_type}

-- each `unit`, `bool`, `int`, `text`, pair and list of a type is a symbol
abbrev pub symbols_of : BasicTerm → ℕ
symbols_of unit_type = 1
symbols_of bool_type = 1
symbols_of int_type = 1
symbols_of text_type = 1
symbols_of (pair_type a b) = suc (symbols_of a + symbols_of b)
symbols_of (list_type a) = suc (symbols_of a)

-- whether two types are the same
abbrev pub same_type : BasicTerm → BasicTerm → Bool
same_type unit_type unit_type = true
same_type bool_type bool_type = true
same_type int_type int_type = true
same_type text_type text_type = true
same_type (pair_type a b) (pair_type c d) = if same_type a c then same_type b d else false
same_type (list_type a) (list_type b) = same_type a b
same_type a b = false

-- the type of a pair's first part; unit where it is no pair
abbrev pub first_part : BasicTerm → BasicTerm
first_part (pair_type a b) = a
first_part b = unit_type

-- the type of a pair's second part; unit where it is no pair
abbrev pub second_part : BasicTerm → BasicTerm
second_part (pair_type a b) = b
second_part b = unit_type

-- the type of a list's elements; unit where it is no list
abbrev pub item_part : BasicTerm → BasicTerm
item_part (list_type b) = b
item_part b = unit_type
