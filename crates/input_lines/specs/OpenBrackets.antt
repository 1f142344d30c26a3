-- The brackets that are open in a literal, the innermost first, and the fewest bytes with which all are closed.
use Rattle.std.specs.Prelude.{ℕ, ◌+◌, List, [], ◌∷◌}
use Rattle.input_lines.specs.declared.bracket.Bracket.{Bracket}
use Rattle.input_lines.specs.declared.bracket.Bracket.TheVariants.{First, Last}

-- a comma, a digit and a bracket, or a bracket
abbrev pub owed_to : Bracket → ℕ
owed_to First = 3
owed_to Last = 1

abbrev pub owed_by : List Bracket → ℕ
owed_by [] = 0
owed_by (b ∷ bs) = owed_to b + owed_by bs

-- a comma ends the first part of a pair
abbrev pub behind_comma : List Bracket → List Bracket
behind_comma [] = []
behind_comma (First ∷ bs) = Last ∷ bs
behind_comma (Last ∷ bs) = Last ∷ bs

-- a bracket closes the innermost one, unless that is a pair's in its first part
abbrev pub behind_close : List Bracket → List Bracket
behind_close [] = []
behind_close (First ∷ bs) = First ∷ bs
behind_close (Last ∷ bs) = bs
