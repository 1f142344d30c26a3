-- A front of a line of any length begins one within the limit exactly where there is room for its shortest rest.
use Rattle.std.proofs.lemmas.Bool.Decides.{nat_tests}
use Rattle.std.proofs.Common.{◌≡◌, ℕ, zero, suc, ◌+◌, ◌≤◌, List, [], ◌∷◌, ◌++◌, length, refl, sym, ap, ◌∙◌, arith, length-append}
use Rattle.exact_reading.specs.Reading.{IsViablePrefix, Always}
use Rattle.task_model.specs.Terms.Text.{Text}
use Rattle.input_lines.specs.declared.next.Next.{Next}
use Rattle.input_lines.specs.declared.next.Next.TheVariants as nexts
use Rattle.input_lines.specs.declared.bracket.Bracket.{Bracket}
use Rattle.input_lines.specs.declared.bracket.Bracket.TheVariants.{First, Last}
use Rattle.input_lines.specs.declared.standing.Standing.{Standing}
use Rattle.input_lines.specs.OpenBrackets.{owed_by}
use Rattle.input_lines.specs.ShortestRest.{shortest_rest, rest_of, next_behind, behind_byte, behind_bytes, at_start}
use Rattle.input_lines.specs.ScriptLines.{IsScriptLine}
use Rattle.input_lines.specs.LinePlaces.{BeginsLine}
use Rattle.input_lines.proofs.FillLemmas.{standing, behind_append}
use Rattle.input_lines.proofs.LineFills.{leads}

-- ---- a byte takes at most one byte off the shortest rest
closing : (c : ℕ) (bs : List Bracket) → owed_by bs ≤ suc (shortest_rest (behind_byte (standing (nexts.Word 0) bs) c))
closing c [] = omega arith
closing c (First ∷ bs) = grind (arith, nat_tests)
closing c (Last ∷ bs) = grind (arith, nat_tests)

seat_less : (c o : ℕ) → 5 + o ≤ suc (rest_of (next_behind nexts.Seat c) + o)
seat_less c o = grind (arith, nat_tests)

command_less : (c o : ℕ) → 4 + o ≤ suc (rest_of (next_behind nexts.Command c) + o)
command_less c o = grind (arith, nat_tests)

path_less : (c o : ℕ) → 5 + o ≤ suc (rest_of (next_behind nexts.Path c) + o)
path_less c o = grind (arith, nat_tests)

act_less : (c o : ℕ) → 4 + o ≤ suc (rest_of (next_behind nexts.Act c) + o)
act_less c o = grind (arith, nat_tests)

escape_less : (c o : ℕ) → 2 + o ≤ suc (rest_of (next_behind nexts.Escape c) + o)
escape_less c o = grind (arith, nat_tests)

pair_less : (c : ℕ) (bs : List Bracket) → 1 + owed_by bs ≤ suc (shortest_rest (behind_byte (standing nexts.Pair bs) c))
pair_less c bs = grind (arith, nat_tests)

list_less : (c : ℕ) (bs : List Bracket) → 1 + owed_by bs ≤ suc (shortest_rest (behind_byte (standing nexts.List bs) c))
list_less c bs = grind (arith, nat_tests)

one_less : (n : Next) (bs : List Bracket) (c : ℕ) → shortest_rest (standing n bs) ≤ suc (shortest_rest (behind_byte (standing n bs) c))
one_less nexts.Line bs c = omega arith
one_less nexts.Comment bs c = omega arith
one_less nexts.Seat bs c = seat_less c (owed_by bs)
one_less nexts.Command bs c = command_less c (owed_by bs)
one_less nexts.Path bs c = path_less c (owed_by bs)
one_less nexts.Act bs c = act_less c (owed_by bs)
one_less (nexts.Value zero) bs c = omega arith
one_less (nexts.Value (suc n)) bs c = omega arith
one_less nexts.Pair bs c = pair_less c bs
one_less nexts.List bs c = list_less c bs
one_less (nexts.Word zero) bs c = let h = closing c bs in omega (arith, h)
one_less (nexts.Word (suc n)) bs c = omega arith
one_less (nexts.Text zero) bs c = omega arith
one_less (nexts.Text (suc n)) bs c = omega arith
one_less nexts.Escape bs c = escape_less c (owed_by bs)

-- so bytes that lead to an end are no fewer than the shortest rest
no_fewer : (s : Standing) (t : Text) → shortest_rest s ≤ length t + shortest_rest (behind_bytes s t)
no_fewer s [] = omega arith
no_fewer s (c ∷ t) = let one = one_less s.next s.brackets c in let more = no_fewer (behind_byte s c) t in omega (arith, one, more)

-- ---- room
abbrev pub HasRoom : ℕ → Text → Type 0
HasRoom longest p = length p + shortest_rest (behind_bytes at_start p) ≤ longest

pub has_room : (longest : ℕ) (p : Text) → BeginsLine longest p → HasRoom longest p
has_room longest p (w, l, (is, le), _) =
    let f = leads (p ++ w) (l, is) in
    let end : behind_bytes (behind_bytes at_start p) w ≡ f.end = sym (behind_append at_start p w) ∙ f.fills.leads in
    let none : shortest_rest (behind_bytes (behind_bytes at_start p) w) ≡ 0 = ap shortest_rest end ∙ f.none_left in
    let fewer = no_fewer (behind_bytes at_start p) w in
    let long = length-append p w in
    omega (arith, le, none, fewer, long)

pub begins_line : (longest : ℕ) (p : Text) → IsViablePrefix IsScriptLine Always p → HasRoom longest p → BeginsLine longest p
begins_line longest p (w, l, is, _) le =
    let f = leads (p ++ w) (l, is) in
    let (v, (m, line), few) = f.fills.fills p w refl in
    let long = length-append p v in
    let none = f.none_left in
    (v, m, (line, omega (arith, le, few, long, none)), tt)
