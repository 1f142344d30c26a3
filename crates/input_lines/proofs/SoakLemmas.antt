-- Parts and paths of a soak.
use Rattle.std.proofs.Common.{◌≡◌, ℕ, zero, suc, ◌+◌, ◌<◌, List, [], ◌∷◌, ◌++◌, replicate, sym, ap, ◌∙◌, arith, add-one, append_assoc}
use Rattle.std.specs.Prelude.{slice_range}
use Rattle.std.proofs.lemmas.List.{take_rest, drop-append-le, drop-replicate}
use Rattle.task_model.specs.Terms.Text.{Text}
use Rattle.task_model.specs.declared.input.Turn.{Turn}
use Rattle.task_model.specs.declared.input.Turn.TheVariants.{First, Second}
use Rattle.input_lines.specs.Soak.{soak_parts, soak_join, soak_part, soak_path}

-- one part more
pub part_pushed : (j : ℕ) (text before joined after join : Text) → before ≡ text ++ soak_parts j → join ≡ soak_join j
    → joined ≡ before ++ join
    → after ≡ joined ++ soak_part j → after ≡ text ++ soak_parts (j + 1)
part_pushed j text before joined after join is same on last =
    last ∙ ap (λ l. l ++ soak_part j) (on ∙ ap (λ l. l ++ join) is ∙ ap (λ l. (text ++ soak_parts j) ++ l) same)
    ∙ append_assoc (text ++ soak_parts j) (soak_join j) (soak_part j) ∙ append_assoc text (soak_parts j) (soak_join j ++ soak_part j)
    ∙ ap (λ n. text ++ soak_parts n) (sym (add-one j))

-- ---- the path of a part: an end of 31 turns into first parts and one into a second, and for part 0 those 31
abbrev turns_down : List Turn
turns_down = replicate 31 First ++ (Second ∷ [])

pub first_path : (part : ℕ) (range : ℕ × ℕ) (turns : List Turn) → range ≡ (0, 31) → part ≡ 0
    → turns ≡ slice_range turns_down range.0 range.1 → turns ≡ soak_path part
first_path zero range turns e none is = is ∙ ap (λ (q : ℕ × ℕ). slice_range turns_down q.0 q.1) e
first_path (suc j) range turns e none is = absurd (omega (arith, none))

pub other_path : (part : ℕ) (range : ℕ × ℕ) (turns : List Turn) → range ≡ (part, 32) → 0 < part → part < 32
    → turns ≡ slice_range turns_down range.0 range.1 → turns ≡ soak_path part
other_path zero range turns e some few is = absurd (omega (arith, some))
other_path (suc j) range turns e some few is =
    is ∙ ap (λ (q : ℕ × ℕ). slice_range turns_down q.0 q.1) e ∙ take_rest turns_down (suc j)
    ∙ drop-append-le (suc j) (replicate 31 First) (Second ∷ []) (omega (arith, few))
    ∙ ap (λ l. l ++ (Second ∷ [])) (drop-replicate (suc j) 31 First)
