-- Numbers in words.
use Rattle.std.specs.Prelude.{◌&&◌, nat_le, nat_lt, ℕ, Bool, length, Option, Some, None, if◌then◌else◌}
use Rattle.std.specs.Char.{is_ascii_digit}
use Rattle.std.specs.List.{list_all}
use Rattle.std.specs.Str.Parse.{digits_value}
use Rattle.task_model.specs.Terms.Text.{Text}

-- 1 to 20 ASCII digits
abbrev pub is_number : Text → Bool
is_number t = nat_lt 0 (length t) && (nat_le (length t) 20 && list_all is_ascii_digit t)

-- the number that the text writes, where it lies between the two
abbrev pub number_in : ℕ → ℕ → Text → Option ℕ
number_in low high t = if is_number t && (nat_le low (digits_value 10 t) && nat_le (digits_value 10 t) high)
    then Some (digits_value 10 t) else None

-- the number of an argument
abbrev pub number_at : ℕ → ℕ → Option Text → Option ℕ
number_at low high None = None
number_at low high (Some t) = number_in low high t

-- the number of an option, which is `usual` where the option does not stand
abbrev pub number_or : ℕ → ℕ → ℕ → Option Text → Option ℕ
number_or usual low high None = Some usual
number_or usual low high (Some t) = number_in low high t
