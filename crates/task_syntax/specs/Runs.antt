-- Runs of characters, and parts of texts.
use Rattle.std.specs.Prelude.{◌≡◌, ℕ, Bool, true, false, not, ◌==◌, ◌||◌, List, ◌++◌, encode_utf8}
use Rattle.std.specs.Char.{is_ascii_digit}
use Rattle.std.specs.List.{list_all}
use Rattle.std.specs.Str.{encode_utf8_all, all_scalars}
use Rattle.unicode_ident.specs.Ident.{is_xid_continue}
use Rattle.task_model.specs.Terms.Text.{Text}
use Rattle.task_syntax.specs.declared.run.Run.{Run}
use Rattle.task_syntax.specs.declared.run.Run.TheVariants.{Line, Word, Digits}

-- space, tab, LF or CR
abbrev pub is_blank : ℕ → Bool
is_blank c = (((c == 32) || (c == 9)) || (c == 10)) || (c == 13)

-- a run goes on with this character
abbrev pub goes_on : Run → ℕ → Bool
goes_on Line c = not (c == 10)
goes_on Word c = is_xid_continue c
goes_on Digits c = is_ascii_digit c

-- a text begins with this character
abbrev pub BeginsWithCharacter : Text → ℕ → Text → Type 0
BeginsWithCharacter text c rest = text ≡ encode_utf8 c ++ rest

-- the longest front of a text that passes the test, and the rest
pub record IsRun (p : ℕ → Bool) (text : Text) (front : List ℕ) (rest : Text) : Type 0 where
  pub split : text ≡ encode_utf8_all front ++ rest
  pub scalars : all_scalars front ≡ true
  pub passes : list_all p front ≡ true
  pub ends : (c : ℕ) (back : Text) → BeginsWithCharacter rest c back → p c ≡ false
