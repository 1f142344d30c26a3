-- What the functions inside read: each a language.
use Rattle.std.specs.Prelude.{◌≡◌, ◌≤◌, ℕ, Bool, List, [], ◌∷◌, ◌++◌, codes, decimal}
use Rattle.task_model.specs.Terms.Text.{Text}
use Rattle.task_model.specs.Terms.Value.{ValueTerm}
use Rattle.task_model.specs.Terms.Input.{ActTerm}
use Rattle.task_model.specs.Running.State.{IsSeat}
use Rattle.task_model.specs.Showing.Page.{path_text}
use Rattle.task_model.specs.declared.input.Turn.{Turn}
use Rattle.literal_text.specs.Literals.{IsLiteral}
use Rattle.input_lines.specs.ScriptLines.{LineTerm, shows, gives, ActParse, act_bytes, parsed_act, return_text}

-- ---- what may follow
-- nothing
abbrev pub AtEnd : Text → Type 0
AtEnd z = z ≡ []

-- nothing, or a CR
abbrev pub AtReturn : Text → Type 0
AtReturn [] = Unit {0}
AtReturn (byte ∷ z) = byte ≡ 13

-- no CR stands in these bytes
abbrev pub NoReturn : Text → Type 0
NoReturn [] = Unit {0}
NoReturn (byte ∷ bytes) = (byte ≡ 13 → ⊥) × NoReturn bytes

-- ---- the parts of a line
-- a CR at the end, or none
pub record LineEnd (t : Text) (x : Unit {0}) : Type 0 where
  pub returned : Bool
  pub are : t ≡ return_text returned

-- a word to the end of the line
pub record EndWord (word : Text) (t : Text) (x : Unit {0}) : Type 0 where
  pub returned : Bool
  pub are : t ≡ word ++ return_text returned

-- a number of 1 to at most so many, without a leading zero
pub record SmallNumber (most : ℕ) (t : Text) (number : ℕ) : Type 0 where
  pub is : (1 ≤ number) × (number ≤ most)
  pub are : t ≡ decimal number

-- a seat
abbrev pub SeatNumber : Text → ℕ → Type 0
SeatNumber = SmallNumber 64

-- a literal to the end of the line
pub record EndLiteral (t : Text) (v : ValueTerm) : Type 0 where
  pub literal : Text
  pub is : IsLiteral literal v
  pub returned : Bool
  pub are : t ≡ literal ++ return_text returned

-- an act to the end of the line
pub record EndAct (t : Text) (a : ActTerm) : Type 0 where
  pub parse : ActParse
  pub returned : Bool
  pub are : t ≡ act_bytes parse ++ return_text returned
  pub stands_for : a ≡ parsed_act parse

-- a path and an act to the end of the line
pub record EndInput (seat : ℕ) (t : Text) (l : LineTerm) : Type 0 where
  pub path : List Turn
  pub bytes : Text
  pub act : ActTerm
  pub is : EndAct bytes act
  pub are : t ≡ path_text path ++ (32 ∷ bytes)
  pub stands_for : l ≡ gives (record { seat = seat; input = record { path = path; act = act } })

-- what a seat is followed by, to the end of the line
pub data EndCommand (seat : ℕ) (t : Text) (l : LineTerm) : Type 0 where
  shown : EndWord (codes "show") t tt → l ≡ shows seat → EndCommand seat t l
  given : EndInput seat t l → EndCommand seat t l

-- a seat and its command, to the end of the line
pub record SeatedLine (t : Text) (l : LineTerm) : Type 0 where
  pub seat : ℕ
  pub is : IsSeat seat
  pub bytes : Text
  pub command : EndCommand seat bytes l
  pub are : t ≡ decimal seat ++ (32 ∷ bytes)
