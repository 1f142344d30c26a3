-- Finished links, and what was written to them (docs/RULES.md, "Serving").
use Rattle.std.specs.Prelude.{◌≡◌, ℕ, List, [], ◌∷◌, ◌++◌, length, Option, None, Some, ⊤}
use mathlib.Core.List.{IsPrefix}
use Rattle.outer_io.specs.Links.{LinkTold, IsFresh, shut_link}
use Rattle.task_model.specs.Terms.Item.{ItemTerm}
use Rattle.task_model.specs.Running.State.{IsSeat}
use Rattle.session_desk.specs.Desks.{DeskTerm}
use Rattle.session_gate.specs.Connections.{Served}
use Rattle.session_gate.specs.Notes.{taken_entries}
use Rattle.session_gate.specs.declared.note.Note.{Note}
use Rattle.session_gate.specs.declared.ending.Ending.{Ending}

-- A connection was served over a link with which nothing had been done, at the desk of a seat, whose history began with `start`: with these
-- notes, so many of which tell that an input was taken. Behind it the link was shut.
pub record IsLinkServed (start : List ItemTerm) (old new : DeskTerm) (link : LinkTold) (count : ℕ) : Type 0 where
  pub before : LinkTold
  pub after : LinkTold
  pub fresh : IsFresh before
  pub notes : List Note
  pub end : Ending
  pub served : Served old new before after notes end
  pub shut : link ≡ shut_link after
  pub seated : IsSeat old.seat
  pub opened : IsPrefix start old.seen
  pub counted : count ≡ length (taken_entries old.seat served.requests notes)

-- A finished link is answered at a history, with so many inputs taken: what was seen at its desk in the end begins that history.
pub record IsAnswered (start history : List ItemTerm) (link : LinkTold) (count : ℕ) : Type 0 where
  pub old : DeskTerm
  pub new : DeskTerm
  pub connection : IsLinkServed start old new link count
  pub within : IsPrefix new.seen history

-- Each link is answered with its number.
abbrev pub AreLinksAnswered : (start history : List ItemTerm) → List LinkTold → List ℕ → Type 0
AreLinksAnswered start history [] [] = ⊤
AreLinksAnswered start history [] (count ∷ counts) = ⊥
AreLinksAnswered start history (link ∷ links) [] = ⊥
AreLinksAnswered start history (link ∷ links) (count ∷ counts) =
    IsAnswered start history link count × AreLinksAnswered start history links counts

-- Where a gate tells its finished links, it told them at entry, and those since then are answered with these numbers.
abbrev pub FinishedSince : (start history : List ItemTerm) → (entry now : Option (List LinkTold)) → List ℕ → Type 0
FinishedSince start history entry None counts = ⊤
FinishedSince start history None (Some now) counts = ⊥
FinishedSince start history (Some entry) (Some now) counts =
    (added : List LinkTold) × (now ≡ entry ++ added) × AreLinksAnswered start history added counts
