-- Which histories a moment stands for (docs/RULES.md, "Histories").
use Rattle.std.specs.Prelude.{◌≡◌, List, map}
use Rattle.task_model.specs.Terms.Item.{ItemTerm, history_term}
use Rattle.task_model.specs.Running.State.{IsLegal, HasWidgets, version_of}
use Rattle.task_model.specs.Showing.Widget.{WidgetTerm}
use Rattle.task_model.specs.declared.item.Item.{Item}
use Rattle.html_pages.specs.Fragments.{fragment_of}
use Rattle.page_board.specs.declared.moment.Moment.{Moment}

-- the history is legal, and the moment has its version and the fragments of its state's widgets
pub record StandsFor (m : Moment) (h : List ItemTerm) : Type 0 where
  pub legal : IsLegal h
  pub version : m.version ≡ version_of h
  pub widgets : List WidgetTerm
  pub shown : HasWidgets h widgets
  pub drawn : m.fragments ≡ map fragment_of widgets

-- the moment stands for the history of these items
abbrev pub StandsForItems : Moment → List Item → Type 0
StandsForItems m items = StandsFor m (history_term items)
