-- Offers and widgets of a part of a tree at their paths in the whole tree (docs/RULES.md, "Offers", "Interfaces").
use Rattle.std.specs.Prelude.{◌≡◌, List, ◌++◌}
use Rattle.task_model.specs.Running.Offer.{OfferTerm}
use Rattle.task_model.specs.Showing.Widget.{WidgetTerm}
use Rattle.task_model.specs.declared.input.Turn.{Turn}

-- an offer of the part that a path leads to
abbrev pub offer_below : List Turn → OfferTerm → OfferTerm
offer_below p o = record { path = p ++ o.path; kind = o.kind; answer = o.answer }

-- a widget of that part
abbrev pub widget_below : List Turn → WidgetTerm → WidgetTerm
widget_below p w = record { path = p ++ w.path; shape = w.shape }

-- a path leads into the part that another leads to
abbrev pub IsInto : List Turn → List Turn → Type 0
IsInto p path = (rest : List Turn) × (path ≡ p ++ rest)
