-- What a walk through a tree is given of the offers, and what it adds to the widgets (docs/RULES.md, "Interfaces").
use Rattle.std.specs.Prelude.{◌≡◌, ℕ, List, [], ◌∷◌, ◌++◌, map}
use Rattle.std.specs.List.{AllByRecursion}
use Rattle.task_model.specs.Terms.Value.{ValueTerm}
use Rattle.task_model.specs.Terms.Tree.{TreeTerm}
use Rattle.task_model.specs.Running.Checked.{CheckedTerm}
use Rattle.task_model.specs.Running.Offer.{left_offer, right_offer, OfferTerm, AreOffers}
use Rattle.task_model.specs.Showing.Widget.{WidgetTerm, pick_shape, here, AreWidgets}
use Rattle.task_model.specs.declared.input.Turn.{Turn}
use Rattle.task_model.specs.declared.widget.Sign.{Sign}
use Rattle.task_tree.specs.Below.{offer_below, widget_below, IsInto}
use Rattle.interface.specs.Marks.{behind_mark, MarksFirst}

-- offers of other parts than the one that a path leads to
abbrev pub AreElsewhere : List Turn → List OfferTerm → Type 0
AreElsewhere p = AllByRecursion (λ o. IsInto p o.path → ⊥)

-- the offers of a tree, which stands at a path, and then others of other parts
pub record OffersLead (c : CheckedTerm) (budget : ℕ) (t : TreeTerm) (σ : List ValueTerm) (p : List Turn)
    (os others : List OfferTerm) : Type 0 where
  pub own : List OfferTerm
  pub are : AreOffers c budget t σ own
  pub first : os ≡ map (offer_below p) own ++ others
  pub elsewhere : AreElsewhere p others

-- the widgets of a tree, which stands at a path, stand behind these
pub record WidgetsFollow (c : CheckedTerm) (budget : ℕ) (t : TreeTerm) (σ : List ValueTerm) (p : List Turn)
    (before after : List WidgetTerm) : Type 0
  where
    pub own : List WidgetTerm
    pub are : AreWidgets c budget t σ own
    pub last : after ≡ before ++ map (widget_below p) own

-- A walk through a tree that stands at a path: of offers that lead with the tree's it leaves the others, and the tree's widgets follow.
pub record Walked (t : TreeTerm) (σ : List ValueTerm) (p : List Turn) (os rest : List OfferTerm)
    (before after : List WidgetTerm) : Type 0 where
  pub leaves : (c : CheckedTerm) (budget : ℕ) (others : List OfferTerm) → OffersLead c budget t σ p os others → rest ≡ others
  pub shows : (c : CheckedTerm) (budget : ℕ) (others : List OfferTerm) → OffersLead c budget t σ p os others
      → WidgetsFollow c budget t σ p before after

-- The widget of an external choice at a path: its signs are those of the offers, which the others stand behind.
pub record Picked (p : List Turn) (os rest : List OfferTerm) (before after : List WidgetTerm) : Type 0 where
  pub left : Sign
  pub right : Sign
  pub first : MarksFirst left_offer p os left
  pub second : MarksFirst right_offer p (behind_mark left os) right
  pub leaves : rest ≡ behind_mark right (behind_mark left os)
  pub shows : after ≡ before ++ map (widget_below p) (here (pick_shape left right) ∷ [])
