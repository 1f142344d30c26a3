-- What a walk through a tree adds to the offers (docs/RULES.md, "Offers").
use Rattle.std.specs.Prelude.{◌≡◌, ℕ, List, ◌++◌, map}
use Rattle.task_model.specs.Terms.Value.{ValueTerm}
use Rattle.task_model.specs.Terms.Tree.{TreeTerm}
use Rattle.task_model.specs.Running.Checked.{CheckedTerm}
use Rattle.task_model.specs.Running.Offer.{OfferTerm, AreOffers}
use Rattle.task_model.specs.declared.input.Turn.{Turn}
use Rattle.task_tree.specs.Below.{offer_below}

-- the offers of a tree, which stands at a path, stand behind these
pub record OffersFollow (c : CheckedTerm) (budget : ℕ) (t : TreeTerm) (σ : List ValueTerm) (p : List Turn)
    (before after : List OfferTerm) : Type 0
  where
    pub own : List OfferTerm
    pub are : AreOffers c budget t σ own
    pub last : after ≡ before ++ map (offer_below p) own
