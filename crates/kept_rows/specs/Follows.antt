-- Where the rows of a tree stand among others.
use Rattle.std.specs.Prelude.{◌≡◌, ℕ, ◌<◌, List, [], ◌∷◌, ◌++◌, map, length, slice_index, Option, None, Some}
use Rattle.std.specs.Option.{option_map}
use Rattle.task_model.specs.Terms.Value.{ValueTerm}
use Rattle.task_model.specs.Terms.Tree.{TreeTerm, tree_term}
use Rattle.task_model.specs.Running.Checked.{CheckedTerm}
use Rattle.task_model.specs.Showing.Widget.{ShapeTerm, WidgetTerm, here, AreWidgets}
use Rattle.task_model.specs.declared.input.Turn.{Turn}
use Rattle.task_model.specs.declared.input.Turn.TheVariants as turns
use Rattle.task_tree.specs.Below.{widget_below}
use Rattle.html_pages.specs.Fragments.{fragment_of}
use Rattle.kept_nodes.specs.KeptMarks.{TellsKept}
use Rattle.kept_nodes.specs.NodeParts.{NodePartsTerm, leaf_parts, step_parts, pair_parts}
use Rattle.kept_nodes.specs.declared.marks.Marks.{Marks}
use Rattle.node_rows.specs.Rows.{RowsTerm, row_of, rows_append, widget_signs}
use Rattle.node_rows.specs.TreeNodes.{tree_nodes, sizes_of}
use Rattle.kept_rows.specs.Shapes.{IsShape}
use Rattle.kept_rows.specs.declared.former.Former.{Former}

-- the rows of a tree, which stands at a path, stand behind these
pub record RowsFollow (c : CheckedTerm) (budget : ℕ) (t : TreeTerm) (σ : List ValueTerm) (p : List Turn) (before after : RowsTerm) : Type 0
  where
    pub own : List WidgetTerm
    pub are : AreWidgets c budget t σ own
    pub signs : after.signs ≡ before.signs ++ map widget_signs (map (widget_below p) own)
    pub sizes : after.sizes ≡ before.sizes ++ sizes_of t
    pub fragments : after.fragments ≡ before.fragments ++ map fragment_of (map (widget_below p) own)

-- the row of a tree's root, which stands at a path, stands behind these
pub record RootFollows (c : CheckedTerm) (budget : ℕ) (t : TreeTerm) (σ : List ValueTerm) (p : List Turn) (before after : RowsTerm) : Type 0
  where
    pub shape : ShapeTerm
    pub is : IsShape c budget t σ shape
    pub row : after ≡ rows_append before (row_of (widget_below p (here shape)))

-- the rows of the parts of a node, which stands at a path, stand behind these, one part's behind the other's
abbrev pub PartsFollow : CheckedTerm → ℕ → NodePartsTerm → List ValueTerm → List Turn → RowsTerm → RowsTerm → Type 0
PartsFollow c budget leaf_parts σ p before after = after ≡ before
PartsFollow c budget (step_parts t) σ p before after = RowsFollow c budget t σ p before after
PartsFollow c budget (pair_parts t u) σ p before after =
    (between : RowsTerm) × RowsFollow c budget t σ (p ++ turns.First ∷ []) before between
    × RowsFollow c budget u σ (p ++ turns.Second ∷ []) between after

-- a list stands in another one, from a number on
pub record StandsFrom {A : Type 0} (all : List A) (from : ℕ) (part : List A) : Type 0 where
  pub front : List A
  pub back : List A
  pub split : all ≡ front ++ (part ++ back)
  pub at : length front ≡ from

-- the rows of a tree, which stands at a path, stand among these, from a number on
pub record RowsStand (c : CheckedTerm) (budget : ℕ) (t : TreeTerm) (σ : List ValueTerm) (p : List Turn) (from : ℕ)
    (rows : RowsTerm) : Type 0
  where
    pub own : List WidgetTerm
    pub are : AreWidgets c budget t σ own
    pub signs : StandsFrom rows.signs from (map widget_signs (map (widget_below p) own))
    pub sizes : StandsFrom rows.sizes from (sizes_of t)
    pub fragments : StandsFrom rows.fragments from (map fragment_of (map (widget_below p) own))

-- the rows of what stood in a place, if anything did
abbrev pub FormerStand : CheckedTerm → ℕ → Option TreeTerm → List ValueTerm → List Turn → ℕ → RowsTerm → Type 0
FormerStand c budget None σ p from rows = Unit {0}
FormerStand c budget (Some t) σ p from rows = RowsStand c budget t σ p from rows

-- of what stood in a place, if anything did, these rows tell at the number of its first one how many nodes it has
abbrev pub FormerSize : Option TreeTerm → ℕ → RowsTerm → Type 0
FormerSize None from rows = Unit {0}
FormerSize (Some t) from rows = (from < length rows.sizes) × (slice_index rows.sizes from ≡ tree_nodes t)

-- how many nodes stood in a place
abbrev pub former_nodes : Option TreeTerm → ℕ
former_nodes None = 0
former_nodes (Some t) = tree_nodes t

-- how many of them are no part of another one
abbrev pub former_root : Option TreeTerm → ℕ
former_root None = 0
former_root (Some t) = 1

-- what a walk is told of a part: over some values the rows of what stood there, and the marks of what is kept
pub record FormerIsTold (c : CheckedTerm) (budget : ℕ) (old : Option TreeTerm) (new : TreeTerm) (τ : List ValueTerm) (p : List Turn) (from : ℕ)
    (rows : RowsTerm) (m : Marks) : Type 0
  where
    pub values : List ValueTerm
    pub stand : FormerStand c budget old values p from rows
    pub marks : TellsKept values τ old new m

-- what stood in a part's place
abbrev pub tree_in : Former → Option TreeTerm
tree_in f = option_map (λ t. tree_term t.now) f.tree
