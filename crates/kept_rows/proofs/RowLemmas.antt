-- Where the rows of a tree and of its parts stand, and what a walk adds, by the parts.
use Rattle.std.proofs.Common.{◌≡◌, ◌↔◌, ◌<◌, ◌≤◌, ℕ, suc, ◌+◌, true, List, [], ◌∷◌, ◌++◌, length, length-append, map, Option, None, Some, refl, sym, ap, ◌∙◌, subst, append_assoc, arith}
use Rattle.std.specs.Prelude.{drop, slice_index}
use Rattle.std.proofs.lemmas.List.{append-nil, get_or_at, length-map, map-append}
use Rattle.task_model.specs.Terms.Value.{ValueTerm}
use Rattle.task_model.specs.Terms.Tree.{TreeTerm, edit_tree, enter_tree, share_tree, then_tree, next_tree, fail_tree, and_tree, or_tree, xor_tree, at}
use Rattle.task_model.specs.Running.Checked.{CheckedTerm}
use Rattle.task_model.specs.Running.Foot.{foot}
use Rattle.task_laws.specs.HaveAlike.{HaveAlike}
use Rattle.task_model.specs.Running.Address.{Address, into_left, into_first, into_second, node_at}
use Rattle.task_model.specs.Checking.Fits.{Fits}
use Rattle.task_model.specs.Showing.Widget.{WidgetTerm, ShapeTerm, here, both_widgets, then_shape, step_shape, and_shape, or_shape, AreWidgets}
use Rattle.task_model.specs.declared.input.Turn.{Turn}
use Rattle.task_model.specs.declared.input.Turn.TheVariants as turns
use Rattle.task_tree.specs.Below.{widget_below}
use Rattle.task_tree.proofs.BelowLemmas.{widgets_at_root, widgets_of_both}
use Rattle.html_pages.specs.Fragments.{FragmentTerm, fragment_of}
use Rattle.kept_nodes.specs.Kept.{node_in, IsKeptIn}
use Rattle.kept_nodes.specs.KeptMarks.{told, TellsKept}
use Rattle.kept_nodes.specs.NodeParts.{left_part_of, first_part_of, second_part_of, step_parts, pair_parts, node_parts}
use Rattle.kept_nodes.specs.declared.marks.Marks.{Marks}
use Rattle.kept_nodes.proofs.MarkLemmas.{in_left, in_first, in_second, not_step, not_pair, pair_step, step_same, pair_first, pair_second, tells_part}
use Rattle.node_rows.specs.Rows.{RowsTerm, no_rows, AreRows, row_of, rows_append, rows_closed, rows_part, widget_signs}
use Rattle.node_rows.specs.declared.signs.Signs.{Signs}
use Rattle.node_rows.specs.TreeNodes.{tree_nodes, sizes_of}
use Rattle.node_rows.proofs.NextLemmas.{rows_with}
use Rattle.node_rows.proofs.CountLemmas.{one_each}
use Rattle.node_rows.proofs.SizeLemmas.{closed, sizes_long, sizes_split}
use Rattle.kept_rows.specs.Follows.{RowsFollow, RootFollows, PartsFollow, StandsFrom, RowsStand, FormerStand, FormerIsTold, FormerSize, former_nodes, former_root}
use Rattle.kept_rows.proofs.PlaceLemmas.{stands_within, stands_taken, stands_rest, stands_first, stands_second, stands_whole, stands_same}

-- ---- by the parts of a tree
pub fits_step : (c : CheckedTerm) (t l : TreeTerm) (σ : List ValueTerm) → node_parts t ≡ step_parts l → Fits c (at t σ) → Fits c (at l σ)
fits_step c (then_tree u k) l σ e f =
    subst (λ z. Fits c (at z σ)) (step_same e) (f.0, f.2.tree.0, record { store = f.2.store; tree = f.2.tree.1 })
fits_step c (next_tree u k) l σ e f =
    subst (λ z. Fits c (at z σ)) (step_same e) (f.0, f.2.tree.0, record { store = f.2.store; tree = f.2.tree.1 })
fits_step c (edit_tree b v) l σ e f = absurd (not_step (sym e))
fits_step c (enter_tree b) l σ e f = absurd (not_step (sym e))
fits_step c (share_tree b v) l σ e f = absurd (not_step (sym e))
fits_step c fail_tree l σ e f = absurd (not_step (sym e))
fits_step c (xor_tree i j) l σ e f = absurd (not_step (sym e))
fits_step c (and_tree u k) l σ e f = absurd (pair_step e)
fits_step c (or_tree u k) l σ e f = absurd (pair_step e)

pub fits_pair : (c : CheckedTerm) (t a b : TreeTerm) (σ : List ValueTerm) → node_parts t ≡ pair_parts a b → Fits c (at t σ)
    → Fits c (at a σ) × Fits c (at b σ)
fits_pair c (and_tree u v) a b σ e f = (
  subst (λ z. Fits c (at z σ)) (pair_first e) (f.0, f.2.tree.0, record { store = f.2.store; tree = f.2.tree.3 }),
  subst (λ z. Fits c (at z σ)) (pair_second e) (f.0, f.2.tree.1, record { store = f.2.store; tree = f.2.tree.4 }),
)
fits_pair c (or_tree u v) a b σ e f = (
  subst (λ z. Fits c (at z σ)) (pair_first e) (f.0, f.1, record { store = f.2.store; tree = f.2.tree.0 }),
  subst (λ z. Fits c (at z σ)) (pair_second e) (f.0, f.1, record { store = f.2.store; tree = f.2.tree.1 }),
)
fits_pair c (edit_tree y v) a b σ e f = absurd (not_pair (sym e))
fits_pair c (enter_tree y) a b σ e f = absurd (not_pair (sym e))
fits_pair c (share_tree y v) a b σ e f = absurd (not_pair (sym e))
fits_pair c fail_tree a b σ e f = absurd (not_pair (sym e))
fits_pair c (xor_tree i j) a b σ e f = absurd (not_pair (sym e))
fits_pair c (then_tree u k) a b σ e f = absurd (pair_step (sym e))
fits_pair c (next_tree u k) a b σ e f = absurd (pair_step (sym e))

at_left : (t l : TreeTerm) → node_parts t ≡ step_parts l → (a : Address) → node_at t (into_left ∷ a) ≡ node_at l a
at_left (then_tree u k) l e a = ap (λ z. node_at z a) (step_same e)
at_left (next_tree u k) l e a = ap (λ z. node_at z a) (step_same e)
at_left (edit_tree b v) l e a = absurd (not_step (sym e))
at_left (enter_tree b) l e a = absurd (not_step (sym e))
at_left (share_tree b v) l e a = absurd (not_step (sym e))
at_left fail_tree l e a = absurd (not_step (sym e))
at_left (xor_tree i j) l e a = absurd (not_step (sym e))
at_left (and_tree u k) l e a = absurd (pair_step e)
at_left (or_tree u k) l e a = absurd (pair_step e)

at_both : (t x y : TreeTerm) → node_parts t ≡ pair_parts x y → (a : Address)
    → (node_at t (into_first ∷ a) ≡ node_at x a) × (node_at t (into_second ∷ a) ≡ node_at y a)
at_both (and_tree u v) x y e a = (ap (λ z. node_at z a) (pair_first e), ap (λ z. node_at z a) (pair_second e))
at_both (or_tree u v) x y e a = (ap (λ z. node_at z a) (pair_first e), ap (λ z. node_at z a) (pair_second e))
at_both (edit_tree b v) x y e a = absurd (not_pair (sym e))
at_both (enter_tree b) x y e a = absurd (not_pair (sym e))
at_both (share_tree b v) x y e a = absurd (not_pair (sym e))
at_both fail_tree x y e a = absurd (not_pair (sym e))
at_both (xor_tree i j) x y e a = absurd (not_pair (sym e))
at_both (then_tree u k) x y e a = absurd (pair_step (sym e))
at_both (next_tree u k) x y e a = absurd (pair_step (sym e))

-- ---- rows of what stood in a place
module _ (c : CheckedTerm) (budget : ℕ) (σ : List ValueTerm) (p : List Turn) (rows : RowsTerm) where
  each_long : {A : Type 0} (f : WidgetTerm → A) (q : List Turn) (t : TreeTerm) (ws : List WidgetTerm) → AreWidgets c budget t σ ws
      → length (map f (map (widget_below q) ws)) ≡ tree_nodes t
  each_long f q t ws w =
      length-map (map (widget_below q) ws) f ∙ length-map ws (widget_below q) ∙ one_each c budget σ t ws w

  each_both : {A : Type 0} (f : WidgetTerm → A) (xs ys : List WidgetTerm) → map f (map (widget_below p) (both_widgets xs ys))
      ≡ map f (map (widget_below (p ++ turns.First ∷ [])) xs) ++ map f (map (widget_below (p ++ turns.Second ∷ [])) ys)
  each_both f xs ys =
      ap (map f) (widgets_of_both p xs ys)
      ∙ map-append f (map (widget_below (p ++ turns.First ∷ [])) xs) (map (widget_below (p ++ turns.Second ∷ [])) ys)

  -- the rows of a node behind which these widgets stand
  node_left : {A : Type 0} (f : WidgetTerm → A) (all : List A) (from : ℕ) (own us : List WidgetTerm) (s : ShapeTerm)
      → own ≡ here s ∷ us → StandsFrom all from (map f (map (widget_below p) own)) → StandsFrom all (suc from) (map f (map (widget_below p) us))
  node_left f all from own us s e d =
      stands_rest all from (f (widget_below p (here s))) (map f (map (widget_below p) us))
      (subst (λ z. StandsFrom all from (map f (map (widget_below p) z))) e d)

  node_first : {A : Type 0} (f : WidgetTerm → A) (all : List A) (from : ℕ) (own xs ys : List WidgetTerm) (s : ShapeTerm)
      → own ≡ here s ∷ both_widgets xs ys → StandsFrom all from (map f (map (widget_below p) own))
      → StandsFrom all (suc from) (map f (map (widget_below (p ++ turns.First ∷ [])) xs))
  node_first f all from own xs ys s e d =
      stands_first all (suc from) (map f (map (widget_below (p ++ turns.First ∷ [])) xs))
      (map f (map (widget_below (p ++ turns.Second ∷ [])) ys))
      (stands_same all (suc from) _ _ (each_both f xs ys) (node_left f all from own (both_widgets xs ys) s e d))

  node_second : {A : Type 0} (f : WidgetTerm → A) (all : List A) (from : ℕ) (own xs ys : List WidgetTerm) (s : ShapeTerm) (t : TreeTerm)
      → AreWidgets c budget t σ xs → own ≡ here s ∷ both_widgets xs ys → StandsFrom all from (map f (map (widget_below p) own))
      → StandsFrom all (suc from + tree_nodes t) (map f (map (widget_below (p ++ turns.Second ∷ [])) ys))
  node_second f all from own xs ys s t w e d =
      stands_second all (suc from) (tree_nodes t) (map f (map (widget_below (p ++ turns.First ∷ [])) xs))
      (map f (map (widget_below (p ++ turns.Second ∷ [])) ys))
      (stands_same all (suc from) _ _ (each_both f xs ys) (node_left f all from own (both_widgets xs ys) s e d))
      (each_long f (p ++ turns.First ∷ []) t xs w)

  one_more : (from : ℕ) → suc from ≡ from + 1
  one_more from = omega arith

  pub stand_left : (o : Option TreeTerm) (from : ℕ) → FormerStand c budget o σ p from rows
      → FormerStand c budget (left_part_of o) σ p (from + former_root o) rows
  stand_left None from s = tt
  stand_left (Some (then_tree t k)) from s = subst (λ n. RowsStand c budget t σ p n rows) (one_more from) (record {
    own = s.are.0;
    are = s.are.1;
    signs = node_left widget_signs rows.signs from s.own s.are.0 then_shape s.are.2 s.signs;
    sizes = stands_rest rows.sizes from (tree_nodes (then_tree t k)) (sizes_of t) s.sizes;
    fragments = node_left fragment_of rows.fragments from s.own s.are.0 then_shape s.are.2 s.fragments;
  })
  stand_left (Some (next_tree t k)) from s = subst (λ n. RowsStand c budget t σ p n rows) (one_more from) (record {
    own = s.are.1;
    are = s.are.3;
    signs = node_left widget_signs rows.signs from s.own s.are.1 (step_shape s.are.0) s.are.4 s.signs;
    sizes = stands_rest rows.sizes from (tree_nodes (next_tree t k)) (sizes_of t) s.sizes;
    fragments = node_left fragment_of rows.fragments from s.own s.are.1 (step_shape s.are.0) s.are.4 s.fragments;
  })
  stand_left (Some (edit_tree b v)) from s = tt
  stand_left (Some (enter_tree b)) from s = tt
  stand_left (Some (share_tree b n)) from s = tt
  stand_left (Some fail_tree) from s = tt
  stand_left (Some (and_tree t u)) from s = tt
  stand_left (Some (or_tree t u)) from s = tt
  stand_left (Some (xor_tree i j)) from s = tt

  pub stand_first : (o : Option TreeTerm) (from : ℕ) → FormerStand c budget o σ p from rows
      → FormerStand c budget (first_part_of o) σ (p ++ turns.First ∷ []) (from + former_root o) rows
  stand_first None from s = tt
  stand_first (Some (and_tree t u)) from s = subst (λ n. RowsStand c budget t σ (p ++ turns.First ∷ []) n rows) (one_more from) (record {
    own = s.are.0;
    are = s.are.2;
    signs = node_first widget_signs rows.signs from s.own s.are.0 s.are.1 and_shape s.are.4 s.signs;
    sizes = stands_first rows.sizes (suc from) (sizes_of t) (sizes_of u)
        (stands_rest rows.sizes from (tree_nodes (and_tree t u)) (sizes_of t ++ sizes_of u) s.sizes);
    fragments = node_first fragment_of rows.fragments from s.own s.are.0 s.are.1 and_shape s.are.4 s.fragments;
  })
  stand_first (Some (or_tree t u)) from s = subst (λ n. RowsStand c budget t σ (p ++ turns.First ∷ []) n rows) (one_more from) (record {
    own = s.are.0;
    are = s.are.2;
    signs = node_first widget_signs rows.signs from s.own s.are.0 s.are.1 or_shape s.are.4 s.signs;
    sizes = stands_first rows.sizes (suc from) (sizes_of t) (sizes_of u)
        (stands_rest rows.sizes from (tree_nodes (or_tree t u)) (sizes_of t ++ sizes_of u) s.sizes);
    fragments = node_first fragment_of rows.fragments from s.own s.are.0 s.are.1 or_shape s.are.4 s.fragments;
  })
  stand_first (Some (edit_tree b v)) from s = tt
  stand_first (Some (enter_tree b)) from s = tt
  stand_first (Some (share_tree b n)) from s = tt
  stand_first (Some fail_tree) from s = tt
  stand_first (Some (then_tree t u)) from s = tt
  stand_first (Some (next_tree t u)) from s = tt
  stand_first (Some (xor_tree i j)) from s = tt

  more : (from n : ℕ) → suc from + n ≡ (from + 1) + n
  more from n = omega arith

  pub stand_second : (o : Option TreeTerm) (from : ℕ) → FormerStand c budget o σ p from rows
      → FormerStand c budget (second_part_of o) σ (p ++ turns.Second ∷ []) ((from + former_root o) + former_nodes (first_part_of o)) rows
  stand_second None from s = tt
  stand_second (Some (and_tree t u)) from s =
      subst (λ n. RowsStand c budget u σ (p ++ turns.Second ∷ []) n rows) (more from (tree_nodes t)) (record {
        own = s.are.1;
        are = s.are.3;
        signs = node_second widget_signs rows.signs from s.own s.are.0 s.are.1 and_shape t s.are.2 s.are.4 s.signs;
        sizes = stands_second rows.sizes (suc from) (tree_nodes t) (sizes_of t) (sizes_of u)
            (stands_rest rows.sizes from (tree_nodes (and_tree t u)) (sizes_of t ++ sizes_of u) s.sizes) (sizes_long t);
        fragments = node_second fragment_of rows.fragments from s.own s.are.0 s.are.1 and_shape t s.are.2 s.are.4 s.fragments;
      })
  stand_second (Some (or_tree t u)) from s =
      subst (λ n. RowsStand c budget u σ (p ++ turns.Second ∷ []) n rows) (more from (tree_nodes t)) (record {
        own = s.are.1;
        are = s.are.3;
        signs = node_second widget_signs rows.signs from s.own s.are.0 s.are.1 or_shape t s.are.2 s.are.4 s.signs;
        sizes = stands_second rows.sizes (suc from) (tree_nodes t) (sizes_of t) (sizes_of u)
            (stands_rest rows.sizes from (tree_nodes (or_tree t u)) (sizes_of t ++ sizes_of u) s.sizes) (sizes_long t);
        fragments = node_second fragment_of rows.fragments from s.own s.are.0 s.are.1 or_shape t s.are.2 s.are.4 s.fragments;
      })
  stand_second (Some (edit_tree b v)) from s = tt
  stand_second (Some (enter_tree b)) from s = tt
  stand_second (Some (share_tree b n)) from s = tt
  stand_second (Some fail_tree) from s = tt
  stand_second (Some (then_tree t u)) from s = tt
  stand_second (Some (next_tree t u)) from s = tt
  stand_second (Some (xor_tree i j)) from s = tt

  -- there is a row for each node
  pub signs_within : (t : TreeTerm) (from : ℕ) → RowsStand c budget t σ p from rows → from + tree_nodes t ≤ length rows.signs
  signs_within t from s =
      let long = each_long widget_signs p t s.own s.are in
      let within = stands_within rows.signs from _ s.signs in
      omega (arith, long, within)

  pub sizes_within : (t : TreeTerm) (from : ℕ) → RowsStand c budget t σ p from rows → from + tree_nodes t ≤ length rows.sizes
  sizes_within t from s =
      let long = sizes_long t in
      let within = stands_within rows.sizes from (sizes_of t) s.sizes in
      omega (arith, long, within)

  -- the first row tells how many
  pub size_stands : (t : TreeTerm) (from : ℕ) → RowsStand c budget t σ p from rows → FormerSize (Some t) from rows
  size_stands t from s =
      let within = sizes_within t from s in
      let long = sizes_long t in
      let some = ap length (sizes_split t) in
      let below = drop 1 (sizes_of t) ++ s.sizes.back in (
        omega (arith, within, long, some),
        ap (λ z. slice_index z from) (s.sizes.split ∙ ap (λ z. s.sizes.front ++ (z ++ s.sizes.back)) (sizes_split t))
            ∙ get_or_at s.sizes.front (tree_nodes t) below 0 from s.sizes.at,
      )

  pub former_size : (o : Option TreeTerm) (from : ℕ) → FormerStand c budget o σ p from rows → FormerSize o from rows
  former_size None from s = tt
  former_size (Some t) from s = size_stands t from s

  pub fragments_within : (t : TreeTerm) (from : ℕ) → RowsStand c budget t σ p from rows → from + tree_nodes t ≤ length rows.fragments
  fragments_within t from s =
      let long = each_long fragment_of p t s.own s.are in
      let within = stands_within rows.fragments from _ s.fragments in
      omega (arith, long, within)

  pub former_within : (o : Option TreeTerm) (from most : ℕ) → FormerStand c budget o σ p from rows → from ≤ most
      → length rows.fragments ≤ most → from + former_nodes o ≤ most
  former_within None from most s le long = omega (arith, le)
  former_within (Some t) from most s le long = let within = fragments_within t from s in omega (arith, within, long)

-- ---- what a walk is told of the parts
module _ (c : CheckedTerm) (budget : ℕ) (o : Option TreeTerm) (t : TreeTerm) (τ : List ValueTerm) (p : List Turn) (from : ℕ)
    (rows : RowsTerm) (m n : Marks) (d : FormerIsTold c budget o t τ p from rows m) where
  pub told_left : (l : TreeTerm) → node_parts t ≡ step_parts l → ((a : Address) → told n a ≡ told m (into_left ∷ a))
      → FormerIsTold c budget (left_part_of o) l τ p (from + former_root o) rows n
  told_left l e f = record {
    values = d.values;
    stand = stand_left c budget d.values p rows o from d.stand;
    marks = tells_part d.values τ o (left_part_of o) t l into_left m n (in_left o) (at_left t l e) f d.marks;
  }

  pub told_first : (x y : TreeTerm) → node_parts t ≡ pair_parts x y → ((a : Address) → told n a ≡ told m (into_first ∷ a))
      → FormerIsTold c budget (first_part_of o) x τ (p ++ turns.First ∷ []) (from + former_root o) rows n
  told_first x y e f = record {
    values = d.values;
    stand = stand_first c budget d.values p rows o from d.stand;
    marks = tells_part d.values τ o (first_part_of o) t x into_first m n (in_first o) (λ a. (at_both t x y e a).0) f d.marks;
  }

  pub told_second : (x y : TreeTerm) → node_parts t ≡ pair_parts x y → ((a : Address) → told n a ≡ told m (into_second ∷ a))
      → FormerIsTold c budget (second_part_of o) y τ (p ++ turns.Second ∷ []) ((from + former_root o) + former_nodes (first_part_of o)) rows n
  told_second x y e f = record {
    values = d.values;
    stand = stand_second c budget d.values p rows o from d.stand;
    marks = tells_part d.values τ o (second_part_of o) t y into_second m n (in_second o) (λ a. (at_both t x y e a).1) f d.marks;
  }

-- the same of an equal part, at an equal place
pub told_moved : {c : CheckedTerm} {budget : ℕ} {rows : RowsTerm} {m : Marks} (o o' : Option TreeTerm) (t t' : TreeTerm)
    (τ τ' : List ValueTerm) (p p' : List Turn) (from from' : ℕ) → o ≡ o' → t ≡ t' → τ ≡ τ' → p ≡ p' → from ≡ from' → FormerIsTold c budget o t τ p from rows m
    → FormerIsTold c budget o' t' τ' p' from' rows m
told_moved {c = c} {budget = budget} {rows = rows} {m = m} o o' t t' τ τ' p p' from from' e f g h i d =
    subst (λ z. FormerIsTold c budget z t' τ' p' from' rows m) e
    (subst (λ z. FormerIsTold c budget o z τ' p' from' rows m) f
    (subst (λ z. FormerIsTold c budget o t z p' from' rows m) g
    (subst (λ z. FormerIsTold c budget o t τ z from' rows m) h (subst (λ z. FormerIsTold c budget o t τ p z rows m) i d))))

-- ---- what a walk adds
pub follow_moved : {c : CheckedTerm} {budget : ℕ} {before after : RowsTerm} (t t' : TreeTerm) (τ τ' : List ValueTerm) (p p' : List Turn)
    → t ≡ t' → τ ≡ τ' → p ≡ p' → RowsFollow c budget t τ p before after → RowsFollow c budget t' τ' p' before after
follow_moved {c = c} {budget = budget} {before = before} {after = after} t t' τ τ' p p' e f g d =
    subst (λ z. RowsFollow c budget z τ' p' before after) e
    (subst (λ z. RowsFollow c budget t z p' before after) f (subst (λ z. RowsFollow c budget t τ z before after) g d))

module _ (c : CheckedTerm) (budget : ℕ) (τ : List ValueTerm) (p : List Turn) (before : RowsTerm) where
  abbrev RowAdded : ShapeTerm → RowsTerm → Type 0
  RowAdded s after = after ≡ rows_append before (row_of (widget_below p (here s)))

  none_more : (middle after : RowsTerm) → after ≡ middle → after.sizes ≡ middle.sizes ++ []
  none_more middle after e = ap (λ (r : RowsTerm). r.sizes) e ∙ sym (append-nil middle.sizes)

  -- the sizes that the parts of a node add
  parts_sizes : (t : TreeTerm) (middle after : RowsTerm) → PartsFollow c budget (node_parts t) τ p middle after
      → after.sizes ≡ middle.sizes ++ drop 1 (sizes_of t)
  parts_sizes (edit_tree b v) middle after f = none_more middle after f
  parts_sizes (enter_tree b) middle after f = none_more middle after f
  parts_sizes (share_tree b n) middle after f = none_more middle after f
  parts_sizes fail_tree middle after f = none_more middle after f
  parts_sizes (xor_tree j k) middle after f = none_more middle after f
  parts_sizes (then_tree l k) middle after f = f.sizes
  parts_sizes (next_tree l k) middle after f = f.sizes
  parts_sizes (and_tree x y) middle after f =
      (f.2).sizes ∙ ap (λ z. z ++ sizes_of y) (f.1).sizes ∙ append_assoc middle.sizes (sizes_of x) (sizes_of y)
  parts_sizes (or_tree x y) middle after f =
      (f.2).sizes ∙ ap (λ z. z ++ sizes_of y) (f.1).sizes ∙ append_assoc middle.sizes (sizes_of x) (sizes_of y)

  abbrev Closed : RowsTerm → RowsTerm
  Closed after = rows_closed (length before.sizes) after

  -- and then the size of its root
  root_sizes : (t : TreeTerm) (middle after : RowsTerm) → RootFollows c budget t τ p before middle
      → PartsFollow c budget (node_parts t) τ p middle after → (Closed after).sizes ≡ before.sizes ++ sizes_of t
  root_sizes t middle after r f =
      closed before.sizes t after.sizes (length before.sizes) refl
      (parts_sizes t middle after f ∙ ap (λ (z : RowsTerm). z.sizes ++ drop 1 (sizes_of t)) r.row)

  leaf : (t : TreeTerm) (s : ShapeTerm) (after : RowsTerm) → AreWidgets c budget t τ (here s ∷ []) → RowAdded s after
      → (Closed after).sizes ≡ before.sizes ++ sizes_of t → RowsFollow c budget t τ p before (Closed after)
  leaf t s after w e sizes = record {
    own = here s ∷ [];
    are = w;
    signs = ap (λ (r : RowsTerm). r.signs) e;
    sizes = sizes;
    fragments = ap (λ (r : RowsTerm). r.fragments) e;
  }

  -- a node with those of its parts behind it
  node : (t : TreeTerm) (s : ShapeTerm) (us : List WidgetTerm) (middle after : RowsTerm) → AreWidgets c budget t τ (here s ∷ us)
      → RowAdded s middle → after.signs ≡ middle.signs ++ map widget_signs (map (widget_below p) us)
      → after.fragments ≡ middle.fragments ++ map fragment_of (map (widget_below p) us)
      → (Closed after).sizes ≡ before.sizes ++ sizes_of t → RowsFollow c budget t τ p before (Closed after)
  node t s us middle after w e signs fragments sizes =
      let one = ap (λ (r : RowsTerm). r.signs) e in
      let two = ap (λ (r : RowsTerm). r.fragments) e in
      record {
        own = here s ∷ us;
        are = w;
        signs = signs ∙ ap (λ z. z ++ map widget_signs (map (widget_below p) us)) one
            ∙ append_assoc before.signs (widget_signs (widget_below p (here s)) ∷ []) (map widget_signs (map (widget_below p) us));
        sizes = sizes;
        fragments = fragments ∙ ap (λ z. z ++ map fragment_of (map (widget_below p) us)) two
            ∙ append_assoc before.fragments (fragment_of (widget_below p (here s)) ∷ []) (map fragment_of (map (widget_below p) us));
      }

  -- what both parts add
  both : {A : Type 0} (f : WidgetTerm → A) (xs ys : List WidgetTerm) (start between end : List A)
      → between ≡ start ++ map f (map (widget_below (p ++ turns.First ∷ [])) xs)
      → end ≡ between ++ map f (map (widget_below (p ++ turns.Second ∷ [])) ys)
      → end ≡ start ++ map f (map (widget_below p) (both_widgets xs ys))
  both f xs ys start between end one two =
      two ∙ ap (λ z. z ++ map f (map (widget_below (p ++ turns.Second ∷ [])) ys)) one
      ∙ append_assoc start (map f (map (widget_below (p ++ turns.First ∷ [])) xs))
      (map f (map (widget_below (p ++ turns.Second ∷ [])) ys))
      ∙ ap (λ z. start ++ z) (sym (map-append f (map (widget_below (p ++ turns.First ∷ [])) xs)
      (map (widget_below (p ++ turns.Second ∷ [])) ys)))
      ∙ ap (λ z. start ++ map f z) (sym (widgets_of_both p xs ys))

  -- a tree's root with its parts, and then its size
  follow_node : (t : TreeTerm) (middle after : RowsTerm) → RootFollows c budget t τ p before middle
      → PartsFollow c budget (node_parts t) τ p middle after → RowsFollow c budget t τ p before (Closed after)
  follow_node (edit_tree b v) middle after r f =
      leaf (edit_tree b v) r.shape after (ap (λ z. here z ∷ []) r.is) (f ∙ r.row) (root_sizes (edit_tree b v) middle after r f)
  follow_node (enter_tree b) middle after r f =
      leaf (enter_tree b) r.shape after (ap (λ z. here z ∷ []) r.is) (f ∙ r.row) (root_sizes (enter_tree b) middle after r f)
  follow_node (share_tree b n) middle after r f =
      leaf (share_tree b n) r.shape after (ap (λ z. here z ∷ []) r.is) (f ∙ r.row) (root_sizes (share_tree b n) middle after r f)
  follow_node fail_tree middle after r f =
      leaf fail_tree r.shape after (ap (λ z. here z ∷ []) r.is) (f ∙ r.row) (root_sizes fail_tree middle after r f)
  follow_node (xor_tree j k) middle after r f =
      let i = r.is in
      leaf (xor_tree j k) r.shape after (i.0, i.1, i.2, i.3, ap (λ z. here z ∷ []) i.4) (f ∙ r.row)
      (root_sizes (xor_tree j k) middle after r f)
  follow_node (then_tree l k) middle after r f =
      node (then_tree l k) r.shape f.own middle after (f.own, f.are, ap (λ z. here z ∷ f.own) r.is) r.row f.signs f.fragments
      (root_sizes (then_tree l k) middle after r f)
  follow_node (next_tree l k) middle after r f =
      let i = r.is in
      node (next_tree l k) r.shape f.own middle after (i.0, f.own, i.1, f.are, ap (λ z. here z ∷ f.own) i.2) r.row f.signs f.fragments
      (root_sizes (next_tree l k) middle after r f)
  follow_node (and_tree x y) middle after r f =
      let one = f.1 in
      let two = f.2 in
      node (and_tree x y) r.shape (both_widgets one.own two.own) middle after
      (one.own, two.own, one.are, two.are, ap (λ z. here z ∷ both_widgets one.own two.own) r.is) r.row
      (both widget_signs one.own two.own middle.signs (f.0).signs after.signs one.signs two.signs)
      (both fragment_of one.own two.own middle.fragments (f.0).fragments after.fragments one.fragments two.fragments)
      (root_sizes (and_tree x y) middle after r f)
  follow_node (or_tree x y) middle after r f =
      let one = f.1 in
      let two = f.2 in
      node (or_tree x y) r.shape (both_widgets one.own two.own) middle after
      (one.own, two.own, one.are, two.are, ap (λ z. here z ∷ both_widgets one.own two.own) r.is) r.row
      (both widget_signs one.own two.own middle.signs (f.0).signs after.signs one.signs two.signs)
      (both fragment_of one.own two.own middle.fragments (f.0).fragments after.fragments one.fragments two.fragments)
      (root_sizes (or_tree x y) middle after r f)

  -- what the parts of a node add stands behind its row
  pub root_within : (t : TreeTerm) (middle after : RowsTerm) (number : ℕ) → number ≡ length before.sizes
      → RootFollows c budget t τ p before middle → PartsFollow c budget (node_parts t) τ p middle after → number < length after.sizes
  root_within t middle after number at r f =
      let all = ap length (parts_sizes t middle after f ∙ ap (λ (z : RowsTerm). z.sizes ++ drop 1 (sizes_of t)) r.row) in
      let one = length-append before.sizes (1 ∷ []) in
      let two = length-append (before.sizes ++ 1 ∷ []) (drop 1 (sizes_of t)) in
      omega (arith, all, one, two, at)

  -- the same where it is closed by the number of its row
  pub follow_closed : (t : TreeTerm) (middle after end : RowsTerm) (number : ℕ) → number ≡ length before.sizes → end ≡ rows_closed number after
      → RootFollows c budget t τ p before middle → PartsFollow c budget (node_parts t) τ p middle after
      → RowsFollow c budget t τ p before end
  follow_closed t middle after end number at e r f =
      subst (RowsFollow c budget t τ p before) (sym (e ∙ ap (λ n. rows_closed n after) at)) (follow_node t middle after r f)

some_same : {A : Type 0} {x y : A} → Some x ≡ Some y → x ≡ y
some_same e = cc

here_is : (o : Option TreeTerm) (t : TreeTerm) → node_in o [] ≡ Some t → o ≡ Some t
here_is None t e = absurd (cc)
here_is (Some s) t e = e

-- a part that is kept stands among the rows
module _ (c : CheckedTerm) (budget : ℕ) (o : Option TreeTerm) (t : TreeTerm) (τ : List ValueTerm) (p : List Turn) (from : ℕ)
    (rows : RowsTerm) (m : Marks) (d : FormerIsTold c budget o t τ p from rows m) (whole : told m [] ≡ true) where
  kept : IsKeptIn d.values τ o t []
  kept = (d.marks [] t refl).0 whole

  same : kept.node ≡ t
  same = sym (some_same kept.after)

  pub was : o ≡ Some t
  was = here_is o t (kept.before ∙ ap Some same)

  pub stood : RowsStand c budget t d.values p from rows
  stood = subst (λ z. FormerStand c budget z d.values p from rows) was d.stand

  -- the first of its rows tells how many they are
  pub first_size : FormerSize (Some t) from rows
  first_size = size_stands c budget d.values p rows t from stood

  pub behind_taken : from + slice_index rows.sizes from ≡ from + former_nodes o
  behind_taken = ap (λ n. from + n) (first_size.1 ∙ ap former_nodes (sym was))

  pub follow_taken : ((c : CheckedTerm) (budget : ℕ) (t : TreeTerm) (σ τ : List ValueTerm) → HaveAlike (foot t) σ τ → (ws : List WidgetTerm)
      → AreWidgets c budget t σ ws ↔ AreWidgets c budget t τ ws) → (before after : RowsTerm)
      → after ≡ rows_append before (rows_part from (slice_index rows.sizes from) rows) → RowsFollow c budget t τ p before after
  follow_taken frame before after e =
      let alike = subst (λ z. HaveAlike (foot z) d.values τ) same kept.alike in
      let count = slice_index rows.sizes from in
      let many = sym first_size.1 in
      let one = ap (λ (r : RowsTerm). r.signs) e in
      let sizes = ap (λ (r : RowsTerm). r.sizes) e in
      let two = ap (λ (r : RowsTerm). r.fragments) e in
      record {
        own = stood.own;
        are = (frame c budget t d.values τ alike stood.own).0 stood.are;
        signs = one ∙ ap (λ z. before.signs ++ z) (stands_taken rows.signs from count _ stood.signs
            (each_long c budget d.values p rows widget_signs p t stood.own stood.are ∙ many));
        sizes = sizes ∙ ap (λ z. before.sizes ++ z) (stands_taken rows.sizes from count (sizes_of t) stood.sizes (sizes_long t ∙ many));
        fragments = two ∙ ap (λ z. before.fragments ++ z) (stands_taken rows.fragments from count _ stood.fragments
            (each_long c budget d.values p rows fragment_of p t stood.own stood.are ∙ many));
      }

-- ---- the whole tree
pub told_root : (c : CheckedTerm) (budget : ℕ) (old new : TreeTerm) (σ τ : List ValueTerm) (p : List Turn) (rows : RowsTerm) (m : Marks)
    → p ≡ [] → AreRows c budget old σ rows → TellsKept σ τ (Some old) new m → FormerIsTold c budget (Some old) new τ p 0 rows m
told_root c budget old new σ τ p rows m root r tells =
    let each = ap (λ q. map (widget_below q) r.0) root ∙ widgets_at_root r.0 in
    record {
      values = σ;
      stand = record {
        own = r.0;
        are = r.1;
        signs = stands_same rows.signs 0 _ _ (ap (λ (z : RowsTerm). z.signs) r.2 ∙ ap (map widget_signs) (sym each))
            (stands_whole rows.signs);
        sizes = stands_same rows.sizes 0 _ _ (ap (λ (z : RowsTerm). z.sizes) r.2) (stands_whole rows.sizes);
        fragments = stands_same rows.fragments 0 _ _ (ap (λ (z : RowsTerm). z.fragments) r.2 ∙ ap (map fragment_of) (sym each))
            (stands_whole rows.fragments);
      };
      marks = tells;
    }

pub follow_root : (c : CheckedTerm) (budget : ℕ) (t : TreeTerm) (τ : List ValueTerm) (p : List Turn) (before after : RowsTerm) → p ≡ []
    → before ≡ no_rows → RowsFollow c budget t τ p before after → AreRows c budget t τ after
follow_root c budget t τ p before after root none f =
    let each = ap (λ q. map (widget_below q) f.own) root ∙ widgets_at_root f.own in
    let signs = f.signs ∙ ap (λ (r : RowsTerm). r.signs ++ map widget_signs (map (widget_below p) f.own)) none
    ∙ ap (map widget_signs) each in
    let sizes = f.sizes ∙ ap (λ (r : RowsTerm). r.sizes ++ sizes_of t) none in
    let fragments = f.fragments ∙ ap (λ (r : RowsTerm). r.fragments ++ map fragment_of (map (widget_below p) f.own)) none
    ∙ ap (map fragment_of) each in (
      f.own,
      f.are,
      ap (λ z. rows_with z after.sizes after.fragments) signs ∙ ap (λ z. rows_with (map widget_signs f.own) z after.fragments) sizes
          ∙ ap (rows_with (map widget_signs f.own) (sizes_of t)) fragments,
    )

-- a row for each node
pub rows_long : (c : CheckedTerm) (budget : ℕ) (t : TreeTerm) (σ : List ValueTerm) (rows : RowsTerm) → AreRows c budget t σ rows
    → length rows.sizes ≡ tree_nodes t
rows_long c budget t σ rows r = ap (λ (z : RowsTerm). length z.sizes) r.2 ∙ sizes_long t
