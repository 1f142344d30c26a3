-- What a world's fields hold, before and after each part of an event.
use Rattle.std.proofs.Common.{◌≡◌, ℕ, ◌<◌, List, [], ◌∷◌, ◌++◌, drop, length, map, ◌-◌, true, false, Option, Some, None, Result, Ok, Err, refl, sym, ap, ◌∙◌, subst, arith, length-append}
use Rattle.std.specs.Prelude.{IfOk, IsSome, slice_get, unwrap_or}
use Rattle.std.specs.Option.{is_some, option_map}
use Rattle.std.proofs.lemmas.List.{map-append, length-map}
use Rattle.std.proofs.lemmas.Result.{IfOk-weaker}
use Rattle.task_model.specs.Terms.Rowed.{Rowed}
use Rattle.task_model.specs.Terms.Value.{ValueTerm, value_term}
use Rattle.task_model.specs.Terms.Tree.{tree_term, State, at}
use Rattle.task_model.specs.Terms.Input.{EntryTerm}
use Rattle.task_model.specs.Terms.Item.{opened, took, item_term, history_term}
use Rattle.task_model.specs.Running.Checked.{SeenChecked, CheckedTerm, checked_term}
use Rattle.task_model.specs.Checking.Fits.{Fits}
use Rattle.task_model.specs.Checking.Accepted.{IsAccepted}
use Rattle.task_model.specs.Running.State.{IsBudget, IsEntry, IsOpening, version_of}
use Rattle.task_model.specs.declared.tree.Tree.{Tree}
use Rattle.task_model.specs.declared.value.Value.{Value}
use Rattle.task_model.specs.declared.item.Item.{Item}
use Rattle.task_model.specs.declared.stops.ActStop.{ActStop}
use Rattle.task_model.specs.declared.stops.ActStop.TheVariants as acts
use Rattle.shared_store.specs.Layered.{Layered}
use Rattle.handle_input.specs.Answers.{TellsOutcome}
use Rattle.kept_nodes.specs.Kept.{IsRedrawn}
use Rattle.kept_nodes.specs.Along.{DiffersAlong}
use Rattle.world_core.specs.World.{SeenWorld, WorldTerm, NextTerm, next_term, world_term, drawn_as, IsStanding, at_rest, with_item, with_prepared, Prepares, Commits}
use Rattle.task_model.specs.declared.widget.Face.{Face}
use Rattle.html_pages.specs.Fragments.{FragmentTerm, PageTerm}
use Rattle.node_rows.specs.Rows.{RowsTerm}
use Rattle.task_engine.specs.Quiet.{FiresNothing}
use Rattle.live_tree.specs.Live.{SeenLive, AreRowsIfMade, IsLive, QuietAsTold, DiffersAsTold}
use Rattle.world_core.specs.Pages.{AreStateFragments, AreFragments, IsNextVersion, IsStatePage, IsWorldPage}
use Rattle.world_core.specs.Inside.{newest_layer, seen_next, next_made, seen_world, FieldsAgree}
use Rattle.world_core.specs.declared.prepared.Prepared.{Prepared}
use Rattle.world_core.proofs.WorldLemmas.{standing_next, standing_more, standing_fits, standing_version, standing_widgets}

-- nothing is prepared where contracts see nothing
pub rest_is : (next : Option Prepared) (σ : List Value) → seen_next next σ ≡ None → next ≡ None
rest_is None σ e = refl
rest_is (Some p) σ e = absurd cc

-- what is drawn in rows that were made
pub rows_shown : (c : CheckedTerm) (budget : ℕ) (s : State) (rows : Option RowsTerm) (fs : List FragmentTerm)
    → option_map (λ (r : RowsTerm). r.fragments) rows ≡ Some fs → AreRowsIfMade c budget s.tree s.store rows
    → AreStateFragments c budget s fs
rows_shown c budget s None fs e k = absurd cc
rows_shown c budget s (Some rows) fs e k =
    (k.0, k.1, ap (λ o. unwrap_or o []) (sym e) ∙ ap (λ (z : RowsTerm). z.fragments) k.2)

-- what is drawn of a tree whose table was made
pub tree_shown : (c : CheckedTerm) (budget : ℕ) (σ : List ValueTerm) (before live : SeenLive) (fs : List FragmentTerm)
    → live.tree ≡ before.tree → option_map (λ (r : RowsTerm). r.fragments) live.rows ≡ Some fs → IsLive c budget σ live
    → AreStateFragments c budget (at (tree_term before.tree) σ) fs
tree_shown c budget σ before live fs same e k =
    subst (λ (t : Tree). AreStateFragments c budget (at (tree_term t) σ) fs) same
    (rows_shown c budget (at (tree_term live.tree) σ) live.rows fs e k)

-- what is told stays told of the same tree
pub quiet_moved : (σ : List ValueTerm) (live live' : SeenLive) → live'.tree ≡ live.tree → live'.quiet ≡ live.quiet → QuietAsTold σ live
    → QuietAsTold σ live'
quiet_moved σ live live' tree told q = λ e. subst (λ (t : Tree). FiresNothing (tree_term t) σ) (sym tree) (q (sym told ∙ e))

-- a table that wasn't made is none of another state
pub bare_live : (c : CheckedTerm) (budget : ℕ) (σ : List ValueTerm) (live : SeenLive) → live.rows ≡ None → IsLive c budget σ live
bare_live c budget σ live e = subst (AreRowsIfMade c budget (tree_term live.tree) σ) (sym e) tt

module _ (c : SeenChecked) (budget : ℕ) (h : Rowed Item) (live : SeenLive) (s : Layered Value) where
  abbrev pub world : Option Prepared → WorldTerm
  world next = world_term (seen_world c budget h.list live s next)

  -- ---- at rest
  pub rest_fits : (next : Option Prepared) → FieldsAgree c budget h live s next → next ≡ None
      → Fits (checked_term c) (at (tree_term live.tree) (map value_term s.list))
  rest_fits None k e = standing_fits (world None) k.standing
  rest_fits (Some p) k e = absurd cc

  pub rest_live : (next : Option Prepared) → FieldsAgree c budget h live s next → next ≡ None
      → IsLive (checked_term c) budget (map value_term s.list) live
  rest_live None k e = k.rows
  rest_live (Some p) k e = absurd cc

  pub rest_quiet : (next : Option Prepared) → FieldsAgree c budget h live s next → next ≡ None
      → QuietAsTold (map value_term s.list) live
  rest_quiet None k e = k.quiet
  rest_quiet (Some p) k e = absurd cc

  -- the present state's table was made, or stays
  module _ (live' : SeenLive) (s' : Layered Value) (tree : live'.tree ≡ live.tree) (same : s' ≡ s) where
    pub drawn_world : (next : Option Prepared) → seen_world c budget h.list live' s' next
        ≡ drawn_as (is_some live'.rows) (next_made next) (seen_world c budget h.list live s next)
    drawn_world next =
        ap (λ (t : Tree). seen_world c budget h.list (record { tree = t; rows = live'.rows; along = live'.along; quiet = live'.quiet }) s' next) tree
        ∙ ap (λ (z : Layered Value). drawn_as (is_some live'.rows) (next_made next) (seen_world c budget h.list live z next)) same

    pub drawn_kept : (next : Option Prepared) → next ≡ None → IsLive (checked_term c) budget (map value_term s.list) live'
        → live'.quiet ≡ live.quiet → FieldsAgree c budget h live s next → FieldsAgree c budget h live' s' next
    drawn_kept None e rows quiet k = record {
      standing = subst (λ w. IsStanding (world_term w)) (sym (drawn_world None)) k.standing;
      room = ap (λ (z : Layered Value). z.layers) same ∙ k.room;
      rows = subst (λ (z : Layered Value). IsLive (checked_term c) budget (map value_term z.list) live') (sym same) rows;
      next_rows = tt;
      next_differs = tt;
      quiet = subst (λ (z : Layered Value). QuietAsTold (map value_term z.list) live') (sym same)
          (quiet_moved (map value_term s.list) live live' tree quiet k.quiet);
      next_quiet = tt;
    }
    drawn_kept (Some p) e rows quiet k = absurd cc

  -- what is drawn of the present state is that of its history
  pub fragments_shown : {E : Type 0} (next : Option Prepared) (r : Result (List FragmentTerm) E) → next ≡ None
      → FieldsAgree c budget h live s next
      → IfOk r (AreStateFragments (checked_term c) budget (at (tree_term live.tree) (map value_term s.list)))
      → IfOk r (AreFragments (history_term h.list))
  fragments_shown None r e k p =
      IfOk-weaker r (AreStateFragments (checked_term c) budget (at (tree_term live.tree) (map value_term s.list)))
      (AreFragments (history_term h.list)) (λ fs q. (q.0, standing_widgets (world None) k.standing q.0 q.1, q.2)) p
  fragments_shown (Some n) r e k p = absurd cc

  -- the page of the present state is the world's
  pub page_shown : {E : Type 0} (next : Option Prepared) (face : Face) (version seat : ℕ) (r : Result PageTerm E) → next ≡ None
      → version ≡ version_of (history_term h.list)
      → IfOk r (λ page. IsStatePage (checked_term c) budget (at (tree_term live.tree) (map value_term s.list)) face version seat page.text)
      → IfOk r (λ page. IsWorldPage face (world next) seat page.text)
  page_shown None face version seat r e is p =
      subst (λ n. IfOk r (λ page. IsStatePage (checked_term c) budget (at (tree_term live.tree) (map value_term s.list)) face n seat page.text))
      is p
  page_shown (Some n) face version seat r e is p = absurd cc

  -- the same history and store
  pub same_world : (h' : Rowed Item) (s' : Layered Value) (next : Option Prepared) → h'.list ≡ h.list → s' ≡ s
      → world_term (seen_world c budget h'.list live s' next) ≡ world next
  same_world h' s' next p q =
      ap (λ l. world_term (seen_world c budget l live s' next)) p ∙ ap (λ z. world_term (seen_world c budget h.list live z next)) q

  pub same_kept : (h' : Rowed Item) (s' : Layered Value) (next : Option Prepared) → next ≡ None → h'.list ≡ h.list → s' ≡ s
      → FieldsAgree c budget h live s next → FieldsAgree c budget h' live s' next
  same_kept h' s' None e p q k = record {
    standing = subst IsStanding (sym (same_world h' s' None p q)) k.standing;
    room = ap (λ (z : Layered Value). z.layers) q ∙ k.room;
    rows = subst (λ (z : Layered Value). IsLive (checked_term c) budget (map value_term z.list) live) (sym q) k.rows;
    next_rows = tt;
    next_differs = tt;
    quiet = subst (λ (z : Layered Value). QuietAsTold (map value_term z.list) live) (sym q) k.quiet;
    next_quiet = tt;
  }
  same_kept h' s' (Some p) e f q k = absurd cc

  -- where nothing is prepared nothing was
  pub none_kept : (next next' : Option Prepared) → is_some next ≡ false → next' ≡ None → FieldsAgree c budget h live s next
      → FieldsAgree c budget h live s next'
  none_kept None next' e none k = subst (FieldsAgree c budget h live s) (sym none) k
  none_kept (Some p) next' e none k = absurd cc

  -- the opening
  pub opened_kept : IsAccepted (checked_term c) → IsBudget budget
      → history_term h.list ≡ opened (checked_term c).program budget ∷ [] → s.layers ≡ []
      → IsOpening (checked_term c) budget (at (tree_term live.tree) (map value_term s.list))
      → IsLive (checked_term c) budget (map value_term s.list) live → QuietAsTold (map value_term s.list) live
      → FieldsAgree c budget h live s None
  opened_kept accepted within begins layers opening rows quiet = record {
    standing = record {
      accepted = accepted;
      budget = within;
      entries = [];
      begins = begins;
      valid = tt;
      reached = (at (tree_term live.tree) (map value_term s.list), opening, refl);
      follows = tt;
    };
    room = layers;
    rows = rows;
    next_rows = tt;
    next_differs = tt;
    quiet = quiet;
    next_quiet = tt;
  }

  -- a refusal, told at the state at rest
  pub refused : (h' : Rowed Item) (s' : Layered Value) (next : Option Prepared) (e : EntryTerm) (stop : ActStop) (σ : List ValueTerm)
      → next ≡ None → h'.list ≡ h.list → s' ≡ s
      → TellsOutcome (checked_term c) budget (at (tree_term live.tree) (map value_term s.list)) e.input σ (Err stop)
      → Prepares (world next) e (world_term (seen_world c budget h'.list live s' next)) (Err stop)
  refused h' s' None e acts.NotOffered σ r p q o = (o, same_world h' s' None p q)
  refused h' s' None e acts.Over σ r p q o = (o, same_world h' s' None p q)
  refused h' s' None e acts.Memory σ r p q o = same_world h' s' None p q
  refused h' s' (Some n) e stop σ r p q o = absurd cc

  -- ---- an entry is prepared
  module _ (h' : Rowed Item) (s' : Layered Value) (p : Prepared) (same : h'.list ≡ h.list) (layers : s'.layers ≡ s.list ∷ s.layers) where
    abbrev prepared_world : WorldTerm
    prepared_world = world_term (seen_world c budget h'.list live s' (Some p))

    abbrev prepared_state : State
    prepared_state = at (tree_term p.live.tree) (map value_term s'.list)

    prepared_is : (e : EntryTerm) → item_term p.item ≡ took e → prepared_world ≡ with_prepared (world None) e prepared_state
    prepared_is e is =
        ap (λ l. world_term (seen_world c budget l live s' (Some p))) same
        ∙ ap (λ σ. record {
          checked = checked_term c;
          budget = budget;
          history = history_term h.list;
          state = at (tree_term live.tree) (map value_term σ);
          next = Some (record { item = item_term p.item; state = prepared_state });
        }) (ap newest_layer layers)
        ∙ ap (λ i. record {
          checked = checked_term c;
          budget = budget;
          history = history_term h.list;
          state = at (tree_term live.tree) (map value_term s.list);
          next = Some (record { item = i; state = prepared_state });
        }) is

    pub prepares : (next : Option Prepared) (e : EntryTerm) → next ≡ None → item_term p.item ≡ took e
        → TellsOutcome (checked_term c) budget (at (tree_term live.tree) (map value_term s.list)) e.input (map value_term s'.list)
        (Ok p.live.tree)
        → Prepares (world next) e prepared_world (Ok tt)
    prepares None e r is o = (prepared_state, o, prepared_is e is)
    prepares (Some n) e r is o = absurd cc

    pub prepared_kept : (next : Option Prepared) (e : EntryTerm) → next ≡ None → item_term p.item ≡ took e → IsEntry e → 0 < h'.spare
        → TellsOutcome (checked_term c) budget (at (tree_term live.tree) (map value_term s.list)) e.input (map value_term s'.list)
        (Ok p.live.tree)
        → IsLive (checked_term c) budget (map value_term s'.list) p.live → DiffersAsTold (tree_term live.tree) p.live
        → QuietAsTold (map value_term s'.list) p.live
        → FieldsAgree c budget h live s next → FieldsAgree c budget h' live s' (Some p)
    prepared_kept None e r is entry spare o rows differs quiet k = record {
      standing = subst IsStanding (sym (prepared_is e is))
          (standing_next (world None) (Some (record { item = took e; state = prepared_state })) k.standing
          (record { entry = e; is = refl; valid = entry; taken = o }));
      room = (spare, layers ∙ ap (λ ls. s.list ∷ ls) k.room ∙ ap (λ σ. σ ∷ []) (sym (ap newest_layer layers)));
      rows = subst (λ σ. IsLive (checked_term c) budget (map value_term σ) live) (sym (ap newest_layer layers)) k.rows;
      next_rows = rows;
      next_differs = differs;
      quiet = subst (λ σ. QuietAsTold (map value_term σ) live) (sym (ap newest_layer layers)) k.quiet;
      next_quiet = quiet;
    }
    prepared_kept (Some n) e r is entry spare o rows differs quiet k = absurd cc

  -- ---- what is prepared is taken, or given up
  module _ (p : Prepared) (k : FieldsAgree c budget h live s (Some p)) where
    abbrev next_of : NextTerm
    next_of = record { item = item_term p.item; state = at (tree_term p.live.tree) (map value_term s.list) }

    next_standing : IsStanding (with_item (world (Some p)) next_of)
    next_standing = standing_more (world (Some p)) next_of k.standing k.standing.follows

    -- the prepared state fits
    pub next_fits : Fits (checked_term c) (at (tree_term p.live.tree) (map value_term s.list))
    next_fits = standing_fits (with_item (world (Some p)) next_of) next_standing

    -- what is drawn of the prepared state is that of the history with what is prepared
    pub next_shown : {E : Type 0} (r : Result (List FragmentTerm) E)
        → IfOk r (AreStateFragments (checked_term c) budget (at (tree_term p.live.tree) (map value_term s.list)))
        → IfOk r (AreFragments (history_term h.list ++ item_term p.item ∷ []))
    next_shown r q =
        IfOk-weaker r (AreStateFragments (checked_term c) budget (at (tree_term p.live.tree) (map value_term s.list)))
        (AreFragments (history_term h.list ++ item_term p.item ∷ []))
        (λ fs q. (q.0, standing_widgets (with_item (world (Some p)) next_of) next_standing q.0 q.1, q.2)) q

    -- its table was made, or stays
    module _ (live' : SeenLive) (s' : Layered Value) (tree : live'.tree ≡ p.live.tree) (same : s' ≡ s) where
      abbrev pub drawn_next : Prepared
      drawn_next = record { item = p.item; live = live' }

      pub next_drawn_world : seen_world c budget h.list live s' (Some drawn_next)
          ≡ drawn_as (is_some live.rows) (is_some live'.rows) (seen_world c budget h.list live s (Some p))
      next_drawn_world =
          ap (λ (t : Tree). seen_world c budget h.list live s' (Some (record {
            item = p.item;
            live = record { tree = t; rows = live'.rows; along = live'.along; quiet = live'.quiet };
          }))) tree
          ∙ ap (λ (z : Layered Value). drawn_as (is_some live.rows) (is_some live'.rows) (seen_world c budget h.list live z (Some p))) same

      pub next_drawn_kept : live'.along ≡ p.live.along → IsLive (checked_term c) budget (map value_term s.list) live'
          → live'.quiet ≡ p.live.quiet → FieldsAgree c budget h live s' (Some drawn_next)
      next_drawn_kept along rows quiet = record {
        standing = subst (λ w. IsStanding (world_term w)) (sym next_drawn_world) k.standing;
        room = (
          k.room.0,
          ap (λ (z : Layered Value). z.layers) same ∙ k.room.1
              ∙ ap (λ (z : Layered Value). newest_layer z.layers ∷ []) (sym same),
        );
        rows = subst (λ (z : Layered Value). IsLive (checked_term c) budget (map value_term (newest_layer z.layers)) live) (sym same) k.rows;
        next_rows = subst (λ (z : Layered Value). IsLive (checked_term c) budget (map value_term z.list) live') (sym same) rows;
        next_differs = λ path e. subst (λ (t : Tree). DiffersAlong path (tree_term live.tree) (tree_term t)) (sym tree)
            (k.next_differs path (sym along ∙ e));
        quiet = subst (λ (z : Layered Value). QuietAsTold (map value_term (newest_layer z.layers)) live) (sym same) k.quiet;
        next_quiet = subst (λ (z : Layered Value). QuietAsTold (map value_term z.list) live') (sym same)
            (quiet_moved (map value_term s.list) p.live live' tree quiet k.next_quiet);
      }

    -- the present values are the one layer
    pub newest_is : slice_get s.layers 0 ≡ Some (newest_layer s.layers)
    newest_is = ap (λ ls. slice_get ls 0) k.room.1

    pub has_layer : 0 < length s.layers
    has_layer = let one = ap length k.room.1 in omega (arith, one)

    layer_same : (σ : List Value) → slice_get s.layers 0 ≡ Some σ → newest_layer s.layers ≡ σ
    layer_same σ e = some_same (sym newest_is ∙ e)
      where
        some_same : {x y : List Value} → Some x ≡ Some y → x ≡ y
        some_same i = cc

    pub layer_live : (σ : List Value) → slice_get s.layers 0 ≡ Some σ → IsLive (checked_term c) budget (map value_term σ) live
    layer_live σ e = subst (λ z. IsLive (checked_term c) budget (map value_term z) live) (layer_same σ e) k.rows

    -- the present state fits over it
    pub layer_fits : (σ : List Value) → slice_get s.layers 0 ≡ Some σ
        → Fits (checked_term c) (at (tree_term live.tree) (map value_term σ))
    layer_fits σ e = subst (λ z. Fits (checked_term c) (at (tree_term live.tree) (map value_term z))) (layer_same σ e)
        (standing_fits (world (Some p)) k.standing)

    -- what is said of the nodes that aren't kept from the present to the prepared tree
    pub few_of : (w : SeenWorld) (P : ℕ → Type 0) → seen_world c budget h.list live s (Some p) ≡ w
        → (IsSome live.rows → (σ : List Value) → slice_get s.layers 0 ≡ Some σ → (m : ℕ)
        → IsRedrawn (at (tree_term live.tree) (map value_term σ)) (at (tree_term p.live.tree) (map value_term s.list)) m → P m)
        → w.drawn ≡ true → (n : NextTerm) → (world_term w).next ≡ Some n → (m : ℕ) → IsRedrawn (world_term w).state n.state m → P m
    few_of w P e few =
        subst (λ (v : SeenWorld). v.drawn ≡ true → (n : NextTerm) → (world_term v).next ≡ Some n → (m : ℕ)
        → IsRedrawn (world_term v).state n.state m → P m) e
        (λ made n is m redrawn. few made (newest_layer s.layers) newest_is m
        (subst (λ z. IsRedrawn (at (tree_term live.tree) (map value_term (newest_layer s.layers))) z m) (sym (next_same n is)) redrawn))
      where
        next_same : (n : NextTerm) → Some next_of ≡ Some n → next_of.state ≡ n.state
        next_same n i = cc

    next_version_of : length (history_term h.list) ≡ version_of (history_term h.list ++ item_term p.item ∷ [])
    next_version_of =
        let v = standing_version (with_item (world (Some p)) next_of) next_standing in
        let more = length-append (history_term h.list) (item_term p.item ∷ []) in
        omega (arith, v, more)

    module _ (h' : Rowed Item) (s' : Layered Value) (grown : h'.list ≡ h.list ++ p.item ∷ []) (same : s'.list ≡ s.list) where
      pub committed_is : world_term (seen_world c budget h'.list p.live s' None) ≡ with_item (world (Some p)) next_of
      committed_is =
          ap (λ l. record {
            checked = checked_term c;
            budget = budget;
            history = l;
            state = at (tree_term p.live.tree) (map value_term s'.list);
            next = None;
          }) (ap history_term grown ∙ map-append item_term h.list (p.item ∷ []))
          ∙ ap (λ σ. record {
            checked = checked_term c;
            budget = budget;
            history = history_term h.list ++ item_term p.item ∷ [];
            state = at (tree_term p.live.tree) (map value_term σ);
            next = None;
          }) same

      pub committed_kept : s'.layers ≡ drop 1 s.layers → FieldsAgree c budget h' p.live s' None
      committed_kept e = record {
        standing = subst IsStanding (sym committed_is) next_standing;
        room = e ∙ ap (drop 1) k.room.1;
        rows = subst (λ σ. IsLive (checked_term c) budget (map value_term σ) p.live) (sym same) k.next_rows;
        next_rows = tt;
        next_differs = tt;
        quiet = subst (λ σ. QuietAsTold (map value_term σ) p.live) (sym same) k.next_quiet;
        next_quiet = tt;
      }

      pub commits : (next next' : Option Prepared) (n : ℕ) → next ≡ Some p → next' ≡ None → s'.layers ≡ drop 1 s.layers
          → n ≡ length h'.list - 1
          → Commits (world next) (world_term (seen_world c budget h'.list p.live s' next')) (record { version = n })
      commits next next' n is none e m =
          let v = standing_version (world_term (seen_world c budget h'.list p.live s' None)) (committed_kept e).standing in
          let l = length-map h'.list item_term in
          let done : n ≡ version_of (history_term h'.list) = omega (arith, v, l, m) in
          subst (λ o. Commits (world o) (world_term (seen_world c budget h'.list p.live s' next')) (record { version = n })) (sym is)
          (subst (λ o. Commits (world (Some p)) (world_term (seen_world c budget h'.list p.live s' o)) (record { version = n })) (sym none)
          (next_of, refl, committed_is, done))

    module _ (s' : Layered Value) (dropped : s.layers ≡ s'.list ∷ s'.layers) where
      pub abandoned_is : world_term (seen_world c budget h.list live s' None) ≡ at_rest (world (Some p))
      abandoned_is = ap (λ σ. record {
        checked = checked_term c;
        budget = budget;
        history = history_term h.list;
        state = at (tree_term live.tree) (map value_term σ);
        next = None;
      }) (sym (ap newest_layer dropped))

      pub abandoned_kept : FieldsAgree c budget h live s' None
      abandoned_kept = record {
        standing = subst IsStanding (sym abandoned_is) (standing_next (world (Some p)) None k.standing tt);
        room = sym (ap (drop 1) (sym k.room.1 ∙ dropped));
        rows = subst (λ σ. IsLive (checked_term c) budget (map value_term σ) live) (ap newest_layer dropped) k.rows;
        next_rows = tt;
        next_differs = tt;
        quiet = subst (λ σ. QuietAsTold (map value_term σ) live) (ap newest_layer dropped) k.quiet;
        next_quiet = tt;
      }

  -- the version once what is prepared is committed
  pub next_version_is : (next : Option Prepared) (n : ℕ) → IsSome (seen_next next s.list) → FieldsAgree c budget h live s next
      → n ≡ length h.list → IsNextVersion (history_term h.list) (option_map next_term (seen_next next s.list)) n
  next_version_is None n e k is = absurd cc
  next_version_is (Some p) n e k is = is ∙ sym (length-map h.list item_term) ∙ next_version_of p k

  -- what is prepared, if anything is, is given up
  pub given_up : (s' : Layered Value) (next next' : Option Prepared) → is_some next ≡ true → next' ≡ None
      → s.layers ≡ s'.list ∷ s'.layers → FieldsAgree c budget h live s next → FieldsAgree c budget h live s' next'
  given_up s' None next' e none d k = absurd cc
  given_up s' (Some p) next' e none d k = subst (FieldsAgree c budget h live s') (sym none) (abandoned_kept p k s' d)

  pub given_up_is : (s' : Layered Value) (next next' : Option Prepared) → is_some next ≡ true → next' ≡ None
      → s.layers ≡ s'.list ∷ s'.layers → FieldsAgree c budget h live s next
      → world_term (seen_world c budget h.list live s' next') ≡ at_rest (world next)
  given_up_is s' None next' e none d k = absurd cc
  given_up_is s' (Some p) next' e none d k =
      subst (λ o. world_term (seen_world c budget h.list live s' o) ≡ at_rest (world (Some p))) (sym none) (abandoned_is p k s' d)
