-- The data of a page is that of one page alone.
use Rattle.std.specs.Prelude.{IfOk, MatchResult}
use Rattle.std.proofs.Common.{◌≡◌, ℕ, zero, suc, ◌+◌, ◌*◌, ◌≤◌, List, [], ◌∷◌, Result, Ok, Err, refl, sym, ap, ◌∙◌, arith}
use Rattle.task_model.specs.Terms.Text.{Text}
use Rattle.task_model.specs.Terms.Basic.{BasicTerm}
use Rattle.task_model.specs.Checking.TypeParts.{symbols_of}
use Rattle.task_model.specs.Syntax.Literal.{basic_text}
use Rattle.task_model.specs.Showing.Widget.{ShapeTerm, edit_shape, enter_shape, share_shape, then_shape, step_shape, fail_shape, and_shape, or_shape, pick_shape, WidgetTerm}
use Rattle.task_model.specs.Showing.Page.{path_text}
use Rattle.task_model.specs.declared.input.Turn.{Turn}
use Rattle.task_model.specs.declared.widget.Sign.{Sign}
use Rattle.task_model.specs.declared.widget.Sign.TheVariants as signs
use Rattle.literal_text.proofs.PrintLemmas.{printed_name}
use Rattle.literal_text_laws.proofs.TypeNames.{one_type}
use Rattle.input_paths.proofs.PathLemmas.{same_path}
use Rattle.serde_json.specs.Data.{Data, Members, no_members, member}
use Rattle.serde_json.specs.Read.{read}
use Rattle.json_face.specs.declared.page.JsonPage.{JsonPage}
use Rattle.json_face.specs.declared.stop.JsonStop.{JsonStop}
use Rattle.json_face.specs.declared.stop.JsonStop.TheVariants as stops
use Rattle.json_face.specs.JsonPages.{sign_word, shape_members, widget_data, widgets_data, page_data, FitsShape, FitWidgets, JsonPageTerm, IsJsonPage, json_page_term}
use Rattle.json_face.proofs.DataParts.{members_in, first_in, rest_in, text_in, first_byte, count_in, items_in, first_item}
use Rattle.json_face.proofs.ValueLemmas.{item_head, item_tail, no_item}
use Rattle.json_face.proofs.AskedLemmas.{one_value, one_datum}

-- ---- parts
abbrev in_place : ℕ → Members → Data
in_place zero ms = first_in ms
in_place (suc n) ms = in_place n (rest_in ms)

abbrev second_byte : Text → ℕ
second_byte [] = 0
second_byte (x ∷ xs) = first_byte xs

-- the first letters of the first key and of the word there
abbrev letters_in : Members → ℕ
letters_in no_members = 0
letters_in (member k d ms) = first_byte k * 65536 + (first_byte (text_in d) * 256 + second_byte (text_in d))

-- the first choice of a step
abbrev choice_in : Members → Members
choice_in ms = members_in (first_item (items_in (in_place 0 ms)))

same_type : (b c : BasicTerm) → symbols_of b ≤ 64 → symbols_of c ≤ 64 → basic_text b ≡ basic_text c → b ≡ c
same_type b c small less same = one_type (basic_text b) b c (printed_name b (basic_text b) refl small) (printed_name c (basic_text b) same less)

same_sign : (x y : Sign) → sign_word x ≡ sign_word y → x ≡ y
same_sign signs.No signs.No h = refl
same_sign signs.Yes signs.Yes h = refl
same_sign signs.Over signs.Over h = refl
same_sign signs.No signs.Yes h = absurd (omega (arith, ap first_byte h))
same_sign signs.No signs.Over h = absurd (omega (arith, ap first_byte h))
same_sign signs.Yes signs.No h = absurd (omega (arith, ap first_byte h))
same_sign signs.Yes signs.Over h = absurd (omega (arith, ap first_byte h))
same_sign signs.Over signs.No h = absurd (omega (arith, ap first_byte h))
same_sign signs.Over signs.Yes h = absurd (omega (arith, ap first_byte h))

-- ---- one shape
one_shape : (p q : Text) (s t : ShapeTerm) → FitsShape s → FitsShape t → shape_members p s ≡ shape_members q t → (p ≡ q) × (s ≡ t)
one_shape p q (edit_shape b v) (edit_shape c u) f g h = (ap (λ ms. text_in (in_place 1 ms)) h, ap (λ e. edit_shape e v) (same_type b c f.0 g.0 (ap (λ ms. text_in (in_place 2 ms)) h)) ∙ ap (edit_shape c) (one_value v u (ap (in_place 3) h)))
one_shape p q (edit_shape b v) (enter_shape c) f g h = absurd (omega (arith, ap letters_in h))
one_shape p q (edit_shape b v) (share_shape c u) f g h = absurd (omega (arith, ap letters_in h))
one_shape p q (edit_shape b v) then_shape f g h = absurd (omega (arith, ap letters_in h))
one_shape p q (edit_shape b v) (step_shape y) f g h = absurd (omega (arith, ap letters_in h))
one_shape p q (edit_shape b v) fail_shape f g h = absurd (omega (arith, ap letters_in h))
one_shape p q (edit_shape b v) and_shape f g h = absurd (omega (arith, ap letters_in h))
one_shape p q (edit_shape b v) or_shape f g h = absurd (omega (arith, ap letters_in h))
one_shape p q (edit_shape b v) (pick_shape y w) f g h = absurd (omega (arith, ap letters_in h))
one_shape p q (enter_shape b) (edit_shape c u) f g h = absurd (omega (arith, ap letters_in h))
one_shape p q (enter_shape b) (enter_shape c) f g h = (ap (λ ms. text_in (in_place 1 ms)) h, ap enter_shape (same_type b c f g (ap (λ ms. text_in (in_place 2 ms)) h)))
one_shape p q (enter_shape b) (share_shape c u) f g h = absurd (omega (arith, ap letters_in h))
one_shape p q (enter_shape b) then_shape f g h = absurd (omega (arith, ap letters_in h))
one_shape p q (enter_shape b) (step_shape y) f g h = absurd (omega (arith, ap letters_in h))
one_shape p q (enter_shape b) fail_shape f g h = absurd (omega (arith, ap letters_in h))
one_shape p q (enter_shape b) and_shape f g h = absurd (omega (arith, ap letters_in h))
one_shape p q (enter_shape b) or_shape f g h = absurd (omega (arith, ap letters_in h))
one_shape p q (enter_shape b) (pick_shape y w) f g h = absurd (omega (arith, ap letters_in h))
one_shape p q (share_shape b v) (edit_shape c u) f g h = absurd (omega (arith, ap letters_in h))
one_shape p q (share_shape b v) (enter_shape c) f g h = absurd (omega (arith, ap letters_in h))
one_shape p q (share_shape b v) (share_shape c u) f g h = (ap (λ ms. text_in (in_place 1 ms)) h, ap (λ e. share_shape e v) (same_type b c f.0 g.0 (ap (λ ms. text_in (in_place 2 ms)) h)) ∙ ap (share_shape c) (one_value v u (ap (in_place 3) h)))
one_shape p q (share_shape b v) then_shape f g h = absurd (omega (arith, ap letters_in h))
one_shape p q (share_shape b v) (step_shape y) f g h = absurd (omega (arith, ap letters_in h))
one_shape p q (share_shape b v) fail_shape f g h = absurd (omega (arith, ap letters_in h))
one_shape p q (share_shape b v) and_shape f g h = absurd (omega (arith, ap letters_in h))
one_shape p q (share_shape b v) or_shape f g h = absurd (omega (arith, ap letters_in h))
one_shape p q (share_shape b v) (pick_shape y w) f g h = absurd (omega (arith, ap letters_in h))
one_shape p q then_shape (edit_shape c u) f g h = absurd (omega (arith, ap letters_in h))
one_shape p q then_shape (enter_shape c) f g h = absurd (omega (arith, ap letters_in h))
one_shape p q then_shape (share_shape c u) f g h = absurd (omega (arith, ap letters_in h))
one_shape p q then_shape then_shape f g h = (ap (λ ms. text_in (in_place 1 ms)) h, refl)
one_shape p q then_shape (step_shape y) f g h = absurd (omega (arith, ap letters_in h))
one_shape p q then_shape fail_shape f g h = absurd (omega (arith, ap letters_in h))
one_shape p q then_shape and_shape f g h = absurd (omega (arith, ap letters_in h))
one_shape p q then_shape or_shape f g h = absurd (omega (arith, ap letters_in h))
one_shape p q then_shape (pick_shape y w) f g h = absurd (omega (arith, ap letters_in h))
one_shape p q (step_shape x) (edit_shape c u) f g h = absurd (omega (arith, ap letters_in h))
one_shape p q (step_shape x) (enter_shape c) f g h = absurd (omega (arith, ap letters_in h))
one_shape p q (step_shape x) (share_shape c u) f g h = absurd (omega (arith, ap letters_in h))
one_shape p q (step_shape x) then_shape f g h = absurd (omega (arith, ap letters_in h))
one_shape p q (step_shape x) (step_shape y) f g h = (ap (λ ms. text_in (in_place 2 ms)) h, ap step_shape (same_sign x y (ap (λ ms. text_in (in_place 1 (choice_in ms))) h)))
one_shape p q (step_shape x) fail_shape f g h = absurd (omega (arith, ap letters_in h))
one_shape p q (step_shape x) and_shape f g h = absurd (omega (arith, ap letters_in h))
one_shape p q (step_shape x) or_shape f g h = absurd (omega (arith, ap letters_in h))
one_shape p q (step_shape x) (pick_shape y w) f g h = absurd (omega (arith, ap letters_in h))
one_shape p q fail_shape (edit_shape c u) f g h = absurd (omega (arith, ap letters_in h))
one_shape p q fail_shape (enter_shape c) f g h = absurd (omega (arith, ap letters_in h))
one_shape p q fail_shape (share_shape c u) f g h = absurd (omega (arith, ap letters_in h))
one_shape p q fail_shape then_shape f g h = absurd (omega (arith, ap letters_in h))
one_shape p q fail_shape (step_shape y) f g h = absurd (omega (arith, ap letters_in h))
one_shape p q fail_shape fail_shape f g h = (ap (λ ms. text_in (in_place 1 ms)) h, refl)
one_shape p q fail_shape and_shape f g h = absurd (omega (arith, ap letters_in h))
one_shape p q fail_shape or_shape f g h = absurd (omega (arith, ap letters_in h))
one_shape p q fail_shape (pick_shape y w) f g h = absurd (omega (arith, ap letters_in h))
one_shape p q and_shape (edit_shape c u) f g h = absurd (omega (arith, ap letters_in h))
one_shape p q and_shape (enter_shape c) f g h = absurd (omega (arith, ap letters_in h))
one_shape p q and_shape (share_shape c u) f g h = absurd (omega (arith, ap letters_in h))
one_shape p q and_shape then_shape f g h = absurd (omega (arith, ap letters_in h))
one_shape p q and_shape (step_shape y) f g h = absurd (omega (arith, ap letters_in h))
one_shape p q and_shape fail_shape f g h = absurd (omega (arith, ap letters_in h))
one_shape p q and_shape and_shape f g h = (ap (λ ms. text_in (in_place 1 ms)) h, refl)
one_shape p q and_shape or_shape f g h = absurd (omega (arith, ap letters_in h))
one_shape p q and_shape (pick_shape y w) f g h = absurd (omega (arith, ap letters_in h))
one_shape p q or_shape (edit_shape c u) f g h = absurd (omega (arith, ap letters_in h))
one_shape p q or_shape (enter_shape c) f g h = absurd (omega (arith, ap letters_in h))
one_shape p q or_shape (share_shape c u) f g h = absurd (omega (arith, ap letters_in h))
one_shape p q or_shape then_shape f g h = absurd (omega (arith, ap letters_in h))
one_shape p q or_shape (step_shape y) f g h = absurd (omega (arith, ap letters_in h))
one_shape p q or_shape fail_shape f g h = absurd (omega (arith, ap letters_in h))
one_shape p q or_shape and_shape f g h = absurd (omega (arith, ap letters_in h))
one_shape p q or_shape or_shape f g h = (ap (λ ms. text_in (in_place 1 ms)) h, refl)
one_shape p q or_shape (pick_shape y w) f g h = absurd (omega (arith, ap letters_in h))
one_shape p q (pick_shape x z) (edit_shape c u) f g h = absurd (omega (arith, ap letters_in h))
one_shape p q (pick_shape x z) (enter_shape c) f g h = absurd (omega (arith, ap letters_in h))
one_shape p q (pick_shape x z) (share_shape c u) f g h = absurd (omega (arith, ap letters_in h))
one_shape p q (pick_shape x z) then_shape f g h = absurd (omega (arith, ap letters_in h))
one_shape p q (pick_shape x z) (step_shape y) f g h = absurd (omega (arith, ap letters_in h))
one_shape p q (pick_shape x z) fail_shape f g h = absurd (omega (arith, ap letters_in h))
one_shape p q (pick_shape x z) and_shape f g h = absurd (omega (arith, ap letters_in h))
one_shape p q (pick_shape x z) or_shape f g h = absurd (omega (arith, ap letters_in h))
one_shape p q (pick_shape x z) (pick_shape y w) f g h = (ap (λ ms. text_in (in_place 2 ms)) h, ap (λ e. pick_shape e z) (same_sign x y (ap (λ ms. text_in (in_place 1 ms)) h)) ∙ ap (pick_shape y) (same_sign z w (ap (λ ms. text_in (in_place 3 ms)) h)))

-- ---- one page
abbrev widget_of : List Turn → ShapeTerm → WidgetTerm
widget_of path s = record { path = path; shape = s }

one_widget : (w u : WidgetTerm) → FitsShape w.shape → FitsShape u.shape → widget_data w ≡ widget_data u → w ≡ u
one_widget w u f g h =
    let one = one_shape (path_text w.path) (path_text u.path) w.shape u.shape f g (ap members_in h) in
    ap (λ p. widget_of p w.shape) (same_path w.path u.path one.0) ∙ ap (widget_of u.path) one.1

one_list : (ws us : List WidgetTerm) → FitWidgets ws → FitWidgets us → widgets_data ws ≡ widgets_data us → ws ≡ us
one_list [] [] f g h = refl
one_list [] (u ∷ us) f g h = absurd (no_item (widget_data u) (widgets_data us) (sym h))
one_list (w ∷ ws) [] f g h = absurd (no_item (widget_data w) (widgets_data ws) h)
one_list (w ∷ ws) (u ∷ us) f g h =
    ap (λ x. x ∷ ws) (one_widget w u f.0 g.0 (item_head (widget_data w) (widget_data u) (widgets_data ws) (widgets_data us) h))
    ∙ ap (λ xs. u ∷ xs) (one_list ws us f.1 g.1 (item_tail (widget_data w) (widget_data u) (widgets_data ws) (widgets_data us) h))

abbrev page_of_parts : ℕ → ℕ → List WidgetTerm → JsonPageTerm
page_of_parts version seat ws = record { version = version; seat = seat; widgets = ws }

-- bytes are one page alone
pub one_page : (bytes : Text) (p q : JsonPageTerm) → IsJsonPage bytes p → IsJsonPage bytes q → p ≡ q
one_page bytes p q h g =
    let same = one_datum (read bytes) (page_data p.version p.seat p.widgets) (page_data q.version q.seat q.widgets) h.reads g.reads in
    let seat : p.seat ≡ q.seat = ap (λ d. count_in (in_place 0 (members_in d))) same in
    let version : p.version ≡ q.version = ap (λ d. count_in (in_place 1 (members_in d))) same in
    let widgets = one_list p.widgets q.widgets h.fits.widgets g.fits.widgets (ap (λ d. items_in (in_place 2 (members_in d))) same) in
    ap (λ n. page_of_parts n p.seat p.widgets) version
    ∙ (ap (λ n. page_of_parts q.version n p.widgets) seat ∙ ap (page_of_parts q.version q.seat) widgets)

-- what was found is the only page that the bytes are, and `Bad` is the answer at none
pub only_page : (bytes : Text) (result : Result JsonPage JsonStop) → IfOk result (λ p. IsJsonPage bytes (json_page_term p))
    → (result ≡ Err stops.Bad → (p : JsonPageTerm) → IsJsonPage bytes p → ⊥)
    → (p : JsonPageTerm) → IsJsonPage bytes p → MatchResult result (λ q. json_page_term q ≡ p) (λ e. e ≡ stops.Memory)
only_page bytes (Ok q) found bad p is = one_page bytes (json_page_term q) p found is
only_page bytes (Err stops.Bad) found bad p is = absurd (bad refl p is)
only_page bytes (Err stops.Memory) found bad p is = refl
