-- A text that was written piece by piece.
use Rattle.std.proofs.Common.{◌≡◌, ◌++◌, codes, Result, Ok, Err, OnOk, sym, ap, ◌∙◌, append_assoc}
use Rattle.task_model.specs.Terms.Text.{Text}
use Rattle.task_model.specs.Showing.Html.{form_text}
use Rattle.html_pages.specs.FormParts.{form_start, form_end}

-- what a call that was answered Ok leaves
pub on_ok : {X E P Q : Type 0} (r : Result X E) → (P → Q) → OnOk r P → OnOk r Q
on_ok (Ok x) f h = f h
on_ok (Err e) f h = tt

-- one piece more behind t
pub more : {x y : Text} (t a b : Text) → x ≡ t ++ a → y ≡ x ++ b → y ≡ t ++ (a ++ b)
more t a b one next = next ∙ ap (λ l. l ++ b) one ∙ append_assoc t a b

three_behind : (t a b c : Text) → t ++ (a ++ b ++ c) ≡ t ++ a ++ b ++ c
three_behind t a b c = sym (append_assoc t (a ++ b) c) ∙ ap (λ l. l ++ c) (sym (append_assoc t a b))

-- a form, from its start, its own fields and its end
pub form_parts : (path act fields button : Text) → form_start path act ++ fields ++ form_end button ≡ form_text path act fields button
form_parts path act fields button = three_behind (form_start path act ++ fields) (codes "<button>") button (codes "</button></form>\n")
