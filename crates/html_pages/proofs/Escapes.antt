-- What is written of a content, up to a byte and behind it.
use Rattle.std.proofs.Common.{◌≡◌, ℕ, ◌+◌, ◌<◌, [], ◌∷◌, ◌++◌, length, take, drop, get_or, refl, sym, ap, ap₂, ◌∙◌, arith, append_assoc, append-nil}
use Rattle.std.proofs.lemmas.List.{take_more}
use Rattle.std.proofs.lemmas.Grind.{common_steps}
use Rattle.task_model.specs.Terms.Text.{Text}
use Rattle.task_model.specs.Showing.Html.{entity, html_escaped}
use Rattle.html_pages.specs.Escaping.{EscapesAt}

pub html_escaped-append : (s t : Text) → html_escaped (s ++ t) ≡ html_escaped s ++ html_escaped t
html_escaped-append [] t = refl
html_escaped-append (c ∷ s) t = ap (λ l. entity c ++ l) (html_escaped-append s t)
    ∙ sym (append_assoc (entity c) (html_escaped s) (html_escaped t))

-- one more byte that is written as it is
pub written_more : (bytes : Text) (i : ℕ) → i < length bytes → html_escaped (take i bytes) ≡ take i bytes
    → entity (get_or bytes i 0) ≡ get_or bytes i 0 ∷ [] → html_escaped (take (i + 1) bytes) ≡ take (i + 1) bytes
written_more bytes i within before plain =
    let more = take_more bytes i 0 within in
    ap html_escaped more ∙ html_escaped-append (take i bytes) (get_or bytes i 0 ∷ [])
    ∙ ap₂ (λ (a b : Text). a ++ b) before (append-nil (entity (get_or bytes i 0)) ∙ plain) ∙ sym more

split : (bytes : Text) (i : ℕ) → i < length bytes → bytes ≡ take i bytes ++ get_or bytes i 0 ∷ drop (i + 1) bytes
split bytes i within = grind (arith, common_steps)

-- what is written of a content whose first entity stands at a place
pub written_at : (bytes : Text) (i : ℕ) (written : Text) → EscapesAt bytes i written
    → html_escaped bytes ≡ take i bytes ++ (written ++ html_escaped (drop (i + 1) bytes))
written_at bytes i written at =
    ap html_escaped (split bytes i at.within) ∙ html_escaped-append (take i bytes) (get_or bytes i 0 ∷ drop (i + 1) bytes)
    ∙ ap₂ (λ (a b : Text). a ++ (b ++ html_escaped (drop (i + 1) bytes))) at.before at.byte

-- the bytes up to an entity are written, and the entity
pub written_step : (rest later before written t u v : Text) (i : ℕ) → EscapesAt rest i written → before ≡ take i rest
    → later ≡ drop (i + 1) rest → u ≡ t ++ before → v ≡ u ++ written → v ++ html_escaped later ≡ t ++ html_escaped rest
written_step rest later before written t u v i at first behind one two =
    ap₂ (λ (a b : Text). a ++ html_escaped b) (two ∙ ap (λ (l : Text). l ++ written) (one ∙ ap (λ (l : Text). t ++ l) first)) behind
    ∙ append_assoc (t ++ take i rest) written (html_escaped (drop (i + 1) rest))
    ∙ append_assoc t (take i rest) (written ++ html_escaped (drop (i + 1) rest))
    ∙ ap (λ (l : Text). t ++ l) (sym (written_at rest i written at))
