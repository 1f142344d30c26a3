-- Lines, token by token.
use Rattle.std.proofs.Common.{◌≡◌, List, [], ◌∷◌, ◌++◌, refl, ap, ◌∙◌, append_assoc}
use Rattle.std.specs.Prelude.{codes}
use Rattle.task_model.specs.Terms.Text.{Text}
use Rattle.reader_printer.specs.Lines.{with_tokens}
use Rattle.task_model.specs.Syntax.Printed.{spaced}

pub with_tokens_append : (text : Text) (ts us : List Text) → with_tokens text (ts ++ us) ≡ with_tokens (with_tokens text ts) us
with_tokens_append text [] us = refl
with_tokens_append text (t ∷ ts) us = with_tokens_append (text ++ codes " " ++ t) ts us

-- a line that begins with this token
pub with_tokens_spaced : (text t : Text) (ts : List Text) → with_tokens (text ++ t) ts ≡ text ++ spaced (t ∷ ts)
with_tokens_spaced text t [] = refl
with_tokens_spaced text t (u ∷ us) =
    with_tokens_spaced (text ++ t ++ codes " ") u us ∙ ap (λ x. x ++ spaced (u ∷ us)) (append_assoc text t (codes " "))
    ∙ append_assoc text (t ++ codes " ") (spaced (u ∷ us))
