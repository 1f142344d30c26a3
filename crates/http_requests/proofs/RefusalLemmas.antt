-- What is refused, is refused by a check.
use Rattle.std.proofs.Common.{Bool, false, Option, None, Some, unwrap_or, codes, ℕ, refl, sym, subst}
use Rattle.task_model.specs.Terms.Text.{Text}
use Rattle.task_model.specs.declared.widget.Face.{Face}
use Rattle.http_heads.specs.declared.check.Check.{Check}
use Rattle.http_heads.specs.declared.check.Check.TheVariants.{ShortHead, WholeHead, GoodContent}
use Rattle.http_heads.specs.Heads.{HeadTerm, query_of, is_head}
use Rattle.http_forms.specs.Forms.{page_asked}
use Rattle.http_requests.specs.Requests.{AskedTerm, RequestTerm, refused_by, asked_by_parts, IsAskedByForm, gives, bad_literal, malformed, IsAskedBy, fails, queries, posts, IsRequest, endless, crowded, garbled, headed}
use Rattle.http_requests.specs.Streams.{BeginsWith, IsOfCheck}

of_check : (check : Check) (head_only : Bool) → IsOfCheck (refused_by check head_only)
of_check check head_only = (check, refl, refl)

of_parts : (parts : Option (Face × Option ℕ)) (head_only : Bool) → IsOfCheck (asked_by_parts parts head_only)
of_parts None head_only = of_check GoodContent head_only
of_parts (Some (face, version)) head_only = tt

of_form : (form : Text) (a : AskedTerm) → IsAskedByForm form a → IsOfCheck a
of_form form a (gives i g e) = subst IsOfCheck (sym e) tt
of_form form a (bad_literal p h e) = subst IsOfCheck (sym e) (GoodContent, refl, refl)
of_form form a (malformed h e) = subst IsOfCheck (sym e) (of_check GoodContent false)

of_asked : (h : HeadTerm) (body : Text) (a : AskedTerm) → IsAskedBy h body a → IsOfCheck a
of_asked h body a (fails check is e) = subst IsOfCheck (sym e) (of_check check (is_head h))
of_asked h body a (queries none get e) = subst IsOfCheck (sym e) (of_parts (page_asked (unwrap_or (query_of h) (codes ""))) (is_head h))
of_asked h body a (posts none post by) = of_form body a by

of_request : (bytes : Text) (r : RequestTerm) → IsRequest bytes r → IsOfCheck r.asked
of_request bytes r (endless n l e) = subst (λ z. IsOfCheck z.asked) (sym e) (of_check ShortHead false)
of_request bytes r (crowded n l e) = subst (λ z. IsOfCheck z.asked) (sym e) (of_check ShortHead false)
of_request bytes r (garbled n l o e) = subst (λ z. IsOfCheck z.asked) (sym e) (of_check WholeHead false)
of_request bytes r (headed front body split n l h is p a by e) = subst (λ z. IsOfCheck z.asked) (sym e) (of_asked h body a by)

pub begun_of_check : (bytes : Text) (r : RequestTerm) (rest : Text) → BeginsWith bytes r rest → IsOfCheck r.asked
begun_of_check bytes r rest b = of_request b.front r b.is
