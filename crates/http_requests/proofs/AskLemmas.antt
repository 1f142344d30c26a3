-- What is asked for, by what a head says.
use Rattle.std.proofs.Common.{◌≡◌, true, false, None, Some, sym, ap, ap₂, ◌∙◌}
use Rattle.task_model.specs.Terms.Text.{Text}
use Rattle.http_heads.specs.declared.check.Check.{Check}
use Rattle.http_heads.specs.declared.facts.HeadFacts.{HeadFacts}
use Rattle.http_heads.specs.Heads.{HeadTerm}
use Rattle.http_heads.specs.Spans.{SaysOf}
use Rattle.http_requests.specs.Requests.{AskedTerm, refused_by, asked_by_query, IsAskedByForm, IsAskedBy, fails, queries, posts}

module _ (h : HeadTerm) (facts : HeadFacts) (body : Text) where
  pub refused_ask : (check : Check) (a : AskedTerm) → SaysOf facts h → facts.failed ≡ Some check → a ≡ refused_by check facts.head_only
      → IsAskedBy h body a
  refused_ask check a says is e = fails check (sym says.failed ∙ is) (e ∙ ap (refused_by check) says.head_only)

  pub form_ask : (a : AskedTerm) → SaysOf facts h → facts.failed ≡ None → facts.posts ≡ true → IsAskedByForm body a → IsAskedBy h body a
  form_ask a says none is by = posts (sym says.failed ∙ none) (sym says.posts ∙ is) by

  pub query_ask : (a : AskedTerm) → SaysOf facts h → facts.failed ≡ None → facts.posts ≡ false
      → a ≡ asked_by_query facts.query.now facts.head_only → IsAskedBy h body a
  query_ask a says none is e =
      queries (sym says.failed ∙ none) (sym says.posts ∙ is) (e ∙ ap₂ asked_by_query says.query says.head_only)
