use Rattle.std.specs.Prelude.{string_bytes}
use Rattle.std.proofs.Common.{◌≡◌, ◌∙◌, arith, take}
use Rattle.std.proofs.lemmas.Str.{IsCharBoundary-after_ascii}
use Rattle.html_pages.specs.Escaping.{EscapesAt}
use Rattle.html_pages.proofs.Escapes.{written_step}
use Rattle.html_pages.proofs.escaping.push_escaped.Goals as goal

pub range_from-rest-requires : goal.range_from-rest-requires
range_from-rest-requires c =
    let rest = c.loop-place.rest.now in
    let at : EscapesAt rest c.in-Some.place c.in-Some.entity.now = rw c.as_bytes.ensures.value at c.in-Some.ensures in
    λ some. IsCharBoundary-after_ascii rest c.in-Some.place c.loop-place.invariant.0 at.within at.ascii

pub loop-place-preserved : goal.loop-place-preserved
loop-place-preserved c =
    let rest = c.loop-place.rest.now in
    let at : EscapesAt rest c.in-Some.place c.in-Some.entity.now = rw c.as_bytes.ensures.value at c.in-Some.ensures in
    let first : c.range.result.now ≡ take c.in-Some.place rest = grind (arith, c.range.ensures.value) in (
      c.range_from-rest.utf8,
      written_step rest c.range_from-rest.result.now c.range.result.now c.in-Some.entity.now (string_bytes c.loop-place.text)
          (string_bytes c.push.new.text) (string_bytes c.push-in-Some.new.text) c.in-Some.place at
          first c.range_from-rest.ensures.value c.in_ok-push.ensures c.in_ok-push-2.ensures ∙ c.loop-place.invariant.1,
    )
