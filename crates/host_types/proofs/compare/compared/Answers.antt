use Rattle.std.proofs.Common.{rules, ◌≡◌, true, true≢false, sym, ◌∙◌}
use Rattle.std.proofs.lemmas.Bool.{false_from_ne_true}
use Rattle.task_model.specs.Terms.Basic.{basic_term}
use Rattle.task_model.specs.Checking.TypeParts.{same_type}
use Rattle.task_model.proofs.DemandLemmas.{compared_met}
use Rattle.host_types.proofs.TypingLemmas.{same_is}
use Rattle.host_types.proofs.compare.compared.Goals as goal

pub returns-then-same_basic : goal.returns-then-same_basic
returns-then-same_basic c =
    compared_met c.args.node (basic_term c.args.want.now) (basic_term c.args.got.now) (sym (c.same_basic.ensures.0 c.if-same_basic.true))

pub returns : goal.returns
returns c =
    let want = basic_term c.args.want.now in
    let got = basic_term c.args.got.now in
    let same = λ (e : same_type want got ≡ true). c.same_basic.ensures.1 (same_is want got e) in
    rw (false_from_ne_true (same_type want got) (λ e. true≢false (sym (same e) ∙ c.if-same_basic.false))) (search rules)
