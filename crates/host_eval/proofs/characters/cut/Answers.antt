use Rattle.std.proofs.Common.{◌≡◌, ◌<◌, ◌≤◌, ℕ, List, length, true, drop, subst, arith}
use Rattle.host_eval.specs.ValueWords.{starts}
use Rattle.host_eval.proofs.CharacterLemmas.{boundary}
use Rattle.host_eval.proofs.characters.cut.Goals as goal

pub range-requires-clause-end_boundary : goal.range-requires-clause-end_boundary
range-requires-clause-end_boundary c =
    let is = c.as_bytes.ensures.value in
    let other = c.if-end-eq0.false in
    let n = c.fitting-end.result in
    let some : 0 < n = omega (arith, other) in
    let within = subst (λ (l : List ℕ). n ≤ length l) is c.fitting-end.ensures.some in
    let next = subst (λ (l : List ℕ). starts (drop n l) ≡ true) is (c.fitting-end.ensures.next some) in
    (within, λ lt high. boundary c.args.text.now n lt next high)
