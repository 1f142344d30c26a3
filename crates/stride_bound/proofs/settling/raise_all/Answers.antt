use Rattle.std.proofs.Common.{◌+◌, length, subst, sym, ap, ◌∙◌, arith}
use Rattle.std.proofs.lemmas.List.{length-map}
use Rattle.task_model.specs.Terms.Program.{program_term}
use Rattle.stride_bound.specs.BoundTerms.{piece_term}
use Rattle.stride_bound.proofs.LeastLemmas.{Raises, none_raised, raise_more, raise_same, comes_all}
use Rattle.stride_bound.proofs.settling.raise_all.Goals.{then-raise, else-raise}
use Rattle.stride_bound.proofs.settling.raise_all.Goals as goal

pub loop-number-init : goal.loop-number-init
loop-number-init c = none_raised (program_term c.args.definitions.now.program) c.args.figures.now.items

pub loop-number-preserved : goal.loop-number-preserved
loop-number-preserved c =
    let p = program_term c.args.definitions.now.program in
    let i = c.loop-number.number in
    let old = c.args.figures.now.items in
    let now = c.loop-number.figures.items in
    elim c.if-raise.branch [
      | then-raise w ↦
          subst (Raises p (i + 1) old c.raise.new.figures.items) (sym w.changed-is)
          (raise_more p i old now c.raise.new.figures.items c.loop-number.changed c.loop-number.invariant c.raise.ensures.long
          c.raise.ensures.below (c.raise.ensures.raises w.if-raise.true))
      | else-raise w ↦
          let leaves = c.raise.ensures.leaves w.if-raise.false in
          subst (Raises p (i + 1) old c.raise.new.figures.items) (sym w.changed-is)
          (raise_same p i old now c.raise.new.figures.items c.loop-number.changed c.loop-number.invariant leaves.0 leaves.1)
    ]

pub returns : goal.returns
returns c =
    let p = program_term c.args.definitions.now.program in
    let h = c.loop-number.invariant in
    let long = ap length (sym c.requires.texts) ∙ length-map c.args.pieces.now piece_term in record {
      long = h.long;
      below = h.below;
      raises = h.raises;
      leaves = λ off. (
        h.same off,
        comes_all p c.loop-number.figures.items (λ n lt. h.comes off n (let far = c.loop-number-test.false in omega (arith, long, lt, far))),
      );
    }
