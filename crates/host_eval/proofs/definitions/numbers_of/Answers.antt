use Rattle.std.proofs.Common.{◌≡◌, suc, ◌-◌, ◌<◌, Some, map, drop, length, get_or, ◌∷◌, cond, sym, ap, ◌∙◌, arith}
use Rattle.std.specs.Option.{option_map}
use Rattle.std.specs.String.{string_bytes}
use Rattle.std.proofs.Math.Seq.{drop-cons}
use Rattle.std.proofs.lemmas.Map.Text.{hash_map_updates_text}
use Rattle.task_model.specs.Terms.Text.{same_text}
use Rattle.task_model.specs.Terms.Program.{def_term}
use Rattle.task_model.specs.Checking.Names.{first_named}
use Rattle.host_types.proofs.ScopeLemmas.{index-cons}
use Rattle.host_eval.proofs.definitions.numbers_of.Goals as goal

pub loop-left-preserved : goal.loop-left-preserved
loop-left-preserved c =
    let left = c.loop-left.left in
    let defs = c.args.defs.now in
    let d = get_or defs (left - 1) c.index-defs-left.result in
    let within : left - 1 < length defs = omega arith in
    let again : suc (left - 1) ≡ left = omega arith in
    let split = drop-cons defs (left - 1) c.index-defs-left.result within ∙ ap (λ k. d ∷ drop k defs) again in (
      omega arith,
      λ f.
          hash_map_updates_text (string_bytes c.in_ok-name.name) c.loop-left.numbers c.insert.new.self _ c.in_ok-insert.ensures.updates f
          ∙ rw (c.in_ok-name.ensures.ok, c.as_str.ensures, c.loop-left.invariant.1 f)
          (ap (λ k. cond (same_text d.name f) (Some (left - 1))
          (option_map (λ d. d.index) (first_named k (map def_term (drop left defs)) f))) (sym again)
          ∙ sym (index-cons (left - 1) (def_term d) (map def_term (drop left defs)) f)
          ∙ ap (λ ds. option_map (λ d. d.index) (first_named (left - 1) (map def_term ds) f)) (sym split)),
    )
