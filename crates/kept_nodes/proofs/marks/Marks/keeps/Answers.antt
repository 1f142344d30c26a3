use Rattle.std.proofs.Common.{refl}
use Rattle.task_model.specs.Terms.Tree.{tree_term}
use Rattle.kept_nodes.specs.Kept.{addresses}
use Rattle.kept_nodes.proofs.NumberLemmas.{numbered_there, ok_same, err_ok}
use Rattle.kept_nodes.proofs.marks.Marks.keeps.Goals as goal

pub returns-in-Ok : goal.returns-in-Ok
returns-in-Ok c = λ a e. ok_same _ _ _ _ refl
    (numbered_there c.args.self.now (addresses (tree_term c.args.t.now)) c.args.number a e) c.in-Ok.ensures

pub returns-in-Err : goal.returns-in-Err
returns-in-Err c = λ a e. absurd (err_ok _ _ _ _ refl
    (numbered_there c.args.self.now (addresses (tree_term c.args.t.now)) c.args.number a e) c.in-Err.ensures)
