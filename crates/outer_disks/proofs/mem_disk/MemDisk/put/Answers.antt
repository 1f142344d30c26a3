use Rattle.std.proofs.Common.{rules, ◌∙◌, subst, List, ℕ, length, replicate}
use Rattle.outer_disks.specs.Writing.{IsWithPiece}
use Rattle.outer_disks.proofs.mem_disk.MemDisk.put.Goals as goal

pub returns-clause-ok : goal.returns-clause-ok
returns-clause-ok c =
    let was = c.in_ok-before.ensures in
    let now = c.in_ok-after.ensures in
    let after = c.in_ok-after.after in
    record {
      bytes = subst (λ (b : List ℕ). IsWithPiece b c.args.at c.args.piece.now after.bytes.list) was.bytes now.bytes;
      dropped = now.dropped ∙ was.dropped;
      filled = subst (λ (f : List ℕ). IsWithPiece f c.args.at (replicate (length c.args.piece.now) 1) after.filled.list) was.filled now.filled;
      past = (c.in_ok-before.before, was, search rules);
    }
