-- What the writing of a reply does to a link.
use Rattle.std.specs.Prelude.{◌≡◌}
use Rattle.outer_io.specs.Links.{LinkTold}
use Rattle.outer_io.specs.Sink.{Wrote, faults_after_text}
use Rattle.outer_io.specs.declared.sink.Written.{Written}
use Rattle.task_model.specs.Terms.Text.{Text}

-- The link took a reply, or the first part of it, and nothing else happened to it.
pub record Sending (before after : LinkTold) (reply : Text) (answer : Written) : Type 0 where
  pub wrote : Wrote before.taken after.taken reply answer
  pub left : after.left ≡ before.left
  pub whole : after.whole ≡ before.whole
  pub read_faults : after.read_faults ≡ before.read_faults
  pub write_faults : after.write_faults ≡ faults_after_text before.write_faults answer
  pub is_shut : after.is_shut ≡ before.is_shut
