use Rattle.task_server.proofs.ReplyLemmas.{replies_of}
use Rattle.task_server.proofs.laws.answered_links_have_replies.Goals as goal

pub returns : goal.returns
returns c = λ start history link count legal a whole taken w t requests rest are. replies_of c.each_byte_string.ensures.idle start history link count legal a whole taken w t requests rest are
