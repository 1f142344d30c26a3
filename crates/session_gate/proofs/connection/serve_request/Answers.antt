use Rattle.session_gate.proofs.PhraseLemmas.{request_refuses, reply_phrase}
use Rattle.session_gate.proofs.RoundLemmas.{round_answers, round_cut}
use Rattle.session_gate.proofs.connection.serve_request.Goals as goal

pub returns-in-Whole : goal.returns-in-Whole
returns-in-Whole g c = round_answers c.requires.begins c.advance.ensures.items c.answer-answer.ensures c.of-ready.ensures c.as_slice.ensures
    (record {
      head = c.of-plan.ensures.head_only;
      status = c.of-plan.ensures.closing;
      asked = c.of-plan.ensures.closes;
      last = c.is_last.ensures;
    }) c.add.ensures c.in-Whole.ensures c.ending.ensures

pub returns : goal.returns
returns g c = round_cut c.requires.begins c.advance.ensures.items c.answer-answer.ensures c.of-ready.ensures c.as_slice.ensures
    (record {
      head = c.of-plan.ensures.head_only;
      status = c.of-plan.ensures.closing;
      asked = c.of-plan.ensures.closes;
      last = c.is_last.ensures;
    }) c.add.ensures c.in-Failed.ensures

pub of-ready-requires : goal.of-ready-requires
of-ready-requires g c =
    reply_phrase _ _ _ _ _ _ c.answer-answer.ensures.replies (request_refuses _ _ _ c.requires.begins)
