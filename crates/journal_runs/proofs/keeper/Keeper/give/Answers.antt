use Rattle.std.proofs.Common.{◌≡◌, ◌∙◌, sym, subst, inl, refl, false}
use Rattle.task_model.specs.Terms.Input.{entry_term}
use Rattle.journal_runs.proofs.ReplyLemmas.{Handled, reply_answers, reply_moves, reply_stops, reply_memory}
use Rattle.journal_runs.proofs.keeper.Keeper.give.Goals as goal

pub returns-clause-answers : goal.returns-clause-answers
returns-clause-answers g c =
    let old = c.args.self.now.journal in
    let new = c.handle-reply.new.self in
    let free : old.closed ≡ false = sym c.is_closed.ensures ∙ c.if-is_closed.false in
    reply_answers g.D.Disk.told old new (entry_term c.args.entry) free c.handle-reply.result c.reply_text.result (record {
      ok = c.handle-reply.ensures.ok;
      version = c.handle-reply.ensures.version;
      short = c.handle-reply.ensures.short;
      honest = c.handle-reply.ensures.honest;
      count = c.handle-reply.ensures.count;
      settled = c.handle-reply.ensures.settled;
      left = c.handle-reply.ensures.left;
      why = c.handle-reply.ensures.why;
      any_moment = c.handle-reply.ensures.any_moment;
    }) c.reply_text.ensures

pub returns-clause-moves : goal.returns-clause-moves
returns-clause-moves g c =
    let old = c.args.self.now.journal in
    let new = c.handle-reply.new.self in
    let free : old.closed ≡ false = sym c.is_closed.ensures ∙ c.if-is_closed.false in
    reply_moves g.D.Disk.told old new (entry_term c.args.entry) free c.handle-reply.result c.reply_text.result (record {
      ok = c.handle-reply.ensures.ok;
      version = c.handle-reply.ensures.version;
      short = c.handle-reply.ensures.short;
      honest = c.handle-reply.ensures.honest;
      count = c.handle-reply.ensures.count;
      settled = c.handle-reply.ensures.settled;
      left = c.handle-reply.ensures.left;
      why = c.handle-reply.ensures.why;
      any_moment = c.handle-reply.ensures.any_moment;
    }) c.reply_text.ensures

pub returns-clause-stops : goal.returns-clause-stops
returns-clause-stops g c =
    let old = c.args.self.now.journal in
    let new = c.handle-reply.new.self in
    let free : old.closed ≡ false = sym c.is_closed.ensures ∙ c.if-is_closed.false in
    reply_stops g.D.Disk.told old new (entry_term c.args.entry) free c.handle-reply.result c.reply_text.result (record {
      ok = c.handle-reply.ensures.ok;
      version = c.handle-reply.ensures.version;
      short = c.handle-reply.ensures.short;
      honest = c.handle-reply.ensures.honest;
      count = c.handle-reply.ensures.count;
      settled = c.handle-reply.ensures.settled;
      left = c.handle-reply.ensures.left;
      why = c.handle-reply.ensures.why;
      any_moment = c.handle-reply.ensures.any_moment;
    })

pub returns-clause-memory : goal.returns-clause-memory
returns-clause-memory g c = reply_memory c.handle-reply.result c.reply_text.result c.reply_text.ensures

pub returns-then-is_closed-clause-stops : goal.returns-then-is_closed-clause-stops
returns-then-is_closed-clause-stops g c = inl (record { world = refl; disk = refl; closed = refl })
