use Rattle.std.proofs.Common.{rules, ◌∙◌, []}
use Rattle.journal_bytes.specs.Records.{FitsRecord}
use Rattle.history_journal.proofs.keeping.keep.Goals as goal

pub returns-in-Done-clause-appends : goal.returns-in-Done-clause-appends
returns-in-Done-clause-appends g c h honest settled gate =
    let fits : FitsRecord c.args.entry.now = search rules in
    c.in-Done.ensures.appends h c.args.entry.now [] honest settled gate (fits, tt) (c.deref.ensures.value ∙ c.in-Ok.ensures)

pub returns-clause-appends : goal.returns-clause-appends
returns-clause-appends g c h honest settled gate =
    let fits : FitsRecord c.args.entry.now = search rules in
    c.in-Failed.ensures.appends h c.args.entry.now [] honest settled gate (fits, tt) (c.deref.ensures.value ∙ c.in-Ok.ensures)
