use Rattle.std.proofs.Common.{sym, subst}
use Rattle.task_model.specs.Terms.Token.{Escapes, quote, backslash, line_feed, tab, carriage_return}
use Rattle.literal_text.proofs.texts.escaped.Goals as goal

pub returns-in-34 : goal.returns-in-34
returns-in-34 c = subst (λ l. Escapes l 34) (sym c.in-34.is) quote

pub returns-in-92 : goal.returns-in-92
returns-in-92 c = subst (λ l. Escapes l 92) (sym c.in-92.is) backslash

pub returns-in-110 : goal.returns-in-110
returns-in-110 c = subst (λ l. Escapes l 10) (sym c.in-110.is) line_feed

pub returns-in-116 : goal.returns-in-116
returns-in-116 c = subst (λ l. Escapes l 9) (sym c.in-116.is) tab

pub returns-in-114 : goal.returns-in-114
returns-in-114 c = subst (λ l. Escapes l 13) (sym c.in-114.is) carriage_return
