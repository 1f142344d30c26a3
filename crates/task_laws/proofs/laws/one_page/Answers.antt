use Rattle.task_laws.proofs.HistoryLemmas.{some_page, one_page_text}
use Rattle.task_laws.proofs.laws.one_page.Goals as goal

pub returns-clause-some : goal.returns-clause-some
returns-clause-some k = λ face H seat d. some_page face H seat d

pub returns-clause-one : goal.returns-clause-one
returns-clause-one k = λ face H seat text other legal d e. one_page_text face H seat text other d e
