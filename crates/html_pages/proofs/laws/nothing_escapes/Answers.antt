use Rattle.html_pages.proofs.Inert.{escaped_inert, name_inert, path_inert, value_inert}
use Rattle.html_pages.proofs.laws.nothing_escapes.Goals as goal

pub returns-clause-texts : goal.returns-clause-texts
returns-clause-texts c = escaped_inert

pub returns-clause-values : goal.returns-clause-values
returns-clause-values c = value_inert

pub returns-clause-names : goal.returns-clause-names
returns-clause-names c = name_inert

pub returns-clause-paths : goal.returns-clause-paths
returns-clause-paths c = path_inert
