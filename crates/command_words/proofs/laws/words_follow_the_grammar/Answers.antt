use Rattle.command_words.proofs.GrammarLemmas.{reading_is_the_grammar}
use Rattle.command_words.proofs.laws.words_follow_the_grammar.Goals as goal

pub returns : goal.returns
returns c = reading_is_the_grammar
