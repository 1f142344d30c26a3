-- The words of definitions, as the grammar's.
use Rattle.reader_programs.specs.declared.definition_words.DefinitionWord.{DefinitionWord}
use Rattle.reader_programs.specs.declared.definition_words.DefinitionWord.TheVariants as heads
use Rattle.task_model.specs.declared.keyword.Keyword.{Keyword}
use Rattle.task_model.specs.declared.keyword.Keyword.TheVariants as words

abbrev pub word_of : DefinitionWord → Keyword
word_of heads.Function = words.Fun
word_of heads.Task = words.Task
