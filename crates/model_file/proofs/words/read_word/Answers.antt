-- `words::read_word` meets its contract. Assumes nothing.
use mathlib.Core.Path.{◌∙◌}
use Rattle.model_file.proofs.Stores.{word_of_eight}
use Rattle.model_file.proofs.words.read_word.Goals as goal

pub returns : goal.returns
returns c = c.from_le_bytes.ensures ∙ word_of_eight c.args.s.now _ c.args.at c.copy_from_slice.ensures.after
