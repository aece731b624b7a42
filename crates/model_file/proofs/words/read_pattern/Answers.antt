-- `words::read_pattern` meets its contract. Assumes nothing.
use mathlib.Core.Path.{◌∙◌}
use Rattle.model_file.proofs.Stores.{pattern_of_four}
use Rattle.model_file.proofs.words.read_pattern.Goals as goal

pub returns-clause-value : goal.returns-clause-value
returns-clause-value c = c.from_le_bytes.ensures ∙ pattern_of_four c.args.s.now c.args.at
