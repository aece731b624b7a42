-- `words::read_degree` meets its contract. Assumes nothing.
use mathlib.Core.Path.{◌∙◌}
use Rattle.model_file.proofs.Stores.{degree_of_two}
use Rattle.model_file.proofs.words.read_degree.Goals as goal

pub returns : goal.returns
returns c = c.from.ensures ∙ c.from_le_bytes.ensures ∙ degree_of_two c.args.s.now c.args.at
