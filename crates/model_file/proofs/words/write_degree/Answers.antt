-- `words::write_degree` meets its contract. Assumes nothing.
use mathlib.Core.Path.{◌∙◌}
use Rattle.model_file.specs.LittleEndian.{length_bytes}
use Rattle.model_file.proofs.Stores.{two_bytes, part_stored}
use Rattle.model_file.proofs.words.write_degree.Goals as goal

pub returns : goal.returns
returns c = part_stored _ c.args.out.now _ c.args.at 2 (c.copy_from_slice.ensures.after ∙ two_bytes c.args.x c.to_le_bytes.ensures) (length_bytes 2 c.args.x) c.requires
