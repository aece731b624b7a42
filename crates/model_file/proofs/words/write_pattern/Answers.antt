-- `words::write_pattern` meets its contract. Assumes nothing.
use mathlib.Core.Path.{◌∙◌}
use Rattle.model_file.specs.LittleEndian.{length_bytes}
use Rattle.model_file.proofs.Stores.{four_bytes, part_stored}
use Rattle.model_file.proofs.words.write_pattern.Goals as goal

pub returns : goal.returns
returns c = part_stored _ c.args.out.now _ c.args.at 4 (c.copy_from_slice.ensures.after ∙ four_bytes c.args.x c.to_le_bytes.ensures) (length_bytes 4 c.args.x) c.requires
