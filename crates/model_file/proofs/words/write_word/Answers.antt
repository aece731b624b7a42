-- `words::write_word` meets its contract. Assumes nothing.
use mathlib.Core.Path.{◌∙◌}
use Rattle.model_file.specs.LittleEndian.{length_bytes}
use Rattle.model_file.proofs.Stores.{eight_bytes, part_stored}
use Rattle.model_file.proofs.words.write_word.Goals as goal

pub returns : goal.returns
returns c = part_stored _ c.args.out.now _ c.args.at 8 (c.copy_from_slice.ensures.after ∙ c.to_le_bytes.ensures ∙ eight_bytes c.args.x) (length_bytes 8 c.args.x) c.requires
