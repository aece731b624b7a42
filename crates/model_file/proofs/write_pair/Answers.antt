-- `write_pair` meets its contract: the kind, then two numbers. Assumes nothing.
use Rattle.model_file.proofs.Stores.{pair_parts}
use lib.ListN.{length-set}
use borrow.Author.Rules.{rules}
use native.Mathlib.Omega.{arith}
use mathlib.Core.Path.{◌∙◌}
use Rattle.model_file.proofs.write_pair.Goals as goal

pub write_word-requires : goal.write_word-requires
write_word-requires c = simp length-set (omega arith)

pub write_word-requires-2 : goal.write_word-requires-2
write_word-requires-2 c = omega (arith, simp length-set at c.write_word.auto.out)

pub returns : goal.returns
returns c =
    let write_word = c.write_word in
    let write-word2 = c.write_word-2 in
    let a = c.args in
    pair_parts a.out.now write_word.new.out write-word2.new.out a.at a.c a.s write_word.ensures write-word2.ensures
