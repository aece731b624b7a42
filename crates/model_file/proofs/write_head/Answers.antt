-- `write_head` meets its contract. Assumes nothing.
use Rattle.model_file.proofs.Stores.{head_parts}
use Rattle.model_file.specs.Dates.{size_least}
use lib.ListN.{length-set}
use native.Mathlib.Omega.{arith}
use Rattle.model_file.proofs.write_head.Goals as goal

pub bounds-out-0 : goal.bounds-out-0
bounds-out-0 c = omega (arith, size_least c.args.head.date)

pub write_word-requires : goal.write_word-requires
write_word-requires c = simp length-set (omega (arith, size_least c.args.head.date))

pub write_word-requires-2 : goal.write_word-requires-2
write_word-requires-2 c =
    let a = c.args in
    let write_word = c.write_word in
    omega (arith, size_least a.head.date, simp length-set at write_word.auto.out)

pub bounds-out-17 : goal.bounds-out-17
bounds-out-17 c =
    let a = c.args in
    let write-word2 = c.write_word-2 in
    let write_word = c.write_word in
    omega (arith, size_least a.head.date, write-word2.auto.out, simp length-set at write_word.auto.out)

pub write_degree-requires : goal.write_degree-requires
write_degree-requires c =
    let a = c.args in
    let write-word2 = c.write_word-2 in
    let write_word = c.write_word in
    simp length-set (omega (arith, size_least a.head.date, write-word2.auto.out, simp length-set at write_word.auto.out))

pub write_date-requires : goal.write_date-requires
write_date-requires c =
    let write-degree = c.write_degree in
    let write-word2 = c.write_word-2 in
    let write_word = c.write_word in
    omega (arith, simp length-set at write-degree.auto.out, write-word2.auto.out, simp length-set at write_word.auto.out)

pub returns : goal.returns
returns c =
    let a = c.args in
    let write_word = c.write_word in
    let write-word2 = c.write_word-2 in
    let write-degree = c.write_degree in
    let write-date = c.write_date in
    let head_kind_lem = c.head_kind in
    let tide-byte = c.from in
    head_parts a.out.now write_word.new.out write-word2.new.out write-degree.new.out write-date.new.out a.head head_kind_lem.result
    tide-byte.result head_kind_lem.ensures write_word.ensures write-word2.ensures tide-byte.ensures write-degree.ensures
    write-date.ensures
