-- `write` meets its contract. Assumes nothing.
use Rattle.model_file.proofs.Stores.{file_parts}
use Rattle.model_file.specs.Dates.{size_most}
use Rattle.model_file.specs.Answers.{write_size, write_length_c, write_length_s, write_space, write_done}
use Rattle.storage.specs.Triangle.{table_size_most}
use Rattle.storage.specs.Answers.{size_is}
use native.Mathlib.Omega.{arith}
use mathlib.Core.Path.{refl}
use borrow.Author.Rules.{rules}
use Rattle.model_file.proofs.write.Goals as goal

pub returns-then-nmax-gt-MAX_DEGREE : goal.returns-then-nmax-gt-MAX_DEGREE
returns-then-nmax-gt-MAX_DEGREE c = record { value = write_size _ _ _ _ _ (omega arith); out_after = refl }

pub returns-then-c-count : goal.returns-then-c-count
returns-then-c-count c = record { value = write_length_c _ _ _ _ _ (omega arith) _ c.table_size-count.ensures (λ e. omega arith); out_after = refl }

pub returns-then-s-count : goal.returns-then-s-count
returns-then-s-count c = record { value = write_length_s _ _ _ _ _ (omega arith) _ c.table_size-count.ensures (omega arith) (λ e. omega arith); out_after = refl }

pub overflow_mul-count : goal.overflow_mul-count
overflow_mul-count c =
    let a = c.args in
    omega (arith, size_is a.head.nmax (omega arith), table_size_most a.head.nmax (omega arith))

pub overflow_add-start : goal.overflow_add-start
overflow_add-start c =
    let a = c.args in
    omega
    (arith, c.head_size-start.ensures, size_most a.head.date, size_is a.head.nmax (omega arith), table_size_most a.head.nmax (omega arith))

pub overflow_add-start-2 : goal.overflow_add-start-2
overflow_add-start-2 c =
    let a = c.args in
    omega
    (arith, c.head_size-start.ensures, size_most a.head.date, size_is a.head.nmax (omega arith), table_size_most a.head.nmax (omega arith))

pub returns-then-out-start : goal.returns-then-out-start
returns-then-out-start c =
    let table_size_lem = c.table_size-count in
    let head_size_lem = c.head_size-start in
    record { value = write_space _ _ _ _ _ (omega arith) _ table_size_lem.ensures (omega arith) (omega arith) (omega (arith, head_size_lem.ensures)); out_after = refl }

pub write_head-requires : goal.write_head-requires
write_head-requires c = (omega (arith, c.head_size-start.ensures), omega arith)

pub write_body-requires : goal.write_body-requires
write_body-requires c = (omega arith, omega (arith, c.write_head.auto.out))

pub returns : goal.returns
returns c =
    let table_size_lem = c.table_size-count in
    let head_size_lem = c.head_size-start in
    let a = c.args in
    let write-head = c.write_head in
    let write-body = c.write_body in record {
      value = write_done _ _ _ _ _ (omega arith) _ table_size_lem.ensures (omega arith) (omega arith) (omega (arith, head_size_lem.ensures));
      out_after = file_parts
          a.out.now write-head.new.out write-body.new.out a.head a.c.now a.s.now _ head_size_lem.ensures write-head.ensures
          write-body.ensures;
    }
