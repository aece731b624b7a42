-- `legendre::mirrors::mirror_by` meets its contract: each way through its checks, and the mirrored table past them. Assumes nothing.
use Rattle.storage.specs.Answers.{size_is}
use Rattle.legendre.specs.Checks.{mirror_size, mirror_length, mirror_done}
use Rattle.legendre.specs.MirrorLaws.{mirror_promise}
use borrow.Author.Rules.{rules}
use native.Mathlib.Omega.{arith}
use mathlib.Core.Path.{refl}
use Rattle.legendre.proofs.mirrors.mirror_by.Goals as goal

pub returns-then-nmax-gt-MAX_DEGREE : goal.returns-then-nmax-gt-MAX_DEGREE
returns-then-nmax-gt-MAX_DEGREE c = let a = c.args in
    let all = mirror_promise {shift = a.shift} {N = a.nmax} {table = a.table.now} (record { answers = mirror_size _ _ (omega arith); leaves = refl }) in
    record { value = all.0; table_after = all.1 }

pub returns-then-table-table_size : goal.returns-then-table-table_size
returns-then-table-table_size c =
    let a = c.args in
    let z = size_is a.nmax (omega arith) in
    let all = mirror_promise {shift = a.shift} {N = a.nmax} {table = a.table.now} (record { answers = mirror_length _ _ (omega arith) (λ e. omega (arith, z, c.table_size.ensures)); leaves = refl }) in
    record { value = all.0; table_after = all.1 }

pub mirror_rows-requires : goal.mirror_rows-requires
mirror_rows-requires c =
    let z = size_is c.args.nmax (omega arith) in
    record { fact_1 = omega arith; fact_2 = omega arith; fact_3 = omega (arith, z) }

pub returns : goal.returns
returns c =
    let a = c.args in
    let z = size_is a.nmax (omega arith) in
    let all = mirror_promise {shift = a.shift} {N = a.nmax} {table = a.table.now} (record { answers = mirror_done _ _ (omega arith) (omega (arith, z)); leaves = c.mirror_rows.ensures.is }) in
    record { value = all.0; table_after = all.1 }
