-- `read` meets its contract. Assumes nothing.
use Rattle.model_file.specs.Answers.{refused_by_head, refused_by_body, readable, read_fault, read_space_c, read_space_s, read_done, read_c, read_s}
use native.Mathlib.Omega.{arith}
use mathlib.Core.Path.{refl}
use Rattle.refusal.proofs.Exits.{same_refusal}
use Rattle.model_file.proofs.read.Goals as goal

pub returns-then-c-count : goal.returns-then-c-count
returns-then-c-count c =
    let head = c.head in
    let table_size_lem = c.table_size-count in
    let head_size_lem = c.head_size-start in
    let check-body = c.check_body in
    let y = readable _ _ head.ensures _ c.in_ok-h.was _ table_size_lem.ensures _ head_size_lem.ensures _ check-body.ensures c.in_ok-check_body.was
    in
    record { value = read_space_c _ _ _ y _ _ (omega arith); c_after = refl; s_after = refl }

pub returns-then-s-count : goal.returns-then-s-count
returns-then-s-count c =
    let head = c.head in
    let table_size_lem = c.table_size-count in
    let head_size_lem = c.head_size-start in
    let check-body = c.check_body in
    let y = readable _ _ head.ensures _ c.in_ok-h.was _ table_size_lem.ensures _ head_size_lem.ensures _ check-body.ensures c.in_ok-check_body.was
    in
    record { value = read_space_s _ _ _ y _ _ (omega arith) (omega arith); c_after = refl; s_after = refl }

pub read_pairs-requires : goal.read_pairs-requires
read_pairs-requires c =
    let head = c.head in
    let table_size_lem = c.table_size-count in
    let head_size_lem = c.head_size-start in
    let check-body = c.check_body in
    let y = readable _ _ head.ensures _ c.in_ok-h.was _ table_size_lem.ensures _ head_size_lem.ensures _ check-body.ensures c.in_ok-check_body.was
    in
    let z = head_size_lem.ensures in
    (omega arith, omega arith, omega arith)

pub returns-in_err-h-clause-value : goal.returns-in_err-h-clause-value
returns-in_err-h-clause-value c =
    same_refusal c.from_residual.ensures.1 (read_fault _ _ _ _ (refused_by_head _ _ c.head.ensures _ c.in_err-h.was))

pub returns-in_err-check_body-clause-value : goal.returns-in_err-check_body-clause-value
returns-in_err-check_body-clause-value c =
    let count = c.table_size-count in
    let start = c.head_size-start in
    same_refusal c.from_residual-in_err-check_body.ensures.1
    (read_fault _ _ _ _
    (refused_by_body _ _ c.head.ensures _ c.in_ok-h.was _ count.ensures _ start.ensures _ c.check_body.ensures _ c.in_err-check_body.was))

pub returns : goal.returns
returns c =
    let head = c.head in
    let table_size_lem = c.table_size-count in
    let head_size_lem = c.head_size-start in
    let check-body = c.check_body in
    let read_pairs = c.read_pairs in
    let y = readable _ _ head.ensures _ c.in_ok-h.was _ table_size_lem.ensures _ head_size_lem.ensures _ check-body.ensures c.in_ok-check_body.was
    in record { value = read_done _ _ _ y _ _ (omega arith) (omega arith); c_after = read_c _ _ _ y _ head_size_lem.ensures _ _ read_pairs.ensures.c_after; s_after = read_s _ _ _ y _ head_size_lem.ensures _ _ read_pairs.ensures.s_after }
