use Rattle.variance_report.proofs.Cases.{told_head, told_size, told_body, told_model, parts}
use native.Mathlib.Omega.{arith}
use mathlib.Core.Path.{refl}
use Rattle.variance_report.proofs.report.Goals as goal

pub returns-then-nmax-gt86 : goal.returns-then-nmax-gt86
returns-then-nmax-gt86 c =
    let head = c.head in
    let a = c.args in
    let w = told_size a.bytes.now a.out.now c.write_refused-then-nmax-gt86.new.out (omega arith) _ head.ensures _ c.in-Ok.is _ (omega arith)
    c.write_refused-then-nmax-gt86.ensures.value c.write_refused-then-nmax-gt86.ensures.out_after in
    record { value = w.end; out_after = w.text; prefix = w.prefix }

pub slice_bounds-c-end : goal.slice_bounds-c-end
slice_bounds-c-end c =
    let head = c.head in
    let table_size_lem = c.table_size-t in
    let read = c.read in
    let a = c.args in
    let p = parts a.bytes.now a.out.now a.out.now (omega arith) _ head.ensures _ c.in-Ok.is (omega arith) _
    read.ensures.value _ c.in-Ok-read.is _ _ _ _ _ table_size_lem.ensures refl refl read.ensures.c_after read.ensures.s_after in
    omega (arith, p.c_part_long)

pub slice_bounds-write_model-end-in-Ok-read : goal.slice_bounds-write_model-end-in-Ok-read
slice_bounds-write_model-end-in-Ok-read c =
    let head = c.head in
    let table_size_lem = c.table_size-t in
    let read = c.read in
    let a = c.args in
    let p = parts a.bytes.now a.out.now a.out.now (omega arith) _ head.ensures _ c.in-Ok.is (omega arith) _ read.ensures.value _
    c.in-Ok-read.is _ _ _ _ _ table_size_lem.ensures refl refl read.ensures.c_after read.ensures.s_after in
    p.c_fits

pub slice_bounds-s-end : goal.slice_bounds-s-end
slice_bounds-s-end c =
    let head = c.head in
    let table_size_lem = c.table_size-t in
    let read = c.read in
    let a = c.args in
    let p = parts a.bytes.now a.out.now a.out.now (omega arith) _ head.ensures _ c.in-Ok.is (omega arith) _ read.ensures.value _
    c.in-Ok-read.is _ _ _ _ _ table_size_lem.ensures refl refl read.ensures.c_after read.ensures.s_after in
    omega (arith, p.s_part_long)

pub slice_bounds-write_model-end-in-Ok-read-2 : goal.slice_bounds-write_model-end-in-Ok-read-2
slice_bounds-write_model-end-in-Ok-read-2 c =
    let head = c.head in
    let table_size_lem = c.table_size-t in
    let read = c.read in
    let a = c.args in
    let p = parts a.bytes.now a.out.now a.out.now (omega arith) _ head.ensures _ c.in-Ok.is (omega arith) _ read.ensures.value _
    c.in-Ok-read.is _ _ _ _ _ table_size_lem.ensures refl refl read.ensures.c_after read.ensures.s_after in
    p.s_fits

pub write_model-requires : goal.write_model-requires
write_model-requires c =
    let head = c.head in
    let table_size_lem = c.table_size-t in
    let read = c.read in
    let a = c.args in
    let p = parts a.bytes.now a.out.now a.out.now (omega arith) _ head.ensures _ c.in-Ok.is (omega arith) _ read.ensures.value _
    c.in-Ok-read.is _ _ _ _ _ table_size_lem.ensures refl refl read.ensures.c_after read.ensures.s_after in
    (omega arith, omega arith, omega arith, omega arith)

pub returns-in-Err : goal.returns-in-Err
returns-in-Err c =
    let head = c.head in
    let a = c.args in
    let w = told_head a.bytes.now a.out.now c.write_refused.new.out (omega arith) _ head.ensures _ _ c.in-Err.is
    c.write_refused.ensures.value c.write_refused.ensures.out_after in
    record { value = w.end; out_after = w.text; prefix = w.prefix }

pub returns-in-Err-read : goal.returns-in-Err-read
returns-in-Err-read c =
    let read = c.read in
    let head = c.head in
    let a = c.args in
    let w = told_body a.bytes.now a.out.now c.write_refused-in-Err-read.new.out (omega arith) _ head.ensures _ c.in-Ok.is (omega arith) _
    read.ensures.value _ _ c.in-Err-read.is c.write_refused-in-Err-read.ensures.value c.write_refused-in-Err-read.ensures.out_after in
    record { value = w.end; out_after = w.text; prefix = w.prefix }

pub returns-in-Ok-read : goal.returns-in-Ok-read
returns-in-Ok-read c =
    let head = c.head in
    let table_size_lem = c.table_size-t in
    let read = c.read in
    let a = c.args in
    let w = told_model a.bytes.now a.out.now c.write_model.new.out (omega arith) _ head.ensures _ c.in-Ok.is (omega arith) _
    read.ensures.value _ c.in-Ok-read.is _ _ _ _ _ table_size_lem.ensures refl refl read.ensures.c_after read.ensures.s_after _
    c.write_model.ensures.value c.write_model.ensures.out_after in
    record { value = w.end; out_after = w.text; prefix = w.prefix }
