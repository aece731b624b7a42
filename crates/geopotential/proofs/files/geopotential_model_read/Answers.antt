-- `geopotential_model_read` meets its contract. Assumes nothing.
use Rattle.std.specs.Prelude.{Err, Ok}
use native.Mathlib.Omega.{arith}
use mathlib.Core.Path.{refl, sym, ap, ◌∙◌}
use mathlib.Core.List.{List}
use Prim.Native.Nat.{ℕ}
use lib.ListN.{length}
use Rattle.storage.specs.Store.{store}
use Rattle.model_file.specs.Format.{parse}
use Rattle.model_file.specs.Answers.{c_of, s_of}
use Rattle.geopotential.specs.Files.{words_of, read_short, short_kept, read_refused, read_model}
use Rattle.geopotential.proofs.files.geopotential_model_read.Goals as goal

pub returns-then-head-lt6 : goal.returns-then-head-lt6
returns-then-head-lt6 c =
    let a = c.args in
    let p = parse a.bytes.now in
    let lc = length a.c.now in
    let ls = length a.s.now in
    let lh = length a.head.now in record { value = read_short lc ls lh p (omega arith) c.verdict.ensures c.or_space.ensures; c_after = short_kept lc ls lh p (store 0 (c_of p) a.c.now) a.c.now (omega arith); s_after = short_kept lc ls lh p (store 0 (s_of p) a.s.now) a.s.now (omega arith); head_after = short_kept lc ls lh p (store 0 (words_of p) a.head.now) a.head.now (omega arith) }

pub returns-in-Err : goal.returns-in-Err
returns-in-Err c =
    let a = c.args in
    let p = parse a.bytes.now in
    let i = read_refused (length a.c.now) (length a.s.now) (length a.head.now) p _ (omega arith) (sym c.in-Err.is ∙ c.read.ensures.value) in record { value = rw (← i) c.from.ensures; c_after = rw (← i) (rw c.in-Err.is at c.read.ensures.c_after); s_after = rw (← i) (rw c.in-Err.is at c.read.ensures.s_after); head_after = rw (← i) refl }

pub returns-in-Ok : goal.returns-in-Ok
returns-in-Ok c =
    let a = c.args in
    let p = parse a.bytes.now in
    let k = read_model (length a.c.now) (length a.s.now) (length a.head.now) p _ (omega arith) (sym c.in-Ok.is ∙ c.read.ensures.value) in
    let d = k.0 in record { value = rw (← d) refl; c_after = rw (← d) (rw c.in-Ok.is at c.read.ensures.c_after); s_after = rw (← d) (rw c.in-Ok.is at c.read.ensures.s_after); head_after = rw (← d) (c.store_head.ensures ∙ ap (λ (w : List ℕ). store 0 w a.head.now) k.1) }
