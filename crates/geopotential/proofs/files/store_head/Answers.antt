-- `store_head` meets its contract. Assumes nothing.
use mathlib.Core.Path.{ap, ◌∙◌}
use Rattle.std.specs.Int.{from_bool}
use Rattle.coefficients.specs.Model.{dated_is}
use Rattle.geopotential.specs.Files.{words_stored}
use lib.ListN.{length-set}
use native.Mathlib.Omega.{arith}
use Rattle.geopotential.proofs.files.store_head.Goals as goal

pub bounds-out-1 : goal.bounds-out-1
bounds-out-1 c = simp length-set (omega arith)

pub bounds-out-2 : goal.bounds-out-2
bounds-out-2 c = simp length-set (omega arith)

pub bounds-out-3 : goal.bounds-out-3
bounds-out-3 c = simp length-set (omega arith)

pub bounds-out-4 : goal.bounds-out-4
bounds-out-4 c = simp length-set (omega arith)

pub bounds-out-5 : goal.bounds-out-5
bounds-out-5 c = simp length-set (omega arith)

pub returns : goal.returns
returns c =
    let a = c.args in
    words_stored a.h _ _ c.date_bits.result a.out.now (c.from-tide.ensures ∙ c.from.ensures) (c.from-2.ensures ∙ ap from_bool c.is_some.ensures ∙ dated_is a.h.date) c.date_bits.ensures
