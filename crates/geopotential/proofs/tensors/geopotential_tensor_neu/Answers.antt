-- `geopotential_tensor_neu` meets its contract. Assumes nothing.
use Rattle.geopotential.specs.Points.{out_short, out_done}
use Rattle.local.specs.Second.{tensor_cell}
use Rattle.storage.specs.Rectangle.{by_rows}
use Rattle.storage.specs.Fill.{fill}
use mathlib.Core.List.{List}
use lib.Ieee.{Float}
use native.Mathlib.Omega.{arith}
use mathlib.Core.Path.{refl, ap, ◌∙◌}
use borrow.Author.Rules.{rules}
use Rattle.geopotential.proofs.tensors.geopotential_tensor_neu.Goals as goal

pub returns-then-out-lt9 : goal.returns-then-out-lt9
returns-then-out-lt9 c = let e = out_short 9 _ c.if-out-lt9.true in record { value = rw (← e) refl; out_after = rw (← e) refl }

pub returns : goal.returns
returns c =
    let out = c.args.out.now in
    let tensor = c.tensor_neu-tensor.ensures in
    let stored = c.store_nine.ensures.is in
    let e = out_done 9 _ c.if-out-lt9.false in
    record { value = rw (← e) refl; out_after = rw (← e) (stored ∙ ap (λ (g : List (List Float)). fill 0 (by_rows (tensor_cell g) 3) 9 out) tensor) }
