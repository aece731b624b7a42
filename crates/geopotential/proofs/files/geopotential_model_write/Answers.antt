-- `geopotential_model_write` meets its contract. Assumes nothing.
use Rattle.std.specs.Prelude.{Option, ℤ}
use mir.Syntax.{w32}
use mir.ValLaws.{to_z-of_z}
use Rattle.coefficients.specs.Model.{date_of, date_is}
use Rattle.geopotential.specs.Files.{write_tide, write_model_lem}
use mathlib.Core.Path.{ap₂}
use Rattle.model_file.specs.declared.FileHead.{FileHead}
use Rattle.coefficients.specs.declared.TideSystem.{TideSystem}
use mathlib.Core.Path.{ap, ◌∙◌}
use Prim.Native.Nat.{ℕ}
use Rattle.geopotential.proofs.files.geopotential_model_write.Goals as goal

with_parts : (gm radius nmax : ℕ) → TideSystem → Option ℤ → FileHead
with_parts gm radius nmax t d = record { gm = gm; radius = radius; tide = t; date = d; nmax = nmax }

pub returns-then-tide-gt3 : goal.returns-then-tide-gt3
returns-then-tide-gt3 c =
    let all = write_tide _ _ _ _ _ _ _ _ _ c.if-tide-gt3.true in
    record { value = all.0; out_after = all.1 }

pub returns : goal.returns
unfolding with_parts
returns c =
    let if1 = c.if-tide-gt3 in
    let a = c.args in
    let fits = c.ranges in
    let write = c.write in
    let all = write_model_lem _ _ _ _ _ _ _ _ _ if1.false
    (ap₂ (with_parts a.gm a.radius a.nmax) c.from-system.ensures (c.then_some.ensures ∙ date_is _ _ ∙ ap (date_of a.dated) (to_z-of_z w32 a.days fits.days)))
    write.ensures.value c.result_number.ensures write.ensures.out_after in
    record { value = all.0; out_after = all.1 }
