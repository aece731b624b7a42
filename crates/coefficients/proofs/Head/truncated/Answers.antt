-- `Head::truncated` meets its contract: past the checks both tables are copied up to the lower of the two degrees. Assumes nothing.
use Rattle.std.specs.Prelude.{Err, Ok}
use Rattle.storage.specs.Triangle.{row_start_monotone}
use native.Mathlib.Nat.{min-le_right}
use Rattle.storage.specs.Filled.{filled_to}
use Rattle.coefficients.specs.Cuts.{cut_promise}
use Rattle.coefficients.specs.Model.{model_refused, model_made}
use Rattle.coefficients.specs.declared.Head.{Head}
use Rattle.storage.specs.Answers.{size_is}
use Rattle.storage.specs.Checks.{outputs_passed}
use native.Mathlib.Omega.{arith}
use mathlib.Core.Path.{refl, ◌∙◌}
use Prim.Native.Nat.{◌+◌}
use Rattle.refusal.proofs.Exits.{same_refusal}
use Rattle.coefficients.proofs.Head.truncated.Goals as goal

pub copy-requires : goal.copy-requires
copy-requires c =
    let a = c.args in
    let i = min-le_right a.cut a.self.nmax in
    let m = c.smaller-top.ensures in
    let ok = c.in_ok-outputs_check.ensures in
    let o = outputs_passed _ _ _ _ _ _ ok in
    let h = row_start_monotone (c.smaller-top.result + 1) (a.self.nmax + 1) (omega arith) in
    let z = c.table_size-size.ensures ∙ size_is _ (omega arith) in
    record { fact_1 = omega arith; fact_2 = omega arith }

pub copy-requires-2 : goal.copy-requires-2
copy-requires-2 c =
    let a = c.args in
    let i = min-le_right a.cut a.self.nmax in
    let m = c.smaller-top.ensures in
    let ok = c.in_ok-outputs_check.ensures in
    let o = outputs_passed _ _ _ _ _ _ ok in
    let h = row_start_monotone (c.smaller-top.result + 1) (a.self.nmax + 1) (omega arith) in
    let z = c.table_size-size.ensures ∙ size_is _ (omega arith) in
    record { fact_1 = omega arith; fact_2 = omega arith }

pub returns-in_err-outputs_check : goal.returns-in_err-outputs_check
returns-in_err-outputs_check c =
    let a = c.args in
    let refused = c.in_err-outputs_check.ensures in
    let p = cut_promise a.self a.c.now a.s.now a.cut a.outc.now a.outs.now {r = Err c.in_err-outputs_check.field-0.0} {x' = a.outc.now} {y' = a.outs.now} (
    record { answers = rw (← c.smaller-top.ensures) (model_refused _ _ refused); leaves_c = refl; leaves_s = refl }) in
    rw (same_refusal c.from_residual.ensures.1 refl) (record { value = p.0; outc_after = p.1.0; outs_after = p.1.1 })

pub returns : goal.returns
returns c =
    let a = c.args in
    let i = min-le_right a.cut a.self.nmax in
    let m = c.smaller-top.ensures in
    let ok = c.in_ok-outputs_check.ensures in
    let o = outputs_passed _ _ _ _ _ _ ok in
    let z = c.table_size-size.ensures ∙ size_is _ (omega arith) in
    let head : Head = record { gm = a.self.gm; radius = a.self.radius; tide_system = a.self.tide_system; date = a.self.date; nmax = c.smaller-top.result } in
    let p = cut_promise a.self a.c.now a.s.now a.cut a.outc.now a.outs.now {r = Ok head} {x' = c.copy.new.out} {y' = c.copy-2.new.out} (
    record {
      answers = rw (← m) (model_made _ ok);
      leaves_c = rw (← m) (filled_to c.copy.ensures z).is;
      leaves_s = rw (← m) (filled_to c.copy-2.ensures z).is;
    }) in
    record { value = p.0; outc_after = p.1.0; outs_after = p.1.1 }
