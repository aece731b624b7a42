-- `read_date` meets its contract. Assumes nothing.
use Rattle.std.specs.Prelude.{Some}
use mir.ValLaws.{to_z-of_z}
use mir.Syntax.{w32}
use Rattle.days.specs.Days.{days_of, days_fit}
use Rattle.model_file.specs.Dates.{date_stated, date_absent}
use Rattle.model_file.specs.Format.{head_size}
use native.Mathlib.Omega.{arith}
use mathlib.Core.Path.{sym, ap, ◌∙◌}
use Rattle.model_file.proofs.read_date.Goals as goal

pub read_pattern-requires : goal.read_pattern-requires
read_pattern-requires c = omega (arith, ap head_size (date_stated c.args.bytes.now (omega arith)))

pub returns-then-bytes-eq4 : goal.returns-then-bytes-eq4
returns-then-bytes-eq4 c =
    let read-pattern = c.read_pattern in
    let a = c.args in
    ap Some (to_z-of_z w32 c.days_of.result (rw c.days_of.ensures (days_fit read-pattern.result (omega (arith, read-pattern.ensures.upper_bound)))) ∙
    c.days_of.ensures ∙ ap days_of read-pattern.ensures.value) ∙ sym (date_stated a.bytes.now (omega arith))

pub returns : goal.returns
returns c = sym (date_absent c.args.bytes.now (λ e. omega arith))
