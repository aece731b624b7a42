-- `write_date` meets its contract. Assumes nothing.
use Rattle.days.specs.Days.{pattern_of}
use mir.ValLaws.{to_z-of_z}
use mir.Syntax.{w32}
use mir.Val.{SFits}
use Rattle.model_file.proofs.Stores.{no_date, stated_date}
use Rattle.model_file.specs.Format.{head_size}
use native.Mathlib.Omega.{arith}
use mathlib.Core.Path.{ap, ◌∙◌}
use borrow.Author.Rules.{rules}
use Rattle.model_file.proofs.write_date.Goals as goal

pub write_pattern-requires : goal.write_pattern-requires
write_pattern-requires c = omega (arith, ap head_size c.in-Some.is)

pub returns-in-None : goal.returns-in-None
returns-in-None c = no_date c.args.out.now c.args.date c.in-None.is

pub returns-in-Some : goal.returns-in-Some
returns-in-Some c =
    let a = c.args in
    let write-pattern = c.write_pattern in
    let days-pattern = c.days_pattern in
    let f : SFits w32 c.in-Some.days = search rules in
    stated_date a.out.now write-pattern.new.out a.date c.in-Some.days days-pattern.result c.in-Some.is
    (days-pattern.ensures ∙ ap pattern_of (to_z-of_z w32 c.in-Some.days f)) write-pattern.ensures
