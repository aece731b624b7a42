-- `date_bits` meets its contract. Assumes nothing.
use Rattle.geopotential.specs.Files.{date_bits}
use Rattle.days.specs.Days.{pattern_of}
use mir.ValLaws.{to_z-of_z}
use mir.Syntax.{w32}
use mir.Val.{SFits}
use mathlib.Core.Path.{sym, ap, ◌∙◌}
use borrow.Author.Rules.{rules}
use Rattle.geopotential.proofs.files.date_bits.Goals as goal

pub returns-in-Some : goal.returns-in-Some
returns-in-Some c =
    let f : SFits w32 c.in-Some.days = search rules in
    c.days_pattern.ensures ∙ ap pattern_of (to_z-of_z w32 c.in-Some.days f) ∙ sym
    (ap date_bits c.in-Some.is)
