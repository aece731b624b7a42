-- `rotate_at` meets its contract: the size is stored before the rotation. Assumes nothing.
use Rattle.ql.specs.QlLaws.{sized, sized_lists}
use mathlib.Core.Path.{refl}
use borrow.Author.Rules.{rules}
use Rattle.ql.proofs.rotate_at.Goals as goal

pub rotate_by-requires : goal.rotate_by-requires
rotate_by-requires c = record { fact_1 = sized_lists _ _ c.requires.fact_1; fact_2 = c.requires.fact_2; fact_3 = c.requires.fact_3 }

pub returns : goal.returns
returns c = sized _ _ _ _ _ _ _ _ _ _ refl refl c.hypot-r.ensures
    c.rotate_by.ensures
