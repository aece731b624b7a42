-- `number::root_digits::scaled` meets its contract. Assumes nothing.
use borrow.Author.Rules.{rules}
use Rattle.number.proofs.Scaled.{packed_root}
use Rattle.number.proofs.root_digits.scaled.Goals as goal

pub returns : goal.returns
returns c =
    let a = c.radicand in
    packed_root c.args.v a.result c.correct.result a.ensures.value c.correct.ensures
