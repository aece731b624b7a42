-- `functions::number_of` meets its contract: each way through it has its law. Assumes nothing.
use borrow.Author.Rules.{rules}
use Rattle.region.specs.Written.{sine_none, sine_some, cosine_none, cosine_some}
use Rattle.region.proofs.functions.number_of.Goals as goal

pub returns-then-m-eq0 : goal.returns-then-m-eq0
returns-then-m-eq0 c = sine_none _ _ _ c.if-sine.true c.if-m-eq0.true

pub returns-then-sine : goal.returns-then-sine
returns-then-sine c = sine_some _ _ _ c.if-sine.true c.if-m-eq0.false

pub returns-then-m-eq0-2 : goal.returns-then-m-eq0-2
returns-then-m-eq0-2 c = cosine_none _ _ _ c.if-sine.false c.if-m-eq0-2.true

pub returns : goal.returns
returns c = cosine_some _ _ _ c.if-sine.false c.if-m-eq0-2.false
