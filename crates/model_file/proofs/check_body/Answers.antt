-- `check_body` meets its contract: each turn takes one record, and what is left says what the whole says. Assumes nothing.
use Rattle.model_file.specs.Body.{body_absent, pair_kind, pair_short, pair_next, end_kind, end_after, body_done}
use native.Mathlib.Omega.{arith}
use mathlib.Core.Path.{refl, ◌∙◌}
use Rattle.model_file.proofs.check_body.Goals as goal

pub loop-left-init : goal.loop-left-init
loop-left-init c = refl

pub returns-then-bytes-at : goal.returns-then-bytes-at
returns-then-bytes-at c = body_absent c.args.bytes.now c.loop-left.at c.loop-left._left (omega arith) ∙ c.loop-left.invariant

pub returns-then-kind-ne2 : goal.returns-then-kind-ne2
returns-then-kind-ne2 c =
    pair_kind c.args.bytes.now c.loop-left.at c.loop-left._left (omega arith) (omega arith) (λ e. omega arith) ∙ c.loop-left.invariant

pub returns-then-bytes-at-2 : goal.returns-then-bytes-at-2
returns-then-bytes-at-2 c =
    pair_short c.args.bytes.now c.loop-left.at c.loop-left._left (omega arith) (omega arith) (omega arith) (omega arith) ∙ c.loop-left.invariant

pub loop-left-preserved : goal.loop-left-preserved
loop-left-preserved c =
    pair_next c.args.bytes.now c.loop-left.at c.loop-left._left (omega arith) (omega arith) (omega arith) (omega arith) ∙ c.loop-left.invariant

pub returns-then-bytes-at-3 : goal.returns-then-bytes-at-3
returns-then-bytes-at-3 c = body_absent c.args.bytes.now c.loop-left.at c.loop-left._left (omega arith) ∙ c.loop-left.invariant

pub returns-then-kind-ne3 : goal.returns-then-kind-ne3
returns-then-kind-ne3 c =
    end_kind c.args.bytes.now c.loop-left.at c.loop-left._left (omega arith) (omega arith) (λ e. omega arith) ∙ c.loop-left.invariant

pub returns-then-at-bytes : goal.returns-then-at-bytes
returns-then-at-bytes c =
    end_after c.args.bytes.now c.loop-left.at c.loop-left._left (omega arith) (omega arith) (omega arith) (omega arith) ∙ c.loop-left.invariant

pub returns : goal.returns
returns c =
    body_done c.args.bytes.now c.loop-left.at c.loop-left._left (omega arith) (omega arith) (omega arith) (omega arith) ∙ c.loop-left.invariant
