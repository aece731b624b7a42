-- `analysis_check` meets its contract: each way through it has its law. Assumes nothing.
use Rattle.analysis.specs.Checks.{large_degree, wrong_values, wrong_weights, wrong_pairs, wrong_orders, no_love, short_work, outputs}
use Rattle.storage.specs.Answers.{size_is}
use Rattle.storage.specs.Checks.{space_first, space_second, space_done}
use Rattle.storage.specs.Triangle.{table_size_most}
use native.Mathlib.Omega.{arith}
use mathlib.Core.Path.{◌∙◌}
use Rattle.analysis.proofs.analysis_check.Goals as goal

pub returns-then-nmax-gt-MAX_DEGREE : goal.returns-then-nmax-gt-MAX_DEGREE
returns-then-nmax-gt-MAX_DEGREE c = large_degree _ _ _ _ _ _ _ _ _ (omega arith)

pub returns-then-values-points : goal.returns-then-values-points
returns-then-values-points c = wrong_values _ _ _ _ _ _ _ _ _ (omega arith) (λ e. omega arith)

pub returns-then-weights-rows : goal.returns-then-weights-rows
returns-then-weights-rows c = wrong_weights _ _ _ _ _ _ _ _ _ (omega arith) (omega arith) (λ e. omega arith)

pub returns-then-lats-rows : goal.returns-then-lats-rows
returns-then-lats-rows c = wrong_pairs _ _ _ _ _ _ _ _ _ (omega arith) (omega arith) (omega arith) (λ e. omega arith)

pub returns-then-trig-points : goal.returns-then-trig-points
returns-then-trig-points c = wrong_orders _ _ _ _ _ _ _ _ _ (omega arith) (omega arith) (omega arith) (omega arith) (λ e. omega arith)

pub returns-then-lacks : goal.returns-then-lacks
returns-then-lacks c = no_love _ _ _ _ _ _ _ _ _ (omega arith) (omega arith) (omega arith) (omega arith) (omega arith) c.if-lacks.true

pub overflow_mul-size : goal.overflow_mul-size
overflow_mul-size c =
    let table_size_lem = c.table_size-size in
    let a = c.args in
    let z = table_size_lem.ensures ∙ size_is a.nmax (omega arith) in
    let most = table_size_most a.nmax (omega arith) in omega arith

pub returns-then-work-size : goal.returns-then-work-size
returns-then-work-size c =
    let table_size_lem = c.table_size-size in
    let a = c.args in
    let z = table_size_lem.ensures ∙ size_is a.nmax (omega arith) in
    short_work _ _ _ _ _ _ _ _ _ (omega arith) (omega arith) (omega arith) (omega arith) (omega arith) c.if-lacks.false (omega arith)

pub returns-then-c-size : goal.returns-then-c-size
returns-then-c-size c =
    let table_size_lem = c.table_size-size in
    let a = c.args in
    let if6 = c.if-lacks in
    let z = table_size_lem.ensures ∙ size_is a.nmax (omega arith) in
    outputs _ _ _ _ _ _ _ _ _ (omega arith) (omega arith) (omega arith) (omega arith) (omega arith) if6.false (omega arith)
    (space_first _ _ _ (omega arith))

pub returns-then-s-size : goal.returns-then-s-size
returns-then-s-size c =
    let table_size_lem = c.table_size-size in
    let a = c.args in
    let if6 = c.if-lacks in
    let z = table_size_lem.ensures ∙ size_is a.nmax (omega arith) in
    outputs _ _ _ _ _ _ _ _ _ (omega arith) (omega arith) (omega arith) (omega arith) (omega arith) if6.false (omega arith)
    (space_second _ _ _ (omega arith) (omega arith))

pub returns : goal.returns
returns c =
    let table_size_lem = c.table_size-size in
    let a = c.args in
    let if6 = c.if-lacks in
    let z = table_size_lem.ensures ∙ size_is a.nmax (omega arith) in
    outputs _ _ _ _ _ _ _ _ _ (omega arith) (omega arith) (omega arith) (omega arith) (omega arith) if6.false (omega arith)
    (space_done _ _ _ (omega arith) (omega arith))
