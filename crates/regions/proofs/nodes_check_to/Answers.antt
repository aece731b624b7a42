-- `nodes_check_to` meets its contract: each way through it has its law. Assumes nothing.
use native.Mathlib.Omega.{arith}
use Prim.Native.Nat.{◌+◌}
use native.Mathlib.Nat.{mul-le-mul_right}
use Rattle.regions.specs.CheckLaws.{high_degree, many_nodes, wrong_weights, wrong_latitudes, wrong_marks, wrong_s, wrong_c, nodes_done}
use borrow.Author.Rules.{rules}
use Rattle.regions.proofs.nodes_check_to.Goals as goal

pub returns-then-lmax-most : goal.returns-then-lmax-most
returns-then-lmax-most c = high_degree _ _ _ _ _ _ _ _ (omega arith)

pub returns-then-nodes-gt-MAX_REGION_NODES : goal.returns-then-nodes-gt-MAX_REGION_NODES
returns-then-nodes-gt-MAX_REGION_NODES c = many_nodes _ _ _ _ _ _ _ _ (omega arith) (omega arith)

pub returns-then-weights-nodes : goal.returns-then-weights-nodes
returns-then-weights-nodes c = wrong_weights _ _ _ _ _ _ _ _ (omega arith) (omega arith) (λ e. omega arith)

pub returns-then-latitudes-nodes : goal.returns-then-latitudes-nodes
returns-then-latitudes-nodes c = wrong_latitudes _ _ _ _ _ _ _ _ (omega arith) (omega arith) (omega arith) (λ e. omega arith)

pub returns-then-marks-nodes : goal.returns-then-marks-nodes
returns-then-marks-nodes c = wrong_marks _ _ _ _ _ _ _ _ (omega arith) (omega arith) (omega arith) (omega arith) (λ e. omega arith)

pub overflow_mul-integrals : goal.overflow_mul-integrals
overflow_mul-integrals c =
    omega (arith, mul-le-mul_right (c.args.lmax + c.args.lmax + 1) c.if-nodes-gt-MAX_REGION_NODES.false)

pub returns-then-s-integrals : goal.returns-then-s-integrals
returns-then-s-integrals c = wrong_s _ _ _ _ _ _ _ _ (omega arith) (omega arith) (omega arith) (omega arith) (omega arith) (λ e. omega arith)

pub returns-then-c-integrals : goal.returns-then-c-integrals
returns-then-c-integrals c = wrong_c _ _ _ _ _ _ _ _ (omega arith) (omega arith) (omega arith) (omega arith) (omega arith) (omega arith) (λ e. omega arith)

pub returns : goal.returns
returns c = nodes_done _ _ _ _ _ _ _ _ (omega arith) (omega arith) (omega arith) (omega arith) (omega arith) (omega arith) (omega arith)
