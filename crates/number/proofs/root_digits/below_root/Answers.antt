-- `number::root_digits::below_root` meets its contract. Assumes nothing.
use borrow.Author.Rules.{rules}
use native.Mathlib.Omega.{arith}
use Rattle.number.proofs.Squares.{compares, H-le, L-le, m_le}
use Rattle.number.proofs.root_digits.below_root.Goals as goal

pub overflow_mul-m-2 : goal.overflow_mul-m-2
overflow_mul-m-2 c = omega (arith, m_le c.args.q c.requires.fact_2)

pub overflow_mul-high : goal.overflow_mul-high
overflow_mul-high c = omega (arith, H-le c.args.q c.requires.fact_2)

pub overflow_add-high : goal.overflow_add-high
overflow_add-high c = omega (arith, m_le c.args.q c.requires.fact_2, H-le c.args.q c.requires.fact_2)

pub overflow_mul-low-2 : goal.overflow_mul-low-2
overflow_mul-low-2 c = omega (arith, L-le c.args.q)

pub overflow_add-low : goal.overflow_add-low
overflow_add-low c = omega (arith, L-le c.args.q)

pub overflow_add-result : goal.overflow_add-result
overflow_add-result c = omega (arith, L-le c.args.q)

pub overflow_add-result-2 : goal.overflow_add-result-2
overflow_add-result-2 c = omega (arith, m_le c.args.q c.requires.fact_2, H-le c.args.q c.requires.fact_2, L-le c.args.q)

pub returns : goal.returns
returns c = compares c.args.a c.args.q c.requires.fact_2
