-- `basis_size` meets its contract. Assumes nothing.
use native.Mathlib.Omega.{arith}
use mathlib.Core.Path.{refl}
use Rattle.region_nodes.specs.Basis.{basis_size}
use Rattle.region_nodes.specs.NodeLaws.{degree_within}
use borrow.Author.Rules.{rules}
use Rattle.regions.proofs.basis_size.Goals as goal

pub overflow_mul-result : goal.overflow_mul-result
unfolding basis_size
overflow_mul-result c = omega (arith, (degree_within 0 _ (omega arith) c.requires).places)

pub returns : goal.returns
unfolding basis_size
returns c = record { fact_1 = refl; fact_2 = (degree_within 0 _ (omega arith) c.requires).places }
