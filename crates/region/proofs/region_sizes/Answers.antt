-- `region_sizes` meets its contract: no product is too large. Assumes nothing.
use native.Mathlib.Omega.{arith}
use mathlib.Core.Path.{◌≡◌, ◌∙◌}
use Prim.Native.Nat.{◌+◌, ◌*◌}
use borrow.Author.Rules.{rules}
use Rattle.storage.specs.Answers.{size_is}
use Rattle.region.specs.Storage.{Sized, sized, products}
use Rattle.region.proofs.region_sizes.Goals as goal

pub overflow_mul-result : goal.overflow_mul-result
overflow_mul-result c = let z = sized c.args.lmax c.requires c.basis_size-functions.ensures.fact_1 (c.table_size-table.ensures ∙ size_is c.args.lmax (omega (arith, c.requires))) in let p = products z.few z.short in omega (arith, p, z)

pub overflow_mul-result-2 : goal.overflow_mul-result-2
overflow_mul-result-2 c = let z = sized c.args.lmax c.requires c.basis_size-functions.ensures.fact_1 (c.table_size-table.ensures ∙ size_is c.args.lmax (omega (arith, c.requires))) in let p = products z.few z.short in omega (arith, p, z)

pub overflow_mul-result-3 : goal.overflow_mul-result-3
overflow_mul-result-3 c = let z = sized c.args.lmax c.requires c.basis_size-functions.ensures.fact_1 (c.table_size-table.ensures ∙ size_is c.args.lmax (omega (arith, c.requires))) in let p = products z.few z.short in omega (arith, p, z)

pub overflow_mul-result-4 : goal.overflow_mul-result-4
overflow_mul-result-4 c = let z = sized c.args.lmax c.requires c.basis_size-functions.ensures.fact_1 (c.table_size-table.ensures ∙ size_is c.args.lmax (omega (arith, c.requires))) in let p = products z.few z.short in omega (arith, p, z)

pub overflow_add-result : goal.overflow_add-result
overflow_add-result c = let z = sized c.args.lmax c.requires c.basis_size-functions.ensures.fact_1 (c.table_size-table.ensures ∙ size_is c.args.lmax (omega (arith, c.requires))) in let p = products z.few z.short in omega (arith, p, z)

pub overflow_mul-result-5 : goal.overflow_mul-result-5
overflow_mul-result-5 c = let z = sized c.args.lmax c.requires c.basis_size-functions.ensures.fact_1 (c.table_size-table.ensures ∙ size_is c.args.lmax (omega (arith, c.requires))) in let p = products z.few z.short in omega (arith, p, z)

pub overflow_add-result-2 : goal.overflow_add-result-2
overflow_add-result-2 c = let z = sized c.args.lmax c.requires c.basis_size-functions.ensures.fact_1 (c.table_size-table.ensures ∙ size_is c.args.lmax (omega (arith, c.requires))) in let p = products z.few z.short in omega (arith, p, z)

pub returns : goal.returns
returns c = sized c.args.lmax c.requires c.basis_size-functions.ensures.fact_1 (c.table_size-table.ensures ∙ size_is c.args.lmax (omega (arith, c.requires)))
