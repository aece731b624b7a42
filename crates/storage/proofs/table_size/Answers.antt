-- `storage::table_size` meets its contract: the product fits, and its half is the number of entries. Assumes nothing.
use native.Mathlib.Omega.{arith}
use mathlib.Core.Path.{sym, ◌∙◌}
use Rattle.storage.specs.Answers.{size_none, size_is}
use Rattle.storage.specs.Triangle.{table_size_lem}
use Rattle.storage.proofs.Fits.{product_fits}
use Rattle.storage.proofs.table_size.Goals as goal

pub returns-then-nmax-gt-MAX_DEGREE : goal.returns-then-nmax-gt-MAX_DEGREE
returns-then-nmax-gt-MAX_DEGREE c = sym (size_none _ (omega arith))

pub overflow_mul-result : goal.overflow_mul-result
overflow_mul-result c = record { fits = product_fits (omega arith) (omega arith) }

pub returns : goal.returns
returns c = sym (size_is _ (omega arith) ∙ table_size_lem _)
