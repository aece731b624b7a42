-- `storage::place` meets its contract: each way through its checks has its law, and the product fits. Assumes nothing.
use native.Mathlib.Omega.{arith}
use Rattle.storage.specs.Answers.{place_size, place_degree, place_order, place_at}
use Rattle.storage.specs.Triangle.{row_start}
use Rattle.storage.proofs.Fits.{product_fits, index_fits}
use Rattle.storage.proofs.place.Goals as goal

pub returns-then-nmax-gt-MAX_DEGREE : goal.returns-then-nmax-gt-MAX_DEGREE
returns-then-nmax-gt-MAX_DEGREE c = place_size _ _ _ (omega arith)

pub returns-then-n-nmax : goal.returns-then-n-nmax
returns-then-n-nmax c = place_degree _ _ _ (omega arith) (omega arith)

pub returns-then-m-n : goal.returns-then-m-n
returns-then-m-n c = place_order _ _ _ (omega arith) (omega arith) (omega arith)

pub overflow_mul-result : goal.overflow_mul-result
overflow_mul-result c = record { fits = product_fits (omega arith) (omega arith) }

pub overflow_add-result-2 : goal.overflow_add-result-2
overflow_add-result-2 c = record { fits = index_fits (omega arith) (omega arith) (omega arith) }

pub returns : goal.returns
unfolding row_start
returns c = place_at _ _ _ (omega arith) (omega arith) (omega arith)
