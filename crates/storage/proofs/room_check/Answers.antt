-- `room_check` meets its contract: each way through it has its law. Assumes nothing.
use Rattle.storage.specs.Answers.{size_is}
use Rattle.storage.specs.Checks.{space_check, room_size, room_space}
use native.Mathlib.Omega.{arith}
use mathlib.Core.Path.{ap, ◌∙◌}
use Prim.Native.Nat.{ℕ}
use borrow.Author.Rules.{rules}
use Rattle.storage.proofs.room_check.Goals as goal

pub returns-then-nmax-gt-MAX_DEGREE : goal.returns-then-nmax-gt-MAX_DEGREE
returns-then-nmax-gt-MAX_DEGREE c = room_size _ _ _ (omega arith)

pub returns : goal.returns
returns c =
    let a = c.args in
    let z = c.table_size.ensures ∙ size_is a.nmax (omega arith) in
    c.space_check.ensures ∙ ap (λ (n : ℕ). space_check n a.a a.b) z ∙ room_space _ _ _ (omega arith)
