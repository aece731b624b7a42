-- The checks of the calls on an outline, and what they answer. Definitions only.
use Rattle.std.specs.Prelude.{not, ℕ, ◌+◌, ltb, eqb, Ok, Result, ⊤}
use Rattle.refusal.specs.Numbers.{refuse, ◌and_then◌}
use Rattle.refusal.specs.declared.Refusal.TheVariants.{Size, Length, Space}
use Rattle.refusal.specs.declared.Refusal.{Refusal}

-- SPACE: a list of n numbers is too short for k
unfoldable pub room_for : ℕ → ℕ → Result ⊤ Refusal
room_for n k = refuse (ltb n k) Space (Ok tt)

-- SIZE of the count of vertices; LENGTH of their list; SPACE of the working list, one number for each vertex
unfoldable pub vertices_check : (v outline work : ℕ) → Result ⊤ Refusal
vertices_check v outline work = refuse (ltb 4096 v) Size (refuse (not (eqb outline (v + v))) Length (refuse (ltb work v) Space (Ok tt)))

-- then SPACE of the output, for k numbers
unfoldable pub outline_check : (v outline work out k : ℕ) → Result ⊤ Refusal
outline_check v outline work out k = vertices_check v outline work and_then room_for out k
