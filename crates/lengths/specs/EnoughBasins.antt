-- The same as Enough for outlines and the kernels of basins, whatever the outline and the colatitude are. Assumes nothing.
use Rattle.std.specs.Prelude.{◌≡◌, List, [], ◌∷◌, ℕ, ◌+◌, ◌*◌, ◌/◌, length, Float, Ok}
use Rattle.std.proofs.Common.{◌∙◌, arith}
use Rattle.storage.specs.Triangle.{table_size}
use Rattle.region_nodes.specs.Regions.{integrals}
use Rattle.regions.specs.CheckLaws.{nodes_done}
use Rattle.polygon.specs.Outline.{intervals_of, breaks_of}
use Rattle.polygon.specs.Checks.{outline_check}
use Rattle.polygon.specs.CheckLaws.{vertices_done, room_enough, room_checked}
use Rattle.polygon.specs.EndsLaws.{crossings_few, length_intervals}
use Rattle.polygon.specs.BreaksLaws.{breaks_few}
use Rattle.basin_kernel.specs.Kernel.{kernel_check}
use Rattle.basin_kernel.specs.CheckLaws.{kernel_done}
use Rattle.lengths.specs.Told.{size_check, within}
use Rattle.lengths.specs.Lengths.{degree_size, intervals_lengths, breaks_lengths, kernel_sizes, kernel_lengths}
use Rattle.refusal.specs.Numbers.{both}

-- `polygon_intervals`
pub intervals_enough : (v : ℕ) (outline : List Float) (θ : Float) (work out : ℕ) → Ok tt ≡ size_check 4096 v
    → length outline ∷ work ∷ out ∷ [] ≡ intervals_lengths v → Ok tt ≡ outline_check v (length outline) work out (length (intervals_of v outline θ))
unfolding intervals_lengths
intervals_enough v outline θ work out ok e =
    let pairs : length outline ≡ v + v = cc in
    let w : work ≡ v = cc in
    let o : out ≡ v / 2 * 2 = cc in
    let few = crossings_few v outline θ in
    let long = length_intervals v outline θ in
    room_enough out (length (intervals_of v outline θ)) (omega arith)
    ∙ room_checked v (length outline) work out (length (intervals_of v outline θ))
    (vertices_done v (length outline) work (within 4096 v ok) pairs (omega arith))

-- `polygon_breaks`
pub breaks_enough : (v : ℕ) (outline : List Float) (work out : ℕ) → Ok tt ≡ size_check 4096 v → length outline ∷ work ∷ out ∷ [] ≡ breaks_lengths v
    → Ok tt ≡ outline_check v (length outline) work out (length (breaks_of v outline))
unfolding breaks_lengths
breaks_enough v outline work out ok e =
    let pairs : length outline ≡ v + v = cc in
    let w : work ≡ v = cc in
    let o : out ≡ v = cc in
    let few = breaks_few v outline in
    room_enough out (length (breaks_of v outline)) (omega arith)
    ∙ room_checked v (length outline) work out (length (breaks_of v outline))
    (vertices_done v (length outline) work (within 4096 v ok) pairs (omega arith))

-- `basin_kernel`
pub kernel_enough : (L nodes weights lats marks s c work kc ks : ℕ) → Ok tt ≡ kernel_sizes L nodes
    → weights ∷ lats ∷ marks ∷ s ∷ c ∷ work ∷ kc ∷ ks ∷ [] ≡ kernel_lengths L nodes → Ok tt ≡ kernel_check L nodes weights lats marks s c work kc ks
unfolding kernel_lengths integrals
kernel_enough L nodes weights lats marks s c work kc ks ok e =
    let (top, few) = both (degree_size L) (size_check 65535 nodes) ok in
    let p : weights ≡ nodes = cc in
    let q : lats ≡ nodes + nodes = cc in
    let m : marks ≡ nodes = cc in
    let i : s ≡ nodes * integrals L = cc in
    let j : c ≡ nodes * integrals L = cc in
    let w : work ≡ 3 * table_size L = cc in
    let k : kc ≡ table_size L = cc in
    let l : ks ≡ table_size L = cc in
    let n = nodes_done 2700 L nodes weights lats marks s c (within 2700 L top) (within 65535 nodes few) p q m i j in
    kernel_done L nodes weights lats marks s c work kc ks n (omega arith) (omega arith) (omega arith)
