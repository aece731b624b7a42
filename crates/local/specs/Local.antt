-- Acceleration and gravity at a point in local components (north, east, up), from the partial derivatives there. Definitions only.
use Rattle.std.specs.Prelude.{List, [], ◌∷◌, Float}
use Rattle.number.specs.Float64.{◌⊕◌, ◌⊖◌, ◌⊗◌, ◌⊘◌}
use Rattle.local.specs.declared.Partials.{Partials}

-- ∇V at radius r and the latitude with the cosine u
abbrev pub acceleration_of : Partials → (r u : Float) → List Float
acceleration_of p r u = (p.dlat ⊘ r) ∷ ((p.dlon ⊘ (r ⊗ u)) ∷ (p.dr ∷ []))

-- ∇W: the acceleration and the centrifugal term of a rotation at the rate ω, at the latitude with the sine t and the cosine u
abbrev pub gravity_of : Partials → (r t u ω : Float) → List Float
gravity_of p r t u ω =
    let w2r = ω ⊗ ω ⊗ r in
    (p.dlat ⊘ r ⊖ w2r ⊗ u ⊗ t) ∷ ((p.dlon ⊘ (r ⊗ u)) ∷ ((p.dr ⊕ w2r ⊗ u ⊗ u) ∷ []))
