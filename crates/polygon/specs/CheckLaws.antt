-- The checks of the calls on an outline: one law for each way through them, and what passed checks tell. Assumes nothing.
use Rattle.std.specs.Prelude.{◌≡◌, not, ℕ, ◌+◌, ◌≤◌, ◌<◌, ltb, eqb, Err, Ok, Result, ⊤}
use Rattle.std.proofs.Math.Path.{refl}
use Rattle.std.proofs.Common.{ap, ◌∙◌, lt-ltb, le-ltb}
use Rattle.std.proofs.Math.Dec.{nltb→le}
use Rattle.refusal.specs.declared.Refusal.{Refusal}
use Rattle.refusal.specs.declared.Refusal.TheVariants.{Size, Length, Space}
use Rattle.storage.specs.Checks.{stop, pass, different, equal, past, same}
use Rattle.polygon.specs.Checks.{room_for, vertices_check, outline_check}
use Rattle.refusal.specs.Numbers.{done_then, refused_then, value_if}

-- an outline that is accepted: a record, whose fields `omega` finds
pub record Vertices (v outline work : ℕ) : Type 0 where
  pub few : v ≤ 4096
  pub pairs : outline ≡ v + v
  pub of_work : v ≤ work

module _ (v outline work : ℕ) where
  pub too_many : 4096 < v → Err Size ≡ vertices_check v outline work
  unfolding vertices_check
  too_many h = stop _ _ (lt-ltb 4096 v h)

  pub not_pairs : v ≤ 4096 → (outline ≡ v + v → ⊥) → Err Length ≡ vertices_check v outline work
  unfolding vertices_check
  not_pairs h e = pass _ (le-ltb 4096 v h) (stop _ _ (different e))

  pub short_work : v ≤ 4096 → outline ≡ v + v → work < v → Err Space ≡ vertices_check v outline work
  unfolding vertices_check
  short_work h e g = pass _ (le-ltb 4096 v h) (pass _ (equal e) (stop _ _ (lt-ltb work v g)))

  pub vertices_done : v ≤ 4096 → outline ≡ v + v → v ≤ work → Ok tt ≡ vertices_check v outline work
  unfolding vertices_check
  vertices_done h e g = pass _ (le-ltb 4096 v h) (pass _ (equal e) (pass _ (le-ltb work v g) refl))

  pub vertices_accepted : Ok tt ≡ vertices_check v outline work → Vertices v outline work
  unfolding vertices_check
  vertices_accepted h =
      let (t, h1) = past (ltb 4096 v) Size _ h in
      let (p, h2) = past (not (eqb outline (v + v))) Length _ h1 in
      let (w, h3) = past (ltb work v) Space _ h2 in
      record { few = nltb→le 4096 v t; pairs = same outline (v + v) p; of_work = nltb→le work v w }

  -- ---- and the room for k numbers
  module _ (out k : ℕ) where
    pub refused_before : (e : Refusal) → Err e ≡ vertices_check v outline work → Err e ≡ outline_check v outline work out k
    unfolding outline_check
    refused_before e h = refused_then e _ h

    pub room_checked : Ok tt ≡ vertices_check v outline work → room_for out k ≡ outline_check v outline work out k
    unfolding outline_check
    room_checked h = done_then h refl

module _ (n k : ℕ) where
  pub room_short : n < k → Err Space ≡ room_for n k
  unfolding room_for
  room_short h = stop _ _ (lt-ltb n k h)

  pub room_enough : k ≤ n → Ok tt ≡ room_for n k
  unfolding room_for
  room_enough h = pass _ (le-ltb n k h) refl

-- ---- the answer of a call that is refused, and of one that is done
pub count_refused : {a : Result ⊤ Refusal} (n : ℕ) {e : Refusal} → Err e ≡ a → Err e ≡ value_if a n
count_refused n h = ap (λ (x : Result ⊤ Refusal). value_if x n) h

pub count_done : {a : Result ⊤ Refusal} {m n : ℕ} → Ok tt ≡ a → m ≡ n → Ok m ≡ value_if a n
count_done {a} {m} {n} h e = ap Ok e ∙ ap (λ (x : Result ⊤ Refusal). value_if x n) h
