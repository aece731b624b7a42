-- A loop whose state has a flag that ends it and a count: a step raises the flag and counts nothing, or is counted. So the flag and the count tell each
-- other. Assumes nothing.
use Rattle.std.specs.Prelude.{◌≡◌, refl, Bool, true, false}
use Rattle.std.proofs.Common.{sym, subst, ◌∙◌, true≢false}
use Prim.Native.Nat.{ℕ, zero, suc, ◌+◌, ◌≤◌, ◌<◌}
use native.Mathlib.Omega.{arith}
use Rattle.storage.specs.Iterate.{iterate_until, until_stop}

module _ {S : Type 0} (met : S → Bool) (count : S → ℕ) where
  -- after at most k steps from a count of c: the count has not fallen, and what the flag tells of it
  pub record Told (c k : ℕ) (s : S) : Type 0 where
    pub more : c ≤ count s
    pub early : met s ≡ true → count s < c + k
    pub full : met s ≡ false → count s ≡ c + k

  -- a step as above
  pub record Counts (f : S → S) : Type 0 where
    pub raised : (s : S) → met s ≡ false → met (f s) ≡ true → count (f s) ≡ count s
    pub stepped : (s : S) → met s ≡ false → met (f s) ≡ false → count (f s) ≡ count s + 1

  module _ (f : S → S) (e : Counts f) where
    told_by : (k : ℕ) (s : S) → met s ≡ false → (met (f s) ≡ false → Told (count (f s)) k (iterate_until met f k (f s))) → (b : Bool) → met (f s) ≡ b
        → Told (count s) (suc k) (iterate_until met f k (f s))
    told_by k s h m true g =
        let same = e.raised s h g in
        subst (Told (count s) (suc k)) (sym (until_stop met f k (f s) g))
        (record { more = omega (arith, same); early = λ p. omega (arith, same); full = λ p. absurd (true≢false (sym g ∙ p)) })
    told_by k s h m false g =
        let step = e.stepped s h g in
        let r = m g in
        record {
          more = omega (arith, step, r.more);
          early = λ p. omega (arith, step, r.early p);
          full = λ p. omega (arith, step, r.full p);
        }

    pub told : (k : ℕ) (s : S) → met s ≡ false → Told (count s) k (iterate_until met f k s)
    unfolding iterate_until
    told zero s h = record { more = omega arith; early = λ p. absurd (true≢false (sym p ∙ h)); full = λ p. omega arith }
    told (suc k) s h = rw (h, iterate_until) (told_by k s h (told k (f s)) (met (f s)) refl)
