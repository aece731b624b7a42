-- The checks of the two calls: one law for each way through them, and what passed checks tell. Assumes nothing.
use Rattle.std.specs.Prelude.{◌≡◌, not, ℕ, ◌+◌, ◌*◌, ◌≤◌, ◌<◌, ltb, eqb, Err, Ok}
use Rattle.std.proofs.Math.Dec.{nltb→le}
use borrow.Author.Tests.{lt-ltb, le-ltb, eq-eqb, ne_eqb}
use Rattle.refusal.specs.Numbers.{refuse}
use Rattle.refusal.specs.declared.Refusal.TheVariants.{Size, Length, Space}
use Rattle.storage.specs.Checks.{past, same}
use Rattle.linalg.specs.Eigen.{eigen_check}

-- what passed checks tell: a record, whose fields `omega` finds
pub record Accepted (n a work values vectors : ℕ) : Type 0 where
  pub small : n ≤ 512
  pub square : a ≡ n * n
  pub room_work : n * n + 4 * n ≤ work
  pub room_values : n ≤ values
  pub room_vectors : n * n ≤ vectors

module _ (n a work values vectors : ℕ) where
  pub accepted : Ok tt ≡ eigen_check n a work values vectors → Accepted n a work values vectors
  unfolding eigen_check
  accepted h =
      let (s, h1) = past (ltb 512 n) Size _ h in
      let (q, h2) = past (not (eqb a (n * n))) Length _ h1 in
      let (w, h3) = past (ltb work (n * n + 4 * n)) Space _ h2 in
      let (d, h4) = past (ltb values n) Space _ h3 in
      let (v, h5) = past (ltb vectors (n * n)) Space _ h4 in
      record {
        small = nltb→le 512 n s;
        square = same a (n * n) q;
        room_work = nltb→le work (n * n + 4 * n) w;
        room_values = nltb→le values n d;
        room_vectors = nltb→le vectors (n * n) v;
      }

  -- ---- the ways through them
  pub too_large : 512 < n → Err Size ≡ eigen_check n a work values vectors
  unfolding eigen_check refuse
  too_large h = simp (lt-ltb 512 n h)

  module _ (s : n ≤ 512) where
    pub not_square : (a ≡ n * n → ⊥) → Err Length ≡ eigen_check n a work values vectors
    unfolding eigen_check refuse
    not_square h = simp (le-ltb 512 n s, ne_eqb a (n * n) h)

    module _ (q : a ≡ n * n) where
      pub short_work : work < n * n + 4 * n → Err Space ≡ eigen_check n a work values vectors
      unfolding eigen_check refuse
      short_work h = simp (le-ltb 512 n s, eq-eqb a (n * n) q, lt-ltb work (n * n + 4 * n) h)

      module _ (w : n * n + 4 * n ≤ work) where
        pub short_values : values < n → Err Space ≡ eigen_check n a work values vectors
        unfolding eigen_check refuse
        short_values h = simp (le-ltb 512 n s, eq-eqb a (n * n) q, le-ltb work (n * n + 4 * n) w, lt-ltb values n h)

        module _ (d : n ≤ values) where
          pub short_vectors : vectors < n * n → Err Space ≡ eigen_check n a work values vectors
          unfolding eigen_check refuse
          short_vectors h =
              simp (le-ltb 512 n s, eq-eqb a (n * n) q, le-ltb work (n * n + 4 * n) w, le-ltb values n d, lt-ltb vectors (n * n) h)

          pub all_passed : n * n ≤ vectors → Ok tt ≡ eigen_check n a work values vectors
          unfolding eigen_check refuse
          all_passed h =
              simp (le-ltb 512 n s, eq-eqb a (n * n) q, le-ltb work (n * n + 4 * n) w, le-ltb values n d, le-ltb vectors (n * n) h)
