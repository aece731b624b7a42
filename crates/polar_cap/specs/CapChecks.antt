-- The checks of `polar_cap`: one law for each way through them, and what passed checks tell. Assumes nothing.
use Rattle.std.specs.Prelude.{◌≡◌, refl, not, ℕ, ◌+◌, ◌*◌, ◌≤◌, ◌<◌, ltb, eqb, Err, Ok, Result, ⊤}
use Rattle.std.proofs.Common.{mul-le-mul, arith, lt-ltb, le-ltb}
use Rattle.std.proofs.Math.Dec.{nltb→le}
use Rattle.refusal.specs.Numbers.{refuse}
use Rattle.refusal.specs.declared.Refusal.TheVariants.{Size, Length, Space}
use Rattle.storage.specs.Checks.{past, same, stop, pass, equal, different}
use Rattle.storage.specs.Triangle.{row_start, table_size, row_start_monotone}
use Rattle.polar_cap.specs.PolarCap.{vectors_size, cap_work, cap_check}
use Rattle.cap_functions.specs.CapPlaces.{CapRoom}
use Rattle.refusal.specs.declared.Refusal.{Refusal}

-- what passed checks tell: a record, whose fields `omega` finds
pub record CapAccepted (L weights lats work orders concentrations vectors settled : ℕ) : Type 0 where
  pub top : L ≤ 180
  pub of_weights : weights ≡ L + 1
  pub of_latitudes : lats ≡ L + 1 + (L + 1)
  pub of_work : cap_work L ≤ work
  pub of_orders : table_size L ≤ orders
  pub of_concentrations : table_size L ≤ concentrations
  pub of_vectors : vectors_size L ≤ vectors
  pub of_settled : (L + 1) * 2 ≤ settled

module _ (L weights lats work orders concentrations vectors settled : ℕ) where
  abbrev answer : Result ⊤ Refusal
  answer = cap_check L weights lats work orders concentrations vectors settled

  -- what is left to check past the concentrations, and past the lengths
  abbrev outputs : Result ⊤ Refusal
  outputs = refuse (ltb vectors (vectors_size L)) Space (refuse (ltb settled ((L + 1) * 2)) Space (Ok tt))

  abbrev spaces : Result ⊤ Refusal
  spaces =
      refuse (ltb work (cap_work L)) Space
      (refuse (ltb orders (table_size L)) Space
      (refuse (ltb concentrations (table_size L)) Space outputs))

  pub cap_accepted : Ok tt ≡ answer → CapAccepted L weights lats work orders concentrations vectors settled
  unfolding cap_check
  cap_accepted h =
      let (p, h1) = past (ltb 180 L) Size _ h in
      let (q, h2) = past (not (eqb weights (L + 1))) Length _ h1 in
      let (l, h3) = past (not (eqb lats (L + 1 + (L + 1)))) Length _ h2 in
      let (w, h4) = past (ltb work (cap_work L)) Space _ h3 in
      let (o, h5) = past (ltb orders (table_size L)) Space _ h4 in
      let (c, h6) = past (ltb concentrations (table_size L)) Space _ h5 in
      let (v, h7) = past (ltb vectors (vectors_size L)) Space _ h6 in
      let (t, h8) = past (ltb settled ((L + 1) * 2)) Space _ h7 in
      record {
        top = nltb→le 180 L p;
        of_weights = same weights (L + 1) q;
        of_latitudes = same lats (L + 1 + (L + 1)) l;
        of_work = nltb→le work (cap_work L) w;
        of_orders = nltb→le orders (table_size L) o;
        of_concentrations = nltb→le concentrations (table_size L) c;
        of_vectors = nltb→le vectors (vectors_size L) v;
        of_settled = nltb→le settled ((L + 1) * 2) t;
      }

  -- ---- the ways through them
  pub large_degree : 180 < L → Err Size ≡ answer
  unfolding cap_check
  large_degree h = stop _ _ (lt-ltb 180 L h)

  module _ (t : L ≤ 180) where
    pub wrong_weights : (weights ≡ L + 1 → ⊥) → Err Length ≡ answer
    unfolding cap_check
    wrong_weights h = pass _ (le-ltb 180 L t) (stop _ _ (different h))

    module _ (a : weights ≡ L + 1) where
      pub wrong_latitudes : (lats ≡ L + 1 + (L + 1) → ⊥) → Err Length ≡ answer
      unfolding cap_check
      wrong_latitudes h = pass _ (le-ltb 180 L t) (pass _ (equal a) (stop _ _ (different h)))

      module _ (b : lats ≡ L + 1 + (L + 1)) where
        past_lengths : {x : Result ⊤ Refusal} → x ≡ spaces → x ≡ answer
        unfolding cap_check
        past_lengths h = pass _ (le-ltb 180 L t) (pass _ (equal a) (pass _ (equal b) h))

        pub short_work : work < cap_work L → Err Space ≡ answer
        short_work h = past_lengths (stop _ _ (lt-ltb work (cap_work L) h))

        module _ (w : cap_work L ≤ work) where
          pub short_orders : orders < table_size L → Err Space ≡ answer
          short_orders h = past_lengths (pass _ (le-ltb work (cap_work L) w) (stop _ _ (lt-ltb orders (table_size L) h)))

          module _ (o : table_size L ≤ orders) where
            past_orders : {x : Result ⊤ Refusal} → x ≡ refuse (ltb concentrations (table_size L)) Space outputs → x ≡ answer
            past_orders h = past_lengths (pass _ (le-ltb work (cap_work L) w) (pass _ (le-ltb orders (table_size L) o) h))

            pub short_concentrations : concentrations < table_size L → Err Space ≡ answer
            short_concentrations h = past_orders (stop _ _ (lt-ltb concentrations (table_size L) h))

            module _ (c : table_size L ≤ concentrations) where
              pub short_vectors : vectors < vectors_size L → Err Space ≡ answer
              short_vectors h = past_orders (pass _ (le-ltb concentrations (table_size L) c) (stop _ _ (lt-ltb vectors (vectors_size L) h)))

              module _ (v : vectors_size L ≤ vectors) where
                past_vectors : {x : Result ⊤ Refusal} → x ≡ refuse (ltb settled ((L + 1) * 2)) Space (Ok tt) → x ≡ answer
                past_vectors h = past_orders (pass _ (le-ltb concentrations (table_size L) c) (pass _ (le-ltb vectors (vectors_size L) v) h))

                pub short_settled : settled < (L + 1) * 2 → Err Space ≡ answer
                short_settled h = past_vectors (stop _ _ (lt-ltb settled ((L + 1) * 2) h))

                pub all_passed : (L + 1) * 2 ≤ settled → Ok tt ≡ answer
                all_passed h = past_vectors (pass _ (le-ltb settled ((L + 1) * 2) h) refl)

-- the lists of an accepted call with the arrays beside them
pub room_from : {L weights lats work orders concentrations vectors settled rescales g column : ℕ}
    → CapAccepted L weights lats work orders concentrations vectors settled
    → L < rescales → (L + 1) * (L + 1) ≤ g → L < column → CapRoom L weights lats rescales g column work orders concentrations vectors
room_from a r g c = record {
  top = a.top;
  of_weights = omega (arith, a.of_weights);
  of_latitudes = omega (arith, a.of_latitudes);
  of_rescales = r;
  of_matrix_lem = g;
  of_column = c;
  of_work = a.of_work;
  of_orders = a.of_orders;
  of_concentrations = a.of_concentrations;
  of_vectors = a.of_vectors;
}

-- how long the arrays for a low degree must be
pub short_arrays : (L : ℕ) → L < 16 → (table_size L ≤ 136) × ((L + 1) * (L + 1) ≤ 256)
unfolding row_start
short_arrays L h =
    (row_start_monotone (L + 1) 16 (omega arith), mul-le-mul {n₁ = L + 1} {m₁ = L + 1} {n₂ = 16} {m₂ = 16} (omega arith) (omega arith))
