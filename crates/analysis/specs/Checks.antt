-- The checks of `analysis`: one law for each way through them, and what passed checks tell. Assumes nothing.
use Rattle.std.specs.Prelude.{◌≡◌, refl, Bool, true, false, not, ℕ, ◌+◌, ◌*◌, ◌≤◌, ◌<◌, ltb, eqb, Err, Ok, Result, ⊤}
use Rattle.std.proofs.Common.{ap, ◌∙◌, mul-le-mul_right, arith}
use Rattle.std.proofs.Math.Dec.{nltb→le}
use borrow.Author.Tests.{lt-ltb, le-ltb, eq-eqb, ne_eqb}
use Rattle.refusal.specs.Numbers.{refuse}
use Rattle.refusal.specs.declared.Refusal.TheVariants.{Size, Length, Love, Space}
use Rattle.storage.specs.Checks.{space_check, past, same}
use Rattle.storage.specs.Triangle.{table_size}
use Rattle.analysis.specs.Analysis.{longitudes_of, points_of, analysis_check}
use Rattle.refusal.specs.declared.Refusal.{Refusal}

-- what passed checks tell: a record, whose fields `omega` finds
pub record Accepted (nmax values weights lats trig work c s : ℕ) : Type 0 where
  pub top : nmax ≤ 2700
  pub points : values ≡ points_of nmax
  pub of_weights : weights ≡ nmax + 1
  pub pairs : lats ≡ nmax + 1 + (nmax + 1)
  pub orders : trig ≡ points_of nmax + points_of nmax
  pub room_work : 3 * table_size nmax ≤ work
  pub room_c : table_size nmax ≤ c
  pub room_s : table_size nmax ≤ s

pub points_are : (N : ℕ) → (N + 1) * longitudes_of N ≡ points_of N
unfolding points_of
points_are N = refl

pub points_most : (N : ℕ) → N ≤ 2700 → (N + 1) * longitudes_of N ≤ 14590802
points_most N h = omega (arith, mul-le-mul_right N h)

module _ (nmax values weights lats trig : ℕ) (lacks : Bool) (work c s : ℕ) where
  abbrev answer : Result ⊤ Refusal
  answer = analysis_check nmax values weights lats trig lacks work c s

  pub accepted : Ok tt ≡ answer → Accepted nmax values weights lats trig work c s
  unfolding analysis_check space_check
  accepted h =
      let (t, h1) = past (ltb 2700 nmax) Size _ h in
      let (v, h2) = past (not (eqb values (points_of nmax))) Length _ h1 in
      let (w, h3) = past (not (eqb weights (nmax + 1))) Length _ h2 in
      let (l, h4) = past (not (eqb lats (nmax + 1 + (nmax + 1)))) Length _ h3 in
      let (o, h5) = past (not (eqb trig (points_of nmax + points_of nmax))) Length _ h4 in
      let (g, h6) = past lacks Love _ h5 in
      let (k, h7) = past (ltb work (3 * table_size nmax)) Space _ h6 in
      let (p, h8) = past (ltb c (table_size nmax)) Space _ h7 in
      let (q, h9) = past (ltb s (table_size nmax)) Space _ h8 in
      record {
        top = nltb→le 2700 nmax t;
        points = same values (points_of nmax) v;
        of_weights = same weights (nmax + 1) w;
        pairs = same lats (nmax + 1 + (nmax + 1)) l;
        orders = same trig (points_of nmax + points_of nmax) o;
        room_work = nltb→le work (3 * table_size nmax) k;
        room_c = nltb→le c (table_size nmax) p;
        room_s = nltb→le s (table_size nmax) q;
      }

  -- the answer for Love numbers that were looked for
  pub check_found : {x : Result ⊤ Refusal} {found : Bool} → x ≡ analysis_check nmax values weights lats trig found work c s → found ≡ lacks → x ≡ answer
  check_found e l = e ∙ ap (λ (y : Bool). analysis_check nmax values weights lats trig y work c s) l

  -- ---- the ways through them
  pub large_degree : 2700 < nmax → Err Size ≡ answer
  unfolding analysis_check refuse
  large_degree h = simp (lt-ltb 2700 nmax h)

  module _ (t : nmax ≤ 2700) where
    pub wrong_values : (values ≡ points_of nmax → ⊥) → Err Length ≡ answer
    unfolding analysis_check refuse
    wrong_values h = simp (le-ltb 2700 nmax t, ne_eqb values (points_of nmax) h)

    module _ (v : values ≡ points_of nmax) where
      pub wrong_weights : (weights ≡ nmax + 1 → ⊥) → Err Length ≡ answer
      unfolding analysis_check refuse
      wrong_weights h = simp (le-ltb 2700 nmax t, eq-eqb values (points_of nmax) v, ne_eqb weights (nmax + 1) h)

      module _ (w : weights ≡ nmax + 1) where
        pub wrong_pairs : (lats ≡ nmax + 1 + (nmax + 1) → ⊥) → Err Length ≡ answer
        unfolding analysis_check refuse
        wrong_pairs h =
            simp (le-ltb 2700 nmax t, eq-eqb values (points_of nmax) v, eq-eqb weights (nmax + 1) w, ne_eqb lats (nmax + 1 + (nmax + 1)) h)

        module _ (l : lats ≡ nmax + 1 + (nmax + 1)) where
          pub wrong_orders : (trig ≡ points_of nmax + points_of nmax → ⊥) → Err Length ≡ answer
          unfolding analysis_check refuse
          wrong_orders h =
              simp (
                le-ltb 2700 nmax t,
                eq-eqb values (points_of nmax) v,
                eq-eqb weights (nmax + 1) w,
                eq-eqb lats (nmax + 1 + (nmax + 1)) l,
                ne_eqb trig (points_of nmax + points_of nmax) h,
              )

          module _ (o : trig ≡ points_of nmax + points_of nmax) where
            past_lengths : {x : Result ⊤ Refusal} → x ≡ refuse lacks Love (refuse (ltb work (3 * table_size nmax)) Space (space_check (table_size nmax) c s))
                → x ≡ answer
            unfolding analysis_check refuse
            past_lengths h =
                h
                ∙ simp (
                  le-ltb 2700 nmax t,
                  eq-eqb values (points_of nmax) v,
                  eq-eqb weights (nmax + 1) w,
                  eq-eqb lats (nmax + 1 + (nmax + 1)) l,
                  eq-eqb trig (points_of nmax + points_of nmax) o,
                )

            pub no_love : lacks ≡ true → Err Love ≡ answer
            unfolding refuse
            no_love h = past_lengths (simp h)

            module _ (g : lacks ≡ false) where
              pub short_work : work < 3 * table_size nmax → Err Space ≡ answer
              unfolding refuse
              short_work h = past_lengths (simp (g, lt-ltb work (3 * table_size nmax) h))

              pub outputs : {x : Result ⊤ Refusal} → 3 * table_size nmax ≤ work → x ≡ space_check (table_size nmax) c s → x ≡ answer
              unfolding refuse
              outputs h e = past_lengths (e ∙ simp (g, le-ltb work (3 * table_size nmax) h))
