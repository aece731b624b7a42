-- The checks of `region`: one law for each way through them, and what passed checks tell. Assumes nothing.
use Rattle.std.specs.Prelude.{◌≡◌, refl, ℕ, ◌*◌, ◌≤◌, ◌<◌, ltb, Err, Ok, Result, ⊤}
use Rattle.std.proofs.Math.Dec.{nltb→le}
use Rattle.std.proofs.Common.{lt-ltb, le-ltb}
use Rattle.refusal.specs.Numbers.{refuse, both, done_then, refused_then}
use Rattle.refusal.specs.declared.Refusal.{Refusal}
use Rattle.refusal.specs.declared.Refusal.TheVariants.{Space}
use Rattle.storage.specs.Checks.{past, stop, pass}
use Rattle.storage.specs.Triangle.{table_size}
use Rattle.region_nodes.specs.Basis.{basis_size}
use Rattle.regions.specs.Checks.{nodes_check}
use Rattle.regions.specs.CheckLaws.{nodes_accepted}
use Rattle.regions.specs.Nodes.{NodeLists}
use Rattle.region.specs.Region.{region_work, region_check}

-- what passed checks tell: a record, whose fields `omega` finds
pub record RegionAccepted (L nodes weights lats marks s c work concentrations cs ss : ℕ) : Type 0 where
  pub lists : NodeLists L nodes weights lats marks s c
  pub of_work : region_work L ≤ work
  pub of_concentrations : basis_size L ≤ concentrations
  pub of_cosines : basis_size L * table_size L ≤ cs
  pub of_sines : basis_size L * table_size L ≤ ss

module _ (L nodes weights lats marks s c work concentrations cs ss : ℕ) where
  abbrev answer : Result ⊤ Refusal
  answer = region_check L nodes weights lats marks s c work concentrations cs ss

  pub region_accepted : Ok tt ≡ answer → RegionAccepted L nodes weights lats marks s c work concentrations cs ss
  unfolding region_check
  region_accepted h =
      let (n, h1) = both (nodes_check L nodes weights lats marks s c) _ h in
      let (w, h2) = past (ltb work (region_work L)) Space _ h1 in
      let (v, h3) = past (ltb concentrations (basis_size L)) Space _ h2 in
      let (p, h4) = past (ltb cs (basis_size L * table_size L)) Space _ h3 in
      let (q, h5) = past (ltb ss (basis_size L * table_size L)) Space _ h4 in
      record {
        lists = nodes_accepted 21 L nodes weights lats marks s c n;
        of_work = nltb→le work (region_work L) w;
        of_concentrations = nltb→le concentrations (basis_size L) v;
        of_cosines = nltb→le cs (basis_size L * table_size L) p;
        of_sines = nltb→le ss (basis_size L * table_size L) q;
      }

  -- ---- the ways through them
  pub nodes_refused : {e : Refusal} → Err e ≡ nodes_check L nodes weights lats marks s c → Err e ≡ answer
  unfolding region_check
  nodes_refused {e} h = refused_then e _ h

  module _ (n : Ok tt ≡ nodes_check L nodes weights lats marks s c) where
    pub short_work : work < region_work L → Err Space ≡ answer
    unfolding region_check
    short_work h = done_then n (stop _ _ (lt-ltb work (region_work L) h))

    module _ (w : region_work L ≤ work) where
      past_work : {x : Result ⊤ Refusal}
          → x ≡ refuse (ltb concentrations (basis_size L)) Space
          (refuse (ltb cs (basis_size L * table_size L)) Space (refuse (ltb ss (basis_size L * table_size L)) Space (Ok tt)))
          → x ≡ answer
      unfolding region_check
      past_work h = done_then n (pass _ (le-ltb work (region_work L) w) h)

      pub short_concentrations : concentrations < basis_size L → Err Space ≡ answer
      short_concentrations h = past_work (stop _ _ (lt-ltb concentrations (basis_size L) h))

      module _ (v : basis_size L ≤ concentrations) where
        pub short_cosines : cs < basis_size L * table_size L → Err Space ≡ answer
        short_cosines h = past_work (pass _ (le-ltb concentrations (basis_size L) v) (stop _ _ (lt-ltb cs (basis_size L * table_size L) h)))

        module _ (p : basis_size L * table_size L ≤ cs) where
          past_cosines : {x : Result ⊤ Refusal} → x ≡ refuse (ltb ss (basis_size L * table_size L)) Space (Ok tt) → x ≡ answer
          past_cosines h = past_work (pass _ (le-ltb concentrations (basis_size L) v) (pass _ (le-ltb cs (basis_size L * table_size L) p) h))

          pub short_sines : ss < basis_size L * table_size L → Err Space ≡ answer
          short_sines h = past_cosines (stop _ _ (lt-ltb ss (basis_size L * table_size L) h))

          pub all_passed : basis_size L * table_size L ≤ ss → Ok tt ≡ answer
          all_passed h = past_cosines (pass _ (le-ltb ss (basis_size L * table_size L) h) refl)
