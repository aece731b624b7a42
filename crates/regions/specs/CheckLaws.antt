-- The checks of the calls on regions: one law for each way through them, and what passed checks tell. Assumes nothing.
use Rattle.std.specs.Prelude.{◌≡◌, refl, not, List, ℕ, ◌+◌, ◌*◌, ◌≤◌, ◌<◌, ltb, eqb, length, Float, Err, Ok, Result, ⊤}
use Rattle.std.proofs.Common.{sym, ap, ◌∙◌, lt-ltb, le-ltb}
use Rattle.std.proofs.Math.Dec.{nltb→le}
use Rattle.refusal.specs.Numbers.{after, both, done_then, refused_then}
use Rattle.refusal.specs.declared.Refusal.{Refusal}
use Rattle.refusal.specs.declared.Refusal.TheVariants.{Size, Length, Space}
use Rattle.storage.specs.Checks.{stop, pass, different, equal, past, same}
use Rattle.storage.specs.Fill.{fill}
use Rattle.storage.specs.Filled.{filled}
use Rattle.storage.specs.Rectangle.{by_rows}
use Rattle.storage.specs.Triangle.{table_size}
use Rattle.region_nodes.specs.Basis.{basis_size}
use Rattle.region_nodes.specs.Regions.{integrals, region_cell}
use Rattle.regions.specs.Nodes.{NodeListsTo, NodeLists, cell_written, region-symmetric}
use Rattle.regions.specs.Checks.{nodes_check_to, nodes_check, matrix_check, Symmetric}

-- ---- the ways through the checks of the nodes
module _ (most L nodes weights lats marks s c : ℕ) where
  abbrev of_nodes : Result ⊤ Refusal
  of_nodes = nodes_check_to most L nodes weights lats marks s c

  pub nodes_accepted : Ok tt ≡ of_nodes → NodeListsTo most L nodes weights lats marks s c
  unfolding nodes_check_to
  nodes_accepted h =
      let (t, h1) = past (ltb most L) Size _ h in
      let (f, h2) = past (ltb 65535 nodes) Size _ h1 in
      let (w, h3) = past (not (eqb weights nodes)) Length _ h2 in
      let (l, h4) = past (not (eqb lats (nodes + nodes))) Length _ h3 in
      let (m, h5) = past (not (eqb marks nodes)) Length _ h4 in
      let (x, h6) = past (not (eqb s (nodes * integrals L))) Length _ h5 in
      let (y, h7) = past (not (eqb c (nodes * integrals L))) Length _ h6 in
      record {
        top = nltb→le most L t;
        few = nltb→le 65535 nodes f;
        of_weights = same weights nodes w;
        of_latitudes = same lats (nodes + nodes) l;
        of_marks = same marks nodes m;
        of_s = same s (nodes * integrals L) x;
        of_c = same c (nodes * integrals L) y;
      }

  pub high_degree : most < L → Err Size ≡ of_nodes
  unfolding nodes_check_to
  high_degree h = stop _ _ (lt-ltb most L h)

  module _ (t : L ≤ most) where
    pub many_nodes : 65535 < nodes → Err Size ≡ of_nodes
    unfolding nodes_check_to
    many_nodes h = pass _ (le-ltb most L t) (stop _ _ (lt-ltb 65535 nodes h))

    module _ (f : nodes ≤ 65535) where
      pub wrong_weights : (weights ≡ nodes → ⊥) → Err Length ≡ of_nodes
      unfolding nodes_check_to
      wrong_weights h = pass _ (le-ltb most L t) (pass _ (le-ltb 65535 nodes f) (stop _ _ (different h)))

      module _ (w : weights ≡ nodes) where
        pub wrong_latitudes : (lats ≡ nodes + nodes → ⊥) → Err Length ≡ of_nodes
        unfolding nodes_check_to
        wrong_latitudes h = pass _ (le-ltb most L t) (pass _ (le-ltb 65535 nodes f) (pass _ (equal w) (stop _ _ (different h))))

        module _ (l : lats ≡ nodes + nodes) where
          pub wrong_marks : (marks ≡ nodes → ⊥) → Err Length ≡ of_nodes
          unfolding nodes_check_to
          wrong_marks h = pass _ (le-ltb most L t) (pass _ (le-ltb 65535 nodes f) (pass _ (equal w) (pass _ (equal l) (stop _ _ (different h)))))

          module _ (m : marks ≡ nodes) where
            pub wrong_s : (s ≡ nodes * (L + L + 1) → ⊥) → Err Length ≡ of_nodes
            unfolding nodes_check_to integrals
            wrong_s h =
                pass _ (le-ltb most L t)
                (pass _ (le-ltb 65535 nodes f) (pass _ (equal w) (pass _ (equal l) (pass _ (equal m) (stop _ _ (different h))))))

            module _ (x : s ≡ nodes * (L + L + 1)) where
              pub wrong_c : (c ≡ nodes * (L + L + 1) → ⊥) → Err Length ≡ of_nodes
              unfolding nodes_check_to integrals
              wrong_c h =
                  pass _ (le-ltb most L t)
                  (pass _ (le-ltb 65535 nodes f)
                  (pass _ (equal w) (pass _ (equal l) (pass _ (equal m) (pass _ (equal x) (stop _ _ (different h)))))))

              pub nodes_done : c ≡ nodes * (L + L + 1) → Ok tt ≡ of_nodes
              unfolding nodes_check_to integrals
              nodes_done h =
                  pass _ (le-ltb most L t)
                  (pass _ (le-ltb 65535 nodes f)
                  (pass _ (equal w) (pass _ (equal l) (pass _ (equal m) (pass _ (equal x) (pass _ (equal h) refl))))))

-- ---- the same for the matrix
module _ (L nodes weights lats marks s c : ℕ) where
  abbrev of_region : Result ⊤ Refusal
  of_region = nodes_check L nodes weights lats marks s c

  module _ (work matrix : ℕ) where
    abbrev of_matrix : Result ⊤ Refusal
    of_matrix = matrix_check L nodes weights lats marks s c work matrix

    pub matrix_lists : (e : Refusal) → Err e ≡ of_region → Err e ≡ of_matrix
    unfolding matrix_check
    matrix_lists e h = refused_then e _ h

    module _ (d : Ok tt ≡ of_region) where
      pub short_work : work < 3 * table_size L → Err Space ≡ of_matrix
      unfolding matrix_check
      short_work h = done_then d (stop _ _ (lt-ltb work (3 * table_size L) h))

      module _ (h : 3 * table_size L ≤ work) where
        pub short_matrix : matrix < basis_size L * basis_size L → Err Space ≡ of_matrix
        unfolding matrix_check
        short_matrix g = done_then d (pass _ (le-ltb work (3 * table_size L) h) (stop _ _ (lt-ltb matrix (basis_size L * basis_size L) g)))

        pub matrix_done : basis_size L * basis_size L ≤ matrix → Ok tt ≡ of_matrix
        unfolding matrix_check
        matrix_done g = done_then d (pass _ (le-ltb work (3 * table_size L) h) (pass _ (le-ltb matrix (basis_size L * basis_size L) g) refl))

    -- what passed checks tell
    pub matrix_accepted : Ok tt ≡ of_matrix → NodeLists L nodes weights lats marks s c × (basis_size L * basis_size L ≤ matrix)
    unfolding matrix_check
    matrix_accepted h =
        let (d, g) = both of_region _ h in
        let (p, k) = past (ltb work (3 * table_size L)) Space _ g in
        let (q, z) = past (ltb matrix (basis_size L * basis_size L)) Space _ k in
        (nodes_accepted 21 L nodes weights lats marks s c d, nltb→le matrix (basis_size L * basis_size L) q)

-- ---- the answer, and the matrix that it leaves
module _ (L nodes : ℕ) (weights lats : List Float) (marks : List ℕ) (s c : List Float) (work : ℕ) (d : List Float) where
  abbrev answer : Result ⊤ Refusal
  answer = matrix_check L nodes (length weights) (length lats) (length marks) (length s) (length c) work (length d)

  pub symmetric : {x : Result ⊤ Refusal} {l : List Float} → x ≡ answer
      → l ≡ after x (fill 0 (by_rows (region_cell L weights lats marks s c nodes) (basis_size L)) (basis_size L * basis_size L) d) d → Symmetric x (basis_size L) l
  symmetric {x} {l} e p done i j h g =
      let F = region_cell L weights lats marks s c nodes in
      let n = basis_size L in
      let room = (matrix_accepted L nodes (length weights) (length lats) (length marks) (length s) (length c) work (length d) (sym done ∙ e)).1 in
      let full = filled 0 (by_rows F n) (n * n) d (p ∙ ap (λ (y : Result ⊤ Refusal). after y (fill 0 (by_rows F n) (n * n) d) d) done) in
      cell_written n F full room i j h g
      ∙ region-symmetric L weights lats marks s c nodes i j
      ∙ sym (cell_written n F full room j i g h)
