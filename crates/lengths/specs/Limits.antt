-- Sizes that are refused when the lengths are asked for are refused by the call itself, whatever its lists. Assumes nothing.
use Rattle.std.specs.Prelude.{◌≡◌, refl, Bool, true, false, List, ◌⊎◌, ℕ, ◌≤◌, ◌<◌, ltb, length, take, Float, Err, Ok, Option, Result, ℤ, ⊤}
use Rattle.std.proofs.Common.{sym, ◌∙◌, inl, inr, ⊎_elim, arith, ltb-true}
use Rattle.refusal.specs.Numbers.{refuse, refused_then, ◌and_then◌}
use Rattle.refusal.specs.declared.Refusal.{Refusal}
use Rattle.refusal.specs.declared.Refusal.TheVariants.{Size}
use Rattle.storage.specs.Checks.{tables_check, tables_size, room_check, room_size, outputs_check, entry_answer, entry_size}
use Rattle.functional.specs.declared.Functional.{Functional}
use Rattle.functional.specs.Factor.{factor_answer, factor_size}
use Rattle.coefficients.specs.Checks.{variances_check, amplitudes_check, set_check}
use Rattle.model_file.specs.Format.{head_size, date_at, head_of, parse, fault}
use Rattle.model_file.specs.Answers.{write_answer, write_size, refused_by_head}
use Rattle.model_file.specs.Truncation.{head_front}
use Rattle.legendre.specs.Checks.{mirror_check, mirror_size, compute_check, compute_tables}
use Rattle.quadrature.specs.Gauss.{gauss_check}
use Rattle.quadrature.specs.GaussLaws.{gauss_size}
use Rattle.synthesis.specs.Grid.{grid_check}
use Rattle.synthesis.specs.Checks.{many_rows, many_longitudes, wrong_tables}
use Rattle.local.specs.Point.{along_check_of, partials_check, along_check}
use Rattle.local.specs.Second.{second_check, second_along_check}
use Rattle.point_lists.specs.Checks.{point_tables, many_points, many_tables}
use Rattle.analysis.specs.Analysis.{analysis_check}
use Rattle.analysis.specs.Checks.{large_degree}
use Rattle.slepian.specs.Average.{average_check, check_size, check_field}
use Rattle.linalg.specs.Eigen.{eigen_check}
use Rattle.linalg.specs.Checks.{too_large}
use Rattle.polar_cap.specs.PolarCap.{cap_check}
use Rattle.polar_cap.specs.CapChecks as caps
use Rattle.regions.specs.Checks.{nodes_check_to, matrix_check}
use Rattle.regions.specs.CheckLaws as nodes
use Rattle.region.specs.Region.{region_check}
use Rattle.region.specs.RegionChecks as regions
use Rattle.polygon.specs.Checks.{outline_check}
use Rattle.polygon.specs.CheckLaws as outlines
use Rattle.basin_kernel.specs.Kernel.{kernel_check}
use Rattle.basin_kernel.specs.CheckLaws as kernels
use Rattle.lengths.specs.Told.{size_check, within}
use Rattle.lengths.specs.Lengths.{degree_size, two_degrees, grid_sizes, along_sizes, region_sizes, kernel_sizes}

beyond : (limit size : ℕ) → Err Size ≡ size_check limit size → limit < size
unfolding size_check refuse
beyond limit size h = ltb-true limit size (go (ltb limit size) h)
  where
    go : (b : Bool) → Err Size ≡ refuse {A = ⊤} b Size (Ok tt) → b ≡ true
    go true h = refl
    go false h = absurd (let z : ◌≡◌ {A = ℕ} 0 1 = cc in omega arith)

-- of two checks the first refuses, or it is passed and the second does
either : (a b : Result ⊤ Refusal) → Err Size ≡ a and_then b → (Err Size ≡ a) ⊎ ((Ok tt ≡ a) × (Err Size ≡ b))
either (Ok _) b h = inr (refl, h)
either (Err e) b h = inl h

-- ---- a degree
module _ (N : ℕ) (bad : Err Size ≡ degree_size N) where
  large : 2700 < N
  large = beyond 2700 N bad

  pub tables_limit : (c s : ℕ) → Err Size ≡ tables_check N c s
  tables_limit c s = tables_size N c s large

  -- `zeros`, `legendre_new`, `legendre_grow`
  pub zeros_limit : (c s : ℕ) → Err Size ≡ room_check N c s
  zeros_limit c s = room_size N c s large

  -- `coefficient_c`, `coefficient_s`, `legendre_entry`
  pub entry_limit : (table : List Float) (n m : ℕ) → Err Size ≡ entry_answer N table n m
  entry_limit table n m = entry_size N table n m large

  -- `legendre_mirror`, `legendre_mirror_derivative`
  pub mirror_limit : (table : ℕ) → Err Size ≡ mirror_check N table
  mirror_limit table = mirror_size N table large

  pub set_limit : (c s n m : ℕ) → Err Size ≡ set_check N c s n m
  unfolding set_check
  set_limit c s n m = refused_then Size _ (tables_limit c s)

  -- `truncated`, `rescaled`, `legendre_compute_with_derivative`
  pub outputs_limit : (c s top outc outs : ℕ) → Err Size ≡ outputs_check N c s top outc outs
  unfolding outputs_check
  outputs_limit c s top outc outs = refused_then Size _ (tables_limit c s)

  pub compute_limit : (a b p : ℕ) → Err Size ≡ compute_check N a b p
  compute_limit a b p = compute_tables N a b p (tables_limit a b)

  pub variances_limit : (c s out : ℕ) → Err Size ≡ variances_check N c s out
  unfolding variances_check
  variances_limit c s out = refused_then Size _ (tables_limit c s)

  pub amplitudes_limit : (f : Functional) (c s love out : ℕ) → Err Size ≡ amplitudes_check N c s f love out
  unfolding amplitudes_check
  amplitudes_limit f c s love out = refused_then Size _ (tables_limit c s)

  pub write_limit : (date : Option ℤ) (c s out : ℕ) → Err Size ≡ write_answer date N c s out
  write_limit date c s out = write_size date N c s out large

  pub factor_limit : (f : Functional) (love : List Float) (gm radius r : Float) → Err Size ≡ factor_answer f love N gm radius r
  factor_limit f love gm radius r = factor_size f love N gm radius r large

  pub partials_limit : (c s trig work : ℕ) → Err Size ≡ partials_check N c s trig work
  partials_limit c s trig work = point_tables 4 N c s trig work (tables_limit c s)

  pub second_limit : (c s trig work : ℕ) → Err Size ≡ second_check N c s trig work
  second_limit c s trig work = point_tables 5 N c s trig work (tables_limit c s)

  pub analysis_limit : (values weights lats trig : ℕ) (lacks : Bool) (work c s : ℕ)
      → Err Size ≡ analysis_check N values weights lats trig lacks work c s
  analysis_limit values weights lats trig lacks work c s = large_degree N values weights lats trig lacks work c s large

-- ---- calls with other sizes
-- a call for many points
points_limit : (k numbers N points c s radii lats trig work out : ℕ) → Err Size ≡ along_sizes N points
    → Err Size ≡ along_check_of k numbers N c s points radii lats trig work out
points_limit k numbers N points c s radii lats trig work out bad =
    ⊎_elim
    (λ p. many_points k numbers N c s points radii lats trig work out (beyond 65535 points p))
    (λ q. many_tables k numbers N c s points radii lats trig work out (within 65535 points q.0) (tables_limit N q.1 c s))
    (either (size_check 65535 points) _ bad)

pub along_limit : (N points c s radii lats trig work out : ℕ) → Err Size ≡ along_sizes N points
    → Err Size ≡ along_check N c s points radii lats trig work out
along_limit = points_limit 4 4

pub second_along_limit : (N points c s radii lats trig work out : ℕ) → Err Size ≡ along_sizes N points
    → Err Size ≡ second_along_check N c s points radii lats trig work out
second_along_limit = points_limit 5 10

module _ (N rows longitudes c s lats trig : ℕ) (lacks : Bool) (work out : ℕ) where
  pub grid_limit : Err Size ≡ grid_sizes N rows longitudes → Err Size ≡ grid_check N c s rows lats longitudes trig lacks work out
  grid_limit bad =
      ⊎_elim
      (λ p. many_rows N c s rows lats longitudes trig lacks work out (beyond 65535 rows p))
      (λ q. few_rows (within 65535 rows q.0) q.1)
      (either (size_check 65535 rows) _ bad)
    where
      few_rows : rows ≤ 65535 → Err Size ≡ size_check 65535 longitudes and_then degree_size N
          → Err Size ≡ grid_check N c s rows lats longitudes trig lacks work out
      few_rows r bad =
          ⊎_elim
          (λ p. many_longitudes N c s rows lats longitudes trig lacks work out r (beyond 65535 longitudes p))
          (λ q. wrong_tables N c s rows lats longitudes trig lacks work out r (within 65535 longitudes q.0) (tables_limit N q.1 c s))
          (either (size_check 65535 longitudes) _ bad)

pub average_limit : (N K c s kc ks : ℕ) (lacks : Bool) → Err Size ≡ two_degrees N K → Err Size ≡ average_check N c s K kc ks lacks
average_limit N K c s kc ks lacks bad =
    ⊎_elim
    (λ p. check_size N c s K kc ks lacks (beyond 2700 K p))
    (λ q. check_field N c s K kc ks lacks (within 2700 K q.0) (tables_limit N q.1 c s))
    (either (degree_size K) _ bad)

pub gauss_limit : (n guesses x w : ℕ) → Err Size ≡ size_check 2701 n → Err Size ≡ gauss_check n guesses x w
gauss_limit n guesses x w bad = gauss_size n guesses x w (beyond 2701 n bad)

pub eigen_limit_lem : (n a work values vectors : ℕ) → Err Size ≡ size_check 512 n → Err Size ≡ eigen_check n a work values vectors
eigen_limit_lem n a work values vectors bad = too_large n a work values vectors (beyond 512 n bad)

pub cap_limit : (L weights lats work orders concentrations vectors settled : ℕ) → Err Size ≡ size_check 180 L
    → Err Size ≡ cap_check L weights lats work orders concentrations vectors settled
cap_limit L weights lats work orders concentrations vectors settled bad =
    caps.large_degree L weights lats work orders concentrations vectors settled (beyond 180 L bad)

nodes_limit : (most L count weights lats marks s c : ℕ) → Err Size ≡ size_check most L and_then size_check 65535 count
    → Err Size ≡ nodes_check_to most L count weights lats marks s c
nodes_limit most L count weights lats marks s c bad =
    ⊎_elim
    (λ p. nodes.high_degree most L count weights lats marks s c (beyond most L p))
    (λ q. nodes.many_nodes most L count weights lats marks s c (within most L q.0) (beyond 65535 count q.1))
    (either (size_check most L) _ bad)

pub matrix_limit : (L count weights lats marks s c work matrix : ℕ) → Err Size ≡ region_sizes L count
    → Err Size ≡ matrix_check L count weights lats marks s c work matrix
matrix_limit L count weights lats marks s c work matrix bad =
    nodes.matrix_lists L count weights lats marks s c work matrix Size (nodes_limit 21 L count weights lats marks s c bad)

pub region_limit : (L count weights lats marks s c work concentrations cs ss : ℕ) → Err Size ≡ region_sizes L count
    → Err Size ≡ region_check L count weights lats marks s c work concentrations cs ss
region_limit L count weights lats marks s c work concentrations cs ss bad =
    regions.nodes_refused L count weights lats marks s c work concentrations cs ss (nodes_limit 21 L count weights lats marks s c bad)

-- `model_read`: by the head, told by its bytes or more
pub read_limit : (file : List ℕ) (front : ℕ) (e : Refusal) → head_size (date_at file) ≤ front → front ≤ length file → head_of (take front file) ≡ Err e
    → parse file ≡ fault e
read_limit file front e b l bad = refused_by_head file (head_of file) refl e (sym (head_front front file b l) ∙ bad)

-- `polygon_intervals` and `polygon_breaks`, for any number of numbers to write
pub outline_limit : (v outline work out k : ℕ) → Err Size ≡ size_check 4096 v → Err Size ≡ outline_check v outline work out k
outline_limit v outline work out k bad =
    outlines.refused_before v outline work out k Size (outlines.too_many v outline work (beyond 4096 v bad))

pub kernel_limit : (L count weights lats marks s c work kc ks : ℕ) → Err Size ≡ kernel_sizes L count
    → Err Size ≡ kernel_check L count weights lats marks s c work kc ks
kernel_limit L count weights lats marks s c work kc ks bad =
    kernels.wrong_lists L count weights lats marks s c work kc ks Size (nodes_limit 2700 L count weights lats marks s c bad)
