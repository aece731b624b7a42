-- A call that is lent lists of just the lengths that are told for it passes its checks of their lengths, with every functional. The lengths stand in the order
-- in which they are told, which is the order of the call's list parameters. Assumes nothing.
use Rattle.std.specs.Prelude.{◌≡◌, false, List, [], ◌∷◌, ◌++◌, ℕ, ◌+◌, ◌*◌, ◌≤◌, min, ltb, drop, Float, ℤ, pos, Ok, Result, ⊤}
use Rattle.std.proofs.Math.Path.{refl, sym, ap}
use Rattle.std.proofs.Common.{◌∙◌, arith, nltb→le}
use Rattle.std.proofs.Math.Nat.{min-le_right}
use Rattle.std.proofs.Math.ListN.{length}
use Rattle.std.proofs.lemmas.Bool.{lt-leb}
use Rattle.refusal.specs.Numbers.{after, refuse_no, both, done_then, outcome}
use Rattle.refusal.specs.declared.Refusal.TheVariants.{Space, Love}
use Rattle.storage.specs.Answers.{size_of, size_is, place_of}
use Rattle.storage.specs.Checks.{past, tables_check, tables_done, space_done, room_check, room_space, outputs_check}
use Rattle.storage.specs.Checks.{entry_answer, entry_at, value_at}
use Rattle.storage.specs.Store.{store, store_front}
use Rattle.storage.specs.Triangle.{table_size}
use Rattle.functional.specs.declared.Functional.{Functional}
use Rattle.functional.specs.declared.Functional.TheVariants.{Potential, GeoidHeight, GravityDisturbance, GravityAnomaly, RadialGradient, WaterHeight}
use Rattle.functional.specs.Factor.{lacks_love, factor_of, factor_answer, factor-value}
use Rattle.coefficients.specs.Checks.{variances_check, amplitudes_check, set_check}
use Rattle.model_file.specs.declared.FileHead.{FileHead}
use Rattle.coefficients.specs.Model.{date_of}
use Rattle.model_file.specs.Dates.{size_of_any_day}
use Rattle.model_file.specs.Format.{head_size, file_size, render}
use Rattle.model_file.specs.Answers.{write_answer, write_done}
use Rattle.model_file.specs.RoundTrip.{length-render}
use Rattle.legendre.specs.Checks.{mirror_check, mirror_done, compute_check, compute_done}
use Rattle.local.specs.Point.{point_check_of, partials_check}
use Rattle.local.specs.Second.{second_check}
use Rattle.point_lists.specs.Checks.{point_passed}
use Rattle.analysis.specs.Analysis.{points_of, analysis_check}
use Rattle.analysis.specs.Checks.{outputs}
use Rattle.lengths.specs.Told.{lengths_check, lengths_after, within}
use Rattle.lengths.specs.Lengths.{degree_size, tables_lengths, factor_lengths, truncated_lengths}
use Rattle.lengths.specs.Lengths.{variances_lengths, amplitudes_lengths, write_lengths}
use Rattle.lengths.specs.Lengths.{point_lengths, partials_lengths, second_lengths}
use Rattle.lengths.specs.Lengths.{analysis_lengths}
use Rattle.refusal.specs.declared.Refusal.{Refusal}

-- ---- what a call that is done has told
-- sizes within the limits
pub told_sizes : (sizes : Result ⊤ Refusal) (told : List ℕ) (room : ℕ) → Ok tt ≡ lengths_check sizes told room → Ok tt ≡ sizes
unfolding lengths_check
told_sizes sizes told room h = (both sizes _ h).0

-- and the lengths, at the front of the list
pub told_front : (sizes : Result ⊤ Refusal) (told old : List ℕ) → Ok tt ≡ lengths_check sizes told (length old)
    → lengths_after sizes told old ≡ told ++ drop (length told) old
unfolding lengths_after lengths_check
told_front sizes told old h =
    let room = (past (ltb (length old) (length told)) Space _ (both sizes _ h).1).0 in
    ap (λ (a : Result ⊤ Refusal). after a (store 0 told old) old) (sym h) ∙ store_front told old (nltb→le (length old) (length told) room)

-- a Love number for each degree is enough for every functional
pub love_enough : (f : Functional) (N : ℕ) → lacks_love f (N + 1) N ≡ false
love_enough WaterHeight N = lt-leb (N + 1) N (omega arith)
love_enough Potential N = refl
love_enough GeoidHeight N = refl
love_enough GravityDisturbance N = refl
love_enough GravityAnomaly N = refl
love_enough RadialGradient N = refl

pub love_told : (f : Functional) (love N : ℕ) → love ≡ N + 1 → lacks_love f love N ≡ false
love_told f love N e = ap (λ (k : ℕ). lacks_love f k N) e ∙ love_enough f N

-- ---- models and tables
module _ (N : ℕ) (ok : Ok tt ≡ degree_size N) where
  top : N ≤ 2700
  top = within 2700 N ok

  -- both tables of a call
  pub two_tables : {c s : ℕ} → c ≡ table_size N → s ≡ table_size N → Ok tt ≡ tables_check N c s
  two_tables {c} {s} p q = tables_done N c s top p q

  -- `zeros`, `legendre_new`, `legendre_grow`
  pub zeros_enough : (c s : ℕ) → c ∷ s ∷ [] ≡ tables_lengths 2 N → Ok tt ≡ room_check N c s
  unfolding tables_lengths
  zeros_enough c s e =
      let p : c ≡ table_size N = cc in
      let q : s ≡ table_size N = cc in
      space_done (table_size N) c s (omega arith) (omega arith) ∙ room_space N c s top

  -- `coefficient_c`, `coefficient_s`, `legendre_entry`: an entry outside the table is still refused
  pub entry_enough : (table : List Float) (n m : ℕ) → length table ∷ [] ≡ tables_lengths 1 N → value_at table (place_of N n m) ≡ entry_answer N table n m
  unfolding tables_lengths
  entry_enough table n m e = let p : length table ≡ table_size N = cc in entry_at N table n m top p refl

  -- `legendre_mirror`, `legendre_mirror_derivative`
  pub mirror_enough : (table : ℕ) → table ∷ [] ≡ tables_lengths 1 N → Ok tt ≡ mirror_check N table
  unfolding tables_lengths
  mirror_enough table e = let p : table ≡ table_size N = cc in mirror_done N table top p

  -- `set`: a place outside the tables is still refused
  pub set_enough : (c s n m : ℕ) → c ∷ s ∷ [] ≡ tables_lengths 2 N → outcome (place_of N n m) ≡ set_check N c s n m
  unfolding tables_lengths set_check
  set_enough c s n m e =
      let p : c ≡ table_size N = cc in
      let q : s ≡ table_size N = cc in
      done_then (two_tables p q) refl

  -- `truncated`
  pub truncated_enough : (cut c s outc outs : ℕ) → c ∷ s ∷ outc ∷ outs ∷ [] ≡ truncated_lengths N cut → Ok tt ≡ outputs_check N c s (min cut N) outc outs
  unfolding truncated_lengths outputs_check
  truncated_enough cut c s outc outs e =
      let p : c ≡ table_size N = cc in
      let q : s ≡ table_size N = cc in
      let u : outc ≡ table_size (min cut N) = cc in
      let v : outs ≡ table_size (min cut N) = cc in
      let k = size_is (min cut N) (omega (arith, min-le_right cut N, top)) in
      done_then (two_tables p q) (space_done (size_of (min cut N)) outc outs (omega arith) (omega arith))

  -- `rescaled`, `legendre_compute_with_derivative`
  pub rescaled_enough : (c s outc outs : ℕ) → c ∷ s ∷ outc ∷ outs ∷ [] ≡ tables_lengths 4 N → Ok tt ≡ outputs_check N c s N outc outs
  unfolding tables_lengths outputs_check
  rescaled_enough c s outc outs e =
      let p : c ≡ table_size N = cc in
      let q : s ≡ table_size N = cc in
      let u : outc ≡ table_size N = cc in
      let v : outs ≡ table_size N = cc in
      let k = size_is N top in
      done_then (two_tables p q) (space_done (size_of N) outc outs (omega arith) (omega arith))

  -- `legendre_compute`
  pub compute_enough : (a b p : ℕ) → a ∷ b ∷ p ∷ [] ≡ tables_lengths 3 N → Ok tt ≡ compute_check N a b p
  unfolding tables_lengths
  compute_enough a b p e =
      let u : a ≡ table_size N = cc in
      let v : b ≡ table_size N = cc in
      let w : p ≡ table_size N = cc in
      compute_done N a b p (two_tables u v) (omega arith)

  -- `degree_variances`
  pub variances_enough : (c s out : ℕ) → c ∷ s ∷ out ∷ [] ≡ variances_lengths N → Ok tt ≡ variances_check N c s out
  unfolding variances_lengths variances_check
  variances_enough c s out e =
      let p : c ≡ table_size N = cc in
      let q : s ≡ table_size N = cc in
      let o : out ≡ N + 1 = cc in
      done_then (two_tables p q) (sym (refuse_no Space (Ok tt) (lt-leb out N (omega arith))))

  -- `degree_amplitudes`
  pub amplitudes_enough : (f : Functional) (c s love out : ℕ) → c ∷ s ∷ love ∷ out ∷ [] ≡ amplitudes_lengths N
      → Ok tt ≡ amplitudes_check N c s f love out
  unfolding amplitudes_lengths amplitudes_check
  amplitudes_enough f c s love out e =
      let p : c ≡ table_size N = cc in
      let q : s ≡ table_size N = cc in
      let l : love ≡ N + 1 = cc in
      let o : out ≡ N + 1 = cc in
      done_then (two_tables p q)
      (sym (refuse_no Love _ (love_told f love N l) ∙ refuse_no Space (Ok tt) (lt-leb out N (omega arith))))

  -- `model_write`
  pub write_enough : (dated : ℕ) (days : ℤ) (c s out : ℕ) → c ∷ s ∷ out ∷ [] ≡ write_lengths N dated → Ok tt ≡ write_answer (date_of dated days) N c s out
  unfolding write_lengths
  write_enough dated days c s out e =
      let p : c ≡ table_size N = cc in
      let q : s ≡ table_size N = cc in
      let o : out ≡ file_size (date_of dated (pos 0)) N = cc in
      let k = size_is N top in
      let any = size_of_any_day dated (pos 0) days in
      write_done (date_of dated days) N c s out top (size_of N) refl (omega arith) (omega arith) (omega arith)

  -- and the bytes told are those of the file, no more
  pub write_exact : (dated : ℕ) (days : ℤ) (h : FileHead) (c s : List ℕ) (out : ℕ) → h.date ≡ date_of dated days
      → length c ∷ length s ∷ out ∷ [] ≡ write_lengths N dated → length (render h c s) ≡ out
  unfolding write_lengths
  write_exact dated days h c s out d e =
      let p : length c ≡ table_size N = cc in
      let q : length s ≡ table_size N = cc in
      let o : out ≡ file_size (date_of dated (pos 0)) N = cc in
      let any = size_of_any_day dated (pos 0) days in
      let size : head_size h.date ≡ head_size (date_of dated days) = ap head_size d in
      omega (arith, length-render h c s (p ∙ sym q))

  -- `factor`
  pub factor_enough : (f : Functional) (love : List Float) (gm radius r : Float) → length love ∷ [] ≡ factor_lengths N
      → Ok (factor_of f love gm radius r N) ≡ factor_answer f love N gm radius r
  unfolding factor_lengths
  factor_enough f love gm radius r e = let l : length love ≡ N + 1 = cc in factor-value f love N gm radius r top (love_told f (length love) N l) refl

  -- a call for one point
  point_enough : (k numbers c s trig work out : ℕ) → c ∷ s ∷ trig ∷ work ∷ out ∷ [] ≡ point_lengths k numbers N
      → (Ok tt ≡ point_check_of k N c s trig work) × (out ≡ numbers)
  unfolding point_lengths
  point_enough k numbers c s trig work out e =
      let p : c ≡ table_size N = cc in
      let q : s ≡ table_size N = cc in
      let o : trig ≡ N + N + 2 = cc in
      let w : work ≡ k * table_size N = cc in
      (point_passed k N c s trig work (two_tables p q) o (omega arith), cc)

  -- `partials`
  pub partials_enough : (c s trig work out : ℕ) → c ∷ s ∷ trig ∷ work ∷ out ∷ [] ≡ partials_lengths N
      → (Ok tt ≡ partials_check N c s trig work) × (out ≡ 4)
  partials_enough = point_enough 4 4

  -- `second_partials`
  pub second_enough : (c s trig work out : ℕ) → c ∷ s ∷ trig ∷ work ∷ out ∷ [] ≡ second_lengths N
      → (Ok tt ≡ second_check N c s trig work) × (out ≡ 10)
  second_enough = point_enough 5 10

  -- `analysis`
  pub analysis_enough : (f : Functional) (love values weights lats trig work c s : ℕ)
      → love ∷ values ∷ weights ∷ lats ∷ trig ∷ work ∷ c ∷ s ∷ [] ≡ analysis_lengths N
      → Ok tt ≡ analysis_check N values weights lats trig (lacks_love f love N) work c s
  unfolding analysis_lengths
  analysis_enough f love values weights lats trig work c s e =
      let g : love ≡ N + 1 = cc in
      let v : values ≡ points_of N = cc in
      let w : weights ≡ N + 1 = cc in
      let l : lats ≡ N + 1 + (N + 1) = cc in
      let t : trig ≡ points_of N + points_of N = cc in
      let k : work ≡ 3 * table_size N = cc in
      let p : c ≡ table_size N = cc in
      let q : s ≡ table_size N = cc in
      outputs N values weights lats trig (lacks_love f love N) work c s top v w l t (love_told f love N g) (omega arith)
      (space_done (table_size N) c s (omega arith) (omega arith))
