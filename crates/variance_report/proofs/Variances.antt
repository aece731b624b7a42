-- Numbers of bit patterns, and the degree variances that the code has of them. Assumes nothing.
use Rattle.std.specs.Prelude.{Ok, Result, ⊤}
use mathlib.Core.Path.{◌≡◌, sym, ap, ◌∙◌}
use Prim.Native.Nat.{ℕ, ◌+◌, ◌≤◌, ◌<◌}
use native.Mathlib.Omega.{arith}
use mathlib.Core.List.{List}
use lib.ListN.{length, get_or, take, length-map, get_or-map}
use lib.Ieee.{Float, binary64, of_bits}
use borrow.Author.Tests.{lt-leb}
use Rattle.refusal.specs.Numbers.{after, refuse_no, done_then}
use Rattle.storage.specs.Fill.{fill}
use Rattle.storage.specs.Store.{store}
use Rattle.storage.specs.Tabulate.{tabulate}
use Rattle.storage.specs.Triangle.{table_size}
use Rattle.storage.specs.Checks.{tables_done}
use Rattle.coefficients.specs.Checks.{variances_check}
use Rattle.coefficients.specs.Values.{variance_of}
use Rattle.variance_report.specs.Report.{numbers_of}
use Rattle.variance_report.proofs.Lists.{take-stored, take_filled}
use Rattle.refusal.specs.declared.Refusal.{Refusal}

pub length_numbers : (bits : List ℕ) → length (numbers_of bits) ≡ length bits
length_numbers bits = length-map bits (of_bits binary64)

pub number_at : (bits : List ℕ) (i : ℕ) → of_bits binary64 (get_or bits i 0) ≡ get_or (numbers_of bits) i (of_bits binary64 0)
number_at bits i = sym (get_or-map (of_bits binary64) bits i 0)

-- tables of a model up to degree 86 and a list for its variances are accepted, so the list holds what the work makes of it
pub variances_made : {r : Result ⊤ Refusal} {made l : List Float} (old : List Float) (N clen slen out : ℕ) → N ≤ 86
    → clen ≡ table_size N → slen ≡ table_size N → N < out → r ≡ variances_check N clen slen out → l ≡ after r made old → l ≡ made
unfolding variances_check
variances_made {r} {made} old N clen slen out h ec es ho er el =
    let done : Ok tt ≡ variances_check N clen slen out =
    done_then (tables_done N clen slen (omega arith) ec es) (sym (refuse_no _ _ (lt-leb _ _ ho))) in
    el ∙ ap (λ (a : Result ⊤ Refusal). after a made old) (er ∙ sym done)

module _ (c s : List ℕ) (N t : ℕ) (ec : length c ≡ t) (es : length s ≡ t) where
  -- the variances that the code has in its list
  pub variances_are : (k : ℕ) (cs₀ cs ss₀ ss v₀ v : List Float) (z : Float) → k ≡ N + 1 → t ≤ length cs₀ → t ≤ length ss₀ → k ≤ length v₀
      → cs ≡ store 0 (numbers_of c) cs₀ → ss ≡ store 0 (numbers_of s) ss₀ → v ≡ fill 0 (variance_of (take t cs) (take t ss)) (N + 1) v₀
      → take k v ≡ tabulate (variance_of (numbers_of c) (numbers_of s)) 0 (N + 1)
  variances_are k cs₀ cs ss₀ ss v₀ v z ek lc ls lv pc ps pv =
      let x : take t cs ≡ numbers_of c = ap (λ (l : List Float). take t l) pc ∙ take-stored (numbers_of c) cs₀ t (length_numbers c ∙ ec) lc in
      let y : take t ss ≡ numbers_of s = ap (λ (l : List Float). take t l) ps ∙ take-stored (numbers_of s) ss₀ t (length_numbers s ∙ es) ls in
      rw (pv, ek, x, y) (take_filled (variance_of (numbers_of c) (numbers_of s)) (N + 1) v₀ z (omega arith))
