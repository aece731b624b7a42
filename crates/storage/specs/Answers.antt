-- What the two calls answer, and the answer on each way through their checks. Assumes nothing.
use Rattle.std.specs.Prelude.{◌≡◌, refl, Bool, true, false, cond, not, ℕ, ◌≤◌, ◌<◌, T, ltb, Err, Ok, Result}
use Rattle.std.proofs.Common.{arith, nltb→le}
use borrow.Author.Tests.{lt-ltb, le-ltb}
use Rattle.refusal.specs.declared.Refusal.{Refusal}
use Rattle.refusal.specs.declared.Refusal.TheVariants.{Size, Place}
use Rattle.storage.specs.Triangle.{idx, table_size, idx-within}

-- the number of entries of a table up to degree nmax, and 0 for a degree that every call refuses
unfoldable pub size_of : ℕ → ℕ
size_of nmax = cond (ltb 2700 nmax) 0 (table_size nmax)

pub size_none : (nmax : ℕ) → 2700 < nmax → size_of nmax ≡ 0
unfolding size_of
size_none nmax h = rw (lt-ltb 2700 nmax h) refl

pub size_is : (nmax : ℕ) → nmax ≤ 2700 → size_of nmax ≡ table_size nmax
unfolding size_of
size_is nmax h = rw (le-ltb 2700 nmax h) refl

-- the index of degree n and order m in a table up to degree nmax, or why there is none
unfoldable pub place_of : ℕ → ℕ → ℕ → Result ℕ Refusal
place_of nmax n m = cond (ltb 2700 nmax) (Err Size) (cond (ltb nmax n) (Err Place) (cond (ltb n m) (Err Place) (Ok (idx n m))))

module _ (nmax n m : ℕ) where
  pub place_size : 2700 < nmax → Err Size ≡ place_of nmax n m
  unfolding place_of
  place_size h = simp (lt-ltb 2700 nmax h)

  pub place_degree : nmax ≤ 2700 → nmax < n → Err Place ≡ place_of nmax n m
  unfolding place_of
  place_degree h d = simp (le-ltb 2700 nmax h, lt-ltb nmax n d)

  pub place_order : nmax ≤ 2700 → n ≤ nmax → n < m → Err Place ≡ place_of nmax n m
  unfolding place_of
  place_order h d o = simp (le-ltb 2700 nmax h, le-ltb nmax n d, lt-ltb n m o)

  pub place_at : nmax ≤ 2700 → n ≤ nmax → m ≤ n → Ok (idx n m) ≡ place_of nmax n m
  unfolding place_of
  place_at h d o = simp (le-ltb 2700 nmax h, le-ltb nmax n d, le-ltb n m o)

-- what an answered index tells: a record, whose fields `omega` finds
pub record Placed (nmax n m k : ℕ) : Type 0 where
  pub is : k ≡ idx n m
  pub order : m ≤ n
  pub degree : n ≤ nmax
  pub top : nmax ≤ 2700
  pub within : k < table_size nmax

-- an answered index has passed each test
past : (b : Bool) (e : Refusal) (k : ℕ) (a : Result ℕ Refusal) → Ok k ≡ cond b (Err e) a → T (not b) × (Ok k ≡ a)
past true e k a h = absurd (let z : ◌≡◌ {A = ℕ} 0 1 = cc in omega arith)
past false e k a h = (tt, h)

same_index : (k j : ℕ) → ◌≡◌ {A = Result ℕ Refusal} (Ok k) (Ok j) → k ≡ j
same_index k j h = cc

pub placed : (nmax n m k : ℕ) → Ok k ≡ place_of nmax n m → Placed nmax n m k
unfolding place_of
placed nmax n m k h =
    let p = past (ltb 2700 nmax) Size k _ h in
    let q = past (ltb nmax n) Place k _ p.1 in
    let r = past (ltb n m) Place k _ q.1 in
    let e = same_index k (idx n m) r.1 in
    let d = nltb→le nmax n q.0 in
    let o = nltb→le n m r.0 in
    record { is = e; order = o; degree = d; top = nltb→le 2700 nmax p.0; within = omega (arith, idx-within n m nmax o d) }
