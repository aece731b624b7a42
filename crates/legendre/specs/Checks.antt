-- The checks of `compute`, and of `mirror` and `mirror_derivative`, beyond those that calls on tables share (storage's Checks), with one law for each way
-- through them. Assumes nothing.
use Rattle.std.specs.Prelude.{◌≡◌, refl, not, ℕ, ◌≤◌, ◌<◌, ltb, eqb, Err, Ok, Result, ⊤}
use Rattle.std.proofs.Common.{sym, lt-ltb, le-ltb}
use Rattle.std.proofs.Math.Dec.{nltb→le}
use Rattle.refusal.specs.Numbers.{refuse, refuse_yes, refuse_no, both, done_then, refused_then, ◌and_then◌}
use Rattle.refusal.specs.declared.Refusal.{Refusal}
use Rattle.refusal.specs.declared.Refusal.TheVariants.{Size, Length, Space}
use Rattle.storage.specs.Checks.{tables_check, stop, pass, different, equal, past, same, Tables, tables_passed}
use Rattle.storage.specs.Triangle.{table_size}

-- `compute`: the two tables of coefficients, and SPACE for the table of P
unfoldable pub compute_check : ℕ → ℕ → ℕ → ℕ → Result ⊤ Refusal
compute_check nmax alen blen plen = tables_check nmax alen blen and_then refuse (ltb plen (table_size nmax)) Space (Ok tt)

-- `mirror` and `mirror_derivative`: SIZE, and LENGTH of the one table, which is read too
unfoldable pub mirror_check : ℕ → ℕ → Result ⊤ Refusal
mirror_check nmax len = refuse (ltb 2700 nmax) Size (refuse (not (eqb len (table_size nmax))) Length (Ok tt))

module _ (nmax alen blen plen : ℕ) where
  pub compute_tables : {e : Refusal} → Err e ≡ tables_check nmax alen blen → Err e ≡ compute_check nmax alen blen plen
  unfolding compute_check
  compute_tables {e} h = refused_then e _ h

  pub compute_space : Ok tt ≡ tables_check nmax alen blen → plen < table_size nmax → Err Space ≡ compute_check nmax alen blen plen
  unfolding compute_check
  compute_space h s = done_then h (sym (refuse_yes Space (Ok tt) (lt-ltb plen (table_size nmax) s)))

  pub compute_done : Ok tt ≡ tables_check nmax alen blen → table_size nmax ≤ plen → Ok tt ≡ compute_check nmax alen blen plen
  unfolding compute_check
  compute_done h s = done_then h (sym (refuse_no Space (Ok tt) (le-ltb plen (table_size nmax) s)))

-- what passed checks tell: records, whose fields `omega` finds
pub record Computable (nmax alen blen plen : ℕ) : Type 0 where
  pub tables : Tables nmax alen blen
  pub room : table_size nmax ≤ plen

pub compute_passed : (nmax alen blen plen : ℕ) → Ok tt ≡ compute_check nmax alen blen plen → Computable nmax alen blen plen
unfolding compute_check
compute_passed nmax alen blen plen h =
    let (t, g) = both (tables_check nmax alen blen) _ h in
    let (p, k) = past (ltb plen (table_size nmax)) Space (Ok tt) g in
    record { tables = tables_passed nmax alen blen t; room = nltb→le plen (table_size nmax) p }

pub record Mirrorable (nmax len : ℕ) : Type 0 where
  pub top : nmax ≤ 2700
  pub whole : len ≡ table_size nmax

module _ (nmax len : ℕ) where
  pub mirror_size : 2700 < nmax → Err Size ≡ mirror_check nmax len
  unfolding mirror_check
  mirror_size h = stop Size _ (lt-ltb 2700 nmax h)

  pub mirror_length : nmax ≤ 2700 → (len ≡ table_size nmax → ⊥) → Err Length ≡ mirror_check nmax len
  unfolding mirror_check
  mirror_length h d = pass Size (le-ltb 2700 nmax h) (stop Length (Ok tt) (different d))

  pub mirror_done : nmax ≤ 2700 → len ≡ table_size nmax → Ok tt ≡ mirror_check nmax len
  unfolding mirror_check
  mirror_done h e = pass Size (le-ltb 2700 nmax h) (pass Length (equal e) refl)

  pub mirror_passed : Ok tt ≡ mirror_check nmax len → Mirrorable nmax len
  unfolding mirror_check
  mirror_passed h =
      let (p, g) = past (ltb 2700 nmax) Size _ h in
      let (q, l) = past (not (eqb len (table_size nmax))) Length _ g in
      record { top = nltb→le 2700 nmax p; whole = same len (table_size nmax) q }
