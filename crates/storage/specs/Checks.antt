-- The checks that calls on tables share, in document 01's order, over the lengths of the lists, with one law for each way through them.
-- Assumes nothing.
use Rattle.std.specs.Prelude.{◌≡◌, Bool, true, false, not, List, ℕ, ◌≤◌, ◌<◌, T, ltb, eqb, length, get_or, Float, Err, Ok, Result, ⊤}
use Rattle.std.proofs.Common.{sym, ap, ◌∙◌, arith, eqb→eq}
use Rattle.std.proofs.Math.Dec.{nltb→le}
use Rattle.std.specs.Float.{nan}
use borrow.Author.Tests.{lt-ltb, le-ltb, eq-eqb, ne_eqb}
use Rattle.refusal.specs.Numbers.{refuse, refuse_yes, refuse_no, both, ◌and_then◌}
use Rattle.refusal.specs.declared.Refusal.{Refusal}
use Rattle.refusal.specs.declared.Refusal.TheVariants.{Size, Length, Space}
use Rattle.storage.specs.Answers.{size_of, place_of}
use Rattle.storage.specs.Triangle.{table_size, table_size_most}

-- SIZE: a degree above 2700; LENGTH: one of two tables that has not exactly its T entries
unfoldable pub tables_check : ℕ → ℕ → ℕ → Result ⊤ Refusal
tables_check nmax clen slen =
    refuse (ltb 2700 nmax) Size (refuse (not (eqb clen (table_size nmax))) Length (refuse (not (eqb slen (table_size nmax))) Length (Ok tt)))

-- SPACE: two lists, one of them shorter than size
unfoldable pub space_check : ℕ → ℕ → ℕ → Result ⊤ Refusal
space_check size a b = refuse (ltb a size) Space (refuse (ltb b size) Space (Ok tt))

-- SIZE, and SPACE for two tables
unfoldable pub room_check : ℕ → ℕ → ℕ → Result ⊤ Refusal
room_check nmax a b = refuse (ltb 2700 nmax) Size (space_check (table_size nmax) a b)

-- two tables that are read, and SPACE for two tables up to degree top
unfoldable pub outputs_check : ℕ → ℕ → ℕ → ℕ → ℕ → ℕ → Result ⊤ Refusal
outputs_check nmax clen slen top a b = tables_check nmax clen slen and_then space_check (size_of top) a b

-- what stands at an index, if there is one
abbrev pub value_at : List Float → Result ℕ Refusal → Result Float Refusal
value_at list (Ok k) = Ok (get_or list k nan)
value_at list (Err e) = Err e

-- one entry of a table: SIZE, LENGTH and PLACE, else the entry
unfoldable pub entry_answer : ℕ → List Float → ℕ → ℕ → Result Float Refusal
entry_answer nmax list n m =
    refuse (ltb 2700 nmax) Size (refuse (not (eqb (length list) (table_size nmax))) Length (value_at list (place_of nmax n m)))

-- ---- one check: it stops the call, or what comes after it answers
pub stop : {reason : Bool} (e : Refusal) (other : Result ⊤ Refusal) → reason ≡ true → Err e ≡ refuse reason e other
stop e other h = sym (refuse_yes e other h)

pub pass : {reason : Bool} (e : Refusal) {other x : Result ⊤ Refusal} → reason ≡ false → x ≡ other → x ≡ refuse reason e other
pass e {other} h g = g ∙ sym (refuse_no e other h)

pub different : {a b : ℕ} → (a ≡ b → ⊥) → not (eqb a b) ≡ true
different {a} {b} h = ap not (ne_eqb a b h)

pub equal : {a b : ℕ} → a ≡ b → not (eqb a b) ≡ false
equal {a} {b} h = ap not (eq-eqb a b h)

-- ---- one law for each way through the checks
pub past : (reason : Bool) (e : Refusal) (a : Result ⊤ Refusal) → Ok tt ≡ refuse reason e a → T (not reason) × (Ok tt ≡ a)
unfolding refuse
past true e a h = absurd (let z : ◌≡◌ {A = ℕ} 0 1 = cc in omega arith)
past false e a h = (tt, h)

pub same : (a b : ℕ) → T (not (not (eqb a b))) → a ≡ b
same a b h = eqb→eq a b (go (eqb a b) h)
  where
    go : (x : Bool) → T (not (not x)) → T x
    go true h = tt
    go false h = h

-- what passed checks tell: records, whose fields `omega` finds
pub record Tables (nmax clen slen : ℕ) : Type 0 where
  pub top : nmax ≤ 2700
  pub c : clen ≡ table_size nmax
  pub s : slen ≡ table_size nmax
  pub small : table_size nmax ≤ 3649051

module _ (nmax clen slen : ℕ) where
  pub tables_size : 2700 < nmax → Err Size ≡ tables_check nmax clen slen
  unfolding tables_check refuse
  tables_size h = simp (lt-ltb 2700 nmax h)

  pub tables_c : nmax ≤ 2700 → (clen ≡ table_size nmax → ⊥) → Err Length ≡ tables_check nmax clen slen
  unfolding tables_check refuse
  tables_c h d = simp (le-ltb 2700 nmax h, ne_eqb clen (table_size nmax) d)

  pub tables_s : nmax ≤ 2700 → clen ≡ table_size nmax → (slen ≡ table_size nmax → ⊥) → Err Length ≡ tables_check nmax clen slen
  unfolding tables_check refuse
  tables_s h e d = simp (le-ltb 2700 nmax h, eq-eqb clen (table_size nmax) e, ne_eqb slen (table_size nmax) d)

  pub tables_done : nmax ≤ 2700 → clen ≡ table_size nmax → slen ≡ table_size nmax → Ok tt ≡ tables_check nmax clen slen
  unfolding tables_check refuse
  tables_done h e d = simp (le-ltb 2700 nmax h, eq-eqb clen (table_size nmax) e, eq-eqb slen (table_size nmax) d)

  pub tables_passed : Ok tt ≡ tables_check nmax clen slen → Tables nmax clen slen
  unfolding tables_check
  tables_passed h =
      let (p, g) = past (ltb 2700 nmax) Size _ h in
      let (q, k) = past (not (eqb clen (table_size nmax))) Length _ g in
      let (r, l) = past (not (eqb slen (table_size nmax))) Length _ k in
      let t = nltb→le 2700 nmax p in
      record { top = t; c = same clen (table_size nmax) q; s = same slen (table_size nmax) r; small = table_size_most nmax t }

space_passed : (size a b : ℕ) → Ok tt ≡ space_check size a b → (size ≤ a) × (size ≤ b)
unfolding space_check
space_passed size a b h =
    let (p, g) = past (ltb a size) Space _ h in
    let (q, l) = past (ltb b size) Space _ g in
    (nltb→le a size p, nltb→le b size q)

pub record Outputs (nmax clen slen top a b : ℕ) : Type 0 where
  pub tables : Tables nmax clen slen
  pub first : size_of top ≤ a
  pub second : size_of top ≤ b

pub outputs_passed : (nmax clen slen top a b : ℕ) → Ok tt ≡ outputs_check nmax clen slen top a b → Outputs nmax clen slen top a b
unfolding outputs_check
outputs_passed nmax clen slen top a b h =
    let (t, g) = both (tables_check nmax clen slen) _ h in
    let (p, q) = space_passed (size_of top) a b g in
    record { tables = tables_passed nmax clen slen t; first = p; second = q }

module _ (size a b : ℕ) where
  pub space_first : a < size → Err Space ≡ space_check size a b
  unfolding space_check refuse
  space_first h = simp (lt-ltb a size h)

  pub space_second : size ≤ a → b < size → Err Space ≡ space_check size a b
  unfolding space_check refuse
  space_second h g = simp (le-ltb a size h, lt-ltb b size g)

  pub space_done : size ≤ a → size ≤ b → Ok tt ≡ space_check size a b
  unfolding space_check refuse
  space_done h g = simp (le-ltb a size h, le-ltb b size g)

module _ (nmax a b : ℕ) where
  pub room_size : 2700 < nmax → Err Size ≡ room_check nmax a b
  unfolding room_check refuse
  room_size h = simp (lt-ltb 2700 nmax h)

  pub room_space : nmax ≤ 2700 → space_check (table_size nmax) a b ≡ room_check nmax a b
  unfolding room_check refuse
  room_space h = simp (le-ltb 2700 nmax h)

pub record Room (nmax a b : ℕ) : Type 0 where
  pub top : nmax ≤ 2700
  pub first : table_size nmax ≤ a
  pub second : table_size nmax ≤ b

pub room_passed : (nmax a b : ℕ) → Ok tt ≡ room_check nmax a b → Room nmax a b
unfolding room_check
room_passed nmax a b h =
    let (t, g) = past (ltb 2700 nmax) Size _ h in
    let (p, q) = space_passed (table_size nmax) a b g in
    record { top = nltb→le 2700 nmax t; first = p; second = q }

module _ (nmax : ℕ) (list : List Float) (n m : ℕ) where
  pub entry_size : 2700 < nmax → Err Size ≡ entry_answer nmax list n m
  unfolding entry_answer refuse
  entry_size h = simp (lt-ltb 2700 nmax h)

  pub entry_length : nmax ≤ 2700 → (length list ≡ table_size nmax → ⊥) → Err Length ≡ entry_answer nmax list n m
  unfolding entry_answer refuse
  entry_length h d = simp (le-ltb 2700 nmax h, ne_eqb (length list) (table_size nmax) d)

  pub entry_at : {i : Result ℕ Refusal} → nmax ≤ 2700 → length list ≡ table_size nmax → i ≡ place_of nmax n m → value_at list i ≡ entry_answer nmax list n m
  unfolding entry_answer refuse
  entry_at h e g = simp (le-ltb 2700 nmax h, eq-eqb (length list) (table_size nmax) e) (ap (value_at list) g)
