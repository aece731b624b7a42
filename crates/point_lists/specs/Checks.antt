-- The checks of the calls for points: one law for each way through them, and what passed checks tell. A call may use k tables of its working list
-- and writes so many numbers a point. Assumes nothing.
use Rattle.std.specs.Prelude.{◌≡◌, refl, not, ℕ, ◌+◌, ◌*◌, ◌≤◌, ◌<◌, ltb, eqb, Err, Ok, Result, ⊤}
use Rattle.std.proofs.Common.{ap, mul-le-mul_right, arith}
use Rattle.std.proofs.Math.Dec.{nltb→le}
use borrow.Author.Tests.{lt-ltb, le-ltb, eq-eqb, ne_eqb}
use Rattle.refusal.specs.Numbers.{refuse, both, done_then, refused_then}
use Rattle.refusal.specs.declared.Refusal.{Refusal}
use Rattle.refusal.specs.declared.Refusal.TheVariants.{Size, Length, Space}
use Rattle.storage.specs.Checks.{tables_check, Tables, tables_passed, past, same}
use Rattle.storage.specs.Triangle.{table_size}
use Rattle.local.specs.Point.{point_check_of, along_check_of}

-- what passed checks tell: a record, whose fields `omega` finds
pub record Accepted (k numbers nmax clen slen points radii lats trig work out : ℕ) : Type 0 where
  pub tables : Tables nmax clen slen
  pub few : points ≤ 65535
  pub each : radii ≡ points
  pub pairs : lats ≡ points + points
  pub orders : trig ≡ points * (nmax + nmax + 2)
  pub room_work : k * table_size nmax ≤ work
  pub room_out : numbers * points ≤ out

-- k times the length of c, where the checks of the tables are passed: as long as k tables, and small
pub record Counted (k nmax clen slen : ℕ) : Type 0 where
  pub tables : Tables nmax clen slen
  pub is : k * clen ≡ k * table_size nmax
  pub small : k * clen ≤ 18245255

pub counted : (k nmax clen slen : ℕ) → k ≤ 5 → Ok tt ≡ tables_check nmax clen slen → Counted k nmax clen slen
counted k nmax clen slen h t =
    let tables = tables_passed nmax clen slen t in
    record { tables = tables; is = ap (λ (x : ℕ). k * x) tables.c; small = omega (arith, mul-le-mul_right clen h) }

-- ---- one point
module _ (k nmax clen slen trig work : ℕ) where
  abbrev one : Result ⊤ Refusal
  one = point_check_of k nmax clen slen trig work

  -- a single point is a list of one
  pub point_accepted : (numbers : ℕ) → Ok tt ≡ one → Accepted k numbers nmax clen slen 1 1 2 trig work numbers
  unfolding point_check_of
  point_accepted numbers h =
      let (t, h1) = both (tables_check nmax clen slen) _ h in
      let (o, h2) = past (not (eqb trig (nmax + nmax + 2))) Length _ h1 in
      let (w, h3) = past (ltb work (k * table_size nmax)) Space _ h2 in
      record {
        tables = tables_passed nmax clen slen t;
        few = omega arith;
        each = refl;
        pairs = refl;
        orders = omega (arith, same trig (nmax + nmax + 2) o);
        room_work = nltb→le work (k * table_size nmax) w;
        room_out = omega arith;
      }

  pub point_tables : {e : Refusal} → Err e ≡ tables_check nmax clen slen → Err e ≡ one
  unfolding point_check_of
  point_tables h = refused_then _ _ h

  module _ (t : Ok tt ≡ tables_check nmax clen slen) where
    pub point_orders : (trig ≡ nmax + nmax + 2 → ⊥) → Err Length ≡ one
    unfolding point_check_of refuse
    point_orders h = done_then t (simp (ne_eqb trig (nmax + nmax + 2) h))

    module _ (o : trig ≡ nmax + nmax + 2) where
      pub point_work : work < k * table_size nmax → Err Space ≡ one
      unfolding point_check_of refuse
      point_work h = done_then t (simp (eq-eqb trig (nmax + nmax + 2) o, lt-ltb work (k * table_size nmax) h))

      pub point_passed : k * table_size nmax ≤ work → Ok tt ≡ one
      unfolding point_check_of refuse
      point_passed h = done_then t (simp (eq-eqb trig (nmax + nmax + 2) o, le-ltb work (k * table_size nmax) h))

-- ---- many points
module _ (k numbers nmax clen slen points radii lats trig work out : ℕ) where
  abbrev many : Result ⊤ Refusal
  many = along_check_of k numbers nmax clen slen points radii lats trig work out

  -- what is checked past the size and the tables
  abbrev lists : Result ⊤ Refusal
  lists =
      refuse (not (eqb radii points)) Length
      (refuse (not (eqb lats (points + points))) Length
      (refuse (not (eqb trig (points * (nmax + nmax + 2)))) Length
      (refuse (ltb work (k * table_size nmax)) Space (refuse (ltb out (numbers * points)) Space (Ok tt)))))

  pub many_accepted : Ok tt ≡ many → Accepted k numbers nmax clen slen points radii lats trig work out
  unfolding along_check_of
  many_accepted h =
      let (p, h1) = past (ltb 65535 points) Size _ h in
      let (t, h2) = both (tables_check nmax clen slen) _ h1 in
      let (e, h3) = past (not (eqb radii points)) Length _ h2 in
      let (l, h4) = past (not (eqb lats (points + points))) Length _ h3 in
      let (o, h5) = past (not (eqb trig (points * (nmax + nmax + 2)))) Length _ h4 in
      let (w, h6) = past (ltb work (k * table_size nmax)) Space _ h5 in
      let (z, h7) = past (ltb out (numbers * points)) Space _ h6 in
      record {
        tables = tables_passed nmax clen slen t;
        few = nltb→le 65535 points p;
        each = same radii points e;
        pairs = same lats (points + points) l;
        orders = same trig (points * (nmax + nmax + 2)) o;
        room_work = nltb→le work (k * table_size nmax) w;
        room_out = nltb→le out (numbers * points) z;
      }

  pub many_points : 65535 < points → Err Size ≡ many
  unfolding along_check_of refuse
  many_points h = simp (lt-ltb 65535 points h)

  module _ (n : points ≤ 65535) where
    pub many_tables : {e : Refusal} → Err e ≡ tables_check nmax clen slen → Err e ≡ many
    unfolding along_check_of refuse
    many_tables h = simp (le-ltb 65535 points n) (refused_then _ lists h)

    module _ (t : Ok tt ≡ tables_check nmax clen slen) where
      past_tables : {x : Result ⊤ Refusal} → x ≡ lists → x ≡ many
      unfolding along_check_of refuse
      past_tables h = simp (le-ltb 65535 points n) (done_then t h)

      pub many_radii : (radii ≡ points → ⊥) → Err Length ≡ many
      unfolding refuse
      many_radii h = past_tables (simp (ne_eqb radii points h))

      module _ (e : radii ≡ points) where
        pub many_pairs : (lats ≡ points + points → ⊥) → Err Length ≡ many
        unfolding refuse
        many_pairs h = past_tables (simp (eq-eqb radii points e, ne_eqb lats (points + points) h))

        module _ (l : lats ≡ points + points) where
          pub many_orders : (trig ≡ points * (nmax + nmax + 2) → ⊥) → Err Length ≡ many
          unfolding refuse
          many_orders h =
              past_tables (simp (eq-eqb radii points e, eq-eqb lats (points + points) l, ne_eqb trig (points * (nmax + nmax + 2)) h))

          module _ (o : trig ≡ points * (nmax + nmax + 2)) where
            past_lengths : {x : Result ⊤ Refusal} → x ≡ refuse (ltb work (k * table_size nmax)) Space (refuse (ltb out (numbers * points)) Space (Ok tt)) → x ≡ many
            unfolding refuse
            past_lengths h =
                past_tables
                (simp (eq-eqb radii points e, eq-eqb lats (points + points) l, eq-eqb trig (points * (nmax + nmax + 2)) o) h)

            pub many_work : work < k * table_size nmax → Err Space ≡ many
            unfolding refuse
            many_work h = past_lengths (simp (lt-ltb work (k * table_size nmax) h))

            module _ (w : k * table_size nmax ≤ work) where
              pub many_out : out < numbers * points → Err Space ≡ many
              unfolding refuse
              many_out h = past_lengths (simp (le-ltb work (k * table_size nmax) w, lt-ltb out (numbers * points) h))

              pub many_passed : numbers * points ≤ out → Ok tt ≡ many
              unfolding refuse
              many_passed h = past_lengths (simp (le-ltb work (k * table_size nmax) w, le-ltb out (numbers * points) h))
