-- The checks of `grid`: one law for each way through them, and what passed checks tell. Assumes nothing.
use Rattle.std.specs.Prelude.{◌≡◌, refl, Bool, true, false, not, ℕ, ◌+◌, ◌*◌, ◌≤◌, ◌<◌, ltb, eqb, Err, Ok, Result, ⊤}
use Rattle.std.proofs.Math.Dec.{nltb→le}
use Rattle.std.proofs.Common.{lt-ltb, le-ltb}
use Rattle.refusal.specs.Numbers.{refuse, both, done_then, refused_then, ◌and_then◌}
use Rattle.refusal.specs.declared.Refusal.{Refusal}
use Rattle.refusal.specs.declared.Refusal.TheVariants.{Size, Length, Love, Space}
use Rattle.storage.specs.Checks.{tables_check, Tables, tables_passed, past, same, stop, pass, equal, different}
use Rattle.synthesis.specs.Grid.{grid_check, work_size}

-- what passed checks tell: a record, whose fields `omega` finds
pub record Accepted (nmax clen slen rows lats longitudes trig work out : ℕ) : Type 0 where
  pub tables : Tables nmax clen slen
  pub few_rows : rows ≤ 65535
  pub few_longitudes : longitudes ≤ 65535
  pub pairs : lats ≡ rows + rows
  pub orders : trig ≡ longitudes * (nmax + nmax + 2)
  pub room_work : work_size nmax ≤ work
  pub room_out : rows * longitudes ≤ out

module _ (nmax clen slen rows lats longitudes trig : ℕ) (lacks : Bool) (work out : ℕ) where
  abbrev answer : Result ⊤ Refusal
  answer = grid_check nmax clen slen rows lats longitudes trig lacks work out

  -- what is checked once the sizes are: the lists beside the tables, from each check on
  abbrev spaces : Result ⊤ Refusal
  spaces = refuse (ltb work (work_size nmax)) Space (refuse (ltb out (rows * longitudes)) Space (Ok tt))

  abbrev from_trig : Result ⊤ Refusal
  from_trig = refuse (not (eqb trig (longitudes * (nmax + nmax + 2)))) Length (refuse lacks Love spaces)

  abbrev from_pairs : Result ⊤ Refusal
  from_pairs = refuse (not (eqb lats (rows + rows))) Length from_trig

  pub accepted : Ok tt ≡ answer → Accepted nmax clen slen rows lats longitudes trig work out
  unfolding grid_check
  accepted h =
      let (p, h1) = past (ltb 65535 rows) Size _ h in
      let (q, h2) = past (ltb 65535 longitudes) Size _ h1 in
      let (t, h3) = both (tables_check nmax clen slen) _ h2 in
      let (l, h4) = past (not (eqb lats (rows + rows))) Length _ h3 in
      let (o, h5) = past (not (eqb trig (longitudes * (nmax + nmax + 2)))) Length _ h4 in
      let (v, h6) = past lacks Love _ h5 in
      let (w, h7) = past (ltb work (work_size nmax)) Space _ h6 in
      let (z, h8) = past (ltb out (rows * longitudes)) Space _ h7 in
      record {
        tables = tables_passed nmax clen slen t;
        few_rows = nltb→le 65535 rows p;
        few_longitudes = nltb→le 65535 longitudes q;
        pairs = same lats (rows + rows) l;
        orders = same trig (longitudes * (nmax + nmax + 2)) o;
        room_work = nltb→le work (work_size nmax) w;
        room_out = nltb→le out (rows * longitudes) z;
      }

  -- ---- the ways through them
  pub many_rows : 65535 < rows → Err Size ≡ answer
  unfolding grid_check
  many_rows h = stop _ _ (lt-ltb 65535 rows h)

  module _ (r : rows ≤ 65535) where
    pub many_longitudes : 65535 < longitudes → Err Size ≡ answer
    unfolding grid_check
    many_longitudes h = pass _ (le-ltb 65535 rows r) (stop _ _ (lt-ltb 65535 longitudes h))

    module _ (l : longitudes ≤ 65535) where
      past_sizes : {x : Result ⊤ Refusal} → x ≡ tables_check nmax clen slen and_then from_pairs → x ≡ answer
      unfolding grid_check
      past_sizes h = pass _ (le-ltb 65535 rows r) (pass _ (le-ltb 65535 longitudes l) h)

      pub wrong_tables : {e : Refusal} → Err e ≡ tables_check nmax clen slen → Err e ≡ answer
      wrong_tables h = past_sizes (refused_then _ _ h)

      module _ (t : Ok tt ≡ tables_check nmax clen slen) where
        past_tables : {x : Result ⊤ Refusal} → x ≡ from_pairs → x ≡ answer
        past_tables h = past_sizes (done_then t h)

        pub wrong_pairs : (lats ≡ rows + rows → ⊥) → Err Length ≡ answer
        wrong_pairs h = past_tables (stop _ _ (different h))

        module _ (p : lats ≡ rows + rows) where
          past_pairs : {x : Result ⊤ Refusal} → x ≡ from_trig → x ≡ answer
          past_pairs h = past_tables (pass _ (equal p) h)

          pub wrong_orders : (trig ≡ longitudes * (nmax + nmax + 2) → ⊥) → Err Length ≡ answer
          wrong_orders h = past_pairs (stop _ _ (different h))

          module _ (o : trig ≡ longitudes * (nmax + nmax + 2)) where
            pub no_love : lacks ≡ true → Err Love ≡ answer
            no_love h = past_pairs (pass _ (equal o) (stop _ _ h))

            module _ (v : lacks ≡ false) where
              past_love : {x : Result ⊤ Refusal} → x ≡ spaces → x ≡ answer
              past_love h = past_pairs (pass _ (equal o) (pass _ v h))

              pub short_work : work < work_size nmax → Err Space ≡ answer
              short_work h = past_love (stop _ _ (lt-ltb work (work_size nmax) h))

              module _ (w : work_size nmax ≤ work) where
                pub short_out : out < rows * longitudes → Err Space ≡ answer
                short_out h = past_love (pass _ (le-ltb work (work_size nmax) w) (stop _ _ (lt-ltb out (rows * longitudes) h)))

                pub all_passed : rows * longitudes ≤ out → Ok tt ≡ answer
                all_passed h = past_love (pass _ (le-ltb work (work_size nmax) w) (pass _ (le-ltb out (rows * longitudes) h) refl))
