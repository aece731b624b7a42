-- `cap::order` meets its contract: the matrix of the order stands apart from what is stored, and the order's numbers behind those before them. Assumes nothing.
use native.Mathlib.Omega.{arith}
use mathlib.Core.Path.{refl, sym, ◌∙◌}
use Prim.Native.Nat.{◌+◌, ◌*◌}
use lib.Ieee.{nan}
use native.Mathlib.Nat.{le_refl, zero-add}
use Rattle.storage.specs.Elements.{from, from_zero}
use Rattle.storage.specs.Filled.{filled, filled_in, filled_self}
use Rattle.storage.specs.Triangle.{table_size}
use Rattle.matrix.specs.Layout.{kept_from, filled_kept}
use Rattle.caps.specs.Caps.{degrees}
use Rattle.polar_cap.specs.PolarCap.{vectors_size, cap_work}
use Rattle.cap_functions.specs.CapPlaces.{order_within, divided, order_room}
use Rattle.polar_cap.specs.CapOrder.{coefficient_made}
use Rattle.polar_cap.specs.CapStorage.{apart_filled, apart_then, apart_kept, stored_apart, stored_more}
use borrow.Author.Rules.{rules}
use Rattle.polar_cap.proofs.cap.order.Goals as goal

pub vectors_of-ended-requires : goal.vectors_of-ended-requires
vectors_of-ended-requires c =
    let p = c.requires in
    let r = p.filled_3 in
    let o = order_room r p.m_le_lmax_1 refl p.filled_2.tables.size p.m_le_lmax_4 p.m_le_lmax_5 in
    record { m_le_lmax_1 = p.m_le_lmax_1; m_le_lmax_2 = refl; m_le_lmax_3 = r.top; m_le_lmax_4 = o.of_matrix_lem; m_le_lmax_5 = o.of_solver; k_in_bounds_1 = o.of_orders; k_in_bounds_2 = o.of_vectors }

pub concentrations_of-requires : goal.concentrations_of-requires
concentrations_of-requires c =
    let a = c.args in
    let p = c.requires in
    let r = p.filled_3 in
    let o = order_room r p.m_le_lmax_1 refl p.filled_2.tables.size p.m_le_lmax_4 p.m_le_lmax_5 in
    let vs = c.vectors_of-ended.ensures in
    let long = vs.fact_3.long in
    let top = r.top in
    let s = stored_apart a.lmax a.x0 a.weights.now a.latitudes.now p.filled_2 vs.fact_3 (le_refl (a.total + a.total))
    o.before_stored (divided a.lmax top) in record {
      m_le_lmax_1 = p.m_le_lmax_1;
      m_le_lmax_2 = refl;
      m_le_lmax_3 = p.m_le_lmax_2;
      m_le_lmax_4 = p.m_le_lmax_3;
      m_le_lmax_5 = record {
        small = omega (arith, o.all_degrees, top);
        tables = omega (arith, o.of_tables, long);
        behind = le_refl (a.total + a.total);
        matrix = omega (arith, o.of_solver, long);
        column = o.of_column;
      };
      tables_in_1 = s.tables;
      tables_in_2 = r.of_weights;
      tables_in_3 = r.of_latitudes;
      tables_in_4 = r.of_rescales;
      tables_in_5 = o.of_concentrations;
      filled_1 = p.filled_1;
      filled_2 = filled_self vs.fact_1;
      filled_3 = omega (arith, o.of_vectors, vs.fact_1.long);
    }

pub store-requires : goal.store-requires
store-requires c =
    let p = c.requires in
    let r = p.filled_3 in
    let o = order_room r p.m_le_lmax_1 refl p.filled_2.tables.size p.m_le_lmax_4 p.m_le_lmax_5 in
    let vs = c.vectors_of-ended.ensures in
    let cs = c.concentrations_of.ensures in
    let lv = vs.fact_1.long in
    let lw = vs.fact_3.long in
    let lc = cs.fact_1.long in
    let lw2 = cs.fact_2.long in
    record { fact_1 = o.few; fact_2 = omega (arith, o.of_concentrations, lc); fact_3 = omega (arith, o.of_vectors, lv); fact_4 = o.apart; fact_5 = omega (arith, o.of_store, lw, lw2) }

pub returns : goal.returns
returns c =
    let a = c.args in
    let p = c.requires in
    let r = p.filled_3 in
    let o = order_room r p.m_le_lmax_1 refl p.filled_2.tables.size p.m_le_lmax_4 p.m_le_lmax_5 in
    let d = divided a.lmax r.top in
    let vs = c.vectors_of-ended.ensures in
    let cs = c.concentrations_of.ensures in
    let w = c.concentrations_of.new.work in
    let conc = c.concentrations_of.new.out in
    let stores = c.store.ensures in
    let both = apart_then (a.total + a.total) (a.total + a.total + (degrees a.lmax a.m * degrees a.lmax a.m + 4 * degrees a.lmax
    a.m)) vs.fact_3 cs.fact_2 (le_refl _) (le_refl _) (le_refl _) (omega arith) in
    let s = stored_apart a.lmax a.x0 a.weights.now a.latitudes.now p.filled_2 both (le_refl (a.total + a.total))
    o.before_stored d in
    let one = filled a.f (from 0 conc nan) (degrees a.lmax a.m) w refl in
    let long = both.long in
    let more =
    stored_more a.lmax a.x0 a.weights.now a.latitudes.now s one stores d (order_within a.lmax a.m p.m_le_lmax_1 r.top) refl p.m_le_lmax_4
    p.m_le_lmax_5 (omega (arith, r.of_work, long))
    (λ col h. from_zero conc nan col ∙ filled_in nan cs.fact_1 h (sym (zero-add col)) (omega (arith, h, o.of_concentrations)))
    (coefficient_made a.lmax a.m a.x0 refl vs.fact_1 o.of_vectors) in
    let all = apart_then (a.total + a.total) (cap_work a.lmax) both (apart_then a.f (a.v + degrees a.lmax a.m * degrees a.lmax
    a.m) (apart_filled one) (apart_filled stores)
    (le_refl _) (omega (arith, o.apart)) (omega (arith, o.apart)) (le_refl _)) (le_refl _) o.behind (omega
    (arith, o.before_stored, o.apart, o.end, d.vectors_at_lem, p.m_le_lmax_4)) o.end in record { stored_1 = more; stored_2 = apart_kept (cap_work a.lmax) all (le_refl _); kept_1 = kept_from (table_size a.lmax) o.in_functions vs.fact_2; kept_2 = kept_from (table_size a.lmax) o.in_functions (filled_kept cs.fact_1); kept_3 = kept_from (vectors_size a.lmax) o.in_numbers (filled_kept vs.fact_1); kept_4 = vs.fact_4 }
