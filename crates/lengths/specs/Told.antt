-- What a call answers and leaves that tells the lengths of another call's lists, and the laws that its proof asks for. Assumes nothing.
use Rattle.std.specs.Prelude.{◌≡◌, List, ℕ, ◌≤◌, ◌<◌, ltb, length, Err, Ok, Result, ⊤}
use Rattle.std.proofs.Math.Path.{refl, sym, ap}
use Rattle.std.proofs.Common.{◌∙◌, nltb→le, lt-ltb, le-ltb}
use Rattle.refusal.specs.Numbers.{after, refuse, refuse_yes, refuse_no, refused_then, result_number, ◌and_then◌}
use Rattle.refusal.specs.declared.Refusal.{Refusal}
use Rattle.refusal.specs.declared.Refusal.TheVariants.{Size, Space}
use Rattle.storage.specs.Checks.{past}
use Rattle.storage.specs.Elements.{from}
use Rattle.storage.specs.Filled.{Filled}
use Rattle.storage.specs.Store.{store, length-store, store-fill}
use Rattle.storage.specs.Triangle.{table_size}

-- SIZE: a size above its limit
unfoldable pub size_check : ℕ → ℕ → Result ⊤ Refusal
size_check limit size = refuse (ltb limit size) Size (Ok tt)

-- what the sizes answer, then SPACE: a list with less room than there are lengths
unfoldable pub lengths_check : Result ⊤ Refusal → List ℕ → ℕ → Result ⊤ Refusal
lengths_check sizes told room = sizes and_then refuse (ltb room (length told)) Space (Ok tt)

-- what the list holds afterwards: the lengths at its front or, refused, what it held
unfoldable pub lengths_after : Result ⊤ Refusal → List ℕ → List ℕ → List ℕ
lengths_after sizes told old = after (lengths_check sizes told (length old)) (store 0 told old) old

-- both promises, and that the list is as long as before: a record, whose fields `omega` finds
pub record Told (sizes : Result ⊤ Refusal) (told : List ℕ) (x : Result ⊤ Refusal) (old new : List ℕ) : Type 0 where
  pub answers : x ≡ lengths_check sizes told (length old)
  pub holds : new ≡ lengths_after sizes told old
  pub long : length new ≡ length old

-- how many entries a table up to degree N has: a record, whose fields `omega` finds
pub record Entries (N size : ℕ) : Type 0 where
  pub is : size ≡ table_size N
  pub small : size ≤ 3649051

-- ---- the sizes
pub too_large : {limit size : ℕ} → limit < size → Err Size ≡ size_check limit size
unfolding size_check
too_large {limit} {size} h = sym (refuse_yes Size (Ok tt) (lt-ltb limit size h))

pub small_enough : {limit size : ℕ} → size ≤ limit → Ok tt ≡ size_check limit size
unfolding size_check
small_enough {limit} {size} h = sym (refuse_no Size (Ok tt) (le-ltb limit size h))

pub within : (limit size : ℕ) → Ok tt ≡ size_check limit size → size ≤ limit
unfolding size_check
within limit size h = nltb→le limit size (past (ltb limit size) Size _ h).0

-- ---- the list keeps its length
after_length : (a : Result ⊤ Refusal) (told old : List ℕ) → length (after a (store 0 told old) old) ≡ length old
after_length (Ok _) told old = length-store 0 told old
after_length (Err e) told old = refl

pub told_length : (sizes : Result ⊤ Refusal) (told old : List ℕ) {new : List ℕ} → new ≡ lengths_after sizes told old → length new ≡ length old
unfolding lengths_after
told_length sizes told old e = ap length e ∙ after_length (lengths_check sizes told (length old)) told old

-- ---- the ways through such a call
module _ {told old : List ℕ} where
  told_refused : {sizes : Result ⊤ Refusal} {e : Refusal} → Err e ≡ lengths_check sizes told (length old) → Told sizes told (Err e) old old
  unfolding lengths_after
  told_refused h = record { answers = h; holds = ap (λ (a : Result ⊤ Refusal). after a (store 0 told old) old) h; long = refl }

  -- a size is refused
  pub size_refused : {sizes : Result ⊤ Refusal} {e : Refusal} → Err e ≡ sizes → Told sizes told (Err e) old old
  unfolding lengths_check
  size_refused h = told_refused (refused_then _ _ h)

  -- there is no room
  pub short_refused : length old < length told → Told (Ok tt) told (Err Space) old old
  unfolding lengths_check
  short_refused h = told_refused (sym (refuse_yes Space (Ok tt) (lt-ltb (length old) (length told) h)))

  -- the lengths are stored
  pub told_stored : {new : List ℕ} → length told ≤ length old → Filled 0 (from 0 told 0) (length told) old new → Told (Ok tt) told (Ok tt) old new
  unfolding lengths_check lengths_after
  told_stored h r =
      let d = sym (refuse_no Space (Ok tt) (le-ltb (length old) (length told) h)) in
      record {
        answers = d;
        holds = r.is ∙ sym (store-fill 0 told old 0) ∙ ap (λ (a : Result ⊤ Refusal). after a (store 0 told old) old) d;
        long = r.long;
      }

-- the sizes are not refused, and the lengths are said otherwise
pub told_past : {sizes : Result ⊤ Refusal} {told told' : List ℕ} {x : Result ⊤ Refusal} {old new : List ℕ} → Ok tt ≡ sizes → told' ≡ told → Told (Ok tt) told' x old new
    → Told sizes told x old new
told_past d e r = rw (← d, ← e) r

-- ---- the promises, of a call and of the entry that answers its number
pub promised : {sizes : Result ⊤ Refusal} {told : List ℕ} {x : Result ⊤ Refusal} {old new : List ℕ} → Told sizes told x old new
    → (x ≡ lengths_check sizes told (length old)) × (new ≡ lengths_after sizes told old)
promised r = (r.answers, r.holds)

pub numbered : (sizes : Result ⊤ Refusal) (told old : List ℕ) {a : Result ⊤ Refusal} {x : ℕ} {new : List ℕ}
    → (a ≡ lengths_check sizes told (length old)) × (new ≡ lengths_after sizes told old) → x ≡ result_number a
    → (x ≡ result_number (lengths_check sizes told (length old))) × (new ≡ lengths_after sizes told old)
numbered sizes told old (p, q) e = (e ∙ ap (λ (y : Result ⊤ Refusal). result_number y) p, q)
