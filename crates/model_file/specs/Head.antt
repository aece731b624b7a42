-- The head of a file: the answer on each way through its checks, what an accepted head says of the bytes, and that a head and its record
-- say the same. Assumes nothing.
use Rattle.std.specs.Prelude.{◌≡◌, refl, Bool, true, false, not, ℕ, ◌+◌, ◌^◌, ◌≤◌, ◌<◌, List, ◌∷◌, ◌++◌, length, get_or, drop, Err, Ok, Result}
use Rattle.std.proofs.Common.{sym, ap, ◌∙◌, arith, append_assoc, length-append}
use borrow.Author.Tests.{lt-ltb, le-ltb, ltb-false, lt-leb, le-leb}
use Rattle.refusal.specs.declared.Refusal.{Refusal}
use Rattle.refusal.specs.declared.Refusal.TheVariants.{Size, Short, Kind}
use Rattle.refusal.specs.declared.Refusal.TheVariants.{Tide as BadTide}
use Rattle.coefficients.specs.Model.{tide_number, tide_small, tide_back, tide_forth}
use Rattle.model_file.specs.declared.FileHead.{FileHead}
use Rattle.model_file.specs.LittleEndian.{bytes_of, number_at, length_bytes, Below, here_head, here_tail, here_rest, here_cons}
use Rattle.model_file.specs.LittleEndian.{number_here, bytes_here}
use Rattle.model_file.specs.Format.{is_head, head_kind, head_size, date_bytes, date_at, head_at, head_of, head_bytes}
use Rattle.model_file.specs.Dates.{DateFits, size_least, length_date, kind_head, kind_back, date_here, date_back}
use Rattle.refusal.specs.Numbers.{refuse}

module _ (s : List ℕ) where
  pub head_absent : length s ≤ 0 → Err Short ≡ head_of s
  unfolding head_of refuse
  head_absent h = simp (le-leb (length s) 0 h)

  pub head_kind_lem : 0 < length s → not (is_head (get_or s 0 0)) ≡ true → Err Kind ≡ head_of s
  unfolding head_of refuse
  head_kind_lem h e = simp (lt-leb (length s) 0 h, e)

  module _ (h : 0 < length s) (e : not (is_head (get_or s 0 0)) ≡ false) where
    pub head_body : length s < head_size (date_at s) → Err Short ≡ head_of s
    unfolding head_of refuse
    head_body b = simp (lt-leb (length s) 0 h, e, lt-ltb (length s) (head_size (date_at s)) b)

    module _ (b : head_size (date_at s) ≤ length s) where
      pub head_tide : 3 < get_or s 17 0 → Err BadTide ≡ head_of s
      unfolding head_of refuse
      head_tide t = simp (lt-leb (length s) 0 h, e, le-ltb (length s) (head_size (date_at s)) b, lt-ltb 3 (get_or s 17 0) t)

      pub head_size_lem : get_or s 17 0 ≤ 3 → 2700 < number_at 2 s 18 → Err Size ≡ head_of s
      unfolding head_of refuse
      head_size_lem t n =
          simp (lt-leb (length s) 0 h, e, le-ltb (length s) (head_size (date_at s)) b, le-ltb 3 (get_or s 17 0) t, lt-ltb 2700 (number_at 2 s 18) n)

      pub head_model : get_or s 17 0 ≤ 3 → number_at 2 s 18 ≤ 2700 → Ok (head_at s) ≡ head_of s
      unfolding head_of refuse
      head_model t n =
          simp (lt-leb (length s) 0 h, e, le-ltb (length s) (head_size (date_at s)) b, le-ltb 3 (get_or s 17 0) t, le-ltb 2700 (number_at 2 s 18) n)

-- a ground that did not refuse does not hold
record Passed (reason : Bool) (x y : Result FileHead Refusal) : Type 0 where
  holds_not : reason ≡ false
  on : x ≡ y

passed : (reason : Bool) (e : Refusal) (x : Result FileHead Refusal) (h : FileHead) → refuse reason e x ≡ Ok h → Passed reason x (Ok h)
unfolding refuse
passed true e x h p = let z : ◌≡◌ {A = ℕ} 0 1 = cc in absurd (omega arith)
passed false e x h p = record { holds_not = refl; on = p }

pub not_not : (b : Bool) → not b ≡ false → b ≡ true
not_not true p = refl
not_not false p = sym p

-- what an accepted head says of the bytes: a record, whose fields `omega` finds
pub record Headed (s : List ℕ) (h : FileHead) : Type 0 where
  pub kind : is_head (get_or s 0 0) ≡ true
  pub long : head_size (date_at s) ≤ length s
  pub tide_small : get_or s 17 0 ≤ 3
  pub small : number_at 2 s 18 ≤ 2700
  pub is : h ≡ head_at s

same_model : (g h : FileHead) → ◌≡◌ {A = Result FileHead Refusal} (Ok g) (Ok h) → h ≡ g
same_model g h p = cc

pub headed : (s : List ℕ) (h : FileHead) → head_of s ≡ Ok h → Headed s h
unfolding head_of
headed s h p =
    let p1 = passed _ _ _ h p in
    let p2 = passed _ _ _ h p1.on in
    let p3 = passed _ _ _ h p2.on in
    let p4 = passed _ _ _ h p3.on in
    let p5 = passed _ _ _ h p4.on in
    record {
      kind = not_not _ p2.holds_not;
      long = ltb-false _ _ p3.holds_not;
      tide_small = ltb-false _ _ p4.holds_not;
      small = ltb-false _ _ p5.holds_not;
      is = same_model _ h p5.on;
    }

pub head_small : (s : List ℕ) (h : FileHead) → head_of s ≡ Ok h → h.nmax ≤ 2700
head_small s h p = let d = headed s h p in rw d.is d.small

pub length_head_bytes : (h : FileHead) → length (head_bytes h) ≡ head_size h.date
unfolding head_bytes bytes_of
length_head_bytes h = omega (arith, length_date h.date)

-- the kind of a file tells whether its model has a date
pub kind_of_head : (h : FileHead) (rest : List ℕ) → get_or (head_bytes h ++ rest) 0 0 ≡ head_kind h.date
unfolding head_bytes
kind_of_head h rest = refl

-- ---- from a head to its record and back

head_is : (s : List ℕ) (h : FileHead) → Ok (head_at s) ≡ head_of s → number_at 8 s 1 ≡ h.gm → number_at 8 s 9 ≡ h.radius
    → get_or s 17 0 ≡ tide_number h.tide → date_at s ≡ h.date → number_at 2 s 18 ≡ h.nmax → head_of s ≡ Ok h
head_is s h p g r t d n = sym p ∙ rw (g, r, t, tide_back, d, n) refl

-- what stands behind a head's record, and that the record says that head
pub record HeadThen (s : List ℕ) (h : FileHead) (rest : List ℕ) : Type 0 where
  pub is : head_of s ≡ Ok h
  pub behind : drop (head_size h.date) s ≡ rest

pub head_of_bytes : (h : FileHead) (rest : List ℕ) → h.gm < 2 ^ 64 → h.radius < 2 ^ 64 → DateFits h.date → h.nmax ≤ 2700
    → HeadThen (head_bytes h ++ rest) h rest
unfolding head_bytes
head_of_bytes h rest gm_fits radius_fits date_fits small =
    let s : List ℕ = head_bytes h ++ rest in
    let n2 : List ℕ = bytes_of 2 h.nmax in
    let d4 : List ℕ = date_bytes h.date in
    let p1 : drop 1 s ≡ bytes_of 8 h.gm ++ (bytes_of 8 h.radius ++ (tide_number h.tide ∷ (n2 ++ d4) ++ rest)) =
    append_assoc (bytes_of 8 h.gm) (bytes_of 8 h.radius ++ (tide_number h.tide ∷ (n2 ++ d4))) rest
    ∙ ap (λ (l : List ℕ). bytes_of 8 h.gm ++ l) (append_assoc (bytes_of 8 h.radius) (tide_number h.tide ∷ (n2 ++ d4)) rest) in
    let p9 : drop 9 s ≡ bytes_of 8 h.radius ++ (tide_number h.tide ∷ (n2 ++ d4) ++ rest) =
    here_rest s 1 8 (bytes_of 8 h.gm) _ (length_bytes 8 h.gm) p1 in
    let p17 : drop 17 s ≡ tide_number h.tide ∷ (n2 ++ d4) ++ rest = here_rest s 9 8 (bytes_of 8 h.radius) _ (length_bytes 8 h.radius) p9 in
    let p18 : drop 18 s ≡ n2 ++ (d4 ++ rest) = here_tail s 17 _ _ p17 ∙ append_assoc n2 d4 rest in
    let p20 : drop 20 s ≡ d4 ++ rest = here_rest s 18 2 n2 _ (length_bytes 2 h.nmax) p18 in
    let g = number_here 8 s 1 h.gm _ gm_fits p1 in
    let r = number_here 8 s 9 h.radius _ radius_fits p9 in
    let n = number_here 2 s 18 h.nmax _ (omega arith) p18 in
    let t = here_head s 17 _ _ p17 in
    let k = kind_of_head h rest in
    let d = date_here h.date s rest date_fits k p20 in
    let is_head_lem : not (is_head (get_or s 0 0)) ≡ false = ap (λ (i : ℕ). not (is_head i)) k ∙ ap not (kind_head h.date) in
    let all : length s ≡ head_size h.date + length rest = length-append (head_bytes h) rest ∙ ap (λ (i : ℕ). i + length rest) (length_head_bytes h) in
    let least = size_least h.date in
    let enough : head_size (date_at s) ≤ length s = omega (arith, ap head_size d.is) in
    let m = head_model s (omega arith) is_head_lem enough (omega (arith, tide_small h.tide)) (omega arith) in
    record { is = head_is s h m g r t d.is n; behind = d.behind }

-- an accepted head's record is the front of the file
pub head_back : (s : List ℕ) (h : FileHead) → Below 256 s → Headed s h → s ≡ head_bytes h ++ drop (head_size h.date) s
unfolding head_bytes
head_back s h b y =
    let long = y.long in
    let least = size_least (date_at s) in
    let k = kind_back s y.kind in
    let e0 = here_cons s 0 (omega arith) in
    let e1 = bytes_here 8 s 1 b (omega arith) in
    let e9 = bytes_here 8 s 9 b (omega arith) in
    let e17 = here_cons s 17 (omega arith) in
    let e18 = bytes_here 2 s 18 b (omega arith) in
    let e20 = date_back s b long in
    let t = tide_forth (get_or s 17 0) y.tide_small in
    let g8 : List ℕ = bytes_of 8 (number_at 8 s 1) in
    let r8 : List ℕ = bytes_of 8 (number_at 8 s 9) in
    let n2 : List ℕ = bytes_of 2 (number_at 2 s 18) in
    let d4 : List ℕ = date_bytes (date_at s) in
    let rest : List ℕ = drop (head_size (date_at s)) s in
    let t3 : List ℕ = get_or s 17 0 ∷ (n2 ++ d4) in
    let tail : drop 17 s ≡ t3 ++ rest =
    e17 ∙ ap (λ (l : List ℕ). get_or s 17 0 ∷ l) (e18 ∙ ap (λ (l : List ℕ). n2 ++ l) e20 ∙ sym (append_assoc n2 d4 rest)) in
    let r : s ≡ get_or s 0 0 ∷ (g8 ++ (r8 ++ (t3 ++ rest))) =
    e0 ∙ ap (λ (l : List ℕ). get_or s 0 0 ∷ l) (e1 ∙ ap (λ (l : List ℕ). g8 ++ l) (e9 ∙ ap (λ (l : List ℕ). r8 ++ l) tail)) in
    let q : g8 ++ (r8 ++ t3) ++ rest ≡ g8 ++ (r8 ++ (t3 ++ rest)) =
    append_assoc g8 (r8 ++ t3) rest ∙ ap (λ (l : List ℕ). g8 ++ l) (append_assoc r8 t3 rest) in
    let f : s ≡ head_kind (date_at s) ∷ (g8 ++ (r8 ++ t3) ++ rest) =
    r ∙ ap (λ (i : ℕ). i ∷ (g8 ++ (r8 ++ (t3 ++ rest)))) k ∙ ap (λ (l : List ℕ). head_kind (date_at s) ∷ l) (sym q) in
    rw (y.is, t) f
