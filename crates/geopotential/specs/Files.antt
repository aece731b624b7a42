-- The entries for model files: what they answer and leave. A head is six words in C: the patterns of gm and radius, the tide's number, N,
-- whether a date is stated, and the 32 bits of its count. Assumes nothing.
use Rattle.std.proofs.Math.Path.{◌≡◌, refl, ap}
use Rattle.std.proofs.Common.{◌∙◌, arith, lt-ltb, le-ltb}
use Rattle.std.specs.Prelude.{Bool, List, [], ◌∷◌, ℕ, ◌≤◌, ◌<◌, ltb, length, set, ℤ, Err, Ok, Option, Result, ⊤}
use Rattle.std.proofs.Math.Bool.{true, false, cond}
use Rattle.refusal.specs.Numbers.{after, refusal_number, refuse, result_number}
use Rattle.refusal.specs.declared.Refusal.{Refusal}
use Rattle.refusal.specs.declared.Refusal.TheVariants.{Space, Tide}
use Rattle.storage.specs.Store.{store}
use Rattle.days.specs.Days.{pattern_of}
use Rattle.coefficients.specs.Model.{tide_number, tide_of, dated_number, day_count, date_of}
use Rattle.model_file.specs.declared.FileHead.{FileHead}
use Rattle.model_file.specs.Format.{Parsed, model, fault, render}
use Rattle.model_file.specs.Answers.{verdict_of, read_answer, write_answer}

-- the 32 bits of a date's count; 0 where none is stated
abbrev pub date_bits : Option ℤ → ℕ
date_bits d = pattern_of (day_count d)

-- the six words of a head
abbrev pub head_words : FileHead → List ℕ
head_words h = h.gm ∷ h.radius ∷ tide_number h.tide ∷ h.nmax ∷ dated_number h.date ∷ date_bits h.date ∷ []

abbrev pub words_of : Parsed → List ℕ
words_of (model h c s) = head_words h
words_of (fault e) = []

-- what reading answers: the file's own refusal, then SPACE for a list that is too short
unfoldable pub model_read : Parsed → ℕ → ℕ → ℕ → Result ⊤ Refusal
model_read (model h c s) lc ls lh = refuse (ltb lh 6) Space (refuse (ltb lc (length c)) Space (refuse (ltb ls (length s)) Space (Ok tt)))
model_read (fault e) lc ls lh = Err e

-- a file that is accepted, with a list for its head that is too short
abbrev pub or_space : Result ⊤ Refusal → ℕ
or_space (Ok _) = refusal_number Space
or_space (Err e) = refusal_number e

pub words_stored : (h : FileHead) (t k b : ℕ) (d : List ℕ) → t ≡ tide_number h.tide → k ≡ dated_number h.date → b ≡ date_bits h.date
    → set (set (set (set (set (set d 0 h.gm) 1 h.radius) 2 t) 3 h.nmax) 4 k) 5 b ≡ store 0 (head_words h) d
unfolding store
words_stored h t k b d e f g = rw (e, f, g) refl

-- ---- the ways through the entry that reads
module _ (lc ls lh : ℕ) where
  short_number : (p : Parsed) → lh < 6 → or_space (verdict_of p) ≡ result_number (model_read p lc ls lh)
  unfolding model_read refuse
  short_number (model h c s) b = simp (lt-ltb lh 6 b)
  short_number (fault e) b = refl

  pub read_short : (p : Parsed) {a : Result ⊤ Refusal} {x : ℕ} → lh < 6 → a ≡ verdict_of p → x ≡ or_space a → x ≡ result_number (model_read p lc ls lh)
  read_short p b e f = f ∙ ap (λ (a : Result ⊤ Refusal). or_space a) e ∙ short_number p b

  pub short_kept : {A : Type 0} (p : Parsed) (made old : A) → lh < 6 → old ≡ after (model_read p lc ls lh) made old
  unfolding model_read refuse
  short_kept (model h c s) made old b = simp (lt-ltb lh 6 b)
  short_kept (fault e) made old b = refl

  pub read_refused : (p : Parsed) (e : Refusal) → 6 ≤ lh → Err e ≡ read_answer p lc ls → Err e ≡ model_read p lc ls lh
  unfolding model_read refuse
  read_refused (model h c s) e b q = simp (le-ltb lh 6 b) (go (ltb lc (length c)) (ltb ls (length s)) q)
    where
      go : (x y : Bool) → Err e ≡ cond x (Err Space) (cond y (Err Space) (Ok h)) → Err e ≡ cond {A = Result ⊤ Refusal} x (Err Space) (cond y (Err Space) (Ok tt))
      go true y q = let i : e ≡ Space = cc in ap (λ (r : Refusal). Err r) i
      go false true q = let i : e ≡ Space = cc in ap (λ (r : Refusal). Err r) i
      go false false q = absurd (let z : ◌≡◌ {A = ℕ} 0 1 = cc in omega arith)
  read_refused (fault x) e b q = let i : e ≡ x = cc in ap (λ (r : Refusal). Err r) i

  pub read_model : (p : Parsed) (h : FileHead) → 6 ≤ lh → Ok h ≡ read_answer p lc ls → (Ok tt ≡ model_read p lc ls lh) × (head_words h ≡ words_of p)
  unfolding model_read refuse
  read_model (model g c s) h b q = (simp (le-ltb lh 6 b) (go (ltb lc (length c)) (ltb ls (length s)) q).0, ap head_words (go (ltb lc (length c)) (ltb ls (length s)) q).1)
    where
      go : (x y : Bool) → Ok h ≡ cond x (Err Space) (cond y (Err Space) (Ok g)) → (Ok tt ≡ cond {A = Result ⊤ Refusal} x (Err Space) (cond y (Err Space) (Ok tt))) × (h ≡ g)
      go true y q = absurd (let z : ◌≡◌ {A = ℕ} 0 1 = cc in omega arith)
      go false true q = absurd (let z : ◌≡◌ {A = ℕ} 0 1 = cc in omega arith)
      go false false q = (refl, (let i : h ≡ g = cc in i))
  read_model (fault x) h b q = absurd (let z : ◌≡◌ {A = ℕ} 0 1 = cc in omega arith)

-- ---- writing: a tide above 3 is refused by 9, before every check
abbrev pub head_of_words : ℕ → ℕ → ℕ → ℕ → ℤ → ℕ → FileHead
head_of_words gm radius tide dated days nmax = record { gm = gm; radius = radius; tide = tide_of tide; date = date_of dated days; nmax = nmax }

unfoldable pub model_write_number : ℕ → ℕ → ℤ → ℕ → List ℕ → List ℕ → List ℕ → ℕ
model_write_number tide dated days nmax c s out =
    cond (ltb 3 tide) (refusal_number Tide) (result_number (write_answer (date_of dated days) nmax (length c) (length s) (length out)))

unfoldable pub model_write_after : ℕ → ℕ → ℕ → ℕ → ℤ → ℕ → List ℕ → List ℕ → List ℕ → List ℕ
model_write_after gm radius tide dated days nmax c s out =
    cond (ltb 3 tide) out
    (after (write_answer (date_of dated days) nmax (length c) (length s) (length out)) (store 0 (render (head_of_words gm radius tide dated days nmax) c s) out) out)

module _ (gm radius tide dated : ℕ) (days : ℤ) (nmax : ℕ) (c s out : List ℕ) where
  pub write_tide : 3 < tide → (refusal_number Tide ≡ model_write_number tide dated days nmax c s out) × (out ≡ model_write_after gm radius tide dated days nmax c s out)
  unfolding model_write_number model_write_after
  write_tide h = (simp (lt-ltb 3 tide h), simp (lt-ltb 3 tide h))

  pub write_model_lem : {a : Result ⊤ Refusal} {x : ℕ} {now : List ℕ} {h : FileHead} → tide ≤ 3 → h ≡ head_of_words gm radius tide dated days nmax
      → a ≡ write_answer h.date nmax (length c) (length s) (length out) → x ≡ result_number a → now ≡ after a (store 0 (render h c s) out) out
      → (x ≡ model_write_number tide dated days nmax c s out) × (now ≡ model_write_after gm radius tide dated days nmax c s out)
  unfolding model_write_number model_write_after
  write_model_lem {a} {x} {now} {h} b p q u v =
      let r : a ≡ write_answer (date_of dated days) nmax (length c) (length s) (length out) =
      q ∙ ap (λ (g : FileHead). write_answer g.date nmax (length c) (length s) (length out)) p in
      (u ∙ simp (le-ltb 3 tide b, ← r), v ∙ simp (le-ltb 3 tide b, ← r, p))
