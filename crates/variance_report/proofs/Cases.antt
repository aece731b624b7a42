-- What the report is on each way through the code. Assumes nothing.
use Rattle.std.specs.Prelude.{Err, Ok, Result}
use mathlib.Core.Path.{◌≡◌, refl, sym, ap, ◌∙◌}
use Prim.Native.Nat.{ℕ, ◌+◌, ◌≤◌, ◌<◌}
use native.Mathlib.Omega.{arith}
use mathlib.Core.List.{List, [], ◌∷◌}
use lib.ListN.{length, take, length-append}
use lib.Ieee.{Float}
use borrow.Author.Tests.{lt-ltb, le-ltb}
use Rattle.refusal.specs.Numbers.{after, outcome, refuse}
use Rattle.refusal.specs.declared.Refusal.{Refusal}
use Rattle.refusal.specs.declared.Refusal.TheVariants.{Size}
use Rattle.storage.specs.Answers.{size_of, size_is}
use Rattle.storage.specs.Store.{store, store-append}
use Rattle.storage.specs.Tabulate.{tabulate, length-tabulate}
use Rattle.storage.specs.Triangle.{table_size}
use Rattle.text.specs.Stored.{Prefix, prefix-stored}
use Rattle.coefficients.specs.Values.{variance_of}
use Rattle.model_file.specs.declared.FileHead.{FileHead}
use Rattle.model_file.specs.Format.{head_of, Parsed, model, fault, parse}
use Rattle.model_file.specs.Answers.{read_answer, c_of, s_of}
use Rattle.model_file.specs.RoundTrip.{accepted, parse_table}
use Rattle.variance_report.specs.Report.{numbers_of, lines_of, title_text, refused_text, model_text, parsed_text, report_of}
use Rattle.variance_report.specs.ReportFront.{pairs_most}
use Rattle.variance_report.proofs.Lists.{take-stored, Lent, lent_stored}
use Rattle.variance_report.proofs.Texts.{lines_most, length_refused, length_title}

-- ---- an accepted model

-- the title and the lines
pub record Written (N : ℕ) (c s : List ℕ) (d : List ℕ) (r : ℕ) (d' : List ℕ) : Type 0 where
  pub end : r ≡ length (model_text N c s)
  pub text : d' ≡ store 0 (model_text N c s) d

pub model_written : (N : ℕ) (c s : List ℕ) (vs : List Float) (d d₁ d₂ : List ℕ) (r : ℕ) → vs ≡ tabulate (variance_of (numbers_of c) (numbers_of s)) 0 (N + 1)
    → d₁ ≡ store 0 (100 ∷ 101 ∷ 103 ∷ 114 ∷ 101 ∷ 101 ∷ 32 ∷ 118 ∷ 97 ∷ 114 ∷ 105 ∷ 97 ∷ 110 ∷ 99 ∷ 101 ∷ 10 ∷ []) d
    → r ≡ 16 + length (lines_of vs 0) → d₂ ≡ store 16 (lines_of vs 0) d₁ → Written N c s d r d₂
unfolding model_text title_text
model_written N c s vs d d₁ d₂ r ev e₁ er e₂ =
    let ls : List ℕ = lines_of (tabulate (variance_of (numbers_of c) (numbers_of s)) 0 (N + 1)) 0 in
    let x = rw ev at er in
    let y = rw ev at e₂ in
    record {
      end = x ∙ sym (length-append title_text ls);
      text = y ∙ ap (λ (l : List ℕ). store 16 ls l) e₁ ∙ sym (store-append 0 title_text ls d);
    }

pub text_most : (N : ℕ) (c s : List ℕ) → N ≤ 86 → length (model_text N c s) ≤ 1756
unfolding model_text
text_most N c s h =
    let vs : List Float = tabulate (variance_of (numbers_of c) (numbers_of s)) 0 (N + 1) in
    let n = length-tabulate (variance_of (numbers_of c) (numbers_of s)) 0 (N + 1) in
    omega (arith, length-append title_text (lines_of vs 0), length_title, lines_most vs 0 (omega (arith, n)), n)

-- ---- what is to be shown of the answer and of the text at the end

pub record Told (b d : List ℕ) (r : ℕ) (d' : List ℕ) : Type 0 where
  pub end : r ≡ length (report_of b)
  pub text : d' ≡ store 0 (report_of b) d
  pub prefix : Prefix r d'

told : (b d d' vs : List ℕ) (r : ℕ) → report_of b ≡ vs → r ≡ length vs → d' ≡ store 0 vs d → length vs ≤ length d → Told b d r d'
told b d d' vs r e n p h = record { end = rw e n; text = rw e p; prefix = prefix-stored vs d d' r p n h }

module _ (b d d' : List ℕ) (room : 1756 ≤ length d) (r : Result FileHead Refusal) (er : r ≡ head_of b) where
  refused : (e : Refusal) (n : ℕ) → report_of b ≡ refused_text e → n ≡ 10 → d' ≡ store 0 (refused_text e) d → Told b d n d'
  refused e n i en q = told b d d' (refused_text e) n i (en ∙ sym (length_refused e)) q (omega (arith, length_refused e))

  -- refused by its head
  pub told_head : (e : Refusal) (n : ℕ) → r ≡ Err e → n ≡ 10 → d' ≡ store 0 (refused_text e) d → Told b d n d'
  unfolding report_of
  told_head e n p en q = let i : head_of b ≡ Err e = cc in refused e n (rw i refl) en q

  module _ (h : FileHead) (eh : r ≡ Ok h) where
    head_is : head_of b ≡ Ok h
    head_is = cc

    -- refused by its degree
    pub told_size : (n : ℕ) → 86 < h.nmax → n ≡ 10 → d' ≡ store 0 (refused_text Size) d → Told b d n d'
    unfolding report_of
    told_size n big en q = refused Size n (rw (head_is, lt-ltb 86 h.nmax big) refl) en q

    module _ (small : h.nmax ≤ 86) (a : Result FileHead Refusal) (ea : a ≡ read_answer (parse b) 3828 3828) where
      report_is : report_of b ≡ parsed_text (parse b)
      unfolding report_of
      report_is = rw (head_is, le-ltb 86 h.nmax small) refl

      -- what the reader accepts is a model of the degree in the head, and there is room for it
      record Read (p : Parsed) : Type 0 where
        is : p ≡ model h (c_of p) (s_of p)
        c_long : length (c_of p) ≡ table_size h.nmax
        s_long : length (s_of p) ≡ table_size h.nmax

      read_model : (g : FileHead) (c s : List ℕ) → parse b ≡ model g c s → Read (model g c s)
      read_model g c s p =
          let w = (accepted b g c s p).head_is in
          let i = head_is in
          let e : g ≡ h = cc in
          let t = parse_table b g c s p in
          let n : table_size g.nmax ≡ table_size h.nmax = ap (λ (f : FileHead). table_size f.nmax) e in
          record { is = ap (λ (f : FileHead). model f c s) e; c_long = t.c_long ∙ n; s_long = t.s_long ∙ n }

      refused_by_read : (p : Parsed) → parse b ≡ p → a ≡ read_answer p 3828 3828 → (e : Refusal) → a ≡ Err e → p ≡ fault e
      unfolding refuse
      refused_by_read (fault f) ep x e y = cc
      refused_by_read (model g c s) ep x e y =
          let w = read_model g c s ep in
          let q = pairs_most h.nmax small in
          let m = rw (le-ltb 3828 (length c) (omega (arith, w.c_long)), le-ltb 3828 (length s) (omega (arith, w.s_long))) at x in
          let z : ◌≡◌ {A = ℕ} 0 1 = cc in
          absurd (omega arith)

      accepted_by_read : (p : Parsed) → parse b ≡ p → a ≡ read_answer p 3828 3828 → (g : FileHead) → a ≡ Ok g → Read p
      accepted_by_read (fault f) ep x g y = let z : ◌≡◌ {A = ℕ} 0 1 = cc in absurd (omega arith)
      accepted_by_read (model k c s) ep x g y = read_model k c s ep

      -- refused behind its head
      pub told_body : (e : Refusal) (n : ℕ) → a ≡ Err e → n ≡ 10 → d' ≡ store 0 (refused_text e) d → Told b d n d'
      told_body e n p en q = refused e n (report_is ∙ ap parsed_text (refused_by_read (parse b) refl ea e p)) en q

      module _ (g : FileHead) (p : a ≡ Ok g) (c₀ c₁ s₀ s₁ : List ℕ) (t : ℕ) (et : t ≡ size_of h.nmax) (lc : 3828 ≡ length c₀) (ls : 3828 ≡ length s₀)
          (ec : c₁ ≡ after (outcome a) (store 0 (c_of (parse b)) c₀) c₀) (es : s₁ ≡ after (outcome a) (store 0 (s_of (parse b)) s₀) s₀) where
        table : Read (parse b)
        table = accepted_by_read (parse b) refl ea g p

        pairs : t ≡ table_size h.nmax
        pairs = et ∙ size_is h.nmax (omega arith)

        c_is : c₁ ≡ store 0 (c_of (parse b)) c₀
        c_is = ec ∙ ap (λ (x : Result FileHead Refusal). after (outcome x) (store 0 (c_of (parse b)) c₀) c₀) p

        s_is : s₁ ≡ store 0 (s_of (parse b)) s₀
        s_is = es ∙ ap (λ (x : Result FileHead Refusal). after (outcome x) (store 0 (s_of (parse b)) s₀) s₀) p

        c_lent : Lent t c₁
        c_lent = lent_stored (c_of (parse b)) c₀ c₁ t c_is (omega (arith, pairs, pairs_most h.nmax small))

        s_lent : Lent t s₁
        s_lent = lent_stored (s_of (parse b)) s₀ s₁ t s_is (omega (arith, pairs, pairs_most h.nmax small))

        c_part : take t c₁ ≡ c_of (parse b)
        c_part =
            rw c_is (take-stored (c_of (parse b)) c₀ t (table.c_long ∙ sym pairs) (omega (arith, pairs, pairs_most h.nmax small)))

        s_part : take t s₁ ≡ s_of (parse b)
        s_part =
            rw s_is (take-stored (s_of (parse b)) s₀ t (table.s_long ∙ sym pairs) (omega (arith, pairs, pairs_most h.nmax small)))

        -- how long the parts are that are lent
        pub record Parts : Type 0 where
          pub c_fits : t ≡ length (take t c₁)
          pub s_fits : t ≡ length (take t s₁)
          pub is : t ≡ table_size h.nmax
          pub c_part_long : t ≤ length c₁
          pub s_part_long : t ≤ length s₁

        pub parts : Parts
        parts = record {
          c_fits = c_lent.is;
          s_fits = s_lent.is;
          is = pairs;
          c_part_long = c_lent.within;
          s_part_long = s_lent.within;
        }

        -- accepted
        pub told_model : (n : ℕ) → n ≡ length (model_text h.nmax (take t c₁) (take t s₁)) → d' ≡ store 0 (model_text h.nmax (take t c₁) (take t s₁)) d
            → Told b d n d'
        told_model n en q =
            let f : report_of b ≡ model_text h.nmax (take t c₁) (take t s₁) = report_is ∙ ap parsed_text table.is ∙ rw (c_part, s_part) refl in
            told b d d' (model_text h.nmax (take t c₁) (take t s₁)) n f en q (omega (arith, text_most h.nmax (take t c₁) (take t s₁) small))
