-- The first 65,536 bytes of an input decide what is printed: a file up to degree 86 has at most 65,101, and of the bytes behind a first one
-- too many none is looked at. Assumes nothing.
use Rattle.std.specs.Prelude.{◌≡◌, ◌⊎◌, ℕ, ◌+◌, ◌≤◌, ◌<◌, List, length, take, Err, Ok, Result, ⊤}
use Rattle.std.proofs.Math.Path.{refl, ap}
use Rattle.std.proofs.Common.{sym, ◌∙◌, inl, inr, ⊎_elim, arith, take_all, lt-ltb, le-ltb}
use Rattle.storage.specs.Answers.{size_is}
use Rattle.storage.specs.Triangle.{row_start, table_size, row_start_monotone}
use Rattle.model_file.specs.declared.FileHead.{FileHead}
use Rattle.model_file.specs.Format.{head_size, date_at, head_of, body_of, parse}
use Rattle.model_file.specs.Dates.{size_most}
use Rattle.model_file.specs.Body.{body_long}
use Rattle.model_file.specs.Answers.{refused_by_body}
use Rattle.model_file.specs.Truncation.{lt_or_ge, head_front, body_front}
use Rattle.variance_report.specs.Report.{parsed_text, head_text, report_of}
use Rattle.refusal.specs.declared.Refusal.{Refusal}

-- a model up to degree 86 has at most 3828 pairs
pub pairs_most : (N : ℕ) → N ≤ 86 → table_size N ≤ 3828
unfolding row_start
pairs_most N h = row_start_monotone (N + 1) 87 (omega arith)

module _ (b : List ℕ) (long : 65536 < length b) where
  same_body : (h : FileHead) → h.nmax ≤ 86 → head_of b ≡ Ok h → (a : Result ⊤ Refusal) → a ≡ body_of b (table_size h.nmax) (head_size h.date)
      → parse (take 65536 b) ≡ parse b
  same_body h small i (Ok _) e =
      let l = body_long b (table_size h.nmax) (head_size h.date) (sym e) in
      absurd (omega (arith, size_most h.date, pairs_most h.nmax small))
  same_body h small i (Err x) e =
      let n = sym (size_is h.nmax (omega arith)) in
      let f = sym (head_front 65536 b (omega (arith, size_most (date_at b))) (omega arith) ∙ i) in
      let g = body_front 65536 b (table_size h.nmax) (head_size h.date) (omega (arith, size_most h.date, pairs_most h.nmax small)) (omega arith) in
      refused_by_body (take 65536 b) (Ok h) f h refl (table_size h.nmax) n _ refl (Err x) (e ∙ sym g) x refl
      ∙ sym (refused_by_body b (Ok h) (sym i) h refl (table_size h.nmax) n _ refl (Err x) e x refl)

  same_model : (h : FileHead) → head_of b ≡ Ok h → (86 < h.nmax) ⊎ (h.nmax ≤ 86) → head_text (Ok h) (take 65536 b) ≡ head_text (Ok h) b
  same_model h i (inl big) = rw (lt-ltb 86 h.nmax big) refl
  same_model h i (inr small) = rw (le-ltb 86 h.nmax small) (ap parsed_text (same_body h small i _ refl))

  same_head : (r : Result FileHead Refusal) → head_of b ≡ r → head_text r (take 65536 b) ≡ head_text r b
  same_head (Ok h) i = same_model h i (lt_or_ge 86 h.nmax)
  same_head (Err e) i = refl

  longer : report_of (take 65536 b) ≡ report_of b
  unfolding report_of
  longer = ap (λ (r : Result FileHead Refusal). head_text r (take 65536 b)) (head_front 65536 b (omega (arith, size_most (date_at b))) (omega arith)) ∙ same_head (head_of b) refl

-- an input prints what its first 65,536 bytes print
pub report_front : (b : List ℕ) → report_of (take 65536 b) ≡ report_of b
report_front b = ⊎_elim (λ h. longer b h) (λ h. ap report_of (take_all 65536 b h)) (lt_or_ge 65536 (length b))
