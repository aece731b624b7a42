-- The lengths that are told are enough for the lists that only the entries have: the numbers of a point, of an acceleration and of a tensor, and the
-- words of a head. Assumes nothing.
use Rattle.std.specs.Prelude.{◌≡◌, List, [], ◌∷◌, ℕ, ◌≤◌, length, take, Ok}
use Rattle.std.proofs.Common.{arith}
use Rattle.model_file.specs.declared.FileHead.{FileHead}
use Rattle.model_file.specs.Format.{head_size, head_of, parse, model}
use Rattle.local.specs.Point.{point_check_of}
use Rattle.lengths.specs.Lengths.{degree_size, partials_lengths, second_lengths, three_lengths, nine_lengths, read_lengths}
use Rattle.lengths.specs.Enough.{partials_enough, second_enough}
use Rattle.lengths.specs.EnoughFiles.{read_enough}
use Rattle.geopotential.specs.Files.{model_read, read_model}
use Rattle.geopotential.specs.Points.{numbers_check, point_check, three_check, out_done}
use Rattle.geopotential.specs.Tensors.{ten_check, nine_check}
use Rattle.refusal.specs.Numbers.{done_then}

numbers_enough : (k numbers N c s trig work out : ℕ) → (Ok tt ≡ point_check_of k N c s trig work) × (out ≡ numbers)
    → Ok tt ≡ numbers_check k numbers N c s trig work out
unfolding numbers_check
numbers_enough k numbers N c s trig work out (p, o) = done_then p (out_done numbers out (omega arith))

module _ (N c s trig work out : ℕ) (ok : Ok tt ≡ degree_size N) where
  pub point_enough : c ∷ s ∷ trig ∷ work ∷ out ∷ [] ≡ partials_lengths N → Ok tt ≡ point_check N c s trig work out
  point_enough e = numbers_enough 4 4 N c s trig work out (partials_enough N ok c s trig work out e)

  pub ten_enough : c ∷ s ∷ trig ∷ work ∷ out ∷ [] ≡ second_lengths N → Ok tt ≡ ten_check N c s trig work out
  ten_enough e = numbers_enough 5 10 N c s trig work out (second_enough N ok c s trig work out e)

pub three_enough : (out : ℕ) → out ∷ [] ≡ three_lengths → Ok tt ≡ three_check out
three_enough out e = let o : out ≡ 3 = cc in out_done 3 out (omega arith)

pub nine_enough : (out : ℕ) → out ∷ [] ≡ nine_lengths → Ok tt ≡ nine_check out
nine_enough out e = let o : out ≡ 9 = cc in out_done 9 out (omega arith)

-- an accepted file, told by its head's bytes or more
pub file_enough : (file : List ℕ) (h : FileHead) (cs ss : List ℕ) → parse file ≡ model h cs ss → (front : ℕ) → head_size h.date ≤ front → front ≤ length file
    → (bytes c s head : ℕ) → bytes ∷ c ∷ s ∷ head ∷ [] ≡ read_lengths (head_of (take front file))
    → (length file ≡ bytes) × (Ok tt ≡ model_read (parse file) c s head)
file_enough file h cs ss p front b l bytes c s head e =
    let r = read_enough file h cs ss p front b l bytes c s head e in
    (r.long, (read_model c s head (parse file) h (omega (arith, r.words)) r.answers).0)
