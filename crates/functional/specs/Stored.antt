-- Document 01: the stored factors are the numbers that `factor` answers, for every degree that a grid or an average uses. Assumes nothing.
use Rattle.std.specs.Prelude.{◌≡◌, refl, false, List, ℕ, ◌≤◌, length, Float, Ok}
use Rattle.std.proofs.Common.{sym, arith, leb-false}
use Rattle.std.proofs.lemmas.Bool.{lt-leb}
use Rattle.functional.specs.declared.Functional.{Functional}
use Rattle.functional.specs.declared.Functional.TheVariants.{Potential, GeoidHeight, GravityDisturbance, GravityAnomaly, RadialGradient, WaterHeight}
use Rattle.functional.specs.Factor.{factor_of, lacks_love, factor_answer, factor-value}

-- enough Love numbers for degree N are enough below it
love_below : (f : Functional) (numbers n N : ℕ) → n ≤ N → lacks_love f numbers N ≡ false → lacks_love f numbers n ≡ false
love_below WaterHeight numbers n N h e = let l = leb-false numbers N e in lt-leb numbers n (omega arith)
love_below Potential numbers n N h e = refl
love_below GeoidHeight numbers n N h e = refl
love_below GravityDisturbance numbers n N h e = refl
love_below GravityAnomaly numbers n N h e = refl
love_below RadialGradient numbers n N h e = refl

pub factor_answers : (f : Functional) (love : List Float) (gm radius r : Float) (N n : ℕ) → N ≤ 2700 → n ≤ N → lacks_love f (length love) N ≡ false
    → factor_answer f love n gm radius r ≡ Ok (factor_of f love gm radius r n)
factor_answers f love gm radius r N n t h e = sym (factor-value f love n gm radius r (omega arith) (love_below f (length love) n N h e) refl)
