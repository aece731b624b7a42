-- Eight numbers by their places. Definitions only.
use Rattle.std.specs.Prelude.{ℕ, zero, suc, Float}

-- the first, the second, .. of eight numbers
unfoldable pub lane : (a b c d e f g h : Float) → ℕ → Float
lane a b c d e f g h zero = a
lane a b c d e f g h (suc zero) = b
lane a b c d e f g h (suc (suc zero)) = c
lane a b c d e f g h (suc (suc (suc zero))) = d
lane a b c d e f g h (suc (suc (suc (suc zero)))) = e
lane a b c d e f g h (suc (suc (suc (suc (suc zero))))) = f
lane a b c d e f g h (suc (suc (suc (suc (suc (suc zero)))))) = g
lane a b c d e f g h (suc (suc (suc (suc (suc (suc (suc i))))))) = h
