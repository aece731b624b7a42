-- The falling ranking of a list of keys, as the places of the keys: the place of the first one in rank, then of the second, and so on. Keys that
-- rank equal keep their order. And the rising ranking, as the keys themselves. Definitions only.
use Rattle.std.specs.Prelude.{Bool, List, ℕ, length, get_or, Float}
use Rattle.std.specs.Float.{nan}
use Rattle.number.specs.Order.{ranks_below, ranks_before}
use Rattle.number.specs.Ranking.{ranking}
use Rattle.storage.specs.Tabulate.{tabulate}

-- the key at place i comes strictly before the key at place j
unfoldable pub key_before : List Float → ℕ → ℕ → Bool
key_before keys i j = ranks_before (get_or keys i nan) (get_or keys j nan)

abbrev self : ℕ → ℕ
self i = i

-- the places i, i + 1, .., n - 1
abbrev pub up_to : ℕ → ℕ → List ℕ
up_to i n = tabulate self i n

-- the places of all keys, ranked
unfoldable pub ranked_places : List Float → List ℕ
ranked_places keys = ranking (key_before keys) (up_to 0 (length keys))

-- the keys themselves, ranked rising
unfoldable pub rising : List Float → List Float
rising keys = ranking ranks_below keys
