-- Names given one at a time. Internal.
use Rattle.std.specs.Prelude.{ℕ, zero, suc, cond, List, [], ◌∷◌, ℤ, ◌==◌}
use Rattle.expr.specs.Values.{Env}

-- the name at a place of some names, if there is one, stands for a value
abbrev pub bound : List ℕ → ℕ → ℤ → Env → Env
bound [] i v g = g
bound (n ∷ ns) zero v g = λ x. cond (x == n) v (g x)
bound (n ∷ ns) (suc i) v g = bound ns i v g
