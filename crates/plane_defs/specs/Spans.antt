-- Consecutive numbers.
use Rattle.std.specs.Prelude.{ℕ, zero, suc, ◌+◌, List, [], ◌∷◌, ◌++◌}

-- the numbers from `start` on, `count` of them
unfoldable pub span : ℕ → ℕ → List ℕ
span start zero = []
span start (suc count) = span start count ++ (start + count) ∷ []
