-- Tests in an order.
use Rattle.std.specs.Prelude.{Bool, if◌then◌else◌, List, [], ◌∷◌, Option, None, Some}

-- an answer if a test is met
abbrev pub when : {X : Type 0} → Bool → X → Option X
when test x = if test then Some x else None

-- the first answer that there is
abbrev pub first_of : {X : Type 0} → List (Option X) → Option X
first_of [] = None
first_of (None ∷ answers) = first_of answers
first_of (Some x ∷ answers) = Some x
