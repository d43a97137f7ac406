-- The plane that a call codes.
use Rattle.std.specs.Prelude.{ℕ, ℤ, List}
use Rattle.wave_defs.specs.Held.{blocks_in}
use Rattle.plane_defs.specs.Planes.{Plane}
use Rattle.block_masks.specs.declared.plan.PlanePlan.{PlanePlan}
use Rattle.block_masks.specs.declared.plan.CodedPlane.{CodedPlane}
use Rattle.plane_coder.specs.declared.view.View.{View}

-- the plane with the blocks' depths from their states
abbrev pub plane_of : List ℤ → List ℕ → PlanePlan → Plane
plane_of numbers depths plan =
    record { blocks = blocks_in numbers; depths = depths; weights = plan.weights.shifts; number = plan.plane; q = plan.q }

abbrev pub plane_at : List ℤ → List ℕ → CodedPlane → Plane
plane_at numbers depths plan =
    record { blocks = blocks_in numbers; depths = depths; weights = plan.weights.shifts; number = plan.plane; q = plan.q }

abbrev pub plane_in : View → List ℕ → Plane
plane_in view depths = plane_at view.segment.now.numbers depths view.plan.now
