-- A run over a port by the call that makes a product. This project's own.
use Rattle.std.specs.Prelude.{Result, Ok, Err, ⊤}
use Rattle.port_122.specs.Outside.{Outside}
use Rattle.base_122.specs.declared.wish.DecodeWish.{DecodeWish}
use Rattle.strip_decoder.specs.declared.ending.DecodeDone.{DecodeDone}
use Rattle.strip_decoder.specs.declared.ending.DecodeFault.{DecodeFault}
use Rattle.strip_decoder.specs.declared.ending.DecodeFault.TheVariants as faults
use Rattle.strip_decoder.specs.Answers.{Decodes}
use Rattle.quick_look.specs.Looks.{Looks}
use Rattle.quick_look.specs.Listing.{ListsRects}
use Rattle.strip122_c.specs.declared.decode.DecodeRefusal.{DecodeRefusal}
use Rattle.strip122_c.specs.declared.decode.DecodeRefusal.TheVariants.{NoSegment, SmallRoom, TooManyPixels, LongInput, Memory}
use Rattle.strip122_c.specs.declared.product.Product.{Product}
use Rattle.strip122_c.specs.declared.product.Product.TheVariants.{Picture, Look, Rects}

-- as the call for the product ends
abbrev pub RunsAs : Product → DecodeWish → (old new : Outside) → Result DecodeDone DecodeFault → Type 0
RunsAs Picture wish old new result = Decodes wish old new result
RunsAs Look wish old new result = Looks wish old new result
RunsAs Rects wish old new result = ListsRects wish old new result

-- one of these results, on a port that never fails
abbrev pub HasRun : Product → DecodeWish → (old new : Outside) → Result DecodeDone DecodeRefusal → Type 0
HasRun product wish old new (Ok done) = RunsAs product wish old new (Ok done)
HasRun product wish old new (Err NoSegment) = RunsAs product wish old new (Err faults.NoSegment)
HasRun product wish old new (Err (TooManyPixels pixels)) = RunsAs product wish old new (Err (faults.TooManyPixels pixels))
HasRun product wish old new (Err LongInput) = RunsAs product wish old new (Err faults.LongInput)
HasRun product wish old new (Err Memory) = ⊤
HasRun product wish old new (Err (SmallRoom g rows octets)) = ⊥
