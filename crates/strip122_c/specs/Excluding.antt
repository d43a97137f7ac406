-- The causes of the answers to packets exclude each other. This project's own.
use Rattle.std.specs.Prelude.{◌≡◌, ◌≢◌, ℕ, List, Result, Ok, Err}
use Rattle.base_122.specs.declared.wish.DecodeWish.{DecodeWish}
use Rattle.strip122_c.specs.WholeDecoding.{Makes}
use Rattle.strip122_c.specs.declared.decode.DecodeRefusal.{DecodeRefusal}
use Rattle.strip122_c.specs.declared.decode.DecodeRefusal.TheVariants.{NoSegment, SmallRoom, TooManyPixels, LongInput, Memory}
use Rattle.strip122_c.specs.declared.decode.Made.{Made}
use Rattle.strip122_c.specs.declared.product.Product.{Product}

-- the number of a result: 8 if there is no memory
abbrev pub kind_of : Result Made DecodeRefusal → ℕ
kind_of (Ok made) = 0
kind_of (Err NoSegment) = 6
kind_of (Err (SmallRoom g rows octets)) = 7
kind_of (Err Memory) = 8
kind_of (Err (TooManyPixels pixels)) = 14
kind_of (Err LongInput) = 15

-- If the same packets are read with the same wish into the same room, two results that have their causes are of one kind, if none is that
-- there is no memory.
pub record CausesExclude : Type 0 where
  pub one : (product : Product) (wish : DecodeWish) (packets old new other : List ℕ) (a b : Result Made DecodeRefusal) →
      Makes product wish packets old new a → Makes product wish packets old other b → kind_of a ≢ 8 → kind_of b ≢ 8 → kind_of a ≡ kind_of b
