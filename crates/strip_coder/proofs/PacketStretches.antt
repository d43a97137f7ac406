-- Two stretches of packets, one after the other.
use Rattle.std.proofs.Common.{ℕ, ℤ, ◌≤◌, List, ◌++◌, sym, ap, ◌∙◌, arith, append_assoc}
use Rattle.port_122.specs.Outside.{Outside}
use Rattle.port_122.proofs.Stretches.{since_out}
use Rattle.strip_coder.specs.Plans.{Job, IsPlan}
use Rattle.base_122.specs.Sizes.{total_blocks}
use Rattle.base_122.proofs.SizeBounds.{first_block-lt}
use Rattle.strip_coder.specs.Steps.{octets_at, Continues, StopsEarly}

pub goes_then : {p q r : Outside} (s : Job) (all : List (List ℤ)) (a b c : ℕ) → Continues s all a b p q → Continues s all b c q r → Continues s all a c p r
goes_then s all a b c x y = record {
  gave = x.gave ++ y.gave;
  out = since_out x.out y.out;
  then_are = sym (append_assoc (octets_at s all a) x.gave y.gave) ∙ ap (λ xs. xs ++ y.gave) x.then_are ∙ y.then_are;
}

pub breaks_then : {p q r : Outside} (s : Job) (all : List (List ℤ)) (a b n : ℕ) → Continues s all a b p q → StopsEarly s all b n q r → StopsEarly s all a n p r
breaks_then s all a b n x y = record {
  gave = x.gave ++ y.gave;
  out = since_out x.out y.out;
  index = y.index;
  inside = y.inside;
  there = y.there;
  some = y.some;
  prefix = sym (append_assoc (octets_at s all a) x.gave y.gave) ∙ ap (λ xs. xs ++ y.gave) x.then_are ∙ y.prefix;
}

-- of more blocks that were gathered
pub breaks_more : {p q : Outside} (s : Job) (all : List (List ℤ)) (a n m : ℕ) → n ≤ m → StopsEarly s all a n p q → StopsEarly s all a m p q
breaks_more s all a n m le x = record {
  gave = x.gave;
  out = x.out;
  index = x.index;
  inside = x.inside;
  there = let there = x.there in omega (arith, there, le);
  some = x.some;
  prefix = x.prefix;
}

-- all segments have at most the blocks of the image
pub breaks_whole : {p q : Outside} (s : Job) (all : List (List ℤ)) (a n : ℕ) → IsPlan s → StopsEarly s all a n p q →
    StopsEarly s all a (total_blocks s.setting.width s.rows) p q
breaks_whole s all a n range x = record {
  gave = x.gave;
  out = x.out;
  index = x.index;
  inside = x.inside;
  there =
      let segment = range.in_range.segment in
      let before = first_block-lt (total_blocks s.setting.width s.rows) s.setting.segment x.index (omega (arith, segment)) x.inside in
      omega (arith, before);
  some = x.some;
  prefix = x.prefix;
}
