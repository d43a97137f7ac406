use Rattle.std.proofs.Common.{◌≡◌, ◌<◌, ◌+◌, ◌-◌, ◌*◌, ◌/◌, ◌++◌, refl, min, length, ap, ◌∙◌, arith, length-append, pow_pos, get_or, nat_lt, ℕ, Bool}
use Rattle.std.proofs.lemmas.Result.{err_from_is_err_and}
use Rattle.std.specs.Int.{div_ceil}
use Rattle.number_defs.proofs.CellPlaces.{place_within}
use Rattle.bit_pipe.proofs.ScriptReading.{in_read}
use Rattle.gaggle_codes.specs.Given.{AreWithin, IsBound, kind_of}
use Rattle.gaggle_codes.proofs.ValueReads.{within_both}
use Rattle.gaggle_codes.proofs.NumbersRead.{so_start, so_long, so_size, so_fault, so_cut, so_more, so_all, takes_numbers}
use Rattle.gaggle_codes.proofs.take.take_bounded.Goals as goal

pub loop-gaggle-init : goal.loop-gaggle-init
loop-gaggle-init g c = record {
  is_in = c.requires.open;
  small = pow_pos c.args.bounded.range.bits;
  so_far = λ too_great bound. so_start (kind_of c.args.bounded.range too_great) c.args.bounded.range c.args.bounded.most c.args.shift c.args.stride _ _ _ _
      c.clear.ensures;
}

pub set_numbers-requires-clause-within : goal.set_numbers-requires-clause-within
set_numbers-requires-clause-within g c = λ some.
    let s = c.loop-gaggle.invariant.so_far (λ h. nat_lt c.args.bounded.most h) (record { at = λ h lt. refl }) in
    let count_is = c.div_ceil-count.ensures ∙ ap (λ n. div_ceil n c.args.stride) c.clear.ensures.size in
    let same = ap (λ n. div_ceil n c.args.stride) s.held.size in
    let most = c.take_gaggle-result.ensures.most in
    place_within (length c.loop-gaggle.cells) c.args.stride (16 * c.loop-gaggle.gaggle + length c.as_slice-heights.result.now - 1) c.requires.stride
    (omega (arith, ap length c.as_slice-heights.ensures, same, count_is, some, most))

pub returns-in_err-result : goal.returns-in_err-result
returns-in_err-result g c = λ too_great bound.
    let kind = kind_of c.args.bounded.range too_great in
    let count = c.div_ceil-count.result in
    let lt : c.loop-gaggle.gaggle < (count + 15) / 16 = omega arith in
    let size_is : c.min-size.result ≡ min (count - 16 * c.loop-gaggle.gaggle) 16 = omega arith in
    let p = err_from_is_err_and c.from_residual.result c.from_residual.ensures.1 in
    let s = c.loop-gaggle.invariant.so_far too_great bound in
    let long = so_long kind c.args.bounded.range c.args.bounded.most c.args.shift c.args.stride count c.loop-gaggle.gaggle c.loop-gaggle.before
    c.min-size.result lt size_is
    s in
    let size = so_size kind c.args.bounded.range c.args.bounded.most c.args.shift c.args.stride count c.loop-gaggle.gaggle c.loop-gaggle.before
    c.min-size.result lt size_is
    s in
    let count_is = c.div_ceil-count.ensures ∙ ap (λ n. div_ceil n c.args.stride) c.clear.ensures.size in
    rw (p.1, p.2) (takes_numbers kind c.args.bounded.range c.args.bounded.most c.args.shift c.args.stride count _ (s.given ++ c.as_slice-heights.result.now)
    count_is tt
    (within_both s.given c.as_slice-heights.result.now s.within (rw c.as_slice-heights.ensures c.in_err-result.ensures.within))
    (rw c.as_slice-heights.ensures (so_fault kind c.args.bounded.range c.args.bounded.most c.args.shift c.args.stride count c.loop-gaggle.gaggle
    c.loop-gaggle.before
    c.min-size.result lt size_is s _ _ (c.in_err-result.ensures.read too_great count s.given bound size long (rw c.new-numbers.ensures.last s.last))))
    (c.set_numbers.ensures s.given c.args.cells.now long s.held))

pub returns-in_default : goal.returns-in_default
returns-in_default g c = λ too_great bound.
    let kind = kind_of c.args.bounded.range too_great in
    let count = c.div_ceil-count.result in
    let lt : c.loop-gaggle.gaggle < (count + 15) / 16 = omega arith in
    let size_is : c.min-size.result ≡ min (count - 16 * c.loop-gaggle.gaggle) 16 = omega arith in
    let s = c.loop-gaggle.invariant.so_far too_great bound in
    let long = so_long kind c.args.bounded.range c.args.bounded.most c.args.shift c.args.stride count c.loop-gaggle.gaggle c.loop-gaggle.before
    c.min-size.result lt size_is
    s in
    let size = so_size kind c.args.bounded.range c.args.bounded.most c.args.shift c.args.stride count c.loop-gaggle.gaggle c.loop-gaggle.before
    c.min-size.result lt size_is
    s in
    let count_is = c.div_ceil-count.ensures ∙ ap (λ n. div_ceil n c.args.stride) c.clear.ensures.size in
    takes_numbers kind c.args.bounded.range c.args.bounded.most c.args.shift c.args.stride count _ (s.given ++ c.as_slice-heights.result.now) count_is
    (omega (arith, length-append s.given c.as_slice-heights.result.now, long))
    (within_both s.given c.as_slice-heights.result.now s.within (rw c.as_slice-heights.ensures c.in_ok-result.ensures.within))
    (rw c.as_slice-heights.ensures (so_cut kind c.args.bounded.range c.args.bounded.most c.args.shift c.args.stride count c.loop-gaggle.gaggle
    c.loop-gaggle.before
    c.min-size.result lt size_is s _ (rw c.in_default.is at (c.in_ok-result.ensures.read too_great count s.given bound size long (rw
    c.new-numbers.ensures.last s.last)))))
    (c.set_numbers.ensures s.given c.args.cells.now long s.held)

pub loop-gaggle-preserved : goal.loop-gaggle-preserved
loop-gaggle-preserved g c =
    let count = c.div_ceil-count.result in
    let lt : c.loop-gaggle.gaggle < (count + 15) / 16 = omega arith in
    let size_is : c.min-size.result ≡ min (count - 16 * c.loop-gaggle.gaggle) 16 = omega arith in
    let heights = c.as_slice-heights.result.now in
    let adds = rw c.in-Whole.is at c.in_ok-result.ensures.adds in
    let same = c.as_slice-heights.ensures in
    let newest : c.last-before.result ≡ get_or heights (length heights - 1) 0 =
    rw same (c.last-before.ensures.newest (omega (arith, adds, size_is, lt))) in
    let few : AreWithin c.args.bounded.range.bits c.args.bounded.most heights = rw same c.in_ok-result.ensures.within in
    let more = λ (too_great : ℕ → Bool) (bound : IsBound c.args.bounded.most c.args.bounded.range.bits too_great).
    let kind = kind_of c.args.bounded.range too_great in
    let s = c.loop-gaggle.invariant.so_far too_great bound in
    let long = so_long kind c.args.bounded.range c.args.bounded.most c.args.shift c.args.stride count c.loop-gaggle.gaggle c.loop-gaggle.before
    c.min-size.result lt size_is
    s in
    let size = so_size kind c.args.bounded.range c.args.bounded.most c.args.shift c.args.stride count c.loop-gaggle.gaggle c.loop-gaggle.before
    c.min-size.result lt size_is
    s in
    let read = rw c.in-Whole.is at (c.in_ok-result.ensures.read too_great count s.given bound size long (rw c.new-numbers.ensures.last s.last)) in
    so_more kind c.args.bounded.range c.args.bounded.most c.args.shift c.args.stride count c.loop-gaggle.gaggle c.loop-gaggle.before c.min-size.result lt
    size_is s
    (s.given ++ heights) heights c.last-before.result _ refl
    (omega (arith, ap length same, adds)) few newest (c.set_numbers.ensures s.given c.args.cells.now long s.held) (rw same read) in
    let exact : IsBound c.args.bounded.most c.args.bounded.range.bits (λ h. nat_lt c.args.bounded.most h) = record { at = λ h lt. refl } in
    let s = c.loop-gaggle.invariant.so_far (λ h. nat_lt c.args.bounded.most h) exact in
    let kind = kind_of c.args.bounded.range (λ h. nat_lt c.args.bounded.most h) in
    let long = so_long kind c.args.bounded.range c.args.bounded.most c.args.shift c.args.stride count c.loop-gaggle.gaggle c.loop-gaggle.before
    c.min-size.result lt size_is
    s in
    let size = so_size kind c.args.bounded.range c.args.bounded.most c.args.shift c.args.stride count c.loop-gaggle.gaggle c.loop-gaggle.before
    c.min-size.result lt size_is
    s in
    record {
      is_in = in_read c.loop-gaggle.invariant.is_in (rw c.in-Whole.is at (c.in_ok-result.ensures.read (λ h. nat_lt c.args.bounded.most h) count s.given
          exact size
          long (rw c.new-numbers.ensures.last s.last)));
      small = rw newest (few.few _);
      so_far = more;
    }

pub returns : goal.returns
returns g c = λ too_great bound.
    let kind = kind_of c.args.bounded.range too_great in
    let count_is = c.div_ceil-count.ensures ∙ ap (λ n. div_ceil n c.args.stride) c.clear.ensures.size in
    let s = c.loop-gaggle.invariant.so_far too_great bound in
    let end : c.loop-gaggle.gaggle ≡ (c.div_ceil-count.result + 15) / 16 = omega arith in
    takes_numbers kind c.args.bounded.range c.args.bounded.most c.args.shift c.args.stride c.div_ceil-count.result _ s.given count_is (omega (
      arith,
      s.long,
      end,
    )) s.within
    (so_all kind c.args.bounded.range c.args.bounded.most c.args.shift c.args.stride c.div_ceil-count.result c.loop-gaggle.gaggle c.loop-gaggle.before
    c.loop-gaggle.invariant.is_in end s) s.held
