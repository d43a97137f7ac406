-- Shares of a total.
use Rattle.std.proofs.Common.{◌≡◌, ◌≢◌, inl, inr, ◌≤◌, ◌<◌, ◌+◌, ◌-◌, ◌*◌, ◌/◌, ℕ, zero, suc, ℤ, List, length, refl, arith, min, length-take, true, false, ◌==◌}
use Rattle.std.proofs.lemmas.Bool.Decides.{nat_tests}
use Rattle.std.proofs.lemmas.Nat.{le-div}
use Rattle.std.proofs.Math.Nat.{div-mul-le_self, mul-mod_left, mul-le-mul_left}
use Rattle.base_122.specs.Ranges.{IsInRange, HasTotal, limit_range}
use Rattle.base_122.specs.declared.setting.Setting.{Setting}
use Rattle.base_122.specs.declared.book.Book.{Book}
use Rattle.segment_defs.specs.declared.head.SegmentHead.{SegmentHead}
use Rattle.segment_defs.specs.Coded.{coded}
use Rattle.stream_defs.specs.Output.{segment_of, segments_of, share, head_of, text_with, used_before}
use Rattle.stream_defs.specs.Shares.{CanBeSaid}
use Rattle.segment_defs.proofs.Equations.{coded-is, text_octets-is}

-- a text is no longer than its limit
pub coded_within : (book : Book) (head : SegmentHead) (blocks : List (List ℤ)) → head.limit ≢ 0 → length (coded book head blocks) ≤ head.limit
coded_within book head blocks some = simp (coded-is, text_octets-is) (grind (arith, nat_tests, length-take))

-- 36 octets are whole code words
words_hold : (q word : ℕ) → 1 ≤ word → word ≤ 4 → 36 ≤ q → 36 ≤ q / word * word
words_hold q word least most some = grind (arith, nat_tests)

module _ (s : Setting) (range : IsInRange s) (some : s.total ≢ 0) where
  has : HasTotal s
  has = elim range.total [ inl none ↦ absurd (some none) | inr here ↦ here ]

  -- the share is what is left, divided among the segments that are left
  pub parted : (index used : ℕ) → ℕ
  parted index used = (s.total - used) / (segments_of s - index)

  share_is : (index used : ℕ) → share s index used ≡ min (parted index used) limit_range.most / s.word * s.word
  unfolding share parted
  share_is index used = let e : (s.total == 0) ≡ false = grind (arith, nat_tests) in rw e refl

  pub share_most : (index used : ℕ) → share s index used ≤ parted index used
  share_most index used = grind (arith, nat_tests, parted, share_is, div-mul-le_self)

  pub share_least : (index used : ℕ) → 36 ≤ parted index used → 36 ≤ share s index used
  share_least index used enough = grind (arith, nat_tests, share_is, words_hold, parted)

  -- each of the parts of what is left has at least 36 octets
  enough : (index used : ℕ) → index < segments_of s → used + 36 * (segments_of s - index) ≤ s.total → 36 ≤ parted index used
  unfolding parted
  enough index used lt left = le-div 36 (s.total - used) (segments_of s - index) (omega (arith, lt)) (omega (arith, left))

  -- so a head can have a share as its limit
  pub said_by : (index used : ℕ) → index < segments_of s → used + 36 * (segments_of s - index) ≤ s.total → CanBeSaid s (share s index used)
  said_by index used lt left = grind (arith, nat_tests, share_least, enough, share_is, parted, div-mul-le_self, mul-mod_left)

  whole_parts : (index used : ℕ) → parted index used * (segments_of s - index) ≤ s.total - used
  unfolding parted
  whole_parts index used = div-mul-le_self (s.total - used) (segments_of s - index)

  spread : (q m : ℕ) → 1 ≤ m → q * m ≡ q + (m - 1) * q
  spread q zero one = absurd (omega (arith, one))
  spread q (suc m) one = let e : suc m - 1 ≡ m = omega arith in rw e (let f : q * suc m ≡ q + m * q = grind arith in f)

  -- after a text within its share enough is left for those that follow
  pub left_next : (index used octets : ℕ) → index < segments_of s → used + 36 * (segments_of s - index) ≤ s.total → octets ≤ share s index used →
      used + octets + 36 * (segments_of s - (index + 1)) ≤ s.total
  left_next index used octets lt left few =
      let m = segments_of s - index in
      let q = parted index used in
      let part : q * m ≡ q + (m - 1) * q = spread q m (omega (arith, lt)) in
      omega (arith, lt, left, share_most index used, few, whole_parts index used, mul-le-mul_left (m - 1) (enough index used lt left), part)

  -- a text, of whatever blocks, is within its share
  pub segment_within : (segment : List (List ℤ)) (index used : ℕ) → index < segments_of s → used + 36 * (segments_of s - index) ≤ s.total →
      length (coded s.book (head_of s index used segment) segment) ≤ share s index used
  segment_within segment index used lt left = grind (arith, nat_tests, share_least, enough, coded_within)

  pub text_within : (all : List (List ℤ)) (index used : ℕ) → index < segments_of s → used + 36 * (segments_of s - index) ≤ s.total →
      length (text_with s all index used) ≤ share s index used
  text_within all index used lt left = segment_within (segment_of s all index) index used lt left

  pub left_after : (all : List (List ℤ)) (index : ℕ) → index ≤ segments_of s → used_before s all index + 36 * (segments_of s - index) ≤ s.total
  unfolding used_before
  left_after all zero le = let within = has.within in omega (arith, within)
  left_after all (suc index) le =
      let used = used_before s all index in
      let lt : index < segments_of s = omega (arith, le) in
      let left = left_after all index (omega (arith, le)) in
      omega (arith, left_next index used (length (text_with s all index used)) lt left (text_within all index used lt left))

-- the share as it is computed
pub share_none : (s : Setting) (index used : ℕ) → s.total ≡ 0 → share s index used ≡ s.limit
unfolding share
share_none s index used none = let e : (s.total == 0) ≡ true = grind (arith, nat_tests) in rw e refl

pub share_some : (s : Setting) (index used : ℕ) → s.total ≢ 0 →
    share s index used ≡ min ((s.total - used) / (segments_of s - index)) limit_range.most / s.word * s.word
unfolding share
share_some s index used some = let e : (s.total == 0) ≡ false = grind (arith, nat_tests) in rw e refl

pub share_said : (s : Setting) (all : List (List ℤ)) (index : ℕ) → IsInRange s → index < segments_of s → CanBeSaid s (share s index (used_before s all index))
unfolding share
share_said s all index range lt = grind (arith, nat_tests, said_by, left_after)

pub total_kept : (s : Setting) (all : List (List ℤ)) → IsInRange s → s.total ≢ 0 → used_before s all (segments_of s) ≤ s.total
total_kept s all range some = let left = left_after s range some all (segments_of s) (omega arith) in omega (arith, left)
