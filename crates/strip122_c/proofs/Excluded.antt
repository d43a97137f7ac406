-- The causes of the answers to packets exclude each other.
use Rattle.std.proofs.Common.{◌≡◌, ◌≢◌, ◌≤◌, ◌<◌, ◌*◌, ◌∙◌, ℕ, zero, suc, List, [], ◌∷◌, ◌++◌, length, length-append, append_assoc, refl, sym, ap, subst}
use Rattle.std.proofs.Common.{inl, inr, arith, true, false, Some, None, Result, Ok, Err, mul-le-mul_right}
use Rattle.std.proofs.lemmas.Bool.{false≢true}
use Rattle.base_122.specs.declared.geometry.Geometry.{Geometry}
use Rattle.base_122.specs.declared.wish.DecodeWish.{DecodeWish}
use Rattle.packet_defs.specs.Streams.{has_bad_version, left_over, whole_packets}
use Rattle.stream_defs.specs.declared.fate.FateState.{FateState}
use Rattle.stream_defs.specs.Begun.{HasFewPixels, begun_in, end_of, rows_reached}
use Rattle.stream_defs.specs.Fates.{fresh, after_all, kept, kept_in, geometry_in}
use Rattle.stream_defs.specs.Received.{ReceivedIn}
use Rattle.stream_defs.proofs.ChosenLaws.{after_all-append}
use Rattle.stream_defs.proofs.PlacedLaws.{reached_known}
use Rattle.packet_assembly.proofs.BadVersions.{bad_later, left_stays}
use Rattle.packet_assembly.proofs.ReachedRows.{geometry_more, reached_more}
use Rattle.strip_decoder.specs.Laws.{ReceivedIsKnown}
use Rattle.strip_decoder.specs.Runs.{Numbers, ReportsMany, holds_after}
use Rattle.strip_decoder.proofs.Asking.{leading_packets}
use Rattle.quick_look.specs.RectLines.{rect_lines}
use Rattle.strip122_c.specs.Excluding.{kind_of}
use Rattle.strip122_c.specs.Products.{product_octets, product_length, product_texts}
use Rattle.segment_defs.specs.TextWish.{unrestored}
use Rattle.strip122_c.specs.WholeDecoding.{HasGeometry, HasLongInput, HasMade, HasNoSegment, HasSmallRoom, HasTooMany, IsReadToEnd, Makes, ReportsFirst}
use Rattle.strip122_c.specs.declared.decode.DecodeRefusal.{DecodeRefusal}
use Rattle.strip122_c.specs.declared.decode.DecodeRefusal.TheVariants.{NoSegment, SmallRoom, TooManyPixels, LongInput, Memory}
use Rattle.strip122_c.specs.declared.decode.Made.{Made}
use Rattle.strip122_c.specs.declared.product.Product.{Product}
use Rattle.strip122_c.specs.declared.product.Product.TheVariants.{Picture, Look, Rects}
use Rattle.strip122_c.proofs.FirstHeads.{known_first, reports_more}
use Rattle.strip122_c.proofs.ImagesBack.{many_few}
use Rattle.strip122_c.proofs.ProductRuns.{rects_known}
use Rattle.strip122_c.proofs.WholeDecoded.{known_length, raster_octets}

-- ---- two readings of the same octets

record IsPrefix (xs ys : List ℕ) : Type 0 where
  more : List ℕ
  are : ys ≡ xs ++ more

shorter : (xs ys r s : List ℕ) → xs ++ r ≡ ys ++ s → length xs ≤ length ys → IsPrefix xs ys
shorter [] ys r s same le = record { more = ys; are = refl }
shorter (x ∷ xs) [] r s same le = absurd (omega (arith, le))
shorter (x ∷ xs) (y ∷ ys) r s same le =
    let heads : y ≡ x = cc in
    let tails : xs ++ r ≡ ys ++ s = cc in
    let rest = shorter xs ys r s tails (omega (arith, le)) in
    record { more = rest.more; are = ap (λ zs. y ∷ zs) rest.are ∙ ap (λ z. z ∷ (xs ++ rest.more)) heads }

-- what is read to its end isn't too long
end_not_long : (product : Product) (wish : DecodeWish) (packets : List ℕ) (room : ℕ) → IsReadToEnd wish.octets packets →
    HasLongInput product wish packets room → ⊥
end_not_long product wish packets room end long = elim end.out [
  | inl bad ↦
      let within = end.within in
      let prefix = shorter end.took long.took end.rest long.rest (sym end.are ∙ long.are) (omega (arith, within, long.long)) in
      let later : has_bad_version (left_over (end.took ++ prefix.more)) ≡ true = ap has_bad_version (left_stays end.took prefix.more bad)
      ∙ bad_later end.took prefix.more bad in
      false≢true (sym long.readable ∙ ap (λ octets. has_bad_version (left_over octets)) prefix.are ∙ later)
  | inr all ↦
      let none = ap length all.0 in
      let lengths = ap length (sym end.are ∙ long.are) in
      let few = all.1 in
      omega (arith, few, none, lengths, length-append end.took end.rest, length-append long.took long.rest, long.long)
]

-- a number of pixels that is too many isn't reported by octets that report few
many_not_few : (most apid pixels : ℕ) (took more : List ℕ) → ReportsMany most apid pixels took → HasFewPixels most apid (took ++ more) → ⊥
many_not_few most apid pixels took more many few =
    let before = many.before ++ many.packet ∷ [] in
    let beyond = leading_packets took more in
    let later = many.later ++ beyond.0 in
    let all : whole_packets (took ++ more) ≡ before ++ later = beyond.1 ∙ ap (λ packets. packets ++ beyond.0) many.packets_are
    ∙ append_assoc before many.later beyond.0 in
    let last = geometry_more apid before later many.image many.geometry in
    let g = last.0 in
    let there : (after_all apid fresh (before ++ later)).geometry ≡ Some g = ap (λ (s : FateState). s.geometry) (after_all-append apid fresh before later)
    ∙ last.1 in
    let here : geometry_in apid (took ++ more) ≡ Some g = ap (λ packets. (after_all apid fresh packets).geometry) all ∙ there in
    let width : g.width ≡ many.image.width = ap (λ (h : Geometry). h.width) last.2 in
    let rows = reached_more apid before later many.image g many.geometry there in
    let m : ℕ = rows_reached many.image (end_of (kept apid fresh before)) in
    let n : ℕ = rows_reached g (end_of (kept apid fresh (before ++ later))) in
    let fewer : m * many.image.width ≤ n * many.image.width = mul-le-mul_right many.image.width rows in
    let turned : (i j : ℕ) → i * j ≡ j * i = λ i j. grind arith in
    let reached : g.width * n ≤ most = subst (λ packets. g.width * rows_reached g (end_of (kept apid fresh packets)) ≤ most) all (few g here) in
    let same : n * many.image.width ≡ g.width * n = turned n many.image.width ∙ ap (λ w. w * n) (sym width) in
    let over = many.many in
    omega (arith, over, many.pixels_are, fewer, turned m many.image.width, reached, same)

-- a geometry that is reported stays
many_some : (most apid pixels : ℕ) (took rest : List ℕ) → ReportsMany most apid pixels took → geometry_in apid (took ++ rest) ≡ None → ⊥
many_some most apid pixels took rest many none =
    let before = many.before ++ many.packet ∷ [] in
    let beyond = leading_packets took rest in
    let later = many.later ++ beyond.0 in
    let all : whole_packets (took ++ rest) ≡ before ++ later = beyond.1 ∙ ap (λ packets. packets ++ beyond.0) many.packets_are
    ∙ append_assoc before many.later beyond.0 in
    let last = geometry_more apid before later many.image many.geometry in
    let both : None ≡ Some last.0 = sym none ∙ ap (λ packets. (after_all apid fresh packets).geometry) all ∙ ap (λ (s : FateState). s.geometry)
    (after_all-append apid fresh before later) ∙ last.1 in cc

one_geometry : {apid : ℕ} {packets : List ℕ} {g h : Geometry} → HasGeometry apid packets g → HasGeometry apid packets h → g ≡ h
one_geometry {g = g} {h = h} a b = let both : Some g ≡ Some h = sym a.geometry ∙ b.geometry in cc

-- the octets of the same segments
one_length : ReceivedIsKnown → (product : Product) (wish : DecodeWish) (packets : List ℕ) (g : Geometry) (a b : Numbers) → HasGeometry wish.apid packets g →
    ReceivedIn (holds_after (product_texts product wish)) wish.apid packets a → ReceivedIn (holds_after (product_texts product wish)) wish.apid packets b →
    length (product_octets product g a (begun_in wish.apid packets)) ≡ length (product_octets product g b (begun_in wish.apid packets))
one_length laws Picture wish packets g a b reports of_a of_b = raster_octets Picture g a (begun_in wish.apid packets) (λ e. absurd cc)
    ∙ sym (raster_octets Picture g b (begun_in wish.apid packets) (λ e. absurd cc))
one_length laws Look wish packets g a b reports of_a of_b = raster_octets Look g a (begun_in wish.apid packets) (λ e. absurd cc)
    ∙ sym (raster_octets Look g b (begun_in wish.apid packets) (λ e. absurd cc))
one_length laws Rects wish packets g a b reports of_a of_b =
    let same = laws.one (unrestored wish.book) wish.apid packets a b of_a of_b in
    ap (λ rects. length (rect_lines rects)) (rects_known g (begun_in wish.apid packets) a b reports.range same)

-- ---- two causes

module _ (laws : ReceivedIsKnown) (product : Product) (wish : DecodeWish) (packets old new : List ℕ) (made : Made)
    (has : HasMade product wish packets old new made) where
  made_none : HasNoSegment wish packets → ⊥
  made_none none = let both : None ≡ Some made.done.geometry = sym none.none ∙ has.are.reports.geometry in cc

  made_small : (g : Geometry) (rows octets : ℕ) → HasSmallRoom product wish packets (length old) g rows octets → ⊥
  made_small g rows octets small =
      let is = has.are in
      let same : made.done.geometry ≡ g = one_geometry is.reports small.reports in
      let n = begun_in wish.apid packets in
      let length_is : length has.octets ≡ length (product_octets product g small.received n) =
      ap length is.octets_are ∙ ap (λ g. length (product_octets product g is.received n)) same ∙ one_length laws product wish packets g is.received
      small.received small.reports is.received_are small.received_are in
      let over = small.small in
      let fits = has.fits in
      omega (arith, over, fits, length_is, small.octets_are)

  made_many : (pixels : ℕ) → HasTooMany wish packets pixels → ⊥
  made_many pixels many = many_not_few wish.pixels wish.apid pixels many.took many.rest many.many
      (subst (HasFewPixels wish.pixels wish.apid) many.are has.are.few)

  made_long : HasLongInput product wish packets (length old) → ⊥
  made_long = end_not_long product wish packets (length old) has.are.to_end

module _ (product : Product) (wish : DecodeWish) (packets : List ℕ) (room : ℕ) where
  none_small : (g : Geometry) (rows octets : ℕ) → HasNoSegment wish packets → HasSmallRoom product wish packets room g rows octets → ⊥
  none_small g rows octets none small = let both : None ≡ Some g = sym none.none ∙ small.reports.geometry in cc

  none_many : (pixels : ℕ) → HasNoSegment wish packets → HasTooMany wish packets pixels → ⊥
  none_many pixels none many = many_some wish.pixels wish.apid pixels many.took many.rest many.many (ap (geometry_in wish.apid) (sym many.are) ∙ none.none)

  none_long : HasNoSegment wish packets → HasLongInput product wish packets room → ⊥
  none_long none = end_not_long product wish packets room none.to_end

  small_many : (g : Geometry) (rows octets pixels : ℕ) → HasSmallRoom product wish packets room g rows octets → HasTooMany wish packets pixels → ⊥
  small_many g rows octets pixels small many = elim small.known [
    | inl first ↦
        let reports = first.1 in
        let few : g.width * g.rows ≤ wish.pixels =
        subst (λ n. g.width * n ≤ wish.pixels) (reached_known g (end_of (kept_in wish.apid small.took)) reports.1)
        (small.few g (known_first wish.apid small.took g reports)) in
        let most = many_few wish.pixels wish.apid pixels many.took many.rest g many.many (ap (geometry_in wish.apid) (sym many.are) ∙ small.reports.geometry)
        reports.1 in
        let over = many.many.many in
        omega (arith, few, most, over)
    | inr all ↦ many_not_few wish.pixels wish.apid pixels many.took many.rest many.many (subst (HasFewPixels wish.pixels wish.apid) many.are all.few)
  ]

  small_long : (g : Geometry) (rows octets : ℕ) → HasSmallRoom product wish packets room g rows octets → HasLongInput product wish packets room → ⊥
  small_long g rows octets small long = elim small.known [
    | inl first ↦
        let raster = first.0 in
        let reports = first.1 in
        let within = small.within in
        let prefix = shorter small.took long.took small.rest long.rest (sym small.are ∙ long.are) (omega (arith, within, long.long)) in
        let later : ReportsFirst wish.apid long.took g = subst (λ octets. ReportsFirst wish.apid octets g) (sym prefix.are)
        (reports_more wish.apid small.took prefix.more g reports) in
        let fits = long.fits g raster later in
        let n = begun_in wish.apid packets in
        let size : octets ≡ product_length product g 0 = small.octets_are ∙ raster_octets product g small.received n raster
        ∙ known_length product g n 0 reports.1 in
        let over = small.small in
        omega (arith, over, fits, size)
    | inr all ↦ end_not_long product wish packets room all.to_end long
  ]

  many_long : (pixels : ℕ) → HasTooMany wish packets pixels → HasLongInput product wish packets room → ⊥
  many_long pixels many long =
      let within = many.within in
      let prefix = shorter many.took long.took many.rest long.rest (sym many.are ∙ long.are) (omega (arith, within, long.long)) in
      many_not_few wish.pixels wish.apid pixels many.took prefix.more many.many (subst (HasFewPixels wish.pixels wish.apid) prefix.are long.few)

-- ---- two results

pub one_kind : ReceivedIsKnown → (product : Product) (wish : DecodeWish) (packets old new other : List ℕ) (a b : Result Made DecodeRefusal) →
    Makes product wish packets old new a → Makes product wish packets old other b → kind_of a ≢ 8 → kind_of b ≢ 8 → kind_of a ≡ kind_of b
one_kind laws product wish packets old new other (Err Memory) b x y p q = absurd (p refl)
one_kind laws product wish packets old new other a (Err Memory) x y p q = absurd (q refl)
one_kind laws product wish packets old new other (Ok m) (Ok n) x y p q = refl
one_kind laws product wish packets old new other (Ok m) (Err NoSegment) x y p q = absurd (made_none laws product wish packets old new m x y.1)
one_kind laws product wish packets old new other (Ok m) (Err (SmallRoom g rows octets)) x y p q =
    absurd (made_small laws product wish packets old new m x g rows octets y.1)
one_kind laws product wish packets old new other (Ok m) (Err (TooManyPixels pixels)) x y p q =
    absurd (made_many laws product wish packets old new m x pixels y.1)
one_kind laws product wish packets old new other (Ok m) (Err LongInput) x y p q = absurd (made_long laws product wish packets old new m x y.1)
one_kind laws product wish packets old new other (Err NoSegment) (Ok n) x y p q = absurd (made_none laws product wish packets old other n y x.1)
one_kind laws product wish packets old new other (Err NoSegment) (Err NoSegment) x y p q = refl
one_kind laws product wish packets old new other (Err NoSegment) (Err (SmallRoom g rows octets)) x y p q =
    absurd (none_small product wish packets (length old) g rows octets x.1 y.1)
one_kind laws product wish packets old new other (Err NoSegment) (Err (TooManyPixels pixels)) x y p q =
    absurd (none_many product wish packets (length old) pixels x.1 y.1)
one_kind laws product wish packets old new other (Err NoSegment) (Err LongInput) x y p q = absurd (none_long product wish packets (length old) x.1 y.1)
one_kind laws product wish packets old new other (Err (SmallRoom g rows octets)) (Ok n) x y p q =
    absurd (made_small laws product wish packets old other n y g rows octets x.1)
one_kind laws product wish packets old new other (Err (SmallRoom g rows octets)) (Err NoSegment) x y p q =
    absurd (none_small product wish packets (length old) g rows octets y.1 x.1)
one_kind laws product wish packets old new other (Err (SmallRoom g rows octets)) (Err (SmallRoom h lines more)) x y p q = refl
one_kind laws product wish packets old new other (Err (SmallRoom g rows octets)) (Err (TooManyPixels pixels)) x y p q =
    absurd (small_many product wish packets (length old) g rows octets pixels x.1 y.1)
one_kind laws product wish packets old new other (Err (SmallRoom g rows octets)) (Err LongInput) x y p q =
    absurd (small_long product wish packets (length old) g rows octets x.1 y.1)
one_kind laws product wish packets old new other (Err (TooManyPixels pixels)) (Ok n) x y p q =
    absurd (made_many laws product wish packets old other n y pixels x.1)
one_kind laws product wish packets old new other (Err (TooManyPixels pixels)) (Err NoSegment) x y p q =
    absurd (none_many product wish packets (length old) pixels y.1 x.1)
one_kind laws product wish packets old new other (Err (TooManyPixels pixels)) (Err (SmallRoom g rows octets)) x y p q =
    absurd (small_many product wish packets (length old) g rows octets pixels y.1 x.1)
one_kind laws product wish packets old new other (Err (TooManyPixels pixels)) (Err (TooManyPixels more)) x y p q = refl
one_kind laws product wish packets old new other (Err (TooManyPixels pixels)) (Err LongInput) x y p q =
    absurd (many_long product wish packets (length old) pixels x.1 y.1)
one_kind laws product wish packets old new other (Err LongInput) (Ok n) x y p q = absurd (made_long laws product wish packets old other n y x.1)
one_kind laws product wish packets old new other (Err LongInput) (Err NoSegment) x y p q = absurd (none_long product wish packets (length old) y.1 x.1)
one_kind laws product wish packets old new other (Err LongInput) (Err (SmallRoom g rows octets)) x y p q =
    absurd (small_long product wish packets (length old) g rows octets y.1 x.1)
one_kind laws product wish packets old new other (Err LongInput) (Err (TooManyPixels pixels)) x y p q =
    absurd (many_long product wish packets (length old) pixels y.1 x.1)
one_kind laws product wish packets old new other (Err LongInput) (Err LongInput) x y p q = refl
