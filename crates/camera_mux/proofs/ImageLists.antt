-- The images of packets, and one packet more.
use Rattle.std.proofs.lemmas.Bool.Decides.{nat_tests}
use Rattle.std.proofs.Common.{◌≡◌, ◌<◌, ◌+◌, ◌≤◌, ℕ, zero, suc, List, [], ◌∷◌, ◌++◌, length, take, map, refl, sym, ap, subst, ◌∙◌, inl, inr, arith}
use Rattle.std.proofs.Common.{append_assoc, length-append, Bool, true, false, cond, ◌==◌, ◌&&◌, filter, slice_index_or, Option}
use Rattle.std.specs.List.{range_with_len}
use Rattle.std.proofs.lemmas.Bool.{and_parts, cases_lt, false≢true, eqb-true}
use Rattle.std.proofs.lemmas.List.{append-nil, map-append, take-append-le, take_all}
use Rattle.std.proofs.lemmas.List.Elements.{filter-append}
use Rattle.std.proofs.Math.ListN.{get_or-append}
use Rattle.std.proofs.Math.Seq.{get_or-append_seam}
use Rattle.packet_defs.specs.Reading.{apid_in}
use Rattle.stream_defs.specs.Fates.{fresh}
use Rattle.stream_defs.proofs.Outputs.{range_with_len-more}
use Rattle.camera_mux.specs.declared.image.ImageId.{ImageId}
use Rattle.camera_mux.specs.Images.{id_in, state_of, kept_of, is_wanted, is_kept_after, begins_image, packet_at, begins_at, images}
use Rattle.camera_mux.proofs.OneImage.{is_own, own_id, kept_own, kept_other, kept_lost, kept_more}
use Rattle.stream_defs.proofs.Equations.{kept-none}

-- ---- lists by place

-- what holds of each element, and of one more, holds of each of them
pub each_more : {A : Type 0} (P : A → Type 0) (xs : List A) (y d : A) → ((i : ℕ) → i < length xs → P (slice_index_or xs i d)) → P y → (i : ℕ) →
    i < length (xs ++ y ∷ []) → P (slice_index_or (xs ++ y ∷ []) i d)
each_more P xs y d all last i lt = elim (cases_lt i (length xs)) [
  | inl before ↦ subst P (sym (get_or-append xs (y ∷ []) d i before)) (all i before)
  | inr past ↦
      let here : i ≡ length xs = omega (arith, lt, past, length-append xs (y ∷ [])) in
      subst P (sym (ap (λ k. slice_index_or (xs ++ y ∷ []) k d) here ∙ get_or-append_seam xs y [] d)) last
]

-- the same places pass, and give the same
same_places : (p q : ℕ → Bool) (f g : ℕ → ImageId) (a n : ℕ) → ((i : ℕ) → i < a + n → p i ≡ q i) → ((i : ℕ) → i < a + n → f i ≡ g i) →
    map f (filter p (range_with_len a n)) ≡ map g (filter q (range_with_len a n))
same_places p q f g a zero tests gives = refl
same_places p q f g a (suc n) tests gives =
    let rest = same_places p q f g (a + 1) n (λ i lt. tests i (omega (arith, lt))) (λ i lt. gives i (omega (arith, lt))) in
    by (p a) (tests a (omega arith)) (gives a (omega arith)) rest
  where
    by : (b : Bool) → b ≡ q a → f a ≡ g a → map f (filter p (range_with_len (a + 1) n)) ≡ map g (filter q (range_with_len (a + 1) n)) →
        map f (cond b (a ∷ filter p (range_with_len (a + 1) n)) (filter p (range_with_len (a + 1) n)))
        ≡ map g (cond (q a) (a ∷ filter q (range_with_len (a + 1) n)) (filter q (range_with_len (a + 1) n)))
    by true e is rest = rw (← e) (ap (λ x. x ∷ map f (filter p (range_with_len (a + 1) n))) is ∙ ap (λ xs. g a ∷ xs) rest)
    by false e is rest = rw (← e) rest

-- ---- the images

-- the packet after these begins an image that is asked for
abbrev pub begins_next : (wanted : Option ℕ) → List (List ℕ) → List ℕ → Bool
begins_next wanted packets packet = is_wanted wanted (apid_in packet) && begins_image packets packet

pub images-none : (wanted : Option ℕ) → images wanted [] ≡ []
unfolding images
images-none wanted = refl

module _ (wanted : Option ℕ) (packets : List (List ℕ)) (packet : List ℕ) where
  all : List (List ℕ)
  all = packets ++ packet ∷ []

  test_before : (i : ℕ) → i < length packets → begins_at wanted (packets ++ packet ∷ []) i ≡ begins_at wanted packets i
  test_before i lt =
      let le : i ≤ length packets = omega (arith, lt) in
      ap (λ p. is_wanted wanted (apid_in p) && begins_image (take i (packets ++ packet ∷ [])) p) (get_or-append packets (packet ∷ []) [] i lt)
      ∙ ap (λ ps. is_wanted wanted (apid_in (packet_at packets i)) && begins_image ps (packet_at packets i)) (take-append-le i packets (packet ∷ []) le)

  test_last : begins_at wanted (packets ++ packet ∷ []) (length packets) ≡ begins_next wanted packets packet
  test_last =
      let prefix : take (length packets) (packets ++ packet ∷ []) ≡ packets = take-append-le (length packets) packets (packet ∷ []) (omega arith)
      ∙ take_all (length packets) packets (omega arith) in
      ap (λ p. is_wanted wanted (apid_in p) && begins_image (take (length packets) (packets ++ packet ∷ [])) p) (get_or-append_seam packets packet [] [])
      ∙ ap (λ ps. is_wanted wanted (apid_in packet) && begins_image ps packet) prefix

  pub images-more : images wanted (packets ++ packet ∷ []) ≡ images wanted packets ++ cond (begins_next wanted packets packet) (id_in packet ∷ []) []
  unfolding images
  images-more =
      let n = length packets in
      let here : 0 + n ≡ n = omega arith in
      let p : ℕ → Bool = begins_at wanted (packets ++ packet ∷ []) in
      let q : ℕ → Bool = begins_at wanted packets in
      let f : ℕ → ImageId = λ place. id_in (packet_at (packets ++ packet ∷ []) place) in
      let g : ℕ → ImageId = λ place. id_in (packet_at packets place) in
      ap (λ k. map f (filter p (range_with_len 0 k))) (length-append packets (packet ∷ []))
      ∙ ap (λ r. map f (filter p r)) (range_with_len-more 0 n)
      ∙ ap (map f) (filter-append p (range_with_len 0 n) ((0 + n) ∷ []))
      ∙ map-append f (filter p (range_with_len 0 n)) (filter p ((0 + n) ∷ []))
      ∙ ap (λ xs. xs ++ map f (filter p ((0 + n) ∷ []))) (same_places p q f g 0 n (λ i lt. test_before i (omega (arith, lt)))
      (λ i lt. ap id_in (get_or-append packets (packet ∷ []) [] i (omega (arith, lt)))))
      ∙ ap (λ k. map g (filter q (range_with_len 0 n)) ++ map f (filter p (k ∷ []))) here
      ∙ ap (λ xs. map g (filter q (range_with_len 0 n)) ++ xs) (last_one f n (p n) test_last (ap id_in (get_or-append_seam packets packet [] [])))
    where
      last_one : (f : ℕ → ImageId) (n : ℕ) (b : Bool) → b ≡ begins_next wanted packets packet → f n ≡ id_in packet →
          map f (cond b (n ∷ []) []) ≡ cond (begins_next wanted packets packet) (id_in packet ∷ []) []
      last_one f n true e is = rw (← e) (ap (λ x. x ∷ []) is)
      last_one f n false e is = rw (← e) refl

  pub images_same : begins_next wanted packets packet ≡ false → images wanted (packets ++ packet ∷ []) ≡ images wanted packets
  images_same e = images-more ∙ ap (λ b. images wanted packets ++ cond b (id_in packet ∷ []) []) e ∙ append-nil (images wanted packets)

  pub images_begun : begins_next wanted packets packet ≡ true → images wanted (packets ++ packet ∷ []) ≡ images wanted packets ++ id_in packet ∷ []
  images_begun e = images-more ∙ ap (λ b. images wanted packets ++ cond b (id_in packet ∷ []) []) e

-- the images of packets are the first of those of more
pub images-prefix : (wanted : Option ℕ) (packets later : List (List ℕ)) →
    (rest : List ImageId) × (images wanted (packets ++ later) ≡ images wanted packets ++ rest)
images-prefix wanted packets [] = ([], ap (images wanted) (append-nil packets) ∙ sym (append-nil (images wanted packets)))
images-prefix wanted packets (x ∷ later) =
    let more = cond (begins_next wanted packets x) (id_in x ∷ []) [] in
    let next = images-prefix wanted (packets ++ x ∷ []) later in (
      more ++ next.0,
      ap (images wanted) (sym (append_assoc packets (x ∷ []) later)) ∙ next.1 ∙ ap (λ zs. zs ++ next.0) (images-more wanted packets x)
          ∙ append_assoc (images wanted packets) more next.0,
    )

-- ---- what is known of them

abbrev pub no_id : ImageId
no_id = record { apid = 0; image = 0 }

abbrev pub id_at : List ImageId → ℕ → ImageId
id_at ids i = slice_index_or ids i no_id

-- this image is none of these
abbrev pub Misses : List ImageId → ImageId → Type 0
Misses ids id = (i : ℕ) → i < length ids → id_at ids i ≡ id → ⊥

-- Each is asked for, is there once and has a kept packet, and no other image that is asked for has one.
pub record AreBegun (wanted : Option ℕ) (packets : List (List ℕ)) (ids : List ImageId) : Type 0 where
  pub wanted_each : (i : ℕ) → i < length ids → is_wanted wanted (id_at ids i).apid ≡ true
  pub some_each : (i : ℕ) → i < length ids → 0 < length (kept_of (id_at ids i) packets)
  pub others : (id : ImageId) → is_wanted wanted id.apid ≡ true → Misses ids id → kept_of id packets ≡ []
  pub apart : (i j : ℕ) → i < length ids → j < length ids → id_at ids i ≡ id_at ids j → i ≡ j

kept_nothing : (id : ImageId) → kept_of id [] ≡ []
kept_nothing id = kept-none id.apid fresh

pub begun_none : (wanted : Option ℕ) → AreBegun wanted [] []
begun_none wanted = grind (arith, nat_tests, kept_nothing)

-- a packet that is kept remains kept
pub kept_grows : (id : ImageId) (packets : List (List ℕ)) (packet : List ℕ) → 0 < length (kept_of id packets) → 0 < length (kept_of id (packets ++ packet ∷ []))
kept_grows id packets packet some = grind (arith, nat_tests, length, kept_more, length-append, kept_lost, kept_other)

-- if a packet of its image was kept before, a packet doesn't begin it
pub begins_no_more : (wanted : Option ℕ) (packets : List (List ℕ)) (packet : List ℕ) → 0 < length (kept_of (id_in packet) packets) →
    begins_next wanted packets packet ≡ false
begins_no_more wanted packets packet some = grind (arith, nat_tests, and_parts, eqb-true, length)

-- and if none was, a kept one does
pub begins_so : (wanted : Option ℕ) (packets : List (List ℕ)) (packet : List ℕ) → is_wanted wanted (apid_in packet) ≡ true →
    is_kept_after packets packet ≡ true → kept_of (id_in packet) packets ≡ [] →
    begins_next wanted packets packet ≡ true
begins_so wanted packets packet is keeps none = rw (is, keeps, none) refl

begun_more : (wanted : Option ℕ) (packets : List (List ℕ)) (packet : List ℕ) (ids : List ImageId) → begins_next wanted packets packet ≡ true →
    AreBegun wanted packets ids →
    AreBegun wanted (packets ++ packet ∷ []) (ids ++ id_in packet ∷ [])
begun_more wanted packets packet ids begins known =
    let q = id_in packet in
    let two = and_parts (is_wanted wanted (apid_in packet)) (begins_image packets packet) begins in
    let parts = and_parts (is_kept_after packets packet) (length (kept_of q packets) == 0) two.1 in
    let none : length (kept_of q packets) ≡ 0 = eqb-true (length (kept_of q packets)) 0 parts.1 in
    let own : is_own q packet ≡ true = kept_own (state_of q packets) packet parts.0 in
    let now : 0 < length (kept_of q (packets ++ packet ∷ [])) =
    (let more = ap length (kept_more q packets packet own parts.0) in omega (arith, more, length-append (kept_of q packets) (packet ∷ []))) in
    record {
      wanted_each = each_more (λ id. is_wanted wanted id.apid ≡ true) ids q no_id known.wanted_each two.0;
      some_each = each_more (λ id. 0 < length (kept_of id (packets ++ packet ∷ []))) ids q no_id
          (λ i lt. kept_grows (id_at ids i) packets packet (known.some_each i lt)) now;
      others = λ id is misses. others id is misses (is_own id packet) refl;
      apart = λ i j lti ltj e. apart i j lti ltj e none;
    }
  where
    before : (id : ImageId) → Misses (ids ++ id_in packet ∷ []) id → Misses ids id
    before id misses i lt e = misses i (omega (arith, lt, length-append ids (id_in packet ∷ []))) (get_or-append ids ((id_in packet) ∷ []) no_id i lt ∙ e)

    others : (id : ImageId) → is_wanted wanted id.apid ≡ true → Misses (ids ++ id_in packet ∷ []) id → (b : Bool) → is_own id packet ≡ b →
        kept_of id (packets ++ packet ∷ []) ≡ []
    others id is misses true own = absurd (misses (length ids) (omega (arith, length-append ids (id_in packet ∷ [])))
        (get_or-append_seam ids (id_in packet) [] no_id ∙ own_id id packet own))
    others id is misses false own = kept_other id packets packet own ∙ known.others id is (before id misses)

    -- the new image isn't among those before
    new : (i : ℕ) → i < length ids → length (kept_of (id_in packet) packets) ≡ 0 → id_at ids i ≡ id_in packet → ⊥
    new i lt none e = let some = known.some_each i lt in let same = ap (λ id. length (kept_of id packets)) e in absurd (omega (arith, some, same, none))

    apart : (i j : ℕ) → i < length (ids ++ id_in packet ∷ []) → j < length (ids ++ id_in packet ∷ []) → id_at (ids ++ id_in packet ∷ []) i
        ≡ id_at (ids ++ id_in packet ∷ []) j → length (kept_of (id_in packet) packets) ≡ 0 → i ≡ j
    apart i j lti ltj e none = elim (cases_lt i (length ids)) [
      | inl bi ↦ elim (cases_lt j (length ids)) [
        | inl bj ↦ known.apart i j bi bj (sym (get_or-append ids ((id_in packet) ∷ []) no_id i bi) ∙ e ∙ get_or-append ids ((id_in packet) ∷ []) no_id j bj)
        | inr pj ↦
            let here : j ≡ length ids = omega (arith, ltj, pj, length-append ids (id_in packet ∷ [])) in
            absurd (new i bi none (sym (get_or-append ids ((id_in packet) ∷ []) no_id i bi) ∙ e ∙ ap (id_at (ids ++ id_in packet ∷ [])) here ∙
            get_or-append_seam ids (id_in packet) [] no_id))
      ]
      | inr pi ↦
          let there : i ≡ length ids = omega (arith, lti, pi, length-append ids (id_in packet ∷ [])) in
          elim (cases_lt j (length ids)) [
            | inl bj ↦ absurd (new j bj none (sym (get_or-append ids ((id_in packet) ∷ []) no_id j bj) ∙ sym e ∙ ap (id_at (ids ++ id_in packet ∷ []))
                there ∙ get_or-append_seam ids (id_in packet) [] no_id))
            | inr pj ↦ omega (arith, lti, pi, ltj, pj, length-append ids (id_in packet ∷ []))
          ]
    ]

begun_same : (wanted : Option ℕ) (packets : List (List ℕ)) (packet : List ℕ) (ids : List ImageId) → begins_next wanted packets packet ≡ false →
    AreBegun wanted packets ids →
    AreBegun wanted (packets ++ packet ∷ []) ids
begun_same wanted packets packet ids not known = grind (arith, nat_tests, kept_grows, kept_lost, own_id, false≢true, begins_so, kept_other)

-- the images of some packets, and then of one more
pub begun_next : (wanted : Option ℕ) (packets : List (List ℕ)) (packet : List ℕ) → AreBegun wanted packets (images wanted packets) →
    AreBegun wanted (packets ++ packet ∷ []) (images wanted (packets ++ packet ∷ []))
begun_next wanted packets packet known = by (begins_next wanted packets packet) refl
  where
    by : (b : Bool) → begins_next wanted packets packet ≡ b → AreBegun wanted (packets ++ packet ∷ []) (images wanted (packets ++ packet ∷ []))
    by true e = subst (AreBegun wanted (packets ++ packet ∷ [])) (sym (images_begun wanted packets packet e))
        (begun_more wanted packets packet (images wanted packets) e known)
    by false e = subst (AreBegun wanted (packets ++ packet ∷ [])) (sym (images_same wanted packets packet e))
        (begun_same wanted packets packet (images wanted packets) e known)
