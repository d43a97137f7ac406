-- The chains of a table.
use Rattle.std.proofs.Common.{◌≡◌, ◌≢◌, ◌⊎◌, ◌<◌, ◌≤◌, ◌+◌, ◌*◌, ◌∙◌, ◌==◌, ◌&&◌, nat_lt, if◌then◌else◌, ℕ, zero, suc, true, false, cond, List, [], ◌∷◌}
use Rattle.std.proofs.Common.{◌++◌, length, get_or, slice_set, refl, sym, ap, subst, arith, inl, inr, length-append}
use Rattle.std.proofs.lemmas.Bool.{cases_lt, cases_eq, eq-eqb, ne_eqb, false≢true}
use Rattle.std.proofs.lemmas.Bool.Decides.{nat_tests}
use Rattle.std.proofs.lemmas.List.{get_or-set_same, get_or-set_other, length-set}
use Rattle.std.proofs.Math.ListN.{get_or-append}
use Rattle.std.proofs.Math.Seq.{get_or-append_seam}
use Rattle.std.proofs.lemmas.Nat.{mod_below}
use Rattle.camera_mux.specs.declared.image.ImageId.{ImageId}
use Rattle.camera_mux.specs.declared.image.ImageEntry.{ImageEntry}
use Rattle.camera_mux.specs.Tables.{entry_at, no_entry}
use Rattle.camera_mux.specs.Chains.{bucket_of, bucket_at, last_before, AreChained}

pub bucket_low : (id : ImageId) → bucket_of id < 4096
bucket_low id = mod_below (521 * id.apid + id.image) 4096 (omega arith)

-- ---- the last place

last_here : (table : List ImageEntry) (bucket place : ℕ) → bucket_at table place ≡ bucket → last_before table bucket (suc place) ≡ place
last_here table bucket place is = ap (λ b. cond b place (last_before table bucket place)) (eq-eqb (bucket_at table place) bucket is)

last_earlier : (table : List ImageEntry) (bucket place : ℕ) → bucket_at table place ≢ bucket → last_before table bucket (suc place)
    ≡ last_before table bucket place
last_earlier table bucket place other = ap (λ b. cond b place (last_before table bucket place)) (ne_eqb (bucket_at table place) bucket other)

-- only the images before a place count
last_same : (t u : List ImageEntry) (bucket before : ℕ) → ((k : ℕ) → k < before → bucket_at u k ≡ bucket_at t k) →
    last_before u bucket before ≡ last_before t bucket before
last_same t u bucket zero same = refl
last_same t u bucket (suc n) same =
    ap (λ k. cond (k == bucket) n (last_before u bucket n)) (same n (omega arith)) ∙ ap (cond (bucket_at t n == bucket) n)
    (last_same t u bucket n (λ k lt. same k (omega (arith, lt))))

-- no image in the bucket is at one of these places
abbrev HasNone : List ImageEntry → (bucket from to : ℕ) → Type 0
HasNone table bucket from to = (k : ℕ) → from ≤ k → k < to → bucket_at table k ≡ bucket → ⊥

abbrev IsLast : List ImageEntry → (bucket before place : ℕ) → Type 0
IsLast table bucket before place =
    ((place ≡ 65535) × HasNone table bucket 0 before) ⊎ ((place < before) × (bucket_at table place ≡ bucket) × HasNone table bucket (place + 1) before)

is_last : (table : List ImageEntry) (bucket before : ℕ) → IsLast table bucket before (last_before table bucket before)
is_last table bucket zero = inl (refl, λ k low high is. omega (arith, high))
is_last table bucket (suc n) = elim (cases_eq (bucket_at table n) bucket) [
  | inl here ↦ subst (IsLast table bucket (suc n)) (sym (last_here table bucket n here)) (inr (omega arith, here, λ k low high is. omega (arith, low, high)))
  | inr other ↦ subst (IsLast table bucket (suc n)) (sym (last_earlier table bucket n other)) (elim (is_last table bucket n) [
    | inl none ↦ inl (none.0, more 0 other none.1)
    | inr some ↦ inr (omega (arith, some.0), some.1, more (last_before table bucket n + 1) other some.2)
  ])
]
  where
    more : (from : ℕ) → bucket_at table n ≢ bucket → HasNone table bucket from n → HasNone table bucket from (suc n)
    more from other none k low high is = elim (cases_lt k n) [
      | inl old ↦ none k low old is
      | inr new ↦ let e : k ≡ n = omega (arith, new, high) in other (ap (bucket_at table) (sym e) ∙ is)
    ]

-- ---- the table changes

-- an entry of the same image
pub put_chained : (t : List ImageEntry) (last earlier : List ℕ) (place : ℕ) (entry : ImageEntry) → place < length t → (entry_at t place).id ≡ entry.id →
    AreChained t last earlier →
    AreChained (slice_set t place entry) last earlier
put_chained t last earlier place entry lt own c = record {
  ends = λ bucket low. c.ends bucket low ∙ sym (last_same t now bucket (length t) same) ∙ ap (last_before now bucket) (sym (length-set t place entry));
  links = λ k inside.
      let before : k < length t = omega (arith, inside, length-set t place entry) in
      c.links k before ∙ sym (last_same t now (bucket_at t k) k (λ j less. same j (omega (arith, less, before)))) ∙ ap (λ b. last_before now b k)
      (sym (same k before));
}
  where
    now : List ImageEntry
    now = slice_set t place entry

    same : (k : ℕ) → k < length t → bucket_at now k ≡ bucket_at t k
    same k inside = elim (cases_eq k place) [
      | inl here ↦
          ap (bucket_at now) here ∙ ap (λ (e : ImageEntry). bucket_of e.id) (get_or-set_same t place entry no_entry lt) ∙ ap bucket_of (sym own)
          ∙ ap (bucket_at t) (sym here)
      | inr other ↦ ap (λ (e : ImageEntry). bucket_of e.id) (get_or-set_other t place k entry no_entry other)
    ]

-- an image that begins
module _ (t : List ImageEntry) (last earlier : List ℕ) (entry : ImageEntry) (buckets : length last ≡ 4096) (size : length earlier ≡ length t)
    (c : AreChained t last earlier) where
  abbrev b : ℕ
  b = bucket_of entry.id

  abbrev n : ℕ
  n = length t

  abbrev now : List ImageEntry
  now = t ++ entry ∷ []

  b_low : b < 4096
  b_low = bucket_low entry.id

  long : length now ≡ suc n
  long = length-append t (entry ∷ []) ∙ omega arith

  before : (k : ℕ) → k < n → bucket_at now k ≡ bucket_at t k
  before k lt = ap (λ (e : ImageEntry). bucket_of e.id) (get_or-append t (entry ∷ []) no_entry k lt)

  here : bucket_at now n ≡ b
  here = ap (λ (e : ImageEntry). bucket_of e.id) (get_or-append_seam t entry [] no_entry)

  ends_now : (bucket : ℕ) → bucket < 4096 → get_or (slice_set last b n) bucket 0 ≡ last_before now bucket (suc n)
  ends_now bucket lt = elim (cases_eq bucket b) [
    | inl same ↦
        ap (λ k. get_or (slice_set last b n) k 0) same ∙ get_or-set_same last b n 0 (omega (arith, b_low, buckets))
        ∙ sym (last_here now bucket n (here ∙ sym same))
    | inr other ↦
        get_or-set_other last b bucket n 0 other ∙ c.ends bucket lt ∙ sym (last_same t now bucket n before)
        ∙ sym (last_earlier now bucket n (λ is. other (sym is ∙ here)))
  ]

  links_now : (place : ℕ) → place < suc n → get_or (earlier ++ get_or last b 0 ∷ []) place 0 ≡ last_before now (bucket_at now place) place
  links_now place lt = elim (cases_lt place n) [
    | inl old ↦
        get_or-append earlier (get_or last b 0 ∷ []) 0 place (omega (arith, old, size)) ∙ c.links place old
        ∙ sym (last_same t now (bucket_at t place) place (λ k less. before k (omega (arith, less, old)))) ∙ ap (λ b. last_before now b place)
        (sym (before place old))
    | inr new ↦
        let e : place ≡ n = omega (arith, new, lt) in
        let at_end : get_or (earlier ++ get_or last b 0 ∷ []) n 0 ≡ get_or last b 0 =
        ap (λ k. get_or (earlier ++ get_or last b 0 ∷ []) k 0) (sym size) ∙ get_or-append_seam earlier (get_or last b 0) [] 0 in
        ap (λ k. get_or (earlier ++ get_or last b 0 ∷ []) k 0) e ∙ at_end ∙ c.ends b b_low ∙ sym (last_same t now b n before)
        ∙ ap (λ bucket. last_before now bucket n) (sym here) ∙ ap (λ k. last_before now (bucket_at now k) k) (sym e)
  ]

  pub more_chained : AreChained now (slice_set last b n) (earlier ++ get_or last b 0 ∷ [])
  more_chained = record {
    ends = λ bucket lt. ends_now bucket lt ∙ ap (last_before now bucket) (sym long);
    links = λ place lt. links_now place (omega (arith, lt, long));
  }

-- a table without an image
pub none_chained : (last : List ℕ) → ((bucket : ℕ) → bucket < 4096 → get_or last bucket 0 ≡ 65535) → AreChained [] last []
none_chained last none = record { ends = none; links = λ place lt. absurd (omega (arith, lt)) }

-- ---- the search for an image

-- It is at this place of the table or before it in the same bucket, if it is there.
pub record IsAhead (table : List ImageEntry) (id : ImageId) (place : ℕ) : Type 0 where
  pub bucket : place < length table → bucket_at table place ≡ bucket_of id
  pub later : (k : ℕ) → k < length table → (entry_at table k).id ≡ id → (place < length table) × (k ≤ place)

found_last : (table : List ImageEntry) (id : ImageId) (end place : ℕ) → end ≤ length table → length table ≤ 4096 → IsLast table (bucket_of id) end place →
    ((k : ℕ) → k < length table → (entry_at table k).id ≡ id → k < end) → IsAhead table id place
found_last table id end place le few (inl none) low = record {
  bucket = λ lt. absurd (omega (arith, none.0, lt, few));
  later = λ k lt is. absurd (none.1 k (omega arith) (low k lt is) (ap bucket_of is));
}
found_last table id end place le few (inr some) low = record {
  bucket = λ lt. some.1;
  later = λ k lt is. elim (cases_lt place k) [
    | inl after ↦ absurd (some.2 k (omega (arith, after)) (low k lt is) (ap bucket_of is))
    | inr fine ↦ (omega (arith, some.0, le), fine)
  ];
}

pub ahead_first : (table : List ImageEntry) (last earlier : List ℕ) (id : ImageId) → length table ≤ 4096 → AreChained table last earlier →
    IsAhead table id (get_or last (bucket_of id) 0)
ahead_first table last earlier id few c =
    let bucket = bucket_of id in
    subst (IsAhead table id) (sym (c.ends bucket (bucket_low id)))
    (found_last table id (length table) (last_before table bucket (length table)) (omega arith) few (is_last table bucket (length table)) (λ k lt is. lt))

pub ahead_next : (table : List ImageEntry) (last earlier : List ℕ) (id : ImageId) (place : ℕ) → length table ≤ 4096 → AreChained table last earlier →
    place < length table →
    ((entry_at table place).id ≡ id → ⊥) → IsAhead table id place → IsAhead table id (get_or earlier place 0)
ahead_next table last earlier id place few c lt other ahead =
    let link : get_or earlier place 0 ≡ last_before table (bucket_of id) place = c.links place lt ∙ ap (λ b. last_before table b place) (ahead.bucket lt) in
    subst (IsAhead table id) (sym link)
    (found_last table id place (last_before table (bucket_of id) place) (omega (arith, lt)) few (is_last table (bucket_of id) place)
    (λ k inside is. elim (cases_eq k place) [
      | inl same ↦ absurd (other (ap (λ j. (entry_at table j).id) (sym same) ∙ is))
      | inr apart ↦ omega (arith, apart, (ahead.later k inside is).1)
    ]))

-- the place before one in its bucket is less, or none
pub earlier_less : (table : List ImageEntry) (last earlier : List ℕ) (place : ℕ) → AreChained table last earlier → place < length table →
    (get_or earlier place 0 < place) ⊎ (get_or earlier place 0 ≡ 65535)
earlier_less table last earlier place c lt = elim (is_last table (bucket_at table place) place) [
  | inl none ↦ inr (c.links place lt ∙ none.0)
  | inr some ↦ inl (omega (arith, c.links place lt, some.0))
]

-- ---- the search ends

-- places after the last count as none
abbrev pub left_of : (count place : ℕ) → ℕ
left_of count place = if nat_lt place count then place + 1 else 0

pub left_less : (count place next : ℕ) → place < count → count ≤ 4096 → (next < place) ⊎ (next ≡ 65535) → left_of count next < left_of count place
left_less count place next lt few (inl less) = grind (arith, nat_tests)
left_less count place next lt few (inr none) = grind (arith, nat_tests)

-- two names that differ
pub not_own : (a b : ImageId) → false ≡ ((a.apid == b.apid) && (a.image == b.image)) → a ≡ b → ⊥
not_own a b differ same =
    let apid : (a.apid == b.apid) ≡ true = eq-eqb a.apid b.apid (ap (λ (i : ImageId). i.apid) same) in
    let image : (a.image == b.image) ≡ true = eq-eqb a.image b.image (ap (λ (i : ImageId). i.image) same) in
    let both : ((a.apid == b.apid) && (a.image == b.image)) ≡ true = rw (apid, image) refl in
    false≢true (differ ∙ both)
