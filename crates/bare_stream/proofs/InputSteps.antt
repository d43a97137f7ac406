-- Octets that are taken from a port in pieces, and given one after another.
use Rattle.std.proofs.Common.{◌≡◌, ◌⊎◌, ◌≤◌, ◌<◌, ◌+◌, ◌-◌, ◌^◌, ℕ, inl, inr, List, [], ◌∷◌, ◌++◌, length, take, drop, refl, sym, ap, ◌∙◌, subst, arith}
use Rattle.std.proofs.Common.{append_assoc, length-append, nat_lt, Bool, true, false, if◌then◌else◌, Option, None, Some, Result, Ok, Err}
use Rattle.std.proofs.lemmas.Bool.Decides.{nat_tests}
use Rattle.std.proofs.lemmas.List.{append-nil, append_cancel_right, length-take, length-take-le, nil_from_length, take_all, drop-take, drop-drop}
use Rattle.std.proofs.lemmas.List.{take-append-drop}
use Rattle.std.proofs.Math.Seq.{take-append-add}
use Rattle.port_122.specs.Outside.{Outside, Exchange, IsUsedUp, Loses, ReadFailed, Rose}
use Rattle.port_122.proofs.Stretches.{since_start, since_weaker}
use Rattle.bit_pipe.specs.Sources.{Tail, Plainly, TooLong, Arrives, IsOver, EndsOctet}
use Rattle.bit_pipe.specs.declared.fault.InFault.{InFault}
use Rattle.bit_pipe.specs.declared.fault.InFault.TheVariants.{ReadFault, LongInput, Broken}
use Rattle.bit_pipe.specs.Sources.{GivesOctet, Consumes}
use Rattle.bare_stream.specs.declared.input.PortIn.{PortIn}
use Rattle.bare_stream.specs.Pieces.{ReadsPiece}
use Rattle.bare_stream.specs.InputLaws.{still_known}
use Rattle.bare_stream.specs.Inputs.{source_of, IsReady}
use Rattle.bare_stream.specs.Input.{Went, AsksWithin, AsksOnce, EndsFill, FillsPiece, GivesFirst, waiting, tail_of, tail_with}

-- ---- octets that wait are given

arrives_with : (o : Option (List ℕ)) (a b xs : List ℕ) (left : ℕ) → a ≡ xs ++ b → Arrives (tail_with o a left) (tail_with o b left) xs
arrives_with None a b xs left e = tt
arrives_with (Some rest) a b xs left e = (ap (λ l. l ++ take left rest) e ∙ append_assoc xs b (take left rest), refl)

module _ {X : Type 0} (outside : X → Outside) (s t : PortIn X) (xs : List ℕ) (port : t.port ≡ s.port) (left : t.left ≡ s.left)
    (failed : t.failed ≡ s.failed) (waits : waiting s ≡ xs ++ waiting t) where
  pub given_went : Went outside s t
  given_went = record {
    port = ap (λ p. p.ghost_name) port;
    took = [];
    gave = xs;
    flow = append-nil (waiting s) ∙ waits;
    left = omega (arith, left);
    since = subst (λ p. Exchange (outside s.port.now) (outside p.now) [] [] [] (AsksWithin outside s t [] xs)) (sym port)
        (since_start (outside s.port.now) (AsksWithin outside s t [] xs));
    stops = λ e. (refl, failed ∙ e);
    rises = λ e. inl (sym failed ∙ e);
  }

  pub given_arrives : Arrives (tail_of outside s) (tail_of outside t) xs
  given_arrives =
      subst (λ p. Arrives (tail_of outside s) (tail_with (outside p.now).rest (waiting t) t.left) xs) (sym port)
      (subst (λ n. Arrives (tail_of outside s) (tail_with (outside s.port.now).rest (waiting t) n) xs) (sym left)
      (arrives_with (outside s.port.now).rest (waiting s) (waiting t) xs s.left waits))

-- ---- a piece is read

later_less : (rest took left left' all : ℕ) → all ≡ took + rest → took + left' ≡ left → nat_lt all left ≡ nat_lt rest left'
later_less rest took left left' all e f = grind (arith, nat_tests)

filled_with : (o o' : Option (List ℕ)) (took : List ℕ) (left left' : ℕ) → Loses o o' took → length took + left' ≡ left →
    Arrives (tail_with o [] left) (tail_with o' took left') []
filled_with None None took left left' loses count = tt
filled_with None (Some rest') took left left' loses count = absurd loses
filled_with (Some rest) None took left left' loses count = absurd loses
filled_with (Some rest) (Some rest') took left left' loses count = (
  ap (λ l. take left l) loses ∙ ap (λ n. take n (took ++ rest')) (sym count) ∙ take-append-add took rest' left',
  ap (λ b. if b then Plainly else TooLong) (later_less (length rest') (length took) left left' (length rest) (ap length loses ∙ length-append took rest')
      count),
)

over_plainly : (o : Option (List ℕ)) (left : ℕ) → IsUsedUp o → 0 < left → IsOver (tail_with o [] left) Plainly
over_plainly None left e some = tt
over_plainly (Some rest) left e some =
    let size = ap length e in
    let low : length rest < left = omega (arith, size, some) in
    let test : nat_lt (length rest) left ≡ true = grind (arith, nat_tests) in
    (take_all left rest (omega (arith, low)) ∙ e, ap (λ b. if b then Plainly else TooLong) test)

over_long : (o : Option (List ℕ)) (left : ℕ) → left ≡ 0 → IsOver (tail_with o [] left) TooLong
over_long None left e = tt
over_long (Some rest) left e =
    (ap (λ n. take n rest) e, let test : nat_lt (length rest) left ≡ false = grind (arith, nat_tests) in ap (λ b. if b then Plainly else TooLong) test)

-- what follows is the same after a piece was read
pub filled_arrives : {X : Type 0} (outside : X → Outside) (s t : PortIn X) {r : Result Bool InFault} → waiting s ≡ [] → FillsPiece outside r s t →
    Arrives (tail_of outside s) (tail_of outside t) []
filled_arrives outside s t none fills =
    subst (λ l. Arrives (tail_with (outside s.port.now).rest l s.left) (tail_of outside t) []) (sym none)
    (filled_with (outside s.port.now).rest (outside t.port.now).rest (waiting t) s.left t.left fills.since.rest fills.left)

-- a read failed
pub failed_piece : {X : Type 0} (outside : X → Outside) (s t : PortIn X) → t.port.ghost_name ≡ s.port.ghost_name →
    ReadFailed (outside s.port.now) (outside t.port.now) → 0 < s.left → t.next ≡ 0 → t.end ≡ 0 → t.left ≡ s.left → t.failed ≡ true →
    FillsPiece outside (Err ReadFault) s t
failed_piece outside s t port fails some next end left failed =
    let none : waiting t ≡ [] = ap (λ e. take (e - t.next) (drop t.next t.piece)) end ∙ ap (λ n. take n (drop t.next t.piece)) (let e : 0 - t.next ≡ 0 =
    omega arith in e) in
    record {
      port = port;
      left = (let size = ap length none in omega (arith, size, left));
      since = subst (λ l. Exchange (outside s.port.now) (outside t.port.now) l [] [] (AsksOnce s.left)) (sym none)
          (since_weaker fails.since (λ i j le at. (at, some)));
      ends = (none, failed, inr fails.rose);
    }

-- some octets were read, or none at the end
pub some_piece : {X : Type 0} (outside : X → Outside) (s t : PortIn X) (n most : ℕ) → t.port.ghost_name ≡ s.port.ghost_name →
    ReadsPiece (outside s.port.now) (outside t.port.now) most t.piece n → n ≤ s.left → 0 < s.left → t.next ≡ 0 → t.end ≡ n →
    t.left ≡ s.left - n → s.failed ≡ false → t.failed ≡ s.failed → FillsPiece outside (Ok (nat_lt 0 n)) s t
some_piece outside s t n most port reads fits some next end left before failed =
    let waits : waiting t ≡ take n t.piece =
    ap (λ e. take (e - t.next) (drop t.next t.piece)) end ∙ ap (λ k. take (n - k) (drop k t.piece)) next ∙ ap (λ k. take k t.piece) (let e : n - 0 ≡ n =
    omega arith in e) in
    let long : length (waiting t) ≡ n = ap length waits ∙ length-take-le n t.piece (let within = t.within in omega (arith, within, end)) in
    record {
      port = port;
      left = omega (arith, long, left, fits);
      since = subst (λ l. Exchange (outside s.port.now) (outside t.port.now) l [] [] (AsksOnce s.left)) (sym waits)
          (since_weaker reads.since (λ i j le at. (at, some)));
      ends = by (nat_lt 0 n) refl long;
    }
  where
    by : (b : Bool) → nat_lt 0 n ≡ b → length (waiting t) ≡ n → EndsFill outside (Ok b) s t
    by true e long = (let lt : 0 < n = grind (arith, nat_tests) in omega (arith, lt, long), before, failed ∙ before)
    by false e long =
        let none : n ≡ 0 = grind (arith, nat_tests) in
        (nil_from_length (waiting t) (long ∙ none), reads.at_end none, some, before, failed ∙ before)

-- no fewer faults
pub faults_grow : (before now : Bool) → (before ≡ true → now ≡ true) → (if before then 2 ^ 64 else 0) ≤ (if now then 2 ^ 64 else 0)
faults_grow true true stays = omega arith
faults_grow true false stays = absurd (let e = stays refl in cc)
faults_grow false now stays = omega arith

-- ---- the octets that were given are those that arrived

module _ {X : Type 0} (outside : X → Outside) (s t : PortIn X) (went : Went outside s t) where
  came_with : (o o' : Option (List ℕ)) (octets : List ℕ) → Loses o o' went.took → (all : List ℕ) → o ≡ Some all →
      Arrives (tail_with o (waiting s) s.left) (tail_with o' (waiting t) t.left) octets → octets ≡ went.gave
  came_with o o' octets loses all if_known arrives = grind (arith, nat_tests, take-append-add, append_assoc, append_cancel_right)

  -- if the port reports what is left
  pub came_is : (octets all : List ℕ) → (outside s.port.now).rest ≡ Some all → Arrives (tail_of outside s) (tail_of outside t) octets → octets ≡ went.gave
  came_is octets all if_known arrives = came_with (outside s.port.now).rest (outside t.port.now).rest octets went.since.rest all if_known arrives

-- ---- no octet follows

abbrev no_octets : List ℕ
no_octets = []

used_up_is : (o : Option (List ℕ)) (rest : List ℕ) → o ≡ Some rest → IsUsedUp o → o ≡ Some []
used_up_is None rest e up = absurd cc
used_up_is (Some xs) rest e up = ap (λ l. Some l) up

not_true : (b : Bool) → b ≡ false → b ≡ true → ⊥
not_true b e f = cc

module _ {X : Type 0} (outside : X → Outside) (s t : PortIn X) (none : waiting s ≡ []) where
  -- nothing was taken
  module _ {r : Result Bool InFault} (fills : FillsPiece outside r s t) (nothing : waiting t ≡ []) (stays : s.failed ≡ true → t.failed ≡ true)
      (rises : t.failed ≡ true → (s.failed ≡ true) ⊎ Rose (outside s.port.now).read_faults (outside t.port.now).read_faults)
      (over : 0 < s.left → (t.failed ≡ true) ⊎ IsUsedUp (outside t.port.now).rest) where
    last_one : (i j : ℕ) → i ≤ length no_octets → AsksOnce s.left i j → AsksWithin outside s t [] [] i j
    last_one i j le asks = (
      asks.0.1,
      (let start = asks.0.0 in let some = asks.1 in omega (arith, start, some)),
      inr (λ input if_known.
          let here = still_known (outside s.port.now).rest (outside t.port.now).rest (waiting t) input fills.since.rest if_known in
          record {
            all = asks.0.0;
            over = elim (over asks.1)
                [ inl failed ↦ inl failed | inr end ↦ inr (used_up_is (outside t.port.now).rest here.0 here.1 end) ];
          }),
    )

    none_went : Went outside s t
    none_went = record {
      port = fills.port;
      took = [];
      gave = [];
      flow = append-nil (waiting s) ∙ none ∙ sym nothing;
      left = (let left = fills.left in let size = ap length nothing in omega (arith, left, size));
      since = since_weaker (subst (λ l. Exchange (outside s.port.now) (outside t.port.now) l [] [] (AsksOnce s.left)) nothing fills.since) last_one;
      stops = λ e. (refl, stays e);
      rises = rises;
    }

    none_given : (answer : Result (Option ℕ) InFault) → (Arrives (tail_of outside s) (tail_of outside t) [] → EndsOctet (source_of outside) answer s t) →
        GivesOctet (source_of outside) answer s t
    none_given answer ends = record {
      ends = ends (filled_arrives outside s t {r = r} none fills);
      faults = faults_grow s.failed t.failed stays;
      went = none_went;
    }

  pub end_given : FillsPiece outside (Ok false) s t → GivesOctet (source_of outside) (Ok None) s t
  end_given fills =
      let e = fills.ends in
      none_given {r = Ok false} fills e.0 (λ f. absurd (not_true s.failed e.3 f)) (λ f. absurd (not_true t.failed e.4 f)) (λ some. inr e.1) (Ok None)
      (λ came. (
        came,
        subst (λ l. IsOver (tail_with (outside t.port.now).rest l t.left) Plainly) (sym e.0)
            (over_plainly (outside t.port.now).rest t.left e.1 (let size = ap length e.0 in let left = fills.left in let some =
            e.2 in omega (arith, size, left, some))),
      ))

  pub long_given : FillsPiece outside (Err LongInput) s t → GivesOctet (source_of outside) (Err LongInput) s t
  long_given fills =
      let e = fills.ends in
      none_given {r = Err LongInput} fills e.0 (λ f. e.2 ∙ f) (λ f. inl (sym e.2 ∙ f)) (λ some. absurd (let left = e.1 in omega (arith, some, left)))
      (Err LongInput)
      (λ came. (
        came,
        subst (λ l. IsOver (tail_with (outside t.port.now).rest l t.left) TooLong) (sym e.0)
            (over_long (outside t.port.now).rest t.left (let size = ap length e.0 in let left = fills.left in let no = e.1 in omega (arith, size, left, no))),
      ))

  pub fault_given : FillsPiece outside (Err ReadFault) s t → GivesOctet (source_of outside) (Err ReadFault) s t
  fault_given fills =
      let e = fills.ends in
      none_given {r = Err ReadFault} fills e.0 (λ f. e.1) (λ f. e.2) (λ some. inl e.1) (Err ReadFault)
      (λ came. (came, risen s.failed t.failed e.1))
    where
      -- each call after a fault fails
      risen : (before now : Bool) → now ≡ true → Rose (if before then 2 ^ 64 else 0) (if now then 2 ^ 64 else 0)
      risen before true e = omega arith
      risen before false e = absurd cc

  pub filled_ready : (r : Result Bool InFault) → FillsPiece outside r s t → IsReady outside r s t
  filled_ready (Ok true) fills = inr (none, fills)
  filled_ready (Ok false) fills = end_given fills
  filled_ready (Err ReadFault) fills = fault_given fills
  filled_ready (Err LongInput) fills = long_given fills
  filled_ready (Err Broken) fills = absurd fills.ends

  some_wait : (t : PortIn X) → 0 < length (waiting t) → t.next < t.end
  some_wait t lt = let size = length-take (t.end - t.next) (drop t.next t.piece) in omega (arith, lt, size)

  pub filled_waits : (r : Result Bool InFault) → r ≡ Ok true → FillsPiece outside r s t → t.next < t.end
  filled_waits r e fills = (let f = subst (λ a. FillsPiece outside a s t) e fills in some_wait t f.ends.0)

pub none_waits : {X : Type 0} (s : PortIn X) → s.end ≤ s.next → waiting s ≡ []
none_waits s le = let none : s.end - s.next ≡ 0 = omega (arith, le) in ap (λ n. take n (drop s.next s.piece)) none

arrives_then : (a b c : Option Tail) (xs : List ℕ) → Arrives a b [] → Arrives b c xs → Arrives a c xs
arrives_then None None None xs p q = tt
arrives_then None None (Some c) xs p q = absurd q
arrives_then None (Some b) c xs p q = absurd p
arrives_then (Some a) None c xs p q = absurd p
arrives_then (Some a) (Some b) None xs p q = absurd q
arrives_then (Some a) (Some b) (Some c) xs p q = (p.0 ∙ q.0, p.1 ∙ q.1)

-- ---- an octet

module _ {X : Type 0} (outside : X → Outside) (s t u : PortIn X) (octet : ℕ) (small : octet < 256) (gives : GivesFirst octet t u) where
  given_one : Went outside t u
  given_one = given_went outside t u (octet ∷ []) gives.port gives.left gives.failed gives.waits

  came_one : Arrives (tail_of outside t) (tail_of outside u) (octet ∷ [])
  came_one = given_arrives outside t u (octet ∷ []) gives.port gives.left gives.failed gives.waits

  -- it waited
  from_waiting : t ≡ s → GivesOctet (source_of outside) (Ok (Some octet)) s u
  from_waiting e = subst (λ z. GivesOctet (source_of outside) (Ok (Some octet)) z u) e record {
    ends = (came_one, small);
    faults = faults_grow t.failed u.failed (λ f. gives.failed ∙ f);
    went = given_one;
  }

  -- it is the first of a piece
  module _ (none : waiting s ≡ []) (fills : FillsPiece outside (Ok true) s t) where
    not_failed : u.failed ≡ false
    not_failed = gives.failed ∙ fills.ends.2

    piece_asks : (i j : ℕ) → i ≤ length (waiting t) → AsksOnce s.left i j → AsksWithin outside s u (waiting t) (octet ∷ []) i j
    piece_asks i j le asks = (
      asks.0.1,
      (let start = asks.0.0 in let some = asks.1 in omega (arith, start, some)),
      inl (let start = asks.0.0 in let size = ap length none in omega (arith, start, size)),
    )

    piece_went : Went outside s u
    piece_went = record {
      port = ap (λ p. p.ghost_name) gives.port ∙ fills.port;
      took = waiting t;
      gave = octet ∷ [];
      flow = ap (λ l. l ++ waiting t) none ∙ gives.waits;
      left = (let left = fills.left in let same = gives.left in omega (arith, left, same));
      since = subst (λ p. Exchange (outside s.port.now) (outside p.now) (waiting t) [] [] (AsksWithin outside s u (waiting t) (octet ∷ [])))
          (sym gives.port) (since_weaker fills.since piece_asks);
      stops = λ f. absurd (not_true s.failed fills.ends.1 f);
      rises = λ f. absurd (not_true u.failed not_failed f);
    }

    from_piece : GivesOctet (source_of outside) (Ok (Some octet)) s u
    from_piece = record {
      ends = (
        arrives_then (tail_of outside s) (tail_of outside t) (tail_of outside u) (octet ∷ []) (filled_arrives outside s t {r = Ok true} none fills)
            came_one,
        small,
      );
      faults = faults_grow s.failed u.failed (λ f. absurd (not_true s.failed fills.ends.1 f));
      went = piece_went;
    }

  pub octet_given : IsReady outside (Ok true) s t → GivesOctet (source_of outside) (Ok (Some octet)) s u
  octet_given ready = elim ready [
    | inl same ↦ from_waiting same.0
    | inr piece ↦ from_piece piece.0 piece.1
  ]

-- octets that wait are given at once
drop_more : (a b : ℕ) (xs : List ℕ) → drop a (drop b xs) ≡ drop (b + a) xs
drop_more a b xs = drop-drop a b xs ∙ ap (λ n. drop n xs) (omega arith)

waits_past : (count next end : ℕ) (piece : List ℕ) → count ≤ length (take (end - next) (drop next piece)) → take (end - next) (drop next piece)
    ≡ take count (take (end - next) (drop next piece)) ++ take (end - (next + count)) (drop (next + count) piece)
waits_past count next end piece le =
    let all = take (end - next) (drop next piece) in
    let size = length-take (end - next) (drop next piece) in
    let parts : end - next ≡ count + (end - (next + count)) = omega (arith, le, size) in
    sym (take-append-drop count all) ∙ ap (λ l. take count all ++ l)
    (ap (λ n. drop count (take n (drop next piece))) parts ∙ drop-take count (end - (next + count)) (drop next piece) ∙ ap (take (end - (next + count)))
    (drop_more count next piece))

pub consumed : {X : Type 0} (outside : X → Outside) (s t : PortIn X) (count : ℕ) → count ≤ length (waiting s) → t.port ≡ s.port → t.left ≡ s.left →
    t.failed ≡ s.failed → t.piece ≡ s.piece → t.next ≡ s.next + count → t.end ≡ s.end → Consumes (source_of outside) count s t
consumed outside s t count le port left failed piece next end =
    let waits : waiting s ≡ take count (waiting s) ++ waiting t =
    waits_past count s.next s.end s.piece le
    ∙ ap (λ l. take count (waiting s) ++ l) (ap (λ e. take (e - (s.next + count)) (drop (s.next + count) s.piece)) (sym end) ∙
    ap (λ n. take (t.end - n) (drop n s.piece)) (sym next) ∙ ap (λ p. take (t.end - t.next) (drop t.next p)) (sym piece)) in
    record {
      came = given_arrives outside s t (take count (waiting s)) port left failed waits;
      faults = faults_grow s.failed t.failed (λ f. failed ∙ f);
      went = given_went outside s t (take count (waiting s)) port left failed waits;
    }
