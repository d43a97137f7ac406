-- Octets of the next segment are read.
use Rattle.std.proofs.Common.{◌≡◌, ◌≤◌, ◌+◌, ℕ, inl, inr, true, Bool, List, [], ◌++◌, length, take, refl, sym, ap, subst, ◌∙◌, arith}
use Rattle.std.proofs.Common.{append_assoc, length-append, Option}
use Rattle.std.specs.List.{concat}
use Rattle.std.proofs.lemmas.List.{append-nil, take-append-le}
use Rattle.port_122.specs.Outside.{Outside, Loses}
use Rattle.port_122.proofs.Stretches.{since_weaker, rose_since}
use Rattle.port_122.proofs.ReadCalls.{since_in}
use Rattle.base_122.specs.declared.wish.DecodeWish.{DecodeWish}
use Rattle.bit_pipe.specs.Sources.{Arrives}
use Rattle.bare_stream.specs.declared.input.PortIn.{PortIn}
use Rattle.bare_stream.specs.Input.{Went, AsksWithin, waiting, tail_of}
use Rattle.bare_stream.specs.InputLaws.{still_known, still_last}
use Rattle.bare_stream.specs.Decoded.{IfKnown, IsOpen, TakesNone}
use Rattle.bare_stream.specs.Reads.{SegmentsRead, HasRead, AskedBefore, AskedNow, AsksIn, size_of}
use Rattle.bare_stream.proofs.InputSteps.{came_is}

-- what is known of a call before stays so, if more octets are taken
pub before_longer : (wish : DecodeWish) (took more gave : List ℕ) (failed now : Bool) (left later : Option (List ℕ)) (i j : ℕ) → i ≤ length took →
    (failed ≡ true → (more ≡ []) × (now ≡ true)) → Loses left later more →
    AskedBefore wish took gave failed left i j → AskedBefore wish (took ++ more) gave now later i j
before_longer wish took more gave failed now left later i j le stops loses (inl opened) =
    inl (subst (λ l. IsOpen wish l (take j gave)) (sym (take-append-le i took more le)) opened)
before_longer wish took more gave failed now left later i j le stops loses (inr (last, none)) =
    let l = still_last took more failed now left later i stops loses last in
    inr (l.1, subst (λ t. TakesNone wish t gave i j) (sym (ap (λ m. took ++ m) l.0 ∙ append-nil took)) none)

module _ {X : Type 0} (outside : X → Outside) (wish : DecodeWish) (start : Outside) (r : SegmentsRead) (part : List ℕ) (s t : PortIn X)
    (read : HasRead outside wish start r part s) (went : Went outside s t) where
  abbrev before : List ℕ
  before = read.took

  abbrev after : List ℕ
  after = read.took ++ went.took

  sizes : length before ≡ size_of r + (length part + length (waiting s))
  sizes = (let a = ap length read.octets ∙ length-append (concat r.texts) (part ++ waiting s) in let b = length-append part (waiting s) in omega (arith, a, b))

  now_longer : (i j : ℕ) → AskedNow r part before read.gave s.failed (outside s.port.now).rest i j →
      AskedNow r (part ++ went.gave) after read.gave t.failed (outside t.port.now).rest i j
  now_longer i j asked = (
    asked.0,
    asked.1,
    elim asked.2 [
      | inl lt ↦ inl (omega (arith, lt, length-append part went.gave))
      | inr last ↦ inr (still_last before went.took s.failed t.failed (outside s.port.now).rest (outside t.port.now).rest i went.stops went.since.rest last).1
    ],
  )

  asks_old : (i j : ℕ) → i ≤ length before → AsksIn wish start r part before read.gave s.failed (outside s.port.now).rest i j →
      AsksIn wish start r (part ++ went.gave) after read.gave t.failed (outside t.port.now).rest i j
  asks_old i j le asks = (
    asks.0,
    asks.1,
    λ input if_known. elim (asks.2 input if_known) [
      | inl past ↦ inl (before_longer wish before went.took read.gave s.failed t.failed (outside s.port.now).rest (outside t.port.now).rest i j le
          went.stops went.since.rest past)
      | inr now ↦ inr (now_longer i j now)
    ],
  )

  asks_new : (i j : ℕ) → i ≤ length went.took → AsksWithin outside s t went.took went.gave i j →
      AsksIn wish start r (part ++ went.gave) after read.gave t.failed (outside t.port.now).rest (length before + i) (length read.gave + j)
  asks_new i j le asks = (
    (let room = asks.1 in let left = read.left in omega (arith, room, left)),
    (let none = asks.0 in omega (arith, none)),
    λ input if_known. inr (
      (let none = asks.0 in omega (arith, none)),
      omega (arith, sizes),
      elim asks.2 [
        | inl lt ↦ inl (omega (arith, lt, sizes, length-append part went.gave))
        | inr last ↦
            let here = still_known start.rest (outside s.port.now).rest before input read.since.rest if_known in
            let l = last here.0 here.1 in
            inr (record { all = ap (λ n. length before + n) l.all ∙ sym (length-append before went.took); over = l.over })
      ],
    ),
  )

  pub read_on : HasRead outside wish start r (part ++ went.gave) t
  read_on = record {
    some = read.some;
    same = read.same;
    took = after;
    gave = read.gave;
    since = since_in (since_weaker read.since asks_old) went.since asks_new;
    gave_is = read.gave_is;
    octets =
        ap (λ l. l ++ went.took) read.octets ∙ append_assoc (concat r.texts) (part ++ waiting s) went.took
        ∙ ap (λ l. concat r.texts ++ l) (append_assoc part (waiting s) went.took ∙ ap (λ l. part ++ l) went.flow ∙
        sym (append_assoc part went.gave (waiting t)));
    left = (let size = length-append read.took went.took in omega (arith, size, read.left, went.left));
    rises = λ failed. elim (went.rises failed) [
      | inl old ↦ (let rose = read.rises old in let less = went.since.faults.reads in omega (arith, rose, less))
      | inr rose ↦ rose_since read.since.faults.reads rose
    ];
  }

  pub read_on-gave : read_on.gave ≡ read.gave
  unfolding read_on
  read_on-gave = refl

  -- what was given is what was read, if the port reports what is left
  pub gave_known : (octets : List ℕ) → Arrives (tail_of outside s) (tail_of outside t) octets → IfKnown start (λ input. octets ≡ went.gave)
  gave_known octets arrives input if_known =
      let here = still_known start.rest (outside s.port.now).rest read.took input read.since.rest if_known in
      came_is outside s t went octets here.0 here.1 arrives
