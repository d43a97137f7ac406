-- Stretches in which packets were passed, one after another. These laws are here since the meaning of a text needs them.
use Rattle.std.proofs.Common.{◌≡◌, ℕ, false, List, [], ◌∷◌, ◌++◌, take, refl, sym, ap, subst, ◌∙◌, arith, append_assoc, add-zero, length-append}
use Rattle.std.specs.List.{AllByRecursion}
use Rattle.std.proofs.lemmas.List.{append-nil, take-append-le}
use Rattle.std.proofs.Math.Seq.{take-append-add}
use Rattle.port_122.specs.Outside.{Outside, Exchange, Loses}
use Rattle.port_122.proofs.Stretches.{since_start, since_then, since_weaker, each_of_both}
use Rattle.packet_defs.specs.Packets.{joined}
use Rattle.packet_defs.specs.Streams.{IsPacket, Splits, has_bad_version, whole_packets, left_over}
use Rattle.packet_defs.proofs.Joins.{joined-append}
use Rattle.packet_defs.proofs.Splits.{whole_splits, splits_whole, splits_left}
use Rattle.stream_defs.specs.declared.fate.FateState.{FateState}
use Rattle.stream_defs.specs.Fates.{after, after_all}
use Rattle.stream_defs.proofs.ChosenLaws.{after_all-append}
use Rattle.std.specs.Prelude.{Option, None, Some}
use Rattle.packet_assembly.specs.declared.note.SegmentStart.{SegmentStart}
use Rattle.packet_assembly.specs.Assembling.{Assembling, state_with, AsksAt, AsksReadableFrom, Passes, BeginsNone, Starts}
use Rattle.packet_assembly.specs.Arriving.{arriving, sees_end}
use Rattle.packet_assembly.specs.Segments.{Continues, BeganAt}

-- packets before octets
both_split : (packets : List (List ℕ)) (rest : List ℕ) → AllByRecursion IsPacket packets → Splits (joined packets ++ rest) (packets ++ whole_packets rest)
    (left_over rest)
both_split packets rest are =
    let s = whole_splits rest in
    record {
      octets_are = ap (λ zs. joined packets ++ zs) s.octets_are ∙ sym (append_assoc (joined packets) (joined (whole_packets rest)) (left_over rest))
          ∙ ap (λ zs. zs ++ left_over rest) (sym (joined-append packets (whole_packets rest)));
      packets_are = each_of_both IsPacket packets (whole_packets rest) are s.packets_are;
      none_left = s.none_left;
    }

pub whole_after : (packets : List (List ℕ)) (rest : List ℕ) → AllByRecursion IsPacket packets → whole_packets (joined packets ++ rest) ≡ packets
    ++ whole_packets rest
whole_after packets rest are = splits_whole (both_split packets rest are)

pub left_after : (packets : List (List ℕ)) (rest : List ℕ) → AllByRecursion IsPacket packets → left_over (joined packets ++ rest) ≡ left_over rest
left_after packets rest are = splits_left (both_split packets rest are)

-- the octets that waited, those of a stretch, and more
octets_on : {P : FateState → Type 0} {old new : Outside} {a b : Assembling} {passed : List (List ℕ)} → (p : Passes P old new a b passed) → (more : List ℕ) →
    a.intake.pending ++ (p.took ++ more) ≡ joined passed ++ (b.intake.pending ++ more)
octets_on {a = a} {b = b} {passed = passed} p more =
    sym (append_assoc a.intake.pending p.took more) ∙ ap (λ zs. zs ++ more) p.octets_are ∙ append_assoc (joined passed) b.intake.pending more

-- the state after a stretch and then more octets
pub state_on : {P : FateState → Type 0} {old new : Outside} {a b : Assembling} {passed : List (List ℕ)} → (p : Passes P old new a b passed) → (more : List ℕ) →
    state_with a (p.took ++ more) ≡ state_with b more
state_on {a = a} {b = b} {passed = passed} p more =
    let later = whole_packets (b.intake.pending ++ more) in
    ap (λ zs. after_all a.apid a.state (whole_packets zs)) (octets_on p more)
    ∙ ap (after_all a.apid a.state) (whole_after passed (b.intake.pending ++ more) p.packets_are)
    ∙ after_all-append a.apid a.state passed later
    ∙ ap (λ s. after_all a.apid s later) (sym p.state)
    ∙ ap (λ n. after_all n b.state later) (sym p.apid)

-- what is left over after a stretch and then more octets
left_on : {P : FateState → Type 0} {old new : Outside} {a b : Assembling} {passed : List (List ℕ)} → (p : Passes P old new a b passed) → (more : List ℕ) →
    left_over (a.intake.pending ++ (p.took ++ more)) ≡ left_over (b.intake.pending ++ more)
left_on {b = b} {passed = passed} p more = ap left_over (octets_on p more) ∙ left_after passed (b.intake.pending ++ more) p.packets_are

pub passes_none : {P : FateState → Type 0} (p : Outside) (a : Assembling) → Passes P p p a a []
passes_none p a = record {
  took = [];
  since = since_start p _;
  readable = since_start p _;
  octets_are = append-nil a.intake.pending;
  packets_are = tt;
  apid = refl;
  cap = refl;
  taken = sym (add-zero a.intake.taken);
  state = refl;
  count = sym (add-zero a.packets);
  capped = λ le. le;
  arrives = λ rest if_known. refl;
  sees = λ rest if_known. refl;
}

-- what was left before octets were taken
pub before_loses : (o n : Option (List ℕ)) (took rest : List ℕ) → Loses o n took → n ≡ Some rest → o ≡ Some (took ++ rest)
before_loses None None took rest loses if_known = absurd cc
before_loses (Some before) (Some now) took rest loses if_known = let same : now ≡ rest = cc in ap Some (loses ∙ ap (λ zs. took ++ zs) same)
before_loses None (Some now) took rest loses if_known = absurd loses
before_loses (Some before) None took rest loses if_known = absurd loses

pub passes_then : {P Q : FateState → Type 0} {old mid new : Outside} {a b c : Assembling} {xs ys : List (List ℕ)} → ((s : FateState) → Q s → P s) →
    Passes P old mid a b xs → Passes Q mid new b c ys → Passes P old new a c (xs ++ ys)
passes_then {P = P} {Q = Q} {old = old} {mid = mid} {new = new} {a = a} {b = b} {c = c} {xs = xs} {ys = ys} f p q =
    let took = p.took ++ q.took in
    let first : Exchange old mid p.took [] [] (AsksAt P a took) =
    since_weaker p.since (λ i j le r. (subst (λ zs. P (state_with a zs)) (sym (take-append-le i p.took q.took le)) r.0, r.1)) in
    let here = λ (i : ℕ). ap (state_with a) (take-append-add p.took q.took i) ∙ state_on p (take i q.took) in
    let left = λ (i : ℕ). ap (λ zs. left_over (a.intake.pending ++ zs)) (take-append-add p.took q.took i) ∙ left_on p (take i q.took) in
    let first_readable : Exchange old mid p.took [] [] (AsksReadableFrom a took) =
    since_weaker p.readable (λ i j le r. (
      subst (λ zs. has_bad_version (left_over (a.intake.pending ++ zs)) ≡ false)
          (sym (take-append-le i p.took q.took le)) r.0,
      r.1,
    )) in
    record {
      took = took;
      since = since_then first q.since (λ i j le r. (subst P (sym (here i)) (f _ r.0), omega (arith, r.1)));
      readable = since_then first_readable q.readable
          (λ i j le r. (subst (λ zs. has_bad_version zs ≡ false) (sym (left i)) r.0, omega (arith, r.1, p.cap, p.taken)));
      octets_are = sym (append_assoc a.intake.pending p.took q.took) ∙ ap (λ zs. zs ++ q.took) p.octets_are ∙ append_assoc (joined xs) b.intake.pending q.took
          ∙ ap (λ zs. joined xs ++ zs) q.octets_are ∙ sym (append_assoc (joined xs) (joined ys) c.intake.pending) ∙ ap (λ zs. zs ++ c.intake.pending)
          (sym (joined-append xs ys));
      packets_are = each_of_both IsPacket xs ys p.packets_are q.packets_are;
      apid = q.apid ∙ p.apid;
      cap = q.cap ∙ p.cap;
      taken = omega (arith, q.taken, p.taken, length-append p.took q.took);
      state = q.state ∙ ap (λ n. after_all n b.state ys) p.apid ∙ ap (λ s. after_all a.apid s ys) p.state ∙ sym (after_all-append a.apid a.state xs ys);
      count = omega (arith, q.count, p.count, length-append xs ys);
      capped = λ le. q.capped (p.capped le);
      arrives = λ rest if_known.
          let there = before_loses mid.rest new.rest q.took rest q.since.rest if_known in
          ap (arriving a.intake) (append_assoc p.took q.took rest) ∙ p.arrives (q.took ++ rest) there ∙ ap (λ zs. joined xs ++ zs) (q.arrives rest if_known)
          ∙ sym (append_assoc (joined xs) (joined ys) (arriving c.intake rest)) ∙ ap (λ zs. zs ++ arriving c.intake rest) (sym (joined-append xs ys));
      sees = λ rest if_known.
          let there = before_loses mid.rest new.rest q.took rest q.since.rest if_known in
          ap (sees_end a.intake) (append_assoc p.took q.took rest) ∙ p.sees (q.took ++ rest) there ∙ q.sees rest if_known;
    }

-- ---- within a text

-- packets that begin no segment, one part after another
begins_both : (apid : ℕ) (s : FateState) (xs ys : List (List ℕ)) → BeginsNone apid s xs → BeginsNone apid (after_all apid s xs) ys →
    BeginsNone apid s (xs ++ ys)
begins_both apid s [] ys p q = q
begins_both apid s (x ∷ xs) ys p q = (p.0, begins_both apid (after apid s x) xs ys p.1 q)

pub goes_nowhere : (p : Outside) (a : Assembling) → Continues p p a a
goes_nowhere p a = record {
  passed = [];
  passes = passes_none p a;
  still = λ e. (e, refl);
  begins_none = λ e. tt;
  began = λ e start h. absurd (let no : None ≡ Some start = sym e ∙ h in cc);
  held_on = λ start h. (refl, h, refl);
}

module _ {old mid new : Outside} {a b c : Assembling} (p : Continues old mid a b) (q : Continues mid new b c) where
  -- the packets of both stretches, from the start of the first
  none_both : c.held ≡ None → BeginsNone a.apid a.state (p.passed ++ q.passed)
  none_both e =
      let unheld = (q.still e).0 in
      let later : BeginsNone a.apid (after_all a.apid a.state p.passed) q.passed =
      subst (λ s. BeginsNone a.apid s q.passed) p.passes.state (subst (λ n. BeginsNone n b.state q.passed) p.passes.apid (q.begins_none e)) in
      begins_both a.apid a.state p.passed q.passed (p.begins_none unheld) later

  -- a segment that was begun in the second stretch
  began_later : (start : SegmentStart) → b.held ≡ None → BeganAt b q.passed start c.text → BeganAt a (p.passed ++ q.passed) start c.text
  began_later start unheld x =
      let state : b.state ≡ after_all a.apid a.state p.passed = p.passes.state in
      let none : BeginsNone a.apid (after_all a.apid a.state p.passed) x.prefix =
      subst (λ s. BeginsNone a.apid s x.prefix) state (subst (λ n. BeginsNone n b.state x.prefix) p.passes.apid x.none_before) in
      let there : after_all b.apid b.state x.prefix ≡ after_all a.apid a.state (p.passed ++ x.prefix) =
      ap (λ n. after_all n b.state x.prefix) p.passes.apid ∙ ap (λ s. after_all a.apid s x.prefix) state
      ∙ sym (after_all-append a.apid a.state p.passed x.prefix) in
      let starts : Starts a.apid (after_all a.apid a.state (p.passed ++ x.prefix)) x.packet start =
      subst (λ s. Starts a.apid s x.packet start) there (subst (λ n. Starts n (after_all b.apid b.state x.prefix) x.packet start) p.passes.apid x.starts) in
      record {
        prefix = p.passed ++ x.prefix;
        packet = x.packet;
        passed_are = ap (λ zs. p.passed ++ zs) x.passed_are ∙ sym (append_assoc p.passed x.prefix (x.packet ∷ []));
        none_before = begins_both a.apid a.state p.passed x.prefix (p.begins_none unheld) none;
        starts = starts;
        text_is = x.text_is;
      }

  -- a segment that was begun in the first one
  began_before : (start : SegmentStart) → b.held ≡ Some start → BeganAt a p.passed start b.text → BeganAt a (p.passed ++ q.passed) start c.text
  began_before start held x =
      let on = q.held_on start held in
      record {
        prefix = x.prefix;
        packet = x.packet;
        passed_are = ap (λ zs. p.passed ++ zs) on.0 ∙ append-nil p.passed ∙ x.passed_are;
        none_before = x.none_before;
        starts = x.starts;
        text_is = on.2 ∙ x.text_is;
      }

  began_both : a.held ≡ None → (start : SegmentStart) → c.held ≡ Some start → BeganAt a (p.passed ++ q.passed) start c.text
  began_both unheld start held = by b.held refl
    where
      by : (o : Option SegmentStart) → b.held ≡ o → BeganAt a (p.passed ++ q.passed) start c.text
      by None e = began_later start e (q.began e start held)
      by (Some before) e =
          let on = q.held_on before e in
          let same : Some before ≡ Some start = sym on.1 ∙ held in
          let here : b.held ≡ Some start = e ∙ same in
          began_before start here (p.began unheld start here)

  held_both : (start : SegmentStart) → a.held ≡ Some start → (p.passed ++ q.passed ≡ []) × (c.held ≡ Some start) × (c.text ≡ a.text)
  held_both start held =
      let x = p.held_on start held in
      let y = q.held_on start x.1 in
      (ap (λ zs. zs ++ q.passed) x.0 ∙ y.0, y.1, y.2 ∙ x.2)

  pub goes_both : Continues old new a c
  goes_both = record {
    passed = p.passed ++ q.passed;
    passes = passes_then (λ s open_there. let x = p.still open_there.unheld in record {
      unheld = x.0;
      unclosed = open_there.unclosed;
      same =
          open_there.same ∙ x.1;
    }) p.passes q.passes;
    still = λ e. let y = q.still e in let x = p.still y.0 in (x.0, y.1 ∙ x.1);
    begins_none = none_both;
    began = began_both;
    held_on = held_both;
  }
