-- The segments that a sub-list of an image's packets carries.
use Rattle.std.proofs.Common.{◌≡◌, inl, inr, ◌≤◌, ◌<◌, ◌+◌, ◌*◌, ℕ, zero, suc, ℤ, List, [], ◌∷◌, ◌++◌, take, map, refl, sym, ap, subst, ◌∙◌, arith, Bool}
use Rattle.std.proofs.Common.{true, false, ◌==◌, if◌then◌else◌, slice_index_or, Ok, take-add}
use Rattle.std.specs.List.{range_with_len, flat_map, filter}
use Rattle.std.proofs.lemmas.Grind.{flat_map-append}
use Rattle.std.proofs.lemmas.List.{append-nil, length-map, map-append, take_all}
use Rattle.std.proofs.lemmas.List.Elements.{filter-append}
use Rattle.std.proofs.lemmas.List.FromFn.{length-range_with_len}
use Rattle.std.proofs.Math.Nat.{lt-div-mul-add, add-mul-div_right}
use Rattle.std.proofs.lemmas.Bool.{cases_lt, eq-eqb, ne_eqb, eqb-true}
use Rattle.std.proofs.lemmas.Bool.Decides.{nat_tests}
use Rattle.base_122.specs.declared.setting.Setting.{Setting}
use Rattle.segment_defs.specs.Reading.{head_read}
use Rattle.packet_defs.specs.Packets.{part_size}
use Rattle.packet_defs.specs.Reading.{flags_in, text_in}
use Rattle.stream_defs.specs.Output.{head_for, segment_text, segments_of}
use Rattle.stream_defs.specs.Fates.{closes, fresh, kept}
use Rattle.stream_defs.specs.Received.{Acceptance, index_in, number_of_part, packets_at, IsComplete, text_of_parts, IsReceived}
use Rattle.stream_defs.specs.Places.{parts_of, packet_at, AreCoded}
use Rattle.stream_defs.specs.Chosen.{IsRising, IsChoice, chosen, run, all_parts}
use Rattle.stream_defs.proofs.Outputs.{range_with_len-more}
use Rattle.stream_defs.proofs.OutPackets.{part_reads, part_closes}
use Rattle.stream_defs.proofs.ChosenLaws.{chosen_more, chosen_kept}
use Rattle.stream_defs.proofs.Runs.{range_rises, run-range, run_rises, run_whole}

-- nothing either way
none_either : (b : Bool) → ◌≡◌ {A = List (List ℕ)} [] (if b then [] else [])
none_either b = grind (arith, nat_tests)

-- the last of a list that ends so
last_of : List (List ℕ) → List ℕ
last_of [] = []
last_of (z ∷ []) = z
last_of (z ∷ w ∷ zs) = last_of (w ∷ zs)

ends : (zs : List (List ℕ)) (z : List ℕ) → last_of (zs ++ z ∷ []) ≡ z
unfolding last_of
ends [] z = refl
ends (w ∷ []) z = refl
ends (w ∷ v ∷ zs) z = ends (v ∷ zs) z

last_is : (prefix back : List (List ℕ)) (x y : List ℕ) → prefix ++ x ∷ [] ≡ back ++ y ∷ [] → x ≡ y
last_is prefix back x y e = sym (ends prefix x) ∙ ap last_of e ∙ ends back y

module _ (reported_last : Bool) (s : Setting) (all : List (List ℤ)) (coded : AreCoded s all) where
  -- ---- one segment's packets

  own_index : (index part : ℕ) → index < segments_of s → part < parts_of s all index → index_in (packet_at reported_last s all index part) ≡ index
  own_index index part lt few = ap (λ a. a.index) (part_reads reported_last s all coded index part lt few).ancillary_is

  own_part : (index part : ℕ) → index < segments_of s → part < parts_of s all index → number_of_part (packet_at reported_last s all index part) ≡ part
  own_part index part lt few = ap (λ a. a.part) (part_reads reported_last s all coded index part lt few).ancillary_is

  picks : (at index least : ℕ) (ks : List ℕ) → index < segments_of s → IsRising least (parts_of s all index) ks →
      filter (λ packet. index_in packet == at) (map (packet_at reported_last s all index) ks)
      ≡ (if index == at then map (packet_at reported_last s all index) ks else [])
  picks at index least [] lt rising = none_either (index == at)
  picks at index least (k ∷ ks) lt rising = by_test (index == at) refl (picks at index (k + 1) ks lt rising.2)
    where
      same : (index_in (packet_at reported_last s all index k) == at) ≡ (index == at)
      same = ap (λ n. n == at) (own_index index k lt rising.1)

      by_test : (b : Bool) → (index == at) ≡ b → filter (λ packet. index_in packet == at) (map (packet_at reported_last s all index) ks)
          ≡ (if index == at then map (packet_at reported_last s all index) ks else []) →
          filter (λ packet. index_in packet == at) (packet_at reported_last s all index k ∷ map (packet_at reported_last s all index) ks)
          ≡ (if index == at then packet_at reported_last s all index k ∷ map (packet_at reported_last s all index) ks else [])
      by_test true e rest = let t : (index_in (packet_at reported_last s all index k) == at) ≡ true =
          same ∙ e in rw (t, e) (ap (λ zs. packet_at reported_last s all index k ∷ zs)
          (rest ∙ ap (λ b. if b then map (packet_at reported_last s all index) ks else []) e))
      by_test false e rest = let t : (index_in (packet_at reported_last s all index k) == at) ≡ false =
          same ∙ e in rw (t, e) (rest ∙ ap (λ b. if b then map (packet_at reported_last s all index) ks else []) e)

  numbers : (index least : ℕ) (ks : List ℕ) → index < segments_of s → IsRising least (parts_of s all index) ks →
      map number_of_part (map (packet_at reported_last s all index) ks) ≡ ks
  numbers index least [] lt rising = refl
  numbers index least (k ∷ ks) lt rising = ap (λ m. m ∷ map number_of_part (map (packet_at reported_last s all index) ks)) (own_part index k lt rising.1)
      ∙ ap (λ zs. k ∷ zs) (numbers index (k + 1) ks lt rising.2)

  -- ---- all parts of a segment

  some_parts : (index : ℕ) → index < segments_of s → 1 ≤ parts_of s all index
  some_parts index lt = grind (arith, nat_tests, add-mul-div_right)

  range_last : (n : ℕ) → range_with_len 0 (suc n) ≡ range_with_len 0 n ++ n ∷ []
  range_last n = grind (arith, nat_tests, range_with_len-more)

  last_packet : (index n : ℕ) → map (packet_at reported_last s all index) (range_with_len 0 (suc n)) ≡ map (packet_at reported_last s all index)
      (range_with_len 0 n) ++ packet_at reported_last s all index n ∷ []
  last_packet index n = ap (map (packet_at reported_last s all index)) (range_last n) ∙ map-append (packet_at reported_last s all index)
      (range_with_len 0 n) (n ∷ [])

  pub all_rise : (index : ℕ) → IsRising 0 (parts_of s all index) (all_parts s all index)
  all_rise index = let e : 0 + parts_of s all index ≡ parts_of s all index =
      omega arith in subst (λ m. IsRising 0 m (all_parts s all index)) e (range_rises 0 (parts_of s all index))

  rising_last : (least below k : ℕ) (ks : List ℕ) → IsRising least below (ks ++ k ∷ []) → k < below
  rising_last least below k [] rising = rising.1
  rising_last least below k (j ∷ ks) rising = rising_last (j + 1) below k ks rising.2

  complete_by : (index n : ℕ) → index < segments_of s → parts_of s all index ≡ n → 1 ≤ n →
      IsComplete (map (packet_at reported_last s all index) (range_with_len 0 n))
  complete_by index zero lt e some = absurd (omega (arith, some))
  complete_by index (suc n) lt e some =
      record {
        prefix = map (packet_at reported_last s all index) (range_with_len 0 n);
        closing = packet_at reported_last s all index n;
        parts_are = last_packet index n;
        numbers = numbers index 0 (range_with_len 0 (suc n)) lt (subst (λ m. IsRising 0 (parts_of s all index) (range_with_len 0 m)) e (all_rise index))
            ∙ ap (range_with_len 0) (sym (length-map (range_with_len 0 (suc n)) (packet_at reported_last s all index) ∙ length-range_with_len 0 (suc n)));
        closed = part_closes reported_last s all coded index n lt (omega (arith, e)) ∙ eq-eqb (n + 1) (parts_of s all index) (omega (arith, e));
      }

  complete_only_by : (index n : ℕ) → index < segments_of s → IsRising 0 (parts_of s all index) (range_with_len 0 n) →
      IsComplete (map (packet_at reported_last s all index) (range_with_len 0 n)) → n ≡ parts_of s all index
  complete_only_by index zero lt rising c = absurd (no_prefix c.prefix c.closing c.parts_are)
    where
      no_prefix : (prefix : List (List ℕ)) (closing : List ℕ) → [] ≡ prefix ++ closing ∷ [] → ⊥
      no_prefix [] closing e = cc
      no_prefix (x ∷ prefix) closing e = cc
  complete_only_by index (suc n) lt rising c =
      let few : n < parts_of s all index = rising_last 0 (parts_of s all index) n (range_with_len 0 n)
      (subst (IsRising 0 (parts_of s all index)) (range_last n) rising) in
      let same : c.closing ≡ packet_at reported_last s all index n = last_is c.prefix (map (packet_at reported_last s all index) (range_with_len 0 n)) c.closing
      (packet_at reported_last s all index n) (sym c.parts_are ∙ last_packet index n) in
      let closed : (n + 1 == parts_of s all index) ≡ true = sym (part_closes reported_last s all coded index n lt few) ∙ ap (λ p. closes (flags_in p))
      (sym same) ∙ c.closed in
      omega (arith, eqb-true (n + 1) (parts_of s all index) closed)

  -- rising parts are complete only if they are all parts
  complete_only : (index : ℕ) (ks : List ℕ) → index < segments_of s → IsRising 0 (parts_of s all index) ks →
      IsComplete (map (packet_at reported_last s all index) ks) → ks ≡ all_parts s all index
  complete_only index ks lt rising c = grind (arith, nat_tests, numbers, length-map, complete_only_by)

  -- the text that they carry
  text_so_far : (index n : ℕ) → index < segments_of s → n ≤ parts_of s all index →
      text_of_parts (map (packet_at reported_last s all index) (range_with_len 0 n)) ≡ take (n * part_size s.packet) (segment_text s all index)
  unfolding text_of_parts
  text_so_far index zero lt few = let e : 0 * part_size s.packet ≡ 0 = omega arith in ap (λ n. take n (segment_text s all index)) (sym e)
  text_so_far index (suc n) lt few =
      let size = part_size s.packet in
      let text = segment_text s all index in
      ap (flat_map text_in) (last_packet index n)
      ∙ flat_map-append text_in (map (packet_at reported_last s all index) (range_with_len 0 n)) (packet_at reported_last s all index n ∷ [])
      ∙ ap (λ zs. zs ++ flat_map text_in (packet_at reported_last s all index n ∷ [])) (text_so_far index n lt (omega (arith, few)))
      ∙ ap (λ zs. take (n * size) text ++ zs) (append-nil (text_in (packet_at reported_last s all index n)) ∙
      (part_reads reported_last s all coded index n lt (omega (arith, few))).text_is)
      ∙ sym (take-add (n * size) size text) ∙ ap (λ n. take n text) (omega arith)

  whole_text : (index : ℕ) → index < segments_of s → text_of_parts (map (packet_at reported_last s all index) (all_parts s all index))
      ≡ segment_text s all index
  whole_text index lt = grind (arith, nat_tests, lt-div-mul-add, text_so_far, take_all)

  -- ---- the packets of one segment among those chosen of the first ones

  module _ (parts : ℕ → List ℕ) (choice : IsChoice s all parts) where
    others : (at n : ℕ) → n ≤ segments_of s → n ≤ at → packets_at at (chosen reported_last s all parts n) ≡ []
    unfolding packets_at chosen
    others at zero few far = refl
    others at (suc n) few far =
        let e : n + 1 ≡ suc n = omega arith in
        ap (λ m. packets_at at (chosen reported_last s all parts m)) (sym e)
        ∙ ap (packets_at at) (chosen_more reported_last s all coded parts choice parts n)
        ∙ filter-append (λ packet. index_in packet == at) (chosen reported_last s all parts n) (map (packet_at reported_last s all n) (parts n))
        ∙ ap (λ zs. zs ++ packets_at at (map (packet_at reported_last s all n) (parts n))) (others at n (omega (arith, few)) (omega (arith, far)))
        ∙ picks at n 0 (parts n) (omega (arith, few)) (choice.each n (omega (arith, few)))
        ∙ ap (λ b. if b then map (packet_at reported_last s all n) (parts n) else []) (ne_eqb n at (λ e. omega (arith, e, far)))

    picked : (at n : ℕ) → n ≤ segments_of s → at < n → packets_at at (chosen reported_last s all parts n) ≡ map (packet_at reported_last s all at) (parts at)
    unfolding packets_at
    picked at zero few lt = absurd (omega (arith, lt))
    picked at (suc n) few lt =
        let e : n + 1 ≡ suc n = omega arith in
        let prefix = packets_at at (chosen reported_last s all parts n) in
        let parted : packets_at at (chosen reported_last s all parts (suc n)) ≡ prefix
        ++ (if n == at then map (packet_at reported_last s all n) (parts n) else []) =
        ap (λ m. packets_at at (chosen reported_last s all parts m)) (sym e)
        ∙ ap (packets_at at) (chosen_more reported_last s all coded parts choice parts n)
        ∙ filter-append (λ packet. index_in packet == at) (chosen reported_last s all parts n) (map (packet_at reported_last s all n) (parts n))
        ∙ ap (λ zs. prefix ++ zs) (picks at n 0 (parts n) (omega (arith, few)) (choice.each n (omega (arith, few)))) in
        elim (cases_lt at n) [
          | inl before ↦
              let test : (n == at) ≡ false = ne_eqb n at (λ e. omega (arith, e, before)) in
              parted ∙ ap (λ b. prefix ++ (if b then map (packet_at reported_last s all n) (parts n) else [])) test ∙ append-nil prefix
              ∙ picked at n (omega (arith, few)) before
          | inr last ↦
              let same : n ≡ at = omega (arith, last, lt) in
              parted ∙ ap (λ b. prefix ++ (if b then map (packet_at reported_last s all n) (parts n) else [])) (eq-eqb n at same)
              ∙ ap (λ zs. zs ++ map (packet_at reported_last s all n) (parts n)) (others at n (omega (arith, few)) (omega (arith, same)))
              ∙ ap (λ m. map (packet_at reported_last s all m) (parts m)) same
        ]

-- ---- the segments that are received

module _ (reported_last : Bool) (s : Setting) (all : List (List ℤ)) (coded : AreCoded s all) (parts : ℕ → List ℕ) (choice : IsChoice s all parts) where
  abbrev goes : ℕ → List ℕ
  goes index = run 0 (parts index)

  go_on : IsChoice s all goes
  go_on = record { each = λ index lt. run_rises 0 0 (parts_of s all index) (parts index) (choice.each index lt) }

  kept_at : (index : ℕ) → index < segments_of s → packets_at index (kept s.apid fresh (chosen reported_last s all parts (segments_of s)))
      ≡ map (packet_at reported_last s all index) (goes index)
  kept_at index lt = ap (packets_at index) (chosen_kept reported_last s all coded parts choice (segments_of s) (omega arith)).0
      ∙ picked reported_last s all coded
      goes go_on index (segments_of s) (omega arith) lt

  head_at : (index : ℕ) → index < segments_of s → head_read (text_in (slice_index_or (map (packet_at reported_last s all index) (all_parts s all index)) 0 []))
      ≡ Ok (head_for s all index)
  head_at index lt = by_count (parts_of s all index) refl (some_parts reported_last s all coded index lt)
    where
      by_count : (n : ℕ) → parts_of s all index ≡ n → 1 ≤ n →
          head_read (text_in (slice_index_or (map (packet_at reported_last s all index) (range_with_len 0 n)) 0 [])) ≡ Ok (head_for s all index)
      by_count zero e some = absurd (omega (arith, some))
      by_count (suc n) e some = ap head_read (part_reads reported_last s all coded index 0 lt (omega (arith, e))).text_is ∙ coded.heads index lt

  pub complete_where_all : (index : ℕ) → index < segments_of s →
      IsComplete (packets_at index (kept s.apid fresh (chosen reported_last s all parts (segments_of s)))) → parts index ≡ all_parts s all index
  complete_where_all index lt whole =
      let run_all : goes index ≡ all_parts s all index = complete_only reported_last s all coded index (goes index) lt (go_on.each index lt)
      (subst IsComplete (kept_at index lt) whole) in
      run_whole 0 (parts_of s all index) (parts index) (subst (λ m. IsRising 0 m (parts index)) (sym (omega arith)) (choice.each index lt)) run_all

  -- if all parts are there, they are kept
  pub all_there : (index : ℕ) → index < segments_of s → parts index ≡ all_parts s all index →
      packets_at index (kept s.apid fresh (chosen reported_last s all parts (segments_of s))) ≡ map (packet_at reported_last s all index)
      (all_parts s all index)
  all_there index lt whole = kept_at index lt ∙ ap (λ ks. map (packet_at reported_last s all index) (run 0 ks)) whole
      ∙ ap (map (packet_at reported_last s all index)) (run-range 0 (parts_of s all index))

  pub complete_there : (index : ℕ) → index < segments_of s → parts index ≡ all_parts s all index →
      IsComplete (packets_at index (kept s.apid fresh (chosen reported_last s all parts (segments_of s))))
  complete_there index lt whole = subst IsComplete (sym (all_there index lt whole)) (complete_by reported_last s all coded index (parts_of s all index) lt refl
      (some_parts reported_last s all coded index lt))

  pub text_there : (index : ℕ) → index < segments_of s → parts index ≡ all_parts s all index →
      text_of_parts (packets_at index (kept s.apid fresh (chosen reported_last s all parts (segments_of s)))) ≡ segment_text s all index
  text_there index lt whole = ap text_of_parts (all_there index lt whole) ∙ whole_text reported_last s all coded index lt

  pub head_there : (index : ℕ) → index < segments_of s → parts index ≡ all_parts s all index →
      head_read (text_in (slice_index_or (packets_at index (kept s.apid fresh (chosen reported_last s all parts (segments_of s)))) 0 []))
      ≡ Ok (head_for s all index)
  head_there index lt whole = ap (λ ps. head_read (text_in (slice_index_or ps 0 []))) (all_there index lt whole) ∙ head_at index lt

  -- a segment is received exactly if all its packets are there and its text is accepted
  pub received_only : (holds : Acceptance) (index : ℕ) (numbers : List (List ℤ)) → index < segments_of s →
      IsReceived holds (kept s.apid fresh (chosen reported_last s all parts (segments_of s))) index numbers →
      (parts index ≡ all_parts s all index) × holds (head_for s all index) (segment_text s all index) numbers
  received_only holds index numbers lt r = grind (arith, nat_tests, complete_where_all, head_there, text_there)

  pub received_each : (holds : Acceptance) (index : ℕ) (numbers : List (List ℤ)) → index < segments_of s → parts index ≡ all_parts s all index →
      holds (head_for s all index) (segment_text s all index) numbers → IsReceived holds (kept s.apid fresh (chosen reported_last s all parts (segments_of s)))
      index numbers
  received_each holds index numbers lt whole accepted = record {
    whole = complete_there index lt whole;
    head = head_for s all index;
    head_is = head_there index lt whole;
    accepted = subst (λ t. holds (head_for s all index) t numbers) (sym (text_there index lt whole)) accepted;
  }
