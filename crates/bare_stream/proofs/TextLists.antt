-- The texts of the first segments.
use Rattle.std.proofs.Common.{◌≡◌, ℕ, zero, suc, ◌+◌, ◌-◌, ◌≤◌, ℤ, List, [], ◌∷◌, ◌++◌, sym, refl, ap, ◌∙◌, arith, append_assoc, append-nil}
use Rattle.std.specs.List.{range_with_len, flat_map}
use Rattle.std.proofs.lemmas.Grind.{flat_map-append}
use Rattle.base_122.specs.declared.setting.Setting.{Setting}
use Rattle.stream_defs.proofs.Outputs.{range_with_len-more}
use Rattle.bare_stream.specs.Bare.{first_texts, segment_octets}

pub first_texts-none : (s : Setting) (all : List (List ℤ)) → first_texts s all 0 ≡ []
unfolding first_texts
first_texts-none s all = refl

-- one segment more
pub first_texts-more : (s : Setting) (all : List (List ℤ)) (n : ℕ) → first_texts s all (n + 1) ≡ first_texts s all n ++ segment_octets s all n
unfolding first_texts
first_texts-more s all n =
    let f = segment_octets s all in
    ap (flat_map f) (range_with_len-more 0 n ∙ ap (λ k. range_with_len 0 n ++ k ∷ []) (let t : 0 + n ≡ n = omega arith in t))
    ∙ flat_map-append f (range_with_len 0 n) (n ∷ [])
    ∙ ap (λ r. flat_map f (range_with_len 0 n) ++ r) (append-nil (f n))

-- the texts of the first segments are a prefix of those of more
rest_of : (s : Setting) (all : List (List ℤ)) (n more : ℕ) → (rest : List ℕ) × (first_texts s all (n + more) ≡ first_texts s all n ++ rest)
rest_of s all n zero = ([], let e : n + 0 ≡ n = omega arith in ap (first_texts s all) e ∙ sym (append-nil (first_texts s all n)))
rest_of s all n (suc more) =
    let before = rest_of s all n more in
    let e : n + suc more ≡ (n + more) + 1 = omega arith in (
      before.0 ++ segment_octets s all (n + more),
      ap (first_texts s all) e ∙ first_texts-more s all (n + more) ∙ ap (λ xs. xs ++ segment_octets s all (n + more)) before.1
          ∙ append_assoc (first_texts s all n) before.0 (segment_octets s all (n + more)),
    )

pub texts_go_on : (s : Setting) (all : List (List ℤ)) (n m : ℕ) → n ≤ m → (rest : List ℕ) × (first_texts s all m ≡ first_texts s all n ++ rest)
texts_go_on s all n m le =
    let rest = rest_of s all n (m - n) in
    let e : n + (m - n) ≡ m = omega (arith, le) in
    (rest.0, sym (ap (first_texts s all) e) ∙ rest.1)
