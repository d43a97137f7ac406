-- A table's codes, read code by code.
use Rattle.std.proofs.Common.{◌≡◌, ◌≢◌, ◌<◌, ◌+◌, ◌*◌, ◌∙◌, inl, inr, ℕ, List, length, sym, ap, nat_lt, if◌then◌else◌, get_or, set, get_or-set_same}
use Rattle.std.proofs.Common.{get_or-set_other, arith, ext_get_or, length-set}
use Rattle.std.proofs.lemmas.List.FromFn.{get_or-map-range_with_len, length-map-range_with_len}
use Rattle.std.proofs.lemmas.Bool.{cases_eq}
use Rattle.std.proofs.lemmas.Bool.Decides.{nat_tests}
use Rattle.base_122.specs.declared.book.Code.{Code}
use Rattle.base_122.specs.Profile.{no_code}
use Rattle.code_book.specs.Reading.{code_in, table_from}

-- the code of a symbol, of a table of so many codes
abbrev code_of : List ℕ → (start count s : ℕ) → Code
code_of octets start count s = if nat_lt s count then code_in octets (start + 2 * s) else no_code

entry_of : (octets : List ℕ) (start count s : ℕ) → s < 16 → get_or (table_from octets start count) s no_code ≡ code_of octets start count s
unfolding table_from
entry_of octets start count s lt = get_or-map-range_with_len (code_of octets start count) 0 16 s s no_code lt (omega arith)

long : (octets : List ℕ) (start count : ℕ) → length (table_from octets start count) ≡ 16
unfolding table_from
long octets start count = length-map-range_with_len (code_of octets start count) 0 16

here : (octets : List ℕ) (start k : ℕ) → code_of octets start (k + 1) k ≡ code_in octets (start + 2 * k)
here octets start k = grind (arith, nat_tests, nat_lt)

there : (octets : List ℕ) (start k s : ℕ) → s ≢ k → code_of octets start k s ≡ code_of octets start (k + 1) s
there octets start k s other = grind (arith, nat_tests, nat_lt)

pub table_next : (octets : List ℕ) (start k : ℕ) → k < 16 → set (table_from octets start k) k (code_in octets (start + 2 * k)) ≡ table_from octets start (k + 1)
table_next octets start k lt =
    let old : List Code = table_from octets start k in
    let code : Code = code_in octets (start + 2 * k) in
    ext_get_or no_code (set old k code) (table_from octets start (k + 1)) (length-set old k code ∙ long octets start k ∙ sym (long octets start (k + 1)))
    (λ s within.
    let few : s < 16 = omega (arith, within, length-set old k code, long octets start k) in
    let room : k < length old = omega (arith, lt, long octets start k) in
    elim (cases_eq s k) [
      | inl same ↦ ap (λ i. get_or (set old k code) i no_code) same ∙ get_or-set_same old k code no_code room ∙ sym (here octets start k)
          ∙ sym (ap (code_of octets start (k + 1)) same) ∙ sym (entry_of octets start (k + 1) s few)
      | inr other ↦ get_or-set_other old k s code no_code other ∙ entry_of octets start k s few ∙ there octets start k s other
          ∙ sym (entry_of octets start (k + 1) s few)
    ])
