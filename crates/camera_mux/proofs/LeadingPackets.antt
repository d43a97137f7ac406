-- The packets of the first segments of an image, and those of more.
use Rattle.std.proofs.Common.{◌≡◌, ◌≤◌, ◌+◌, ◌-◌, ℕ, zero, suc, ℤ, min, List, ◌++◌, length, take, sym, ap, ◌∙◌, arith, append_assoc, Bool}
use Rattle.std.specs.List.{range_with_len, flat_map}
use Rattle.std.proofs.lemmas.List.{append-nil, take_min, take-append-le}
use Rattle.base_122.specs.Setting.{sized}
use Rattle.base_122.specs.declared.setting.Setting.{Setting}
use Rattle.packet_defs.specs.Packets.{joined}
use Rattle.packet_defs.proofs.Joins.{joined-append}
use Rattle.stream_defs.specs.Output.{image_blocks, packets_of, segment_packets, reports_last}
use Rattle.stream_defs.specs.SettledImages.{leading_packets}
use Rattle.stream_defs.proofs.Outputs.{packets_of-more}

-- the packets of `more` segments from one on
abbrev pub packets_from : (reported_last : Bool) → Setting → List (List ℤ) → (from more : ℕ) → List (List ℕ)
packets_from reported_last s all from more = flat_map (segment_packets reported_last s all) (range_with_len from more)

pub packets_of-from : (reported_last : Bool) (s : Setting) (all : List (List ℤ)) (n more : ℕ) → packets_of reported_last s all (n + more)
    ≡ packets_of reported_last s all n ++ packets_from reported_last s all n more
packets_of-from reported_last s all n zero = let e : n + 0 ≡ n = omega arith in ap (packets_of reported_last s all) e
    ∙ sym (append-nil (packets_of reported_last s all n))
packets_of-from reported_last s all n (suc more) =
    let e : n + suc more ≡ (n + 1) + more = omega arith in
    ap (packets_of reported_last s all) e ∙ packets_of-from reported_last s all (n + 1) more
    ∙ ap (λ ps. ps ++ packets_from reported_last s all (n + 1) more) (packets_of-more reported_last s all n)
    ∙ append_assoc (packets_of reported_last s all n) (segment_packets reported_last s all n) (packets_from reported_last s all (n + 1) more)

-- the packets that more segments add
abbrev pub next_packets : (s : Setting) (rows : ℕ) (x : ℕ → ℕ → ℤ) (a b : ℕ) → List (List ℕ)
next_packets s rows x a b = packets_from (reports_last s) (sized s rows) (image_blocks (sized s rows) x) a (b - a)

pub prefix_more : (s : Setting) (rows : ℕ) (x : ℕ → ℕ → ℤ) (a b : ℕ) → a ≤ b → leading_packets s rows x b ≡ leading_packets s rows x a
    ++ next_packets s rows x a b
prefix_more s rows x a b le =
    let e : b ≡ a + (b - a) = omega (arith, le) in
    ap (leading_packets s rows x) e ∙ packets_of-from (reports_last s) (sized s rows) (image_blocks (sized s rows) x) a (b - a)

-- a prefix of their octets is one of the octets of more
pub cut_of_more : (s : Setting) (rows : ℕ) (x : ℕ → ℕ → ℤ) (some a b : ℕ) → a ≤ b →
    (n : ℕ) × (take some (joined (leading_packets s rows x a)) ≡ take n (joined (leading_packets s rows x b)))
cut_of_more s rows x some a b le =
    let xs = joined (leading_packets s rows x a) in
    let rest = joined (next_packets s rows x a b) in
    let n = min some (length xs) in
    let all : joined (leading_packets s rows x b) ≡ xs ++ rest = ap joined (prefix_more s rows x a b le) ∙ joined-append (leading_packets s rows x a)
    (next_packets s rows x a b) in
    (n, sym (take_min some xs) ∙ sym (take-append-le n xs rest (omega arith)) ∙ ap (take n) (sym all))
