-- The codes of an option, by the octets that begin with them.
use Rattle.std.proofs.Common.{◌≡◌, ℕ, zero, suc, ◌+◌, ◌-◌, ◌*◌, ◌/◌, ◌%◌, ◌^◌, ◌<◌, ◌≤◌, Bool, true, List, [], ◌∷◌, ◌++◌, length, take, get_or, refl, sym}
use Rattle.std.proofs.Common.{ap, ◌∙◌, arith, append_assoc, length-append, inl, inr, subst, take_at, mul-le-mul_right}
use Rattle.std.proofs.Common.{Option, Result}
use Rattle.std.proofs.lemmas.Nat.{shr_split, shr_high, mod_below, pow_pos, shr_below, one_shl, pow-add}
use Rattle.item_defs.specs.Bits.{bits_of}
use Rattle.item_defs.specs.Items.{coded, spelling, item_bits, plain}
use Rattle.item_defs.specs.Readings.{Lacks}
use Rattle.item_defs.proofs.NumberBits.{length-bits_of, bits_of-split, same_number}
use Rattle.bit_pipe.specs.declared.prefix.Prefix.{Prefix}
use Rattle.bit_pipe.specs.Answers.{IsBelow, TakesOne}
use Rattle.bit_pipe.specs.Sources.{SourceOf}
use Rattle.bit_pipe.specs.SourceState.{SourceState}
use Rattle.bit_pipe.specs.declared.fault.TextFault.{TextFault}
use Rattle.bit_pipe.specs.Prefixes.{prefix_at, first_bits, Reports}
use Rattle.base_122.specs.declared.book.Code.{Code}
use Rattle.base_122.specs.declared.book.Book.{Book}
use Rattle.plane_defs.specs.Codes.{symbol, table, table_place, is_book_sound, code_at, code_bits, codes_of, word_item}
use Rattle.plane_defs.proofs.Tables.{sound_table}
use Rattle.plane_defs.proofs.ReadOnce.{begins, code_there, words}
use Rattle.word_codes.specs.WordPrefixes.{Begins, PrefixOf, ArePrefixes, IsFirst}
use Rattle.word_codes.specs.declared.tables.WordTables.{WordTables}
use Rattle.word_codes.proofs.CodeSearch.{past_prefix, code_length, said_below, below_said}
use Rattle.word_codes.proofs.Words.{is_plain, is_coded}

-- ---- the octets between two places that differ by a power of two

pub within_is : (octet bits m : ℕ) → octet / 2 ^ m ≡ bits → (bits * 2 ^ m ≤ octet) × (octet < bits * 2 ^ m + 2 ^ m)
within_is octet bits m e =
    let whole : bits * 2 ^ m + octet % 2 ^ m ≡ octet = ap (λ n. n * 2 ^ m + octet % 2 ^ m) (sym e) ∙ shr_split octet m in
    let small = mod_below octet (2 ^ m) (pow_pos m) in
    (omega (arith, whole), omega (arith, whole, small))

pub is_within : (octet bits m : ℕ) → bits * 2 ^ m ≤ octet → octet < bits * 2 ^ m + 2 ^ m → octet / 2 ^ m ≡ bits
is_within octet bits m le lt =
    let rest = octet - bits * 2 ^ m in
    let whole : octet ≡ bits * 2 ^ m + rest = omega arith in
    ap (λ n. n / 2 ^ m) whole ∙ shr_high bits m rest (omega arith)

-- as the code has them
pub wide_is : (len : ℕ) → 1 * 2 ^ (8 - len) % 2 ^ 64 ≡ 2 ^ (8 - len)
wide_is len = one_shl (8 - len) 64 (omega arith)

pub first_is : (bits len b : ℕ) → b ≡ bits → b * (1 * 2 ^ (8 - len) % 2 ^ 64) ≡ bits * 2 ^ (8 - len)
first_is bits len b e = rw (e, wide_is len) refl

pub whole_room : (bits len : ℕ) → len ≤ 8 → bits < 2 ^ len → bits * 2 ^ (8 - len) + 2 ^ (8 - len) ≤ 256
whole_room bits len few fits =
    let rest : len + (8 - len) ≡ 8 = omega arith in
    let top : 2 ^ len * 2 ^ (8 - len) ≡ 256 = sym (pow-add 2 len (8 - len)) ∙ ap (λ n. 2 ^ n) rest in
    let le : (bits + 1) * 2 ^ (8 - len) ≤ 2 ^ len * 2 ^ (8 - len) = mul-le-mul_right (2 ^ (8 - len)) (omega arith) in
    let split : (bits + 1) * 2 ^ (8 - len) ≡ bits * 2 ^ (8 - len) + 2 ^ (8 - len) = grind arith in
    omega (arith, top, le, split)

-- ---- codes

pub begun_bits : (code whole : Code) (octet : ℕ) → octet < 256 → code.bits < 2 ^ code.len → code.len ≤ 8 → code.len ≡ whole.len →
    code_bits code ≡ code_bits whole → Begins whole octet → octet / 2 ^ (8 - code.len) ≡ code.bits
begun_bits code whole octet small fits few same bits e =
    let rest : code.len + (8 - code.len) ≡ 8 = omega arith in
    let below : octet / 2 ^ (8 - code.len) < 2 ^ code.len = shr_below octet code.len (8 - code.len) (rw rest small) in
    sym (same_number code.len code.bits (octet / 2 ^ (8 - code.len)) fits below (bits ∙ e ∙ ap (λ n. first_bits n octet) (sym same)))

pub bits_begun : (code whole : Code) (octet : ℕ) → code.len ≡ whole.len → code_bits code ≡ code_bits whole → octet / 2 ^ (8 - code.len) ≡ code.bits →
    Begins whole octet
bits_begun code whole octet same bits e = sym bits ∙ ap (bits_of code.len) (sym e) ∙ ap (λ n. first_bits n octet) same

-- what is first in an octet is a prefix of its eight bits
eight : (count octet : ℕ) → count ≤ 8 → bits_of 8 octet ≡ first_bits count octet ++ bits_of (8 - count) octet
eight count octet le =
    let whole : count + (8 - count) ≡ 8 = omega arith in
    ap (λ n. bits_of n octet) (sym whole) ∙ bits_of-split count (8 - count) octet

pub prefix_of : (book : Book) (n option s : ℕ) (code : Code) (number : ℕ) (prefix : Prefix) → prefix ≡ record { number = number; len = code.len } →
    code.len ≡ (code_at book n option s).len → symbol n number ≡ s → number < 2 ^ n → PrefixOf book n option s prefix
prefix_of book n option s code number prefix e same word known = record {
  word = ap (λ f. symbol n f.number) e ∙ word;
  known = rw e known;
  len = ap (λ f. f.len) e ∙ same;
}

module _ (book : Book) (n option : ℕ) (sound : is_book_sound book ≡ true) (low : 2 ≤ n) (high : n ≤ 4) (known : option + 1 < n) where
  first_code : (octet s : ℕ) → s < 2 ^ n → Begins (code_at book n option s) octet →
      (more : List Bool) × (bits_of 8 octet ≡ spelling (coded (codes_of book n option)) s ++ more)
  first_code octet s below e =
      let c = code_at book n option s in
      let few = (code_length book n option sound low high known s below).1 in
      (bits_of (8 - c.len) octet, eight c.len octet few ∙ ap (λ r. r ++ bits_of (8 - c.len) octet) (sym (code_there book n option s below ∙ e)))

  -- an octet begins with at most one code
  pub one_begins : (octet s r : ℕ) → s < 2 ^ n → r < 2 ^ n → Begins (code_at book n option s) octet → Begins (code_at book n option r) octet → s ≡ r
  one_begins octet s r ls lr ps pr =
      let a = first_code octet s ls ps in
      let b = first_code octet r lr pr in
      (words book n option sound low high known s r a.0 b.0 (below_said book n option sound low high known s ls)
      (below_said book n option sound low high known r lr) (sym a.1 ∙ b.1)).0

  -- an octet begins with a code
  some_begins : (octet : ℕ) → octet < 256 → (s : ℕ) × (s < 2 ^ n) × Begins (code_at book n option s) octet
  some_begins octet small =
      let r = begins (table book (table_place n option)) (2 ^ n) octet (sound_table book n option sound low high known) small in
      let c = code_at book n option r.0 in
      let few : c.len ≤ 8 = (code_length book n option sound low high known r.0 r.1).1 in
      let p = past_prefix (code_bits c) (bits_of 8 octet) r.2 in
      let e : code_bits c ≡ first_bits c.len octet =
      sym (take_at (code_bits c) p.0 c.len (length-bits_of c.len c.bits)) ∙ ap (take c.len) (sym p.1 ∙ eight c.len octet few)
      ∙ take_at (first_bits c.len octet) (bits_of (8 - c.len) octet) c.len (length-bits_of c.len _) in
      (r.0, r.1, e)

  shaped : (w : ℕ) → (word_item book n option w).form.shape ≡ coded (codes_of book n option)
  shaped w = rw (is_coded n option known) refl

  said_is : (w : ℕ) → (word_item book n option w).said ≡ symbol n w
  said_is w = rw (is_coded n option known) refl

  spelt : (w : ℕ) → item_bits (word_item book n option w) ≡ spelling (coded (codes_of book n option)) (symbol n w)
  spelt w = rw (is_coded n option known) refl

  module _ (prefixes : List Prefix) (all : ArePrefixes book n option prefixes) where
    if_known : (octet : ℕ) → octet < 256 → (s : ℕ) × (s < 2 ^ n) × Begins (code_at book n option s) octet × PrefixOf book n option s (prefix_at prefixes octet)
    if_known octet small = let r = some_begins octet small in (r.0, r.1, r.2, all.at octet r.0 small r.1 r.2)

    known_first : (octet : ℕ) → octet < 256 → item_bits (word_item book n option (prefix_at prefixes octet).number)
        ≡ first_bits (prefix_at prefixes octet).len octet
    known_first octet small =
        let r = if_known octet small in
        spelt (prefix_at prefixes octet).number ∙ ap (spelling (coded (codes_of book n option))) r.3.word ∙ code_there book n option r.0 r.1 ∙ r.2
        ∙ ap (λ k. first_bits k octet) (sym r.3.len)

    known_lacks : (octet count : ℕ) → octet < 256 → count < (prefix_at prefixes octet).len → Lacks (coded (codes_of book n option)) (first_bits count octet)
    known_lacks octet count small less s more said e =
        let r = if_known octet small in
        let c = code_at book n option r.0 in
        let few : c.len ≤ 8 = (code_length book n option sound low high known r.0 r.1).1 in
        let below : s < 2 ^ n = said_below book n option sound low high known s said in
        let short : count < c.len = omega (arith, less, r.3.len) in
        let rest = bits_of (8 - count) octet in
        let whole : bits_of 8 octet ≡ spelling (coded (codes_of book n option)) s ++ (more ++ rest) =
        eight count octet (omega arith) ∙ ap (λ l. l ++ rest) e ∙ append_assoc (spelling (coded (codes_of book n option)) s) more rest in
        let first = first_code octet r.0 r.1 r.2 in
        let same : s ≡ r.0 = (words book n option sound low high known s r.0 (more ++ rest) first.0 said
        (below_said book n option sound low high known r.0 r.1) (sym whole ∙ first.1)).0 in
        let long : length (spelling (coded (codes_of book n option)) s) ≡ c.len = ap (λ l. length (spelling (coded (codes_of book n option)) l)) same
        ∙ ap length (code_there book n option r.0 r.1) ∙ length-bits_of c.len c.bits in
        absurd (omega (
          arith,
          short,
          long,
          ap length e,
          length-append (spelling (coded (codes_of book n option)) s) more,
          length-bits_of count (octet / 2 ^ (8 - count)),
        ))

    pub reports_words : Reports (2 ^ n) (word_item book n option) prefixes
    reports_words = record {
      shape = coded (codes_of book n option);
      same = shaped;
      known = λ octet small. (if_known octet small).3.known;
      said = λ octet small.
          let r = if_known octet small in
          rw (said_is (prefix_at prefixes octet).number, r.3.word) (below_said book n option sound low high known r.0 r.1);
      few = λ octet small.
          let r = if_known octet small in
          rw r.3.len (code_length book n option sound low high known r.0 r.1).1;
      first = known_first;
      lacks = known_lacks;
    }

-- ---- words that are sent as they are

pub first_plain : (book : Book) (n option octet : ℕ) → n ≤ 4 → (1 ≤ n → option + 1 ≡ n) → octet < 256 →
    IsFirst book n option octet (record { number = octet / 2 ^ (8 - n); len = n })
first_plain book n option octet high last small = record {
  known = shr_below octet n (8 - n) (let whole : n + (8 - n) ≡ 8 = omega arith in rw whole small);
  few = omega arith;
  none = λ e. e;
  first = λ some. rw (is_plain n option (last some)) refl;
}

pub takes_plain : {I : Type 0} {k : SourceOf I} (book : Book) (n option : ℕ) {result : Result (Option ℕ) TextFault} {a b : SourceState I} → option + 1 ≡ n →
    TakesOne k (IsBelow (2 ^ n)) (plain n) result a b → TakesOne k (IsBelow (2 ^ n)) (word_item book n option) result a b
takes_plain book n option e t = record { value = t.value; known = t.known; ending = t.ending; read = rw (is_plain n option e) t.read; answer = t.answer }

-- ---- all options

abbrev Row : Book → ℕ → ℕ → List Prefix → Type 0
Row book n option row = ArePrefixes book n option row

module _ (book : Book) (a c d f g h : List Prefix) where
  abbrev rows : List (List Prefix)
  rows = a ∷ c ∷ d ∷ f ∷ g ∷ h ∷ []

  pub all_known : Row book 2 0 a → Row book 3 0 c → Row book 3 1 d → Row book 4 0 f → Row book 4 1 g → Row book 4 2 h → (n option : ℕ) → 2 ≤ n → n ≤ 4 →
      option + 1 < n → Row book n option (get_or rows (table_place n option) [])
  all_known ta tc td tf tg th = each
    where
      each : (n option : ℕ) → 2 ≤ n → n ≤ 4 → option + 1 < n → Row book n option (get_or rows (table_place n option) [])
      each zero option low high lt = absurd (omega arith)
      each (suc zero) option low high lt = absurd (omega arith)
      each (suc (suc zero)) zero low high lt = ta
      each (suc (suc zero)) (suc option) low high lt = absurd (omega arith)
      each (suc (suc (suc zero))) zero low high lt = tc
      each (suc (suc (suc zero))) (suc zero) low high lt = td
      each (suc (suc (suc zero))) (suc (suc option)) low high lt = absurd (omega arith)
      each (suc (suc (suc (suc zero)))) zero low high lt = tf
      each (suc (suc (suc (suc zero)))) (suc zero) low high lt = tg
      each (suc (suc (suc (suc zero)))) (suc (suc zero)) low high lt = th
      each (suc (suc (suc (suc zero)))) (suc (suc (suc option))) low high lt = absurd (omega arith)
      each (suc (suc (suc (suc (suc n))))) option low high lt = absurd (omega arith)

-- the table of an option has its words
pub row_reports : (t : WordTables) (n option : ℕ) → 2 ≤ n → n ≤ 4 → option + 1 < n →
    Reports (2 ^ n) (word_item t.book n option) (get_or t.rows (table_place n option) [])
row_reports t n option low high coded_one = reports_words t.book n option t.sound low high coded_one _ (t.if_known n option low high coded_one)

pub first_coded : (t : WordTables) (n option octet : ℕ) → 2 ≤ n → n ≤ 4 → option + 1 < n → octet < 256 →
    IsFirst t.book n option octet (prefix_at (get_or t.rows (table_place n option) []) octet)
first_coded t n option octet low high coded_one small =
    let reports = row_reports t n option low high coded_one in
    record {
      known = reports.known octet small;
      few = reports.few octet small;
      none = λ e. absurd (omega (arith, e, low));
      first = λ some. reports.first octet small;
    }
