use Rattle.std.proofs.Common.{◌≡◌, ◌<◌, ◌^◌, inl, inr, arith, sym, subst}
use Rattle.std.proofs.lemmas.Nat.{one_shl}
use Rattle.std.proofs.lemmas.Bool.{cases_lt}
use Rattle.plane_defs.specs.Codes.{code_at}
use Rattle.bit_pipe.specs.Prefixes.{prefix_at}
use Rattle.word_codes.specs.WordPrefixes.{Begins, PrefixOf}
use Rattle.word_codes.proofs.CodeSearch.{code_length}
use Rattle.word_codes.proofs.WordPrefixes.{prefix_of, begun_bits, bits_begun, one_begins}
use Rattle.word_codes.proofs.tables.prefixes_of.Goals as goal

pub trimmed-requires : goal.trimmed-requires
trimmed-requires c =
    let below : c.loop-symbol.symbol < 2 ^ c.args.length = omega (arith, one_shl c.args.length 8 (omega arith)) in
    rw c.table_at.ensures.value (code_length c.args.book.now c.args.length c.args.option c.requires.sound c.requires.short c.requires.long c.requires.coded
    c.loop-symbol.symbol below).1

pub put_prefix-requires-clause-few : goal.put_prefix-requires-clause-few
put_prefix-requires-clause-few c =
    let below : c.loop-symbol.symbol < 2 ^ c.args.length = omega (arith, one_shl c.args.length 8 (omega arith)) in
    let few = (code_length c.args.book.now c.args.length c.args.option c.requires.sound c.requires.short c.requires.long c.requires.coded
    c.loop-symbol.symbol below).1 in
    let len = rw c.table_at.ensures.value at c.trimmed.ensures.len in
    omega (arith, few, len)

pub loop-symbol-preserved : goal.loop-symbol-preserved
loop-symbol-preserved c = λ octet s small lt e.
    let n = c.args.length in
    let option = c.args.option in
    let book = c.args.book.now in
    let at = c.loop-symbol.symbol in
    let below : at < 2 ^ n = omega (arith, one_shl n 8 (omega arith)) in
    let few = (code_length book n option c.requires.sound c.requires.short c.requires.long c.requires.coded at below).1 in
    let len : c.trimmed.result.len ≡ (code_at book n option at).len = rw c.table_at.ensures.value at c.trimmed.ensures.len in
    let same = rw c.table_at.ensures.value at c.trimmed.ensures.same in
    elim (cases_lt s at) [
      | inl earlier ↦
          let others = c.put_prefix.ensures.others octet (λ there.
          let both = one_begins book n option c.requires.sound c.requires.short c.requires.long c.requires.coded octet s at (omega arith) below e
          (bits_begun c.trimmed.result (code_at book n option at) octet len same there) in
          absurd (omega (arith, both, earlier))) in
          subst (PrefixOf book n option s) (sym others) (c.loop-symbol.invariant octet s small earlier e)
      | inr later ↦
          let here : s ≡ at = omega arith in
          let there = begun_bits c.trimmed.result (code_at book n option at) octet small c.trimmed.ensures.fits (omega (arith, len, few)) len same
          (subst (λ r. Begins (code_at book n option r) octet) here e) in
          let prefix = prefix_of book n option at c.trimmed.result c.word_of.result _ (c.put_prefix.ensures.begun octet small there) len
          c.word_of.ensures.value c.word_of.ensures.within in
          subst (λ r. PrefixOf book n option r (prefix_at c.put_prefix.new.prefixes octet)) (sym here) prefix
    ]

pub returns : goal.returns
returns c = record {
  at = λ octet s small below e.
      let past : s < c.loop-symbol.symbol = omega (arith, c.loop-symbol-test.false, one_shl c.args.length 8 (omega arith)) in
      c.loop-symbol.invariant octet s small past e;
}
