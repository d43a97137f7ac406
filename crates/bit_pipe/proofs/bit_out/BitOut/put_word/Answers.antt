use Rattle.std.proofs.Common.{◌≡◌, ◌+◌, ◌-◌, take, refl, arith, take_all}
use Rattle.std.proofs.lemmas.Result.{err_from_is_err_and}
use Rattle.item_defs.specs.Bits.{bits_of}
use Rattle.item_defs.proofs.NumberBits.{length-bits_of}
use Rattle.bit_pipe.proofs.Putting.{puts_whole}
use Rattle.bit_pipe.proofs.BitSteps.{code_low, code_word, adds_word, breaks_in_word}
use Rattle.bit_pipe.proofs.bit_out.BitOut.put_word.Goals as goal

pub put_word-requires : goal.put_word-requires
put_word-requires g c = omega (arith, c.requires.bound.whole, c.requires.bound.bound, c.requires.room, c.requires.full)

pub returns-in_err-put_word : goal.returns-in_err-put_word
returns-in_err-put_word g c =
    let b = c.args.self.now in
    let rest = b.filled + c.args.count - 64 in
    let p = err_from_is_err_and c.from_residual.result c.from_residual.ensures.1 in
    let all : take b.room (bits_of c.args.count c.args.value) ≡ bits_of c.args.count c.args.value =
    take_all b.room (bits_of c.args.count c.args.value) (omega (arith, length-bits_of c.args.count c.args.value, c.requires.room)) in
    rw (p.1, p.2) (record {
      ends = rw all (breaks_in_word g.O.OctetOut.sink b.out.now b.filled b.pending b.bound b.room b.out.ghost_name c.args.count c.args.value _
          (code_low c.args.value c.args.count c.requires.count) rest _
          (code_word b.filled b.pending c.args.count c.args.value b.fits b.within c.requires.count c.requires.full) c.requires.full (omega arith)
          (omega (arith, b.within)) _ refl refl c.in_err-put_word.ensures);
    })

pub returns : goal.returns
returns g c =
    let b = c.args.self.now in
    let rest = b.filled + c.args.count - 64 in
    puts_whole (adds_word g.O.OctetOut.sink b.out.now b.filled b.pending b.bound b.room b.out.ghost_name c.args.count c.args.value _
    (code_low c.args.value c.args.count c.requires.count) rest _ _ _
    (code_word b.filled b.pending c.args.count c.args.value b.fits b.within c.requires.count c.requires.full)
    (code_low _ rest (omega (arith, b.within, c.requires.count))) c.from.ensures c.requires.full (omega arith) (omega (arith, b.within)) c.requires.room
    (omega (arith, b.within, c.requires.count)) c.in_ok-put_word.ensures)
