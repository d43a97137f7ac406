-- How a search for damage ends.
use Rattle.std.proofs.Common.{[], take, refl, inl, inr, false, Result, Ok, Err, IsOk, IsErr}
use Rattle.std.proofs.lemmas.Bool.{false≢true}
use Rattle.port_122.specs.Outside.{Outside, WritesAll}
use Rattle.port_122.proofs.Stretches.{since_out, rose_since}
use Rattle.base_122.specs.declared.wish.DecodeWish.{DecodeWish}
use Rattle.packet_assembly.proofs.Readings.{out_later}
use Rattle.strip_decoder.specs.declared.engine.Walked.{Walked}
use Rattle.strip_decoder.specs.declared.ending.DecodeFault.{DecodeFault}
use Rattle.strip_decoder.specs.declared.ending.DecodeFault.TheVariants.{ReadFault, WriteFault, NoSegment, TooManyPixels, LongInput, Memory}
use Rattle.strip_decoder.specs.declared.find.NoPicture.{NoPicture}
use Rattle.strip_decoder.specs.Walks.{WalkAnswers, Walks}
use Rattle.strip_decoder.specs.Lines.{damage_lines}
use Rattle.strip_decoder.specs.PictureSinks.{no_picture}
use Rattle.strip_decoder.specs.Finding.{FindAnswers, Finds}
use Rattle.strip_decoder.proofs.Endings.{as_they_are, found_as, silent_since}

-- a fault ended it
pub find_fails : (wish : DecodeWish) (old new : Outside) (fault : DecodeFault) → Walks no_picture (as_they_are wish) old new (Err fault) →
    Finds wish old new (Err fault)
find_fails wish old new fault x = record {
  took = x.took;
  gave = [];
  since = silent_since (as_they_are wish) old new (Err fault) x (λ some. some.part);
  within =
      x.within;
  answer = by fault x.answer;
}
  where
    by : (fault : DecodeFault) → WalkAnswers no_picture (as_they_are wish) old new x.took x.gave (Err fault) → FindAnswers wish old new x.took [] (Err fault)
    by ReadFault a = (a.0, refl)
    by WriteFault a = (a.0, a.1, inl refl)
    by NoSegment a = (a.0, a.1, refl)
    by (TooManyPixels pixels) a = (record { many = a.0.many; nothing = λ known. refl }, refl)
    by LongInput a = (a.0, a.1, a.2, refl)
    by Memory a = refl

-- all lines were given
pub find_done : {T E : Type 0} (wish : DecodeWish) (old mid new : Outside) (walked : Walked NoPicture) (r : Result T E) → IsOk r →
    Walks no_picture (as_they_are wish) old mid (Ok walked) → WritesAll r mid new (damage_lines walked.done.damage) → Finds wish old new (Ok walked.done)
find_done wish old mid new walked (Err e) is x out = absurd (false≢true is)
find_done wish old mid new walked (Ok y) is x out = record {
  took = x.took;
  gave = damage_lines walked.done.damage;
  since = since_out (silent_since (as_they_are wish) old mid (Ok walked) x (λ some. some.part)) out;
  within = x.within;
  answer = record {
    found = found_as false wish false [] x.answer (out_later wish.octets mid new x.took out x.answer.out) (λ received follows. refl);
    lines = refl;
  };
}

-- or some of them
pub find_cut : {T E : Type 0} (wish : DecodeWish) (old mid new : Outside) (walked : Walked NoPicture) (r : Result T E) → IsErr r →
    Walks no_picture (as_they_are wish) old mid (Ok walked) → WritesAll r mid new (damage_lines walked.done.damage) → Finds wish old new (Err WriteFault)
find_cut wish old mid new walked (Ok y) is x out = absurd (false≢true is)
find_cut wish old mid new walked (Err e) is x out =
    let n = out.1.0 in
    let since = out.1.2 in
    record {
      took = x.took;
      gave = take n (damage_lines walked.done.damage);
      since = since_out (silent_since (as_they_are wish) old mid (Ok walked) x (λ some. some.part)) since;
      within = x.within;
      answer = (
        rose_since x.since.faults.writes out.0,
        λ known. x.answer.few,
        inr record {
          done = walked.done;
          found = found_as false wish false [] x.answer (out_later wish.octets mid new x.took since x.answer.out)
              (λ received follows. refl);
          some = n;
          lines = refl;
        },
      );
    }
