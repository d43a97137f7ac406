-- The octets of a book, read call by read call.
use Rattle.std.proofs.Common.{◌≡◌, ◌≤◌, ◌<◌, ◌+◌, ℕ, List, ◌++◌, length, take, Err, sym, ◌∙◌, arith}
use Rattle.std.proofs.lemmas.List.{length-take-le, take-append-le}
use Rattle.std.proofs.Math.Seq.{take-append-add}
use Rattle.std.proofs.lemmas.Bool.Decides.{nat_tests}
use borrow.Rule.Slice.PartMut.{put_mid}
use Rattle.port_122.specs.Outside.{Outside, Read, ReadFailed}
use Rattle.port_122.proofs.ReadCalls.{since_read, since_unread, since_end, unread_rose}
use Rattle.port_122.proofs.Stretches.{since_start}
use Rattle.code_book.specs.declared.fault.BookFault.TheVariants.{ReadFault, Short}
use Rattle.code_book.specs.Filling.{FilledTo}
use Rattle.code_book.specs.Reading.{ReadsBook}

pub fill_start : (now : Outside) (piece : List ℕ) → length piece ≡ 138 → FilledTo now now piece 0
fill_start now piece room = record { room = room; within = omega arith; since = since_start now (λ i j. i < 138) }

-- the octets so far, and those of a read
taken_more : (piece read : List ℕ) (count n k : ℕ) → count ≤ length piece → n ≤ length read →
    take (count + n) (put_mid count k piece read) ≡ take count piece ++ take n read
taken_more piece read count n k le room = grind (arith, nat_tests, length-take-le, take-append-add, take-append-le)

-- so many octets were taken
size_of : {old now : Outside} {piece : List ℕ} {count : ℕ} → FilledTo old now piece count → length (take count piece) ≡ count
size_of {piece = piece} {count = count} p = length-take-le count piece (omega (arith, p.room, p.within))

still_missing : {old now : Outside} {piece : List ℕ} {count : ℕ} → FilledTo old now piece count → count < 138 → length (take count piece) < 138
still_missing p missing = rw (size_of p) missing

pub fill_next : {old now new : Outside} {piece read : List ℕ} {count n : ℕ} (k : ℕ) → FilledTo old now piece count → count < 138 → Read now new read n →
    count + length read ≡ 138 → length (put_mid count k piece read) ≡ length piece → FilledTo old new (put_mid count k piece read) (count + n)
fill_next {old = old} {new = new} {piece = piece} {read = read} {count = count} {n = n} k p missing q room same = record {
  room = same ∙ p.room;
  within = omega (arith, room, q.within);
  since =
      let taken : take (count + n) (put_mid count k piece read) ≡ take count piece ++ take n read =
      taken_more piece read count n k (omega (arith, p.room, p.within)) q.within in
      rw taken (since_read n p.since q (still_missing p missing));
}

pub fill_unread : {old now new : Outside} {piece : List ℕ} {count : ℕ} → FilledTo old now piece count → count < 138 → ReadFailed now new →
    ReadsBook old new (Err ReadFault)
fill_unread {piece = piece} {count = count} p missing q = record {
  took = take count piece;
  since = since_unread p.since q (still_missing p missing);
  answer = (unread_rose p.since q, still_missing p missing);
}

pub fill_short : {old now new : Outside} {piece read : List ℕ} {count : ℕ} → FilledTo old now piece count → count < 138 → Read now new read 0 →
    0 < length read → ReadsBook old new (Err (Short count))
fill_short {piece = piece} {count = count} p missing q some =
    let ended = since_end p.since q some (still_missing p missing) in
    record {
      took = take count piece;
      since = ended.0;
      answer = (sym (size_of p), missing, ended.1);
    }
