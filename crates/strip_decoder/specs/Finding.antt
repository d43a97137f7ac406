-- How a search for damage ends, by what it took and gave. This project's own.
use Rattle.std.specs.Prelude.{◌≡◌, ◌⊎◌, ◌≤◌, ℕ, List, [], length, take, false, Result}
use Rattle.port_122.specs.Outside.{Outside, Exchange}
use Rattle.base_122.specs.declared.wish.DecodeWish.{DecodeWish}
use Rattle.segment_defs.specs.TextWish.{unrestored}
use Rattle.strip_decoder.specs.declared.ending.DecodeDone.{DecodeDone}
use Rattle.strip_decoder.specs.declared.ending.DecodeFault.{DecodeFault}
use Rattle.strip_decoder.specs.WalkAnswers.{PictureBy, AsksSilent}
use Rattle.strip_decoder.specs.Endings.{EndsBy}
use Rattle.strip_decoder.specs.Lines.{damage_lines}

-- For the octets that were taken the answer is a decoder's, and what is given is the lines of the damage.
pub record IsDamage (wish : DecodeWish) (start new : Outside) (took gave : List ℕ) (done : DecodeDone) : Type 0 where
  pub found : PictureBy false (unrestored wish.book) wish start new took [] done
  pub lines : gave ≡ damage_lines done.damage

-- a part of the lines of the damage, for the octets that were taken to their end
pub record IsPart (wish : DecodeWish) (start new : Outside) (took gave : List ℕ) : Type 0 where
  pub done : DecodeDone
  pub found : PictureBy false (unrestored wish.book) wish start new took [] done
  pub some : ℕ
  pub lines : gave ≡ take some (damage_lines done.damage)

-- nothing, or a part of the lines
abbrev pub GivesSome : DecodeWish → (start new : Outside) (took gave : List ℕ) → Type 0
GivesSome wish start new took gave = (gave ≡ []) ⊎ IsPart wish start new took gave

-- why the call ended so: all lines are given, and nothing before the packets end
abbrev pub FindAnswers : DecodeWish → (old new : Outside) (took gave : List ℕ) → Result DecodeDone DecodeFault → Type 0
FindAnswers wish = EndsBy (IsDamage wish) (λ old took gave. gave ≡ []) (GivesSome wish) wish

-- One run over a port: what it took and gave, when, and why it ended so. However it ends, it takes at most the number of octets in the
-- wish. At each read call the octets that were taken by then do not decide the answer, and nothing is given.
pub record Finds (wish : DecodeWish) (old new : Outside) (result : Result DecodeDone DecodeFault) : Type 0 where
  pub took : List ℕ
  pub gave : List ℕ
  pub since : Exchange old new took gave [] (AsksSilent wish took)
  pub within : length took ≤ wish.octets
  pub answer : FindAnswers wish old new took gave result
