-- The effect of a run of the program, for each command. This project's own.
use Rattle.std.specs.Prelude.{◌≡◌, ◌⊎◌, ◌≤◌, ℕ, true, false, List, [], length, take, Result, Ok, Err}
use Rattle.port_122.specs.Outside.{Outside, Exchange, NoRead, Rose}
use Rattle.base_122.specs.declared.setting.Setting.{Setting}
use Rattle.raster_rows.specs.declared.made.MadeImage.{MadeImage}
use Rattle.command_words.specs.declared.command.Command.{Command}
use Rattle.command_words.specs.declared.command.Command.TheVariants.{Encode, Mux, Read, Info, Pick, BareEncode, BareDecode, Make, Trial}
use Rattle.command_words.specs.declared.command.WordFault.{WordFault}
use Rattle.raster_rows.specs.Made.{made_value}
use Rattle.strip122.specs.declared.trial.TrialDone.{TrialDone}
use Rattle.strip122.specs.MadeRasters.{made_raster}
use Rattle.strip122.specs.Trials.{made_with, trial_line, IsTried}
use Rattle.strip122.specs.Ran.{LacksMemory}
use Rattle.strip122.specs.Behaviours.{Behaviour}
use Rattle.strip122.specs.Decoding.{reads}
use Rattle.strip122.specs.Encoding.{encodes, encodes_with_book}
use Rattle.strip122.specs.Books.{by_book}
use Rattle.strip122.specs.BareStreams.{encodes_bare, decodes_bare}
use Rattle.strip122.specs.Listing.{reads_packets, picker, informer}
use Rattle.strip122.specs.Muxing.{muxes, camera_settings}
use Rattle.strip122.specs.Notes.{IsNoted, word_line, write_report}

-- ---- the whole effect of a run

-- The arguments are refused: nothing is read or written, and the note reports why.
pub record Refuses (words : List (List ℕ)) (fault : WordFault) (old new : Outside) (status : ℕ) : Type 0 where
  pub wrote : List ℕ
  pub since : Exchange old new [] [] wrote NoRead
  pub status_is : status ≡ 2
  pub noted : IsNoted old new wrote (word_line words fault)

-- all of these octets are given and nothing noted
pub record AllGiven (octets gave wrote : List ℕ) (status : ℕ) : Type 0 where
  pub status_is : status ≡ 0
  pub whole : gave ≡ octets
  pub silent : wrote ≡ []

-- a write failed: a prefix of the octets is given
pub record PartGiven (octets : List ℕ) (old new : Outside) (gave wrote : List ℕ) (status : ℕ) : Type 0 where
  pub status_is : status ≡ write_report.status
  pub rose : Rose old.write_faults new.write_faults
  pub prefix : (k : ℕ) × (k ≤ length octets) × (gave ≡ take k octets)
  pub noted : IsNoted old new wrote write_report.line

-- One run that gives octets and reads nothing.
pub record Gives (octets : List ℕ) (old new : Outside) (status : ℕ) : Type 0 where
  pub gave : List ℕ
  pub wrote : List ℕ
  pub since : Exchange old new [] gave wrote NoRead
  pub ending : AllGiven octets gave wrote status ⊎ PartGiven octets old new gave wrote status

-- one run of `make`
abbrev pub Makes : MadeImage → Outside → Outside → ℕ → Type 0
Makes made = Gives (made_raster made)

-- One run of `trial` for which there was memory.
pub record TriedImage (setting : Setting) (seed : ℕ) (old new : Outside) (status : ℕ) : Type 0 where
  pub done : TrialDone
  pub tried : IsTried setting (made_value (made_with setting seed)) done
  pub gives : Gives (trial_line setting done) old new status

-- one run of `trial`
abbrev pub Tries : Setting → ℕ → Outside → Outside → ℕ → Type 0
Tries setting seed old new status = LacksMemory old new status ⊎ TriedImage setting seed old new status

-- ---- the behaviour of each command

-- `make` takes no input and no memory
abbrev pub makes : MadeImage → Behaviour
makes made = record { performs = Makes made; accepts = λ input. Unit {0} }

-- `trial` takes no input
abbrev pub tries : Setting → ℕ → Behaviour
tries setting seed = record { performs = Tries setting seed; accepts = λ input. Unit {0} }

abbrev pub behaviour : Command → Behaviour
behaviour (Encode setting false) = encodes setting
behaviour (Encode setting true) = encodes_with_book setting
behaviour (Mux setting cameras) = muxes (camera_settings setting cameras)
behaviour (Read reading wish has_book) = by_book has_book wish (reads reading)
behaviour (Info apid octets) = reads_packets (informer (record { apid = apid; octets = octets }))
behaviour (Pick wish image) = reads_packets (picker wish image)
behaviour (BareEncode setting) = encodes_bare setting
behaviour (BareDecode wish) = decodes_bare wish
behaviour (Make made) = makes made
behaviour (Trial setting seed) = tries setting seed

-- the effect of a run, for the meaning of the arguments
abbrev pub Runs : List (List ℕ) → Result Command WordFault → Outside → Outside → ℕ → Type 0
Runs words (Ok command) old new status = (behaviour command).performs old new status
Runs words (Err fault) old new status = Refuses words fault old new status
