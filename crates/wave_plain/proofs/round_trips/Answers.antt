use Rattle.wave_plain.proofs.RoundTripLaws.{image_again, bands_again}
use Rattle.wave_plain.proofs.round_trips.Goals as goal

pub returns : goal.returns
returns c = record { image = image_again; bands = bands_again }
