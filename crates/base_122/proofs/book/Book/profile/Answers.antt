use Rattle.std.proofs.Common.{refl}
use Rattle.base_122.specs.Profile.{profile}
use Rattle.base_122.proofs.book.Book.profile.Goals as goal

pub returns : goal.returns
unfolding profile
returns c = refl
