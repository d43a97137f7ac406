use Rattle.stream_defs.proofs.ShareLaws.{share_said, total_kept}
use Rattle.stream_defs.proofs.laws.shares_fit.Goals as goal

pub returns : goal.returns
returns c = record { each = λ s all index range tall lt. share_said s all index range lt; whole = total_kept }
