-- Packets one after another.
use Rattle.std.proofs.Common.{◌≡◌, ℕ, List, ◌++◌}
use Rattle.std.proofs.lemmas.Grind.{flat_map-append}
use Rattle.packet_defs.specs.Packets.{joined}

pub joined-append : (a b : List (List ℕ)) → joined (a ++ b) ≡ joined a ++ joined b
joined-append a b = flat_map-append (λ (packet : List ℕ). packet) a b
