use Rattle.plane_reader.proofs.found.Found.add_raw.Goals as goal

pub returns-clause-raw : goal.returns-clause-raw
returns-clause-raw c = λ f g count within whole shows. c.either-self.ensures f _ 0 64 whole (c.placed.ensures g count within shows)
