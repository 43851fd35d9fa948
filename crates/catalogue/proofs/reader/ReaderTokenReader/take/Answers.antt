use Rattle.catalogue.proofs.Taking.{at_moved}
use Rattle.catalogue.proofs.reader.ReaderTokenReader.take.Goals as goal

pub returns : goal.returns
returns c = record { taken = λ x p tied. let t = c.in_ok-self.ensures.taken p tied in (t.0, at_moved c.step.new.self c.in_ok-self.field-0 c.in_ok-self.field-0 _ t.1) }
