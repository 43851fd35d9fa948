use Rattle.lexing.specs.Readers.{Taken}
use Rattle.catalogue.specs.declared.state.Stage.TheVariants as at
use Rattle.catalogue.specs.Reading.{steps, At}
use Rattle.catalogue.proofs.Taking.{by_stage}
use Rattle.catalogue.proofs.state.Reader.step.Goals as goal

pub returns-in-Kinded : goal.returns-in-Kinded
returns-in-Kinded c = record { taken = by_stage c.args.self.now (at.Kinded _) (λ p. Taken steps (At c.args.self.now) p c.args.token.now c.take_colon.result) c.in-Kinded.is (c.take_colon.ensures.taken c.args.self.now) }

pub returns-in-Coloned : goal.returns-in-Coloned
returns-in-Coloned c = record { taken = by_stage c.args.self.now (at.Coloned _) (λ p. Taken steps (At c.take_mark.new.self) p c.args.token.now c.take_mark.result) c.in-Coloned.is c.take_mark.ensures.taken }
