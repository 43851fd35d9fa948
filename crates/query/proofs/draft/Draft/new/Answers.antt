use Rattle.std.proofs.Common.{rules}
use Rattle.query.specs.Reading.{start}
use Rattle.query.proofs.draft.Draft.new.Goals as goal

pub returns : goal.returns
returns c = record { none = record { stage = start; read = search rules } }
