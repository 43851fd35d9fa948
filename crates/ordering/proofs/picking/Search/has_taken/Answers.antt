use Rattle.std.proofs.Common.{eqb}
use Rattle.std.proofs.lemmas.Bool.Decides.{Decides-like, Decides-eqb}
use Rattle.std.proofs.lemmas.List.Elements.{contains_decides}
use Rattle.ordering.specs.Listed.{places_of}
use Rattle.ordering.proofs.Members.{has_from_member, member_from_has}
use Rattle.ordering.proofs.picking.Search.has_taken.Goals as goal

pub returns : goal.returns
returns g c =
    let taken = places_of c.args.self.now.taken in
    record { taken = Decides-like c.contains.result (member_from_has taken) has_from_member (contains_decides eqb Decides-eqb taken c.args.place c.contains.result (rw c.places.ensures.value at c.contains.ensures.cases)) }
