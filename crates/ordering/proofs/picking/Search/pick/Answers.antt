use Rattle.std.proofs.Common.{length, rules, tests}
use Rattle.std.proofs.lemmas.Iterator.{first_from_Range}
use Rattle.ordering.specs.Listed.{places_of}
use Rattle.ordering.specs.Picking.{Next, Picks}
use Rattle.ordering.proofs.Lowest.{lowest_found}
use Rattle.ordering.proofs.picking.Search.pick.Goals as goal

pub returns : goal.returns
returns g c =
    let q = g.Q.Conjunction.literals c.args.self.now.query.now in
    let taken = places_of c.args.self.now.taken in
    record {
      picked = lowest_found {count = length q} c.find.result _ (Picks q taken) c.places.ensures.from c.places.ensures.to (λ all. all) (λ place h next lowest. record { within = h; next = next; lowest = lowest })
          (first_from_Range _ _ _ c.find.result (Next q taken) (λ place. Next q taken place → ⊥) c.find.ensures.ran (λ x q k. search (rules, tests)) (λ x q k. search (rules, tests)));
    }
