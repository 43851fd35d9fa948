use Rattle.std.proofs.Common.{length, rules, tests}
use mathlib.Core.List.{Memᴰ}
use Rattle.std.proofs.lemmas.Iterator.{first_from_Range}
use Rattle.ordering.specs.Listed.{places_of}
use Rattle.ordering.specs.Picking.{LowestLeft}
use Rattle.ordering.proofs.Lowest.{lowest_found}
use Rattle.ordering.proofs.picking.Search.lowest_left.Goals as goal

pub returns : goal.returns
returns g c =
    let taken = places_of c.args.self.now.taken in
    let count = length (g.Q.Conjunction.literals c.args.self.now.query.now) in
    record {
      left = lowest_found {count = count} c.find.result _ (LowestLeft count taken) c.places.ensures.from c.places.ensures.to (λ all. all) (λ place h fresh lowest. record { within = h; fresh = fresh; lowest = lowest })
          (first_from_Range _ _ _ c.find.result (λ place. Memᴰ place taken → ⊥) (λ place. Memᴰ place taken) c.find.ensures.ran (λ x q k. search (rules, tests)) (λ x q k. search (rules, tests)));
    }
