use Rattle.std.proofs.Common.{rules, ◌≡◌, Some, Less, Equal, take}
use Rattle.listing.proofs.Searching.{compared_first, first_behind, first_found}
use Rattle.listing.proofs.find_spot.Goals as goal

pub returns-in-Some-Less : goal.returns-in-Some-Less
returns-in-Some-Less c =
    let compared : compared_first (take c.args.count c.as_chunks.result.0.now) c.args.answer.now ≡ Some Less = search rules in
    record { value = first_behind c.args.count c.args.memory.now c.args.answer.now c.as_chunks.result.0.now c.requires.room c.as_chunks.ensures.front compared }

pub returns-in-Some-Equal : goal.returns-in-Some-Equal
returns-in-Some-Equal c =
    let compared : compared_first (take c.args.count c.as_chunks.result.0.now) c.args.answer.now ≡ Some Equal = search rules in
    record { value = first_found c.args.count c.args.memory.now c.args.answer.now c.as_chunks.result.0.now c.requires.room c.as_chunks.ensures.front compared }
