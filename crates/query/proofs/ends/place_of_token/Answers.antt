use Rattle.std.proofs.Common.{not, ap, ◌∙◌, rules, tests}
use Rattle.std.specs.Iterator.Adapters.{filter_source, filter_callee}
use Rattle.std.proofs.lemmas.Iterator.{YieldsList-from_map}
use Rattle.std.proofs.lemmas.Iterator.Consumers.{YieldsList-from_first, YieldsList-from_filter, nth_from_yields_List}
use Rattle.lexing.specs.Left.{placed_token, tokens_left}
use Rattle.lexing.specs.Tokens.{Placed, is_blank_token}
use Rattle.query.proofs.Placing.{place_found}
use Rattle.query.proofs.ends.place_of_token.Goals as goal

pub returns : goal.returns
returns c =
    let nth = nth_from_yields_List c.nth.result c.nth.new.self c.args.number c.nth.ensures.ran (YieldsList-from_map _ (λ (t : Placed). t.place) (YieldsList-from_filter _ (λ (t : Placed). not (is_blank_token t.token)) (YieldsList-from_first placed_token tokens_left _ (ap (λ z. tokens_left (filter_source z)) c.map.ensures.source ∙ ap tokens_left c.filter.ensures.source ∙ c.new.ensures.all)) (ap filter_callee c.map.ensures.source ∙ c.filter.ensures.closure) (λ x b q k. search (rules, tests))) c.map.ensures.closure (λ x r q k. search (rules, tests))) in
    record { value = c.unwrap_or.ensures ∙ place_found c.args.text.now c.args.number c.nth.result nth }
