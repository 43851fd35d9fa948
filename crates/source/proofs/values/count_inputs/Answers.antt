use Rattle.std.proofs.Common.{rules, ◌<◌, ◌∙◌, length, arith}
use Rattle.std.proofs.lemmas.Iterator.{YieldsList-from_slice, YieldsList-from_map}
use Rattle.std.proofs.lemmas.Iterator.Consumers.{sum_by_from_yields_List, fits_by_from_yields_list}
use Rattle.source.proofs.Columns.{one_if_given, given_summed, inputs_of_most}
use Rattle.source.proofs.values.count_inputs.Goals as goal

-- there are at most as many inputs as columns, and a list of columns is shorter than 2^64
pub sum-requires-clause-fits : goal.sum-requires-clause-fits
sum-requires-clause-fits c =
    let long : length c.args.marks.now < 18446744073709551616 = search rules in
    fits_by_from_yields_list one_if_given c.args.marks.now c.map.result _ (YieldsList-from_map _ one_if_given (YieldsList-from_slice c.args.marks.now cc) c.map.ensures.closure (λ x r q k. search rules)) (omega (arith, long, given_summed c.args.marks.now, inputs_of_most c.args.marks.now))

pub returns : goal.returns
returns c = record { value = sum_by_from_yields_List one_if_given c.args.marks.now c.map.result _ c.sum.ensures.ran (YieldsList-from_map _ one_if_given (YieldsList-from_slice c.args.marks.now cc) c.map.ensures.closure (λ x r q k. search rules)) ∙ given_summed c.args.marks.now }
