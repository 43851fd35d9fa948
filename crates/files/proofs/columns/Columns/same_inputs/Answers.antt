use Rattle.std.proofs.Common.{◌≤◌, length, ◌∙◌, rules, arith}
use borrow.Author.Tests.{tests}
use Rattle.std.proofs.lemmas.Iterator.{YieldsList-from_slice, YieldsList-from_zip}
use Rattle.std.proofs.lemmas.Iterator.Search.{all_from_yields_List}
use Rattle.bounded.proofs.Holding.{length_most}
use Rattle.files.specs.Held.{columns_marks}
use Rattle.files.proofs.Matching.{agrees, agrees_all}
use Rattle.files.proofs.columns.Columns.same_inputs.Goals as goal

pub returns : goal.returns
returns c =
    let marks = columns_marks c.args.self.now in
    let four : length marks ≤ 4 = length_most c.args.self.now.marks in
    let agreeing = agrees_all marks c.args.a.now c.args.b.now (omega arith) (omega arith) in
    all_from_yields_List agrees c.all.new.self _ c.all.result c.all.ensures.ran (YieldsList-from_zip (YieldsList-from_slice marks cc) (YieldsList-from_zip (YieldsList-from_slice c.args.a.now cc) (YieldsList-from_slice c.args.b.now cc))) (λ x b q k. search (rules, tests)) ∙ agreeing
