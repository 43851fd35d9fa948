use Rattle.std.proofs.Common.{take, vec_items, rules, tests}
use Rattle.std.proofs.lemmas.Iterator.{YieldsList-from_slice, YieldsList-from_take}
use Rattle.std.proofs.lemmas.Iterator.Search.{find_from_yields_List}
use Rattle.layers.specs.Memory.{kept, is_for}
use Rattle.layers.proofs.Finding.{recalled_by_entry}
use Rattle.layers.proofs.table.Table.recall.Goals as goal

pub returns : goal.returns
returns c =
    recalled_by_entry c.args.marks.now c.args.inputs.now (take c.args.self.now.used (vec_items c.args.self.now.entries)) c.find.result
    (find_from_yields_List (λ e. is_for (kept e) c.args.marks.now c.args.inputs.now) _ _ c.find.result c.find.ensures.ran (YieldsList-from_take c.args.self.now.used (YieldsList-from_slice (vec_items c.args.self.now.entries) (cc)) c.take.ensures.count) (λ x b q k. search (rules, tests)))
