use Rattle.std.proofs.Common.{◌≡◌, rules, tests}
use Rattle.std.proofs.lemmas.Iterator.{cases_from_all, YieldsList-from_slice, YieldsList-from_zip}
use Rattle.source.specs.declared.mark.Mark.TheVariants.{Given}
use Rattle.ordering.specs.Picking.{SetIn}
use Rattle.ordering.proofs.Binding.{all_set}
use Rattle.ordering.proofs.bound_variables.BoundVariables.are_enough.Goals as goal

pub returns : goal.returns
returns c =
    let bound = c.args.self.now.cells in
    record {
      ready = all_set bound c.args.marks.now c.args.terms.now c.all.result (cases_from_all c.all.new.self _ _ (λ p. p.0 ≡ Given → SetIn bound p.1) (λ p. (p.0 ≡ Given) × (SetIn bound p.1 → ⊥)) c.all.ensures.ran (YieldsList-from_zip (YieldsList-from_slice c.args.marks.now cc) (YieldsList-from_slice c.args.terms.now cc)) (λ x q k. search (rules, tests)) (λ x q k. search (rules, tests)));
    }
