use Rattle.std.proofs.Common.{◌≡◌, subst}
use mathlib.Core.Bool.{false≢true}
use Rattle.ordering.specs.Listed.{places_of}
use Rattle.ordering.specs.Literals.{literal_at}
use Rattle.ordering.proofs.Binding.{ready_decided}
use Rattle.ordering.proofs.picking.Search.can_take.Goals as goal

pub returns-then-not-has_taken : goal.returns-then-not-has_taken
returns-then-not-has_taken g c =
    let search = c.args.self.now in
    let q = g.Q.Conjunction.literals search.query.now in
    let marks = subst (λ z. c.marks.result.now ≡ (literal_at q z).marks) c.from-literal.ensures c.marks.ensures.value in
    let terms = subst (λ z. c.terms.result.now ≡ (literal_at q z).terms) c.from-literal.ensures c.terms.ensures.value in
    let ready = ready_decided q (g.met.Q.Conjunction.lawful search.query.now) (places_of search.taken) search.bound.cells c.args.place _ _ c.are_enough.result search.tells marks terms c.are_enough.ensures.ready in
    record {
      next = (
        λ e. record { fresh = λ m. false≢true (c.if-not-has_taken.ensures.taken.1 m); ready = ready.0 e },
        λ n. ready.1 n.ready,
      );
    }
