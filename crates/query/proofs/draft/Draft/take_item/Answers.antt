use Rattle.query.proofs.Taking.{with_term}
use Rattle.query.proofs.draft.Draft.take_item.Goals as goal

pub returns-in_ok-term-in-Literal : goal.returns-in_ok-term-in-Literal
returns-in_ok-term-in-Literal c = record {
  taken = λ cat p s.
      let taken = c.in_ok-term-in-Literal.ensures.taken cat p (rw c.in-Literal.is at s) in
      (taken.0, with_term c.push.new.self c.push.result c.push.ensures.room c.push.ensures.items taken.1);
}
