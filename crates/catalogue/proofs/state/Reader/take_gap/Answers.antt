use Rattle.std.proofs.Common.{sym, ◌∙◌}
use Rattle.catalogue.proofs.Taking.{goes_on, ends_line}
use Rattle.catalogue.proofs.state.Reader.take_gap.Goals as goal

pub returns-then-is_byte : goal.returns-then-is_byte
returns-then-is_byte c = record { taken = λ ls n cs behind. goes_on c.args.self.now c.args.token.now ls n cs behind (sym c.if-is_byte.ensures.value) }

pub returns : goal.returns
returns c = record {
  taken = λ ls n cs behind. ends_line c.args.self.now c.args.token.now ls n cs behind (sym c.if-is_byte.ensures.value) (sym c.if-not-is_byte.ensures.value) (λ e. c.if-len-eq0.false (c.len.ensures.value ∙ e)) c.push.new.self c.push.result c.push.ensures.room c.push.ensures.items;
}
