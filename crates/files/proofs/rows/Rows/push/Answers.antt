use Rattle.std.proofs.Common.{◌≡◌, ◌++◌, [], ◌∷◌, length, take, sym, ◌∙◌, arith}
use Rattle.std.proofs.lemmas.List.{length-map}
use Rattle.bounded.specs.Held.{held}
use Rattle.bounded.proofs.Holding.{pushed, length_most}
use Rattle.files.specs.Held.{columns_marks}
use Rattle.files.proofs.Pushing.{push_whole, push_ascends}
use Rattle.files.proofs.rows.Rows.push.Goals as goal

pub invariant_of-self : goal.invariant_of-self
invariant_of-self c =
    let self = c.args.self.now in
    let marks = columns_marks self.columns in
    let more : held c.push.new.self ≡ held self.cells ++ c.args.row.now ∷ [] = pushed self.cells c.push.new.self c.args.row.now c.push.result c.push.ensures.room c.push.ensures.items (omega (arith, c.requires.room, length-map (held self.cells) (take (length marks)))) in
    let four = length_most self.columns.marks in
    record {
      whole = rw more (push_whole marks (held self.cells) c.args.row.now (omega arith) (λ i. omega (arith, c.fits-row i)) self.whole);
      ascends = rw more (push_ascends marks (held self.cells) c.args.row.now (sym c.admits.ensures ∙ c.if-admits.true));
    }
