use Rattle.std.proofs.lemmas.Result.{err_from_is_err_and}
use Rattle.lexing.proofs.Course.{refused_read}
use Rattle.catalogue.specs.Sheets.{sheets}
use Rattle.catalogue.specs.Reading.{steps}
use Rattle.catalogue.proofs.Laws.{lawful}
use Rattle.catalogue.proofs.Answering.{whole_read, some_read, shaped_read}
use Rattle.catalogue.proofs.record.Catalogue.read.Goals as goal

pub returns-in_err-read : goal.returns-in_err-read
returns-in_err-read c =
    let p = err_from_is_err_and c.from_residual.result c.from_residual.ensures.1 in
    record { read = rw p.1 (_, _, refused_read sheets steps lawful c.args.text.now c.in_err-read.field-0.0 (c.in_err-read.ensures.read tt c.new-reader.ensures.tied), p.2) }

pub invariant_of-result : goal.invariant_of-result
invariant_of-result c =
    let h = c.in_ok-read.ensures.read tt c.new-reader.ensures.tied in
    record { some = some_read c.args.text.now c.read.new.reader h; shaped = shaped_read c.args.text.now c.read.new.reader h }

pub returns : goal.returns
returns c =
    let w = whole_read c.args.text.now c.read.new.reader (c.in_ok-read.ensures.read tt c.new-reader.ensures.tied) in
    record { read = (w.lines_are, w.accepted, record { kinds = w.seen.kinds; names = w.seen.sources; columns = w.seen.lines }) }
