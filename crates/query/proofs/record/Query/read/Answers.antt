use Rattle.std.proofs.Common.{refl}
use Rattle.std.proofs.lemmas.Result.{err_from_is_err_and}
use Rattle.faults.specs.declared.refusal.Refusal.TheVariants.{HeadVariableMissing}
use Rattle.catalogue.specs.Records.{described}
use Rattle.query.proofs.Answering.{refused_so, missing_so, sound_so, read_so}
use Rattle.query.proofs.record.Query.read.Goals as goal

pub returns-in_err-read : goal.returns-in_err-read
returns-in_err-read c =
    let e = err_from_is_err_and c.from_residual.result c.from_residual.ensures.1 in
    let refused = refused_so c.args.catalogue c.args.text.now c.in_err-read.field-0.0 (c.in_err-read.ensures.read (described c.args.catalogue) c.new-reader.ensures.tied) in
    record { read = rw e.1 (_, _, refused, e.2) }

pub returns-in-Some : goal.returns-in-Some
returns-in-Some c = record {
  read = (
    HeadVariableMissing,
    c.place_of_token-place.result,
    missing_so c.args.catalogue c.args.text.now c.read.new.reader (c.in_ok-read.ensures.read (described c.args.catalogue) c.new-reader.ensures.tied) c.in-Some.i c.place_of_token-place.result c.in-Some.ensures.value c.place_of_token-place.ensures.value,
    c.placed.ensures.value,
  );
}

pub invariant_of-result : goal.invariant_of-result
invariant_of-result c = record { sound = sound_so c.args.catalogue c.args.text.now c.read.new.reader (c.in_ok-read.ensures.read (described c.args.catalogue) c.new-reader.ensures.tied) c.in_default.ensures.value }

pub returns : goal.returns
returns c = record {
  read = read_so c.args.catalogue c.args.text.now c.read.new.reader (c.in_ok-read.ensures.read (described c.args.catalogue) c.new-reader.ensures.tied) c.in_default.ensures.value _ refl refl refl refl;
}
