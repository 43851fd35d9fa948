use Rattle.std.proofs.Common.{[], ◌∷◌, refl, arith}
use Rattle.source.specs.declared.mark.Mark.TheVariants.{Given, Free}
use Rattle.numbers.specs.Forms.{encode_in, encodes}
use Rattle.files.proofs.Matching.{matching_few}
use Rattle.files.proofs.theorems.worked_file.Goals as goal

pub returns : goal.returns
unfolding encode_in encodes
returns c = record {
  worked = record {
    storable = record {
      header = record { some_column = omega arith; four_columns = omega arith; three_given = omega arith; few_rows = omega arith };
      rows_whole = refl;
      ascends = refl;
      few_match = λ inputs. omega (arith, matching_few (Given ∷ Free ∷ []) inputs ((2001 ∷ 5 ∷ []) ∷ []));
    };
    bytes_are = refl;
  };
}
