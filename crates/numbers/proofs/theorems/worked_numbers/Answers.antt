use Rattle.std.proofs.Common.{refl, arith}
use Rattle.numbers.specs.Forms.Form.{last, more}
use Rattle.numbers.proofs.Deciding.{groups, unread}
use Rattle.numbers.proofs.theorems.worked_numbers.Goals as goal

pub returns : goal.returns
unfolding groups
returns c = record {
  worked = record {
    two_bytes = record { small = omega arith; inside = omega arith; form = more (omega arith) (last (omega arith)) };
    not_shortest = unread _ refl;
    largest = record { small = omega arith; inside = omega arith; form = more (omega arith) (more (omega arith) (more (omega arith) (more (omega arith) (last (omega arith))))) };
    too_large = unread _ refl;
  };
}
