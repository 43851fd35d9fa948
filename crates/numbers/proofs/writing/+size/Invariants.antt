use Rattle.numbers.proofs.writing.+size.Given as goal

abbrev pub decreases-size : goal.decreases-size
decreases-size l = l.value
