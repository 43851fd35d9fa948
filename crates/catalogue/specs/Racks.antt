-- Whether a rack is the one that a catalogue describes.
use Rattle.std.specs.Prelude.{Bool, true, false, ◌&&◌, List, [], ◌∷◌, Some, None, Option}
use Rattle.source.specs.declared.mark.Mark.{Mark}
use Rattle.source.specs.Marks.{same_marks}
use Rattle.source.specs.Meaning.{Meaning}
use Rattle.catalogue.specs.Plain.{PlainColumns}

-- there are these marks
abbrev pub has_marks : Option (List Mark) → List Mark → Bool
has_marks None marks = false
has_marks (Some others) marks = same_marks marks others

-- as many sources, and each has the columns and marks of its line
abbrev pub describes : List PlainColumns → List Meaning → Bool
describes [] [] = true
describes [] (m ∷ ms) = false
describes (c ∷ cs) [] = false
describes (c ∷ cs) (m ∷ ms) = same_marks c.marks m.marks && describes cs ms
