-- Faults by what is known of where they arose.
use Rattle.std.specs.Prelude.{ℕ, ◌+◌, min}
use Rattle.faults.specs.declared.refusal.Refusal.{Refusal}
use Rattle.faults.specs.declared.fault.Fault.{Fault}

-- what stands in a byte field where nothing is known, and what stands in the detail
abbrev pub unknown : ℕ
unknown = 255

abbrev pub unknown_detail : ℕ
unknown_detail = 65535

-- nothing is known but the refusal
abbrev pub bare : Refusal → Fault
bare r = record { refusal = r; layer = unknown; source = unknown; literal = unknown; detail = unknown_detail }

-- the byte place in a text or a file is known; a place past the largest detail is not told
abbrev pub placed : Refusal → ℕ → Fault
placed r place = record { refusal = r; layer = unknown; source = unknown; literal = unknown; detail = min place unknown_detail }

-- the layer is known, counted from the outermost, 0
abbrev pub layered : Refusal → ℕ → Fault
layered r layer = record { refusal = r; layer = layer; source = unknown; literal = unknown; detail = unknown_detail }

-- the place of the literal in its query is known
abbrev pub at_literal : Refusal → ℕ → Fault
at_literal r place = record { refusal = r; layer = unknown; source = unknown; literal = place; detail = unknown_detail }

-- a fault seen from one layer further out; the number of the layer stops at 254
abbrev pub raised : Fault → Fault
raised f = record { refusal = f.refusal; layer = min (f.layer + 1) 254; source = f.source; literal = f.literal; detail = f.detail }

-- a fault of the source of this number in its rack
abbrev pub from_source : ℕ → Fault → Fault
from_source i f = record { refusal = f.refusal; layer = f.layer; source = min i unknown; literal = f.literal; detail = f.detail }

-- a fault of a rack's first source
abbrev pub first_source : Fault → Fault
first_source f = from_source 0 f

-- a fault of a rack, seen from a rack that has one source more in front; an unknown source stays so
abbrev pub next_source : Fault → Fault
next_source f = from_source (f.source + 1) f

-- a refusal of which the source is known
abbrev pub at_source : Refusal → ℕ → Fault
at_source r i = from_source i (bare r)

-- a fault of the literal at this place of its query
abbrev pub from_literal : ℕ → Fault → Fault
from_literal place f = record { refusal = f.refusal; layer = f.layer; source = f.source; literal = place; detail = f.detail }
