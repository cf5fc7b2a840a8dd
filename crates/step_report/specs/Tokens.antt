-- JSON values that tell of trees. (RFC 8259; of this project: the members.)
use Rattle.std.specs.Prelude.{ℕ, List, [], ◌∷◌, ◌++◌, codes}
use Rattle.tt_data.specs.Forest.{Forest}
use Rattle.tt_data.specs.Walk.{walk}
use Rattle.tt_data.specs.declared.span.Span.{Span}
use Rattle.serde_json.specs.Data.{Data, string, object, member, no_members}
use Rattle.bridge.specs.Printing.{Print, print_of}
use Rattle.call_json.specs.Places.{numbers}

-- where tokens come from, three numbers for each: a text, and where it starts and ends there
abbrev pub numbers_of : Span → List ℕ
numbers_of s = s.anchor ∷ s.range.start ∷ s.range.«end» ∷ []

abbrev pub span_numbers : List Span → List ℕ
span_numbers [] = []
span_numbers (s ∷ ss) = numbers_of s ++ span_numbers ss

abbrev pub printed : Print → Data
printed p = object (member (codes "origins") (numbers (span_numbers p.tokens))
    (member (codes "text") (string p.text) no_members))

-- trees, printed alone
abbrev pub trees : Forest → Data
trees f = printed (print_of (walk f))
