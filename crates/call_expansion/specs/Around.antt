-- The calls of a list of trees, and those whose bytes contain a byte. (Of this project.)
use Rattle.std.specs.Prelude.{ℕ, List, [], ◌∷◌, ◌++◌, Bool, ◌&&◌, filter, leb, ltb}
use Rattle.tt_data.specs.Forest.{Forest}
use Rattle.tt_data.specs.declared.delimiter.Delimiter.{Delimiter}
use Rattle.tt_data.specs.declared.leaf.Ident.{Ident}
use Rattle.expander_model.specs.Calls.{Path, from_crate, other, Marked, none, token, inside, call}
use Rattle.expander_model.specs.Calls.{marked}
use Rattle.call_expansion.specs.declared.around.CallPlace.{CallPlace}

-- the offset at which a call begins: that of its path, or else of its name
abbrev pub begin_of : Path → Ident → ℕ
begin_of (from_crate crate first second) name = crate.span.range.start
begin_of _ name = name.span.range.start

-- where a call is written: its name, and its bytes to right behind its closing bracket
abbrev pub place_of : Path → Ident → Delimiter → CallPlace
place_of path name d = record {
  name = name.span.range;
  range = record { start = begin_of path name; «end» = d.close_span.range.«end» };
}

-- the calls of trees from left to right, each before those in its argument
abbrev pub calls_in : Marked → List CallPlace
calls_in none = []
calls_in (token l rest) = calls_in rest
calls_in (inside d a rest) = calls_in a ++ calls_in rest
calls_in (call (other first second) name bang d a rest) = calls_in a ++ calls_in rest
calls_in (call path name bang d a rest) = place_of path name d ∷ (calls_in a ++ calls_in rest)

-- the bytes of a call contain this one
abbrev pub contains : ℕ → CallPlace → Bool
contains at c = leb c.range.start at && ltb at c.range.«end»

-- the calls around a byte, the outermost first
abbrev pub calls_around : ℕ → Forest → List CallPlace
calls_around at f = filter (contains at) (calls_in (marked f))
