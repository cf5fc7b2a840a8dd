-- What the code answers for `${..}` and its parts, in terms of the definitions.
use Rattle.std.specs.Prelude.{ℕ, Bool, if◌then◌else◌, List, map, Option, Some, None, option_map}
use Rattle.std.specs.declared.vec.Vec.{Vec}
use Rattle.std.specs.declared.alloc.Global.{Global}
use Rattle.tt_data.specs.Forest.{Forest}
use Rattle.tt_data.specs.declared.span.Span.{Span}
use Rattle.mbe_rules.specs.Expressions.{with_part, parts_in, part_then, function_of}
use Rattle.mbe_rules.specs.Items.{Part, Dollar, dollar, Items, done, item}
use Rattle.mbe_rules.specs.Ops.{part_of, put_op}
use Rattle.mbe_rules.specs.Trees.{Sign, signs}
use Rattle.mbe_rules.specs.declared.parser.ConcatElement.{ConcatElement}
use Rattle.mbe_rules.specs.declared.parser.Op.{Op}

-- what an op of the code means, as a list of one
abbrev pub meaning : Option Op → Option Items
meaning o = option_map (λ op. put_op op done) o

-- what a `$` with this span begins, as a list of one
abbrev pub standing_at : Span → Option Dollar → Option Items
standing_at s d = option_map (λ x. item (dollar x s) done) d

-- a name and the signs of the trees after it
abbrev pub variable_read : Option (List ℕ × Forest) → Option (List ℕ × List Sign)
variable_read v = option_map (λ (x : List ℕ × Forest). (x.0, signs x.1)) v

-- the function of a name and of arguments, if there is a call
abbrev pub function_called : Option (List ℕ × Forest) → Option Dollar
function_called None = None
function_called (Some x) = function_of x.0 (signs x.1)

-- the parts that the code parsed
abbrev pub parts_of : Option (Vec ConcatElement Global) → Option (List Part)
parts_of v = option_map (λ (es : Vec ConcatElement Global). map part_of es.items) v

-- a part, and the signs after it from a comma on
abbrev pub parts_behind : Option ConcatElement → List Sign → Option (List Part)
parts_behind None ss = None
parts_behind (Some e) ss = part_then (part_of e) ss

-- a part, and the signs after its comma, if it has one
abbrev pub comma_behind : Bool → Part → List Sign → Option (List Part)
comma_behind there p ss = if there then with_part p (parts_in ss) else None

-- a part, and those of the signs after it and its comma
abbrev pub parts_after : Option ConcatElement → List Sign → Option (List Part)
parts_after None ss = None
parts_after (Some e) ss = with_part (part_of e) (parts_in ss)
