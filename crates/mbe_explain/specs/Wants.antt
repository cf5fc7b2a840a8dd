-- What the wants of the code are.
use Rattle.std.specs.Prelude.{List, [], ◌∷◌, map, Option, Some, None}
use Rattle.mbe_rules.specs.Items.{done}
use Rattle.mbe_rules.specs.Ops.{put_op, separator_of}
use Rattle.mbe_explain.specs.Stops as s
use Rattle.mbe_explain.specs.declared.wanted.Wanted.{Wanted}
use Rattle.mbe_explain.specs.declared.wanted.Wanted.TheVariants.{Close, End, Op, Separator}

-- what is wanted; none if it is a repetition
abbrev pub want_of : Wanted → Option s.Wanted
want_of (Op o) = s.wanted_first (put_op o.now done)
want_of (Separator sep) = Some (s.wants_separator (separator_of sep.now))
want_of Close = Some s.wants_close
want_of End = Some s.wants_end

-- what is wanted, if anything
abbrev pub want_in : Option Wanted → Option s.Wanted
want_in None = None
want_in (Some w) = want_of w

-- all that is wanted
abbrev pub wants_of : List Wanted → List (Option s.Wanted)
wants_of ws = map want_of ws

-- what a state tells
abbrev pub told_by : Option Wanted → List (Option s.Wanted)
told_by None = []
told_by (Some w) = want_of w ∷ []
