-- JSON values that tell how the rules of a definition stop at a call. (Of this project.)
use Rattle.std.specs.Prelude.{ℕ, ◌+◌, ◌-◌, ◌^◌, List, map, min, codes, Option, Some, None, is_some}
use Rattle.std.specs.Prelude.{not}
use Rattle.tt_data.specs.declared.leaf.Ident.{Ident}
use Rattle.tt_data.specs.declared.span.TextRange.{TextRange}
use Rattle.serde_json.specs.Data.{Data, null, boolean, string, array, object, member, no_members}
use Rattle.serde_json.specs.View.{items_of}
use Rattle.mbe_rules.specs.declared.parser.Op as op
use Rattle.mbe_explain.specs.Words.{words_of}
use Rattle.mbe_explain.specs.declared.explain.StopKind.{StopKind}
use Rattle.mbe_explain.specs.declared.explain.StopKind.TheVariants as stops
use Rattle.mbe_explain.specs.declared.rules.RuleStop.{RuleStop}
use Rattle.mbe_explain.specs.declared.wanted.Wanted.{Wanted}
use Rattle.mbe_explain.specs.declared.wanted.Wanted.TheVariants as wants
use Rattle.call_messages.specs.expander_model.declared.call.Call.{Call}
use Rattle.call_messages.specs.Places.{wanted_range}
use Rattle.call_messages.specs.Units.{stop_range}
use Rattle.call_json.specs.Places.{count, place}

-- a place, if there is one
abbrev pub place_if : List ℕ → Option TextRange → Data
place_if text None = null
place_if text (Some range) = place text range

-- ---- what is wanted

-- the sort of an op
abbrev pub op_sort : op.Op → List ℕ
op_sort (op.Var name kind id) = codes "fragment"
op_sort (op.Subtree' shape row d) = codes "group"
op_sort _ = codes "token"

-- the sort of what is wanted
abbrev pub sort : Wanted → List ℕ
sort (wants.Op o) = op_sort o.now
sort (wants.Separator s) = codes "separator"
sort wants.Close = codes "close"
sort wants.End = codes "end"

-- what is wanted: where it stands in the definition, of which sort it is, and in words
abbrev pub want : List ℕ → Wanted → Data
want text w =
    object (member (codes "at") (place_if text (wanted_range text w))
    (member (codes "what") (string (sort w))
    (member (codes "words") (string (words_of w)) no_members)))

-- ---- rules

abbrev pub stop_name : StopKind → List ℕ
stop_name stops.Matches = codes "Matches"
stop_name stops.Unread = codes "Unread"
stop_name stops.Ambiguous = codes "Ambiguous"
stop_name stops.TwoReadings = codes "TwoReadings"

-- the number of the rule of an index: one more, if that fits into 64 bits
abbrev pub number_of : ℕ → ℕ
number_of index = min (index + 1) (2 ^ 64 - 1)

-- a rule: where it stops, whether the argument ends there, its number, how it stops, and what it
-- wants there
abbrev pub rule : List ℕ → Call → RuleStop → Data
rule text call s =
    object (member (codes "at") (place text (stop_range call s))
    (member (codes "at_end") (boolean (not (is_some s.stop.at)))
    (member (codes "rule") (count (number_of s.index))
    (member (codes "stop") (string (stop_name s.stop.kind))
    (member (codes "wants") (array (items_of (map (want text) s.stop.wanted.items)))
    no_members)))))

abbrev pub all_rules : List ℕ → Call → List RuleStop → Data
all_rules text call ss = array (items_of (map (rule text call) ss))

-- a name, and where it stands
abbrev pub name : List ℕ → Ident → Data
name text n =
    object (member (codes "at") (place text n.span.range)
    (member (codes "name") (string n.sym) no_members))
