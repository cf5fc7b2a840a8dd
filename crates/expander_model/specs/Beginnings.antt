-- What a list of trees begins with, as a search for calls sees it.
use Rattle.std.specs.Prelude.{◌≡◌, Some, None}
use Rattle.tt_data.specs.Forest.{Forest, leaf}
use Rattle.tt_data.specs.Lent.{leaf_lent}
use Rattle.expander_model.specs.CallSteps.{call_at, call_behind_colons}
use Rattle.expander_model.specs.declared.call.Beginning.{Beginning}
use Rattle.expander_model.specs.declared.call.Beginning.TheVariants as beginning

-- the list begins with this: a call; what would be one but for the `::` before it; or neither, and
-- then the leaf that it says, if it says one
abbrev pub IsBeginning : Forest → Beginning → Type 0
IsBeginning f (beginning.Call call) = call_at f ≡ Some call
IsBeginning f (beginning.BehindColons call) =
    (call_at f ≡ None) × (call_behind_colons f ≡ Some call)
IsBeginning f (beginning.Leaf l rest) = (call_at f ≡ None) × (call_behind_colons f ≡ None)
    × (f ≡ leaf (leaf_lent l) rest)
IsBeginning f beginning.Other = (call_at f ≡ None) × (call_behind_colons f ≡ None)
