-- A list begins with a call exactly if its marked form begins with that call.
use Rattle.std.proofs.Common.{◌≡◌, refl, sym, ap, ◌∙◌, true, false}
use Rattle.std.specs.Prelude.{Option, Some, None}
use Rattle.tt_data.specs.Forest.{Forest, empty, leaf, group}
use Rattle.tt_data.specs.declared.delimiter.Delimiter.{Delimiter}
use Rattle.tt_data.specs.declared.leaf.Ident.{Ident}
use Rattle.tt_data.specs.declared.leaf.Leaf.{Leaf}
use Rattle.tt_data.specs.declared.leaf.Punct.{Punct}
use Rattle.expander_model.specs.declared.call.Call.{Call}
use Rattle.expander_model.specs.CallSteps.{bare_call, call_behind_colons, crate_call, call_at, first_call}
use Rattle.expander_model.specs.Calls.{Path, bare, from_crate, other, Marked, call, marked, unmarked}
use Rattle.expander_scope.proofs.CallLemmas.{no_call}
use Rattle.expander_scope.proofs.MarkLemmas.{unmarked-marked}
use Rattle.expander_scope.proofs.TurnLemmas.{is_open, IsCall, neither, call_is_call, colons_is_call}

first_open : (path : Path) (name : Ident) (bang : Punct) (d : Delimiter) (a rest : Marked) → is_open path ≡ true
    → first_call (call path name bang d a rest)
    ≡ Some (record { name = name; from_group = group d (unmarked a) (unmarked rest); argument = unmarked a; rest = unmarked rest })
first_open bare name bang d a rest e = refl
first_open (from_crate crate p q) name bang d a rest e = refl
first_open (other p q) name bang d a rest e = cc

first_other : (path : Path) (name : Ident) (bang : Punct) (d : Delimiter) (a rest : Marked) → is_open path ≡ false → first_call (call path name bang d a rest) ≡ None
first_other bare name bang d a rest e = cc
first_other (from_crate crate p q) name bang d a rest e = cc
first_other (other p q) name bang d a rest e = refl

some_first : (f : Forest) (c : Call) → IsCall f c true → first_call (marked f) ≡ Some c
some_first f c k =
    ap first_call k.marks
    ∙ first_open k.path c.name k.bang k.brackets (marked c.argument) (marked c.rest) k.is_so
    ∙ ap (λ a. Some (record { name = c.name; from_group = group k.brackets a (unmarked (marked c.rest)); argument = a; rest = unmarked (marked c.rest) })) (unmarked-marked c.argument)
    ∙ ap (λ g. Some (record { name = c.name; from_group = group k.brackets c.argument g; argument = c.argument; rest = g })) (unmarked-marked c.rest)
    ∙ ap (λ g. Some (record { name = c.name; from_group = g; argument = c.argument; rest = c.rest })) (sym k.group_is)

colons_first : (f : Forest) (c : Call) → IsCall f c false → first_call (marked f) ≡ None
colons_first f c k = ap first_call k.marks ∙ first_other k.path c.name k.bang k.brackets (marked c.argument) (marked c.rest) k.is_so

leaf_first : (l : Leaf) (rest : Forest) (o : Option Call) → call_at (leaf l rest) ≡ None → call_behind_colons (leaf l rest) ≡ o → first_call (marked (leaf l rest)) ≡ None
leaf_first l rest (Some c) none_here e = colons_first (leaf l rest) c (colons_is_call (leaf l rest) c e)
leaf_first l rest None none_here e =
    let both = neither (crate_call (leaf l rest)) (bare_call (leaf l rest)) none_here in ap first_call (no_call l rest both.0 both.1 e)

none_first : (f : Forest) → call_at f ≡ None → first_call (marked f) ≡ None
none_first empty e = refl
none_first (leaf l rest) e = leaf_first l rest (call_behind_colons (leaf l rest)) e refl
none_first (group d inner rest) e = refl

first_is : (f : Forest) (o : Option Call) → call_at f ≡ o → o ≡ first_call (marked f)
first_is f (Some c) e = sym (some_first f c (call_is_call f c e))
first_is f None e = sym (none_first f e)

pub first_call_is : (f : Forest) → call_at f ≡ first_call (marked f)
first_call_is f = first_is f (call_at f) refl
