-- A call, read from left to right.
use Rattle.std.specs.Prelude.{ℕ, List, Option, Some, None}
use Rattle.tt_data.specs.Forest.{Forest, group}
use Rattle.tt_data.specs.declared.leaf.Ident.{Ident}
use Rattle.expander_model.specs.declared.call.Call.{Call}
use Rattle.expander_model.specs.Calls.{other, Marked, call, unmarked, is_colons, is_foreign, is_root, key_behind}
use Rattle.cfg_options.specs.Conditions.{or_else}
use Rattle.cfg_options.specs.small_grammar.Text.{◌>>=◌, ◌>>◌}
use Rattle.tt.specs.FirstTrees.{first_ident, first_punct, first_group}
use Rattle.bridge.specs.Text.{is_char, is_visible}

-- a visible group, after a name and its `!`
abbrev pub group_call : Ident → Forest → Option Call
group_call name f = do
  (brackets, argument, rest) ← first_group f
  is_visible brackets.kind
  Some (record { name = name; from_group = f; argument = argument; rest = rest })

-- a name, `!` and a visible group
abbrev pub bare_call : Forest → Option Call
bare_call f = do
  (name, after_name) ← first_ident f
  (bang, after_bang) ← first_punct after_name
  is_char "!" bang
  (brackets, argument, rest) ← first_group after_bang
  is_visible brackets.kind
  Some (record { name = name; from_group = after_bang; argument = argument; rest = rest })

-- what would be a call, but for the `::` before it
abbrev pub call_behind_colons : Forest → Option Call
call_behind_colons f = do
  (first, after_first) ← first_punct f
  (second, after_colons) ← first_punct after_first
  is_colons first second
  bare_call after_colons

-- a call with its `$crate ::`, or the root of another crate and `::`
abbrev pub crate_call : Forest → Option Call
crate_call f = do
  (name, after_name) ← first_ident f
  is_root name
  call_behind_colons after_name

-- the call whose name comes before a list: `!` and a visible group, or after the root of a crate a
-- `::` and a call
abbrev pub call_after : Ident → Forest → Option Call
call_after name f = or_else
    (is_root name >> call_behind_colons f)
    (do
      (bang, after_bang) ← first_punct f
      is_char "!" bang
      group_call name after_bang)

-- the call that a list begins with
abbrev pub call_at : Forest → Option Call
call_at f = or_else (crate_call f) (bare_call f)

-- the root of another crate, before the `::` of the call that a list begins with
abbrev pub foreign_root : Forest → Option Ident
foreign_root f = do
  (root, after_root) ← first_ident f
  is_foreign root
  behind ← call_behind_colons after_root
  Some root

abbrev pub key_with : Option Ident → Ident → List ℕ
key_with None name = name.sym
key_with (Some root) name = key_behind root.sym name.sym

-- what the call that a list begins with is looked up by
abbrev pub key_at : Forest → Call → List ℕ
key_at f c = key_with (foreign_root f) c.name

-- the call that a list begins with, by its marks
abbrev pub first_call : Marked → Option Call
first_call (call (other first second) name bang d a rest) = None
first_call (call path name bang d a rest) =
    Some (record {
      name = name;
      from_group = group d (unmarked a) (unmarked rest);
      argument = unmarked a;
      rest = unmarked rest;
    })
first_call _ = None
