-- The calls of a list of trees: a name, `!` and a visible group. (The Rust Reference, "Macros".)
use Rattle.std.specs.Prelude.{ℕ, List, Bool, ◌&&◌, ◌||◌, ◌++◌, not, codes, nat_eq, if◌then◌else◌}
use Rattle.std.specs.List.{starts_with}
use Rattle.tt_data.specs.Forest.{Forest, empty, leaf, group}
use Rattle.tt_data.specs.declared.delimiter.Delimiter.{Delimiter}
use Rattle.tt_data.specs.declared.leaf.Ident.{Ident}
use Rattle.tt_data.specs.declared.leaf.Leaf.{Leaf}
use Rattle.tt_data.specs.declared.leaf.Leaf.TheVariants as as_leaf
use Rattle.tt_data.specs.declared.leaf.Punct.{Punct}
use Rattle.tt.specs.Glued.{is_alone}
use Rattle.bridge.specs.Spelling.{root_mark}
use Rattle.bridge.specs.Text.{is_visible, is_char}
use Rattle.cfg_options.specs.small_grammar.Text.{same_text}

-- what comes before a name that `!` and a visible group follow: nothing that counts; `$crate ::` or
-- the root of another crate and `::`, which belong to the call; or another `::`, after which there
-- is no call
pub data Path : Type 0 where
  bare : Path
  from_crate : Ident → Punct → Punct → Path
  other : Punct → Punct → Path

-- a forest with its calls marked: path, name, `!`, brackets, what they hold, the rest
pub data Marked : Type 0 where
  none : Marked
  token : Leaf → Marked → Marked
  inside : Delimiter → Marked → Marked → Marked
  call : Path → Ident → Punct → Delimiter → Marked → Marked → Marked

-- `::`: two colons, the first joined to what follows
abbrev pub is_colons : Punct → Punct → Bool
is_colons first second = is_char ":" first && (is_char ":" second && not (is_alone first.spacing))

-- an identifier that stands for the root of another crate, as `$crate:std`
abbrev pub is_foreign : Ident → Bool
is_foreign name = starts_with nat_eq name.sym root_mark

-- an identifier that stands for the root of a crate
abbrev pub is_root : Ident → Bool
is_root name = same_text name.sym (codes "$crate") || is_foreign name

abbrev pub is_bang_group : Punct → Delimiter → Bool
is_bang_group bang brackets = is_char "!" bang && is_visible brackets.kind

-- a leaf before a forest whose calls are marked
abbrev pub mark_leaf : Leaf → Marked → Marked
mark_leaf (as_leaf.Ident name) (token (as_leaf.Punct bang) (inside brackets argument rest)) =
    if is_bang_group bang brackets then call bare name bang brackets argument rest
    else token (as_leaf.Ident name) (token (as_leaf.Punct bang) (inside brackets argument rest))
mark_leaf (as_leaf.Punct first)
    (token (as_leaf.Punct second) (call bare name bang brackets argument rest)) =
    if is_colons first second then call (other first second) name bang brackets argument rest
    else token (as_leaf.Punct first)
    (token (as_leaf.Punct second) (call bare name bang brackets argument rest))
mark_leaf (as_leaf.Ident crate) (call (other first second) name bang brackets argument rest) =
    if is_root crate then call (from_crate crate first second) name bang brackets argument rest
    else token (as_leaf.Ident crate) (call (other first second) name bang brackets argument rest)
mark_leaf front rest = token front rest

-- a forest with its calls marked, inside its groups too
abbrev pub marked : Forest → Marked
marked empty = none
marked (leaf l rest) = mark_leaf l (marked rest)
marked (group d inner rest) = inside d (marked inner) (marked rest)

-- what a name is looked up by behind the root of another crate: `$crate:std::print`
abbrev pub key_behind : List ℕ → List ℕ → List ℕ
key_behind root name = root ++ (codes "::" ++ name)

-- what a call is looked up by: its name, or behind the root of another crate the name with the root
abbrev pub key_of : Path → Ident → List ℕ
key_of (from_crate root first second) name =
    if is_foreign root then key_behind root.sym name.sym else name.sym
key_of _ name = name.sym

-- a path's tokens before a forest
abbrev pub in_front : Path → Forest → Forest
in_front bare f = f
in_front (from_crate crate first second) f =
    leaf (as_leaf.Ident crate) (leaf (as_leaf.Punct first) (leaf (as_leaf.Punct second) f))
in_front (other first second) f = leaf (as_leaf.Punct first) (leaf (as_leaf.Punct second) f)

-- a forest with the marks of its calls removed
abbrev pub unmarked : Marked → Forest
unmarked none = empty
unmarked (token l m) = leaf l (unmarked m)
unmarked (inside d a m) = group d (unmarked a) (unmarked m)
unmarked (call path name bang d a m) =
    in_front path (leaf (as_leaf.Ident name)
    (leaf (as_leaf.Punct bang) (group d (unmarked a) (unmarked m))))
