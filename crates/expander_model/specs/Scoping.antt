-- Rust's textual scope, as tokens show it: definitions in lists of trees, and those that calls
-- make. (The Rust Reference, "Macros By Example", "Scoping, exporting, and importing".)
use Rattle.std.specs.Prelude.{ℕ, zero, suc, Bool, true, false, ◌&&◌, not, List, [], ◌∷◌, ◌++◌, Option, Some, None, is_some, option_map, unwrap_or, find, if◌then◌else◌}
use Rattle.tt_data.specs.Forest.{Forest, size}
use Rattle.tt_data.specs.Walk.{Step, at_leaf, walk}
use Rattle.tt_data.specs.declared.delimiter.Delimiter.{Delimiter}
use Rattle.tt_data.specs.declared.leaf.Ident.{Ident}
use Rattle.tt_data.specs.declared.leaf.Punct.{Punct}
use Rattle.tt_data.specs.declared.span.Span.{Span}
use Rattle.bridge.specs.Text.{is_visible, same_kind}
use Rattle.cfg_options.specs.small_grammar.Text.{same_text}
use Rattle.tt_data.specs.declared.delimiter.DelimiterKind.{DelimiterKind}
use Rattle.tt_data.specs.declared.delimiter.DelimiterKind.TheVariants.{Brace}
use Rattle.tt_data.specs.declared.leaf.Leaf.{Leaf}
use Rattle.expander_model.specs.declared.fault.FaultKind.{FaultKind}
use Rattle.expander_model.specs.declared.fault.FaultKind.TheVariants.{CannotExpand, BrokenDefinition, RecursionLimit}
use Rattle.cfg_options.specs.Options.{options_of}
use Rattle.cfg_options.specs.Strings.{string_text}
use Rattle.cfg_options.specs.declared.options.CfgOptions.{CfgOptions}
use Rattle.expander_model.specs.WholeItems.{is_configured_out}
use Rattle.expander_model.specs.Calls.{Path, bare, from_crate, other, Marked, none, token, inside, call, marked, unmarked, key_of}
use Rattle.expander_model.specs.Definitions.{Definition, definition_of, nearest}
use Rattle.cfg_options.specs.Conditions.{or_else}
use Rattle.expander_model.specs.Expansion.{World, Outcome, CallSite, just, followed_by, grouped, faulted, found, bursting, stays, before_group, whole_call}
use Rattle.expander_model.specs.Pieces.{cut}
use Rattle.expander_model.specs.PieceStates.{after_call, after_group, after_leaf, holds_items, is_at_start, is_dropped}
use Rattle.expander_model.specs.declared.begun.Begun.{Begun}
use Rattle.expander_model.specs.declared.begun.Begun.TheVariants.{Nothing}
use Rattle.expander_model.specs.declared.dialect.Dialect.{Dialect}
use Rattle.expander_model.specs.declared.scope_rules.ScopeRules.{ScopeRules}
use Rattle.expander_model.specs.declared.scope_rules.ScopeRules.TheVariants.{TopLevel, Rust}
use Rattle.expander_model.specs.declared.scope_rules.Standing.{Standing}
use Rattle.expander_model.specs.declared.scope_rules.Standing.TheVariants.{Top, Enclosed, Items, Argument}

-- what is around a list: where it is, the name of the outermost call that gave it or none, and the
-- definitions before it in the lists around it, the nearest first
pub record Around : Type 0 where
  pub standing : Standing
  pub outer : Option Span
  pub locals : List Definition

-- a list with no definition around it
abbrev pub without_locals : Standing → Option Span → Around
without_locals standing outer = record { standing = standing; outer = outer; locals = [] }

-- a result, and what it defines for what follows it in its list, the nearest first
pub record Scoped (D : Type 0) : Type 0 where
  pub outcome : Outcome D
  pub defines : List Definition

-- what searches a list
abbrev pub Search : Type 0 → Type 0
Search D = Around → Forest → Scoped D

-- what comes of a call of a valid definition: whether the call is replaced, and the result
pub record Attempt (D : Type 0) : Type 0 where
  pub replaces : Bool
  pub given : Scoped D

-- what expands such calls
abbrev pub Expander : Type 0 → Type 0
Expander D = D → Around → CallSite → Attempt D

-- the definition that a piece of a list is, or none
abbrev pub definition_in : ScopeRules → Forest → Option Definition
definition_in TopLevel piece = None
definition_in Rust piece = definition_of piece

-- what a piece of a list is: one that conditional compilation leaves out, a definition, or trees
pub data PieceKind : Type 0 where
  out_piece : PieceKind
  definition_piece : Definition → PieceKind
  plain_piece : PieceKind

-- one that is not left out
abbrev pub kind_of : Option Definition → PieceKind
kind_of (Some d) = definition_piece d
kind_of None = plain_piece

-- a definition in a visible group is left out of the output: what could find it was expanded
abbrev pub is_left_out : Standing → Bool
is_left_out Enclosed = true
is_left_out Items = true
is_left_out _ = false

-- a call that fits no rule has no fault: it is in the argument of a call that stays, whose macro may
-- take it for mere tokens
abbrev pub is_excused : Dialect → FaultKind → Standing → Bool
is_excused dialect CannotExpand Argument = dialect.excuses
is_excused dialect kind standing = false

-- a fault at the name of its outermost call, unless it is excused
abbrev pub unless_excused : Bool → FaultKind → Span → List (FaultKind × Span)
unless_excused true kind at = []
unless_excused false kind at = (kind, at) ∷ []

-- a call that stays as it is in such a list, with its fault, unless that is excused
abbrev pub stays_in : {D : Type 0} → Dialect → FaultKind → Around → CallSite → Outcome D
stays_in {D} dialect kind around site =
    let kept : Outcome D = stays kind around.outer site in
    record kept {
      faults = unless_excused (is_excused dialect kind around.standing) kind
          (unwrap_or around.outer site.at);
    }

-- a list of items
abbrev pub is_items : Standing → Bool
is_items Top = true
is_items Items = true
is_items _ = false

-- conditional compilation leaves a piece of a list out, where options are given: but not in the
-- argument of a call that stays
abbrev pub is_out : Option CfgOptions → Standing → Forest → Bool
is_out None standing piece = false
is_out (Some options) Argument piece = false
is_out (Some options) standing piece =
    is_configured_out (options_of options) string_text (is_items standing) piece

-- a definition of a text has this name, and is not left out
abbrev pub is_found : Dialect → Definition → List ℕ → Bool
is_found dialect d name =
    if is_out dialect.cfg Top d.piece then false else same_text d.name.sym name

-- what a name finds among the definitions before, given nearest first
abbrev pub found_in : Dialect → List Definition → List ℕ → Option Definition
found_in dialect before name = find (λ (d : Definition). is_found dialect d name) before

-- what a piece of a list is
abbrev pub kind_in : Dialect → Standing → Forest → PieceKind
kind_in dialect standing piece =
    if is_out dialect.cfg standing piece then out_piece
    else kind_of (definition_in dialect.scope piece)

-- where the list in a visible group is
abbrev pub in_brackets_of : Bool → Standing → Standing
in_brackets_of items Argument = Argument
in_brackets_of true standing = Items
in_brackets_of false standing = Enclosed

-- where the list in a group is, before which so much came of its piece
abbrev pub in_group : Begun → DelimiterKind → Standing → Standing
in_group s k standing =
    if is_visible k then in_brackets_of (holds_items s k) standing else standing

-- a call that stands alone in a list of items, in parentheses or brackets, before which so much
-- came of its piece
abbrev pub is_alone_in : Dialect → Begun → Standing → Delimiter → Bool
is_alone_in dialect s standing d =
    dialect.items && (is_items standing && (is_at_start s && not (same_kind d.kind Brace)))

-- what is around what follows these definitions
abbrev pub behind : List Definition → Around → Around
behind ds around = record around { locals = ds ++ around.locals }

-- a result that defines nothing
abbrev pub only : {D : Type 0} → Outcome D → Scoped D
only o = record { outcome = o; defines = [] }

-- one result after another, the second in the scope of what the first defines
abbrev pub and_next : {D : Type 0} → Scoped D → (Around → Scoped D) → Around → Scoped D
and_next {D} a next around =
    let b : Scoped D = next (behind a.defines around) in
    record { outcome = followed_by a.outcome b.outcome; defines = b.defines ++ a.defines }

-- a result in brackets: what it defines ends with them, if they are visible
abbrev pub in_brackets : {D : Type 0} → Option Span → Delimiter → Scoped D → Scoped D
in_brackets outer d a = record {
  outcome = grouped outer d a.outcome;
  defines = if is_visible d.kind then [] else a.defines;
}

-- a call of these tokens
abbrev pub call_site : Path → Ident → Punct → Delimiter → Forest → CallSite
call_site path name bang d argument = record {
  at = name.span;
  whole = whole_call path name bang d argument;
  argument = argument;
}

-- `local` makes a definition of a list one of `world`; `scope` is what names find outside of lists
module _ {D : Type 0} (dialect : Dialect) (world : World D) (local : Definition → D)
    (scope : List ℕ → Option D) where
  -- a definition enters the scope; where it isn't left out it is printed as it is
  abbrev pub defined : Around → Definition → Scoped D
  defined around d =
      let printed : List Step = if is_left_out around.standing then [] else walk d.piece in
      let shown : Outcome D = just around.outer printed in
      let told : Outcome D = faulted BrokenDefinition (unwrap_or around.outer d.name.span) shown in
      record { outcome = if world.broken (local d) then told else shown; defines = d ∷ [] }

  -- a result that fits is replaced by its own expansion, in the scope of the call, and defines for
  -- what follows the call; if none fits the call stays
  abbrev pub fitted : Search D → Around → CallSite → Option Forest → Scoped D
  fitted search around site None = only (stays_in dialect CannotExpand around site)
  fitted search around site (Some result) =
      search (record around { outer = Some (unwrap_or around.outer site.at) }) result

  -- a call of a valid definition, whose result is searched so
  abbrev pub attempt : Search D → Expander D
  attempt search d around site =
      let a : Scoped D = fitted search around site (world.fit d site.argument) in
      record {
        replaces = is_some (world.fit d site.argument);
        given = record a { outcome = bursting (world.bursts d site.argument) a.outcome };
      }

  -- a call of a valid definition, which `deeper` expands: none if no level is left
  abbrev pub at_level : D → Option (Expander D) → Around → CallSite → Scoped D
  at_level d None around site = only (stays RecursionLimit around.outer site)
  at_level d (Some expand) around site = (expand d around site).given

  -- a call of a definition that is invalid, or is not
  abbrev pub unbroken : D → Bool → Option (Expander D) → Around → CallSite → Scoped D
  unbroken d true deeper around site = only (stays BrokenDefinition around.outer site)
  unbroken d false deeper around site = at_level d deeper around site

  -- a call whose name was looked up; `kept` is the call with only its argument searched
  abbrev pub looked_up : Option D → Option (Expander D) → Around → CallSite → Scoped D → Scoped D
  looked_up None deeper around site kept = kept
  looked_up (Some d) deeper around site kept = unbroken d (world.broken d) deeper around site

  -- a call that finds this definition in a list around it, or else looks its key up outside
  abbrev pub at_key : Option Definition → List ℕ → Option (Expander D) → Around → CallSite
      → Scoped D → Scoped D
  at_key (Some d) key deeper around site kept = looked_up (Some (local d)) deeper around site kept
  at_key None key deeper around site kept =
      let a : Scoped D = looked_up (scope key) deeper around site kept in
      record a { outcome = found key (scope key) a.outcome }

  -- a call by what comes before its name: only a name alone finds what the lists around define
  abbrev pub at_call : Option (Expander D) → Around → Path → Ident → CallSite → Scoped D → Scoped D
  at_call deeper around bare name site kept =
      at_key (nearest around.locals name.sym) name.sym deeper around site kept
  at_call deeper around (from_crate root first second) name site kept =
      at_key None (key_of (from_crate root first second) name) deeper around site kept
  at_call deeper around (other first second) name site kept = kept

  -- a call as it is, with its argument searched: what that defines ends with it
  abbrev pub kept_call : Search D → Around → Path → Ident → Punct → Delimiter → Forest → Scoped D
  kept_call search around path name bang d inner =
      only (followed_by (just around.outer (walk (before_group path name bang)))
      (grouped around.outer d (search (record around { standing = Argument }) inner).outcome))

  -- what a call's name finds: in the lists around it, or else outside
  abbrev pub found_at : Around → Path → Ident → Option D
  found_at around bare name =
      or_else (option_map local (nearest around.locals name.sym)) (scope name.sym)
  found_at around (from_crate root first second) name =
      scope (key_of (from_crate root first second) name)
  found_at around (other first second) name = None

  -- what it finds is valid, a level is left, and a rule fits: then the call is replaced
  abbrev pub is_replaced : Option (Expander D) → Option D → Around → CallSite → Bool
  is_replaced (Some expand) (Some d) around site =
      not (world.broken d) && (expand d around site).replaces
  is_replaced deeper found around site = false

  -- a `;` right behind such a call goes with it, if it is replaced
  abbrev pub takes_end : Option (Expander D) → Begun → Around → Path → Ident → Delimiter → CallSite
      → Bool
  takes_end deeper s around path name d site =
      is_alone_in dialect s around.standing d
      && is_replaced deeper (found_at around path name) around site

  -- a leaf as it is, unless it is a `;` that went with a call
  abbrev pub search_leaf : Begun → Around → Leaf → Scoped D
  search_leaf s around l =
      only (just around.outer (if is_dropped s l then [] else at_leaf l ∷ []))

  -- trees whose calls are marked, from left to right, before which so much came of their piece;
  -- `search` searches what a group holds
  abbrev pub search_trees : Search D → Option (Expander D) → Begun → Around → Marked → Scoped D
  search_trees search deeper s around none = only (just around.outer [])
  search_trees search deeper s around (token l rest) =
      and_next (search_leaf s around l)
      (λ here. search_trees search deeper (after_leaf s l) here rest) around
  search_trees search deeper s around (inside d a rest) =
      let inner : Around = record around { standing = in_group s d.kind around.standing } in
      and_next (in_brackets around.outer d (search inner (unmarked a)))
      (λ here. search_trees search deeper (after_group s d.kind) here rest) around
  search_trees search deeper s around (call path name bang d a rest) =
      let site : CallSite = call_site path name bang d (unmarked a) in
      let gone : Bool = takes_end deeper s around path name d site in
      and_next
      (at_call deeper around path name site (kept_call search around path name bang d (unmarked a)))
      (λ here. search_trees search deeper (after_call gone s d.kind) here rest) around

  -- a piece of a list, by what it is
  abbrev pub search_piece : Search D → Option (Expander D) → Around → Forest → PieceKind
      → Scoped D
  search_piece search deeper around piece out_piece = only (just around.outer [])
  search_piece search deeper around piece (definition_piece d) = defined around d
  search_piece search deeper around piece plain_piece =
      search_trees search deeper Nothing around (marked piece)

  -- the pieces of a list, each in the scope of what those before it define
  abbrev pub search_pieces : Search D → Option (Expander D) → Around → List Forest → Scoped D
  search_pieces search deeper around [] = only (just around.outer [])
  search_pieces search deeper around (p ∷ ps) =
      and_next (search_piece search deeper around p (kind_in dialect around.standing p))
      (λ here. search_pieces search deeper here ps) around

  -- a list whose groups nest less than n deep, as those of any list with fewer than n tokens do
  abbrev pub search_list : Option (Expander D) → ℕ → Search D
  search_list deeper zero around f = only (just around.outer [])
  search_list deeper (suc n) around f =
      search_pieces (search_list deeper n) deeper around (cut f)

  -- the expansion of a list with n levels left
  abbrev pub scoped : ℕ → Search D
  scoped zero around f = search_list None (suc (size f)) around f
  scoped (suc n) around f = search_list (Some (attempt (scoped n))) (suc (size f)) around f
