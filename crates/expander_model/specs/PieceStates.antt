-- How a piece goes on: what came of it so far, as far as its end and what it is depend on it.
use Rattle.std.specs.Prelude.{Bool, true, false, ◌||◌, codes, if◌then◌else◌}
use Rattle.tt_data.specs.declared.delimiter.DelimiterKind.{DelimiterKind}
use Rattle.tt_data.specs.declared.delimiter.DelimiterKind.TheVariants.{Parenthesis, Brace, Bracket}
use Rattle.tt_data.specs.declared.leaf.Ident.{Ident}
use Rattle.tt_data.specs.declared.leaf.Leaf.{Leaf}
use Rattle.tt_data.specs.declared.leaf.Leaf.TheVariants as as_leaf
use Rattle.tt_data.specs.declared.leaf.Punct.{Punct}
use Rattle.bridge.specs.Text.{is_char}
use Rattle.cfg_options.specs.small_grammar.Text.{has_text}
use Rattle.expander_model.specs.declared.begun.Begun.{Begun}
use Rattle.expander_model.specs.declared.begun.Begun.TheVariants.{Nothing, Pound, PoundBang, Attributes, AttributesPound, Visible, Qualified, Item, Extern, Abi, Gone, Other}

-- what came of a piece that goes on with this punct
abbrev pub begun_with : Begun → Punct → Begun
begun_with Nothing p = if is_char "#" p then Pound else Other
begun_with Attributes p = if is_char "#" p then AttributesPound else Other
begun_with Pound p = if is_char "!" p then PoundBang else Other
begun_with Item p = Item
begun_with _ p = Other

-- what came of the present piece once a punct follows: a `;` ends it
abbrev pub after_punct : Begun → Punct → Begun
after_punct s p = if is_char ";" p then Nothing else begun_with s p

-- a module, an implementation or a trait begins with this word
abbrev pub is_item_word : Ident → Bool
is_item_word i =
    has_text (codes "mod") i || (has_text (codes "impl") i || has_text (codes "trait") i)

-- a word between the visibility of an item and what it is
abbrev pub is_qualifier : Ident → Bool
is_qualifier i =
    has_text (codes "unsafe") i || (has_text (codes "auto") i || has_text (codes "default") i)

-- once this word follows attributes, visibility and qualifiers
abbrev pub by_word : Ident → Begun
by_word i =
    if has_text (codes "pub") i then Visible
    else if is_qualifier i then Qualified
    else if is_item_word i then Item
    else if has_text (codes "extern") i then Extern
    else Other

-- once an identifier follows
abbrev pub after_ident : Begun → Ident → Begun
after_ident Nothing i = by_word i
after_ident Attributes i = by_word i
after_ident Visible i = by_word i
after_ident Qualified i = by_word i
after_ident Item i = Item
after_ident _ i = Other

-- once a literal follows: behind `extern` it names an ABI
abbrev pub after_literal : Begun → Begun
after_literal Extern = Abi
after_literal Item = Item
after_literal _ = Other

-- once a leaf follows
abbrev pub after_leaf : Begun → Leaf → Begun
after_leaf s (as_leaf.Punct p) = after_punct s p
after_leaf s (as_leaf.Ident i) = after_ident s i
after_leaf s (as_leaf.Literal l) = after_literal s

-- once a group follows: braces end it, and brackets after exactly `#` and `!`
abbrev pub after_group : Begun → DelimiterKind → Begun
after_group s Brace = Nothing
after_group PoundBang Bracket = Nothing
after_group Pound Bracket = Attributes
after_group AttributesPound Bracket = Attributes
after_group Visible Parenthesis = Qualified
after_group Item k = Item
after_group s _ = Other

-- braces that follow have a list of items: those of a module, an implementation, a trait or an
-- `extern` block
abbrev pub holds_items : Begun → DelimiterKind → Bool
holds_items Item Brace = true
holds_items Extern Brace = true
holds_items Abi Brace = true
holds_items s k = false

-- nothing came but attributes
abbrev pub is_at_start : Begun → Bool
is_at_start Nothing = true
is_at_start Attributes = true
is_at_start _ = false

-- once the tokens of a call before its group follow
abbrev pub after_name : Begun → Begun
after_name Item = Item
after_name _ = Other

-- once a call follows whose group is of this kind; `gone` tells that a `;` right behind goes with
-- it
abbrev pub after_call : Bool → Begun → DelimiterKind → Begun
after_call true s k = Gone
after_call false s k = after_group (after_name s) k

-- a `;` right behind a call that it goes with
abbrev pub is_dropped : Begun → Leaf → Bool
is_dropped Gone (as_leaf.Punct p) = is_char ";" p
is_dropped s l = false
