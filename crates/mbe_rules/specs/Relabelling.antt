-- Rules under a span map.
use Rattle.std.specs.Prelude.{map, option_map}
use Rattle.tt_data.specs.Spans.{leaf_with, delimiter_with}
use Rattle.tt_data.specs.declared.leaf.Ident.{Ident}
use Rattle.tt_data.specs.declared.leaf.Literal.{Literal}
use Rattle.tt_data.specs.declared.leaf.Punct.{Punct}
use Rattle.tt_data.specs.declared.span.Span.{Span}
use Rattle.mbe_rules.specs.Items.{Item, word, puncts, lifetime, dollar, Separator, literal_between, ident_between, lifetime_between, puncts_between, Items, done, item, group_of, repetition, Rule, Rules}

-- a punct with f applied to its span
abbrev pub punct_with : (Span → Span) → Punct → Punct
punct_with f p = record p { span = f p.span }

-- an identifier with f applied to its span
abbrev pub ident_with : (Span → Span) → Ident → Ident
ident_with f i = record i { span = f i.span }

-- a literal with f applied to its span
abbrev pub literal_with : (Span → Span) → Literal → Literal
literal_with f l = record l { span = f l.span }

-- an op with f applied to its spans
abbrev pub item_with : (Span → Span) → Item → Item
item_with f (word l) = word (leaf_with f l)
item_with f (puncts ps) = puncts (map (punct_with f) ps)
item_with f (lifetime p i) = lifetime (punct_with f p) (ident_with f i)
item_with f (dollar d s) = dollar d (f s)

-- a separator with f applied to its spans
abbrev pub separator_with : (Span → Span) → Separator → Separator
separator_with f (literal_between l) = literal_between (literal_with f l)
separator_with f (ident_between i) = ident_between (ident_with f i)
separator_with f (lifetime_between p i) = lifetime_between (punct_with f p) (ident_with f i)
separator_with f (puncts_between ps) = puncts_between (map (punct_with f) ps)

-- a matcher or a transcriber with f applied to its spans
abbrev pub items_with : (Span → Span) → Items → Items
items_with f done = done
items_with f (item i rest) = item (item_with f i) (items_with f rest)
items_with f (group_of d inner rest) = group_of (delimiter_with f d) (items_with f inner) (items_with f rest)
items_with f (repetition body sep op rest) =
    repetition (items_with f body) (option_map (separator_with f) sep) op (items_with f rest)

-- a rule with f applied to its spans
abbrev pub rule_with : (Span → Span) → Rule → Rule
rule_with f r = record { style = r.style; pattern = items_with f r.pattern; template = items_with f r.template }

-- the rules of a definition with f applied to their spans
abbrev pub rules_with : (Span → Span) → Rules → Rules
rules_with f rules = record { list = map (rule_with f) rules.list; err = rules.err }
