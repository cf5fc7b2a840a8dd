-- What a leaf is that is lent.
use Rattle.std.specs.Prelude.{◌-◌, length, take, drop}
use Rattle.tt_data.specs.declared.leaf.Ident.{Ident}
use Rattle.tt_data.specs.declared.leaf.Leaf.{Leaf}
use Rattle.tt_data.specs.declared.leaf.Leaf.TheVariants as as_leaf
use Rattle.tt_data.specs.declared.leaf.lent.IdentRef.{IdentRef}
use Rattle.tt_data.specs.declared.leaf.lent.LiteralRef.{LiteralRef}
use Rattle.tt_data.specs.declared.leaf.lent.LeafRef.{LeafRef}
use Rattle.tt_data.specs.declared.leaf.lent.LeafRef.TheVariants as as_lent
use Rattle.tt_data.specs.Literals.{LiteralParts}

-- the identifier
abbrev pub ident_lent : IdentRef → Ident
ident_lent i = record { sym = i.sym.now; span = i.span; is_raw = i.is_raw }

-- the literal: its suffix is the last bytes of a text, as many as are counted
unfoldable pub literal_lent : LiteralRef → LiteralParts
literal_lent l = record {
  text = take (length l.text_and_suffix.now - l.suffix_len) l.text_and_suffix.now;
  suffix = drop (length l.text_and_suffix.now - l.suffix_len) l.text_and_suffix.now;
  kind = l.kind;
  span = l.span;
}

-- the leaf
abbrev pub leaf_lent : LeafRef → Leaf
leaf_lent (as_lent.Literal l) = as_leaf.Literal (literal_lent l)
leaf_lent (as_lent.Punct p) = as_leaf.Punct p
leaf_lent (as_lent.Ident i) = as_leaf.Ident (ident_lent i)
