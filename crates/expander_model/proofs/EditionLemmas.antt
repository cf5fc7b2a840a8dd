-- The mark of an edition says the same at other places.
use Rattle.std.proofs.Common.{◌≡◌, refl, ap}
use Rattle.std.specs.Prelude.{Option, unwrap_or}
use Rattle.tt_data.specs.Forest.{Forest, empty, leaf, group, map_spans}
use Rattle.tt_data.specs.declared.edition.Edition.{Edition}
use Rattle.tt_data.specs.declared.leaf.Leaf.TheVariants as as_leaf
use Rattle.tt_data.specs.declared.span.Span.{Span}
use Rattle.expander_model.specs.EditionMarks.{edition_in, marked_edition}

module _ (f : Span → Span) where
  mark_moved : (piece : Forest) → marked_edition (map_spans f piece) ≡ marked_edition piece
  mark_moved (leaf (as_leaf.Punct p) (group d (leaf (as_leaf.Ident i) inner) rest)) = refl
  mark_moved (leaf (as_leaf.Punct p) (group d (leaf (as_leaf.Punct q) inner) rest)) = refl
  mark_moved (leaf (as_leaf.Punct p) (group d (leaf (as_leaf.Literal l) inner) rest)) = refl
  mark_moved (leaf (as_leaf.Punct p) (group d (group e a inner) rest)) = refl
  mark_moved (leaf (as_leaf.Punct p) (group d empty rest)) = refl
  mark_moved (leaf (as_leaf.Punct p) (leaf (as_leaf.Ident i) rest)) = refl
  mark_moved (leaf (as_leaf.Punct p) (leaf (as_leaf.Punct q) rest)) = refl
  mark_moved (leaf (as_leaf.Punct p) (leaf (as_leaf.Literal l) rest)) = refl
  mark_moved (leaf (as_leaf.Punct p) empty) = refl
  mark_moved (leaf (as_leaf.Ident i) rest) = refl
  mark_moved (leaf (as_leaf.Literal l) rest) = refl
  mark_moved (group d inner rest) = refl
  mark_moved empty = refl

  pub edition_moved : (edition : Edition) (piece : Forest) → edition_in edition (map_spans f piece) ≡ edition_in edition piece
  edition_moved edition piece = ap (λ (o : Option Edition). unwrap_or o edition) (mark_moved piece)
