-- Putting in the trees of a fragment commutes with a span map.
use Rattle.std.proofs.Common.{◌≡◌, refl, ap, List, [], ◌∷◌, map, if◌then◌else◌, Bool, true, false, Option, Some, None, option_map}
use Rattle.tt_data.specs.Forest.{Forest, empty, leaf, group, joined, map_spans}
use Rattle.tt_data.specs.Spans.{leaf_with, delimiter_with}
use Rattle.tt_data.specs.declared.delimiter.DelimiterKind.{DelimiterKind}
use Rattle.tt_data.specs.declared.delimiter.DelimiterKind.TheVariants.{Parenthesis, Invisible}
use Rattle.tt_data.specs.declared.leaf.Leaf.{Leaf}
use Rattle.tt_data.specs.declared.leaf.Leaf.TheVariants as as_leaf
use Rattle.tt_data.specs.declared.leaf.Punct.{Punct}
use Rattle.tt_data.specs.declared.span.Span.{Span}
use Rattle.mbe_rules.specs.Items.{Separator, literal_between, ident_between, lifetime_between, puncts_between}
use Rattle.mbe_rules.specs.Relabelling.{punct_with, separator_with}
use Rattle.mbe_rules.specs.declared.parser.MetaVarKind.{MetaVarKind}
use Rattle.mbe_rules.specs.declared.parser.MetaVarKind.TheVariants as kind
use Rattle.tt.specs.Building.{alone, last_alone}
use Rattle.tt.specs.Groups.{without_invisible, stripped}
use Rattle.mbe_transcriber.specs.Filling.{stands_alone, in_parentheses, begins_generics, colons, with_colons, put_in, text_in, punct_leaves, separator_leaves}

module _ (f : Span → Span) where
  pub joined-map : (x y : Forest) → joined (map_spans f x) (map_spans f y) ≡ map_spans f (joined x y)
  joined-map empty y = refl
  joined-map (leaf l rest) y = ap (leaf (leaf_with f l)) (joined-map rest y)
  joined-map (group d inner rest) y = ap (group (delimiter_with f d) (map_spans f inner)) (joined-map rest y)

  without_invisible-map : (k : DelimiterKind) (x y : Forest) → without_invisible k (map_spans f x) (map_spans f y) ≡ map_spans f (without_invisible k x y)
  without_invisible-map Invisible x y = refl
  without_invisible-map _ x y = refl

  stripped-map : (x : Forest) → stripped (map_spans f x) ≡ map_spans f (stripped x)
  stripped-map (group d inner empty) = without_invisible-map d.kind inner (group d inner empty)
  stripped-map (group d inner (leaf l rest)) = refl
  stripped-map (group d inner (group e more rest)) = refl
  stripped-map (leaf l rest) = refl
  stripped-map empty = refl

  alone-map : (l : Leaf) → alone (leaf_with f l) ≡ leaf_with f (alone l)
  alone-map (as_leaf.Ident i) = refl
  alone-map (as_leaf.Literal l) = refl
  alone-map (as_leaf.Punct p) = refl

  last_alone-map : (x : Forest) → last_alone (map_spans f x) ≡ map_spans f (last_alone x)
  last_alone-map empty = refl
  last_alone-map (leaf l empty) = ap (λ m. leaf m empty) (alone-map l)
  last_alone-map (leaf l (leaf m rest)) = ap (leaf (leaf_with f l)) (last_alone-map (leaf m rest))
  last_alone-map (leaf l (group d inner rest)) = ap (leaf (leaf_with f l)) (last_alone-map (group d inner rest))
  last_alone-map (group d inner empty) = ap (λ x. group (delimiter_with f d) x empty) (last_alone-map inner)
  last_alone-map (group d inner (leaf m rest)) = ap (group (delimiter_with f d) (map_spans f inner)) (last_alone-map (leaf m rest))
  last_alone-map (group d inner (group e more rest)) = ap (group (delimiter_with f d) (map_spans f inner)) (last_alone-map (group e more rest))

  stands_alone-map : (x : Forest) → stands_alone (map_spans f x) ≡ stands_alone x
  stands_alone-map (leaf (as_leaf.Punct p) (leaf (as_leaf.Literal l) empty)) = refl
  stands_alone-map (leaf l empty) = refl
  stands_alone-map (group d inner empty) = refl
  stands_alone-map _ = refl

  in_parentheses-map : (s : Span) (x : Forest) → in_parentheses (f s) (map_spans f x) ≡ map_spans f (in_parentheses s x)
  in_parentheses-map s x = rw (stands_alone-map x, last_alone-map x) (go (stands_alone x) (last_alone x))
    where
      go : (b : Bool) (y : Forest) →
          (if b then map_spans f y else group (record { open_span = f s; close_span = f s; kind = Parenthesis }) (map_spans f y) empty)
          ≡ map_spans f (if b then y else group (record { open_span = s; close_span = s; kind = Parenthesis }) y empty)
      go true y = refl
      go false y = refl

  begins_generics-map : (x : Forest) → begins_generics (map_spans f x) ≡ begins_generics x
  begins_generics-map (leaf (as_leaf.Punct p) rest) = refl
  begins_generics-map _ = refl

  colons-map : (s : Span) (b : Bool) (x : Forest) →
      (if b then colons (f s) (map_spans f x) else map_spans f x) ≡ map_spans f (if b then colons s x else x)
  colons-map s true x = refl
  colons-map s false x = refl

  with_colons-map : (s : Span) (x : Forest) → with_colons (f s) (map_spans f x) ≡ map_spans f (with_colons s x)
  with_colons-map s empty = refl
  with_colons-map s (leaf (as_leaf.Ident i) rest) =
      ap (leaf (leaf_with f (as_leaf.Ident i)))
      (rw (begins_generics-map rest, with_colons-map s rest) (colons-map s (begins_generics rest) (with_colons s rest)))
  with_colons-map s (leaf (as_leaf.Literal l) rest) = ap (leaf (leaf_with f (as_leaf.Literal l))) (with_colons-map s rest)
  with_colons-map s (leaf (as_leaf.Punct p) rest) = ap (leaf (leaf_with f (as_leaf.Punct p))) (with_colons-map s rest)
  with_colons-map s (group d inner rest) = ap (group (delimiter_with f d) (map_spans f inner)) (with_colons-map s rest)

  pub put_in-map : (s : Span) (k : MetaVarKind) (x : Forest) → put_in (f s) k (map_spans f x) ≡ map_spans f (put_in s k x)
  put_in-map s kind.Expr x = rw (stripped-map x) (in_parentheses-map s (stripped x))
  put_in-map s kind.Expr2021 x = rw (stripped-map x) (in_parentheses-map s (stripped x))
  put_in-map s kind.Ident x = rw (stripped-map x) (last_alone-map (stripped x))
  put_in-map s kind.Tt x = rw (stripped-map x) (last_alone-map (stripped x))
  put_in-map s kind.Lifetime x = rw (stripped-map x) (last_alone-map (stripped x))
  put_in-map s kind.Literal x = rw (stripped-map x) (last_alone-map (stripped x))
  put_in-map s kind.Path x = with_colons-map s x
  put_in-map s _ x = last_alone-map x

  pub text_in-map : (x : Forest) → text_in (map_spans f x) ≡ text_in x
  text_in-map (leaf (as_leaf.Ident i) empty) = refl
  text_in-map (leaf (as_leaf.Literal l) empty) = refl
  text_in-map _ = refl

  pub punct_leaves-map : (ps : List Punct) → punct_leaves (map (punct_with f) ps) ≡ map_spans f (punct_leaves ps)
  punct_leaves-map [] = refl
  punct_leaves-map (p ∷ ps) = ap (leaf (leaf_with f (as_leaf.Punct p))) (punct_leaves-map ps)

  pub separator_leaves-map : (sep : Option Separator) → separator_leaves (option_map (separator_with f) sep) ≡ map_spans f (separator_leaves sep)
  separator_leaves-map None = refl
  separator_leaves-map (Some (literal_between l)) = refl
  separator_leaves-map (Some (ident_between i)) = refl
  separator_leaves-map (Some (lifetime_between p i)) = refl
  separator_leaves-map (Some (puncts_between ps)) = punct_leaves-map ps
