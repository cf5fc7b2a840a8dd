-- The attributes before a definition, passed one by one.
use Rattle.std.proofs.Common.{◌≡◌, ◌<◌, ℕ, List, Option, refl, ap, arith, Bool, true, false, if◌then◌else◌, unwrap_or, ◌∙◌}
use Rattle.std.specs.Prelude.{Some, None, is_some, ◌&&◌, ◌||◌}
use Rattle.tt_data.specs.Forest.{Forest, empty, leaf, group, size}
use Rattle.tt_data.specs.declared.delimiter.DelimiterKind.TheVariants.{Bracket}
use Rattle.tt_data.specs.declared.leaf.Leaf.TheVariants as as_leaf
use Rattle.cfg_options.specs.Conditions.{first_attribute}
use Rattle.expander_model.specs.Definitions.{after_attribute, after_attributes, after_word, has_attribute}
use Rattle.cfg_options.specs.small_grammar.Text.{◌>>◌}
use Rattle.bridge.specs.Text.{is_char, same_kind}

some_is : (b c : Bool) (rest f g : Forest) → (b >> (c >> Some rest)) ≡ Some g → (if b && c then after_attributes rest else f) ≡ after_attributes g
some_is true true rest f g e = let same : rest ≡ g = cc in ap after_attributes same
some_is true false rest f g e = cc
some_is false true rest f g e = cc
some_is false false rest f g e = cc

none_is : (b c : Bool) (rest f : Forest) → (b >> (c >> Some rest)) ≡ None → (if b && c then after_attributes rest else f) ≡ f
none_is true true rest f e = cc
none_is true false rest f e = refl
none_is false true rest f e = refl
none_is false false rest f e = refl

rest_is : (b c : Bool) (rest g : Forest) → (b >> (c >> Some rest)) ≡ Some g → g ≡ rest
rest_is true true rest g e = cc
rest_is true false rest g e = cc
rest_is false true rest g e = cc
rest_is false false rest g e = cc

-- after one attribute the others are passed alike
pub after_attributes-some : (f g : Forest) → after_attribute f ≡ Some g → after_attributes f ≡ after_attributes g
after_attributes-some (leaf (as_leaf.Punct p) (group d inner rest)) g e =
    some_is (is_char "#" p) (same_kind d.kind Bracket) rest (leaf (as_leaf.Punct p) (group d inner rest)) g e
after_attributes-some (leaf (as_leaf.Punct p) (leaf m rest)) g e = elim (is_char "#" p) as (λ b. (b >> None) ≡ Some g → leaf (as_leaf.Punct p) (leaf m rest) ≡ after_attributes g) [ true ↦ λ h. cc | false ↦ λ h. cc ] e
after_attributes-some (leaf (as_leaf.Punct p) empty) g e = elim (is_char "#" p) as (λ b. (b >> None) ≡ Some g → leaf (as_leaf.Punct p) empty ≡ after_attributes g) [ true ↦ λ h. cc | false ↦ λ h. cc ] e
after_attributes-some (leaf (as_leaf.Ident p) f) g e = cc
after_attributes-some (leaf (as_leaf.Literal p) f) g e = cc
after_attributes-some empty g e = cc
after_attributes-some (group d inner rest) g e = cc

-- without one, none is passed
pub after_attributes-none : (f : Forest) → after_attribute f ≡ None → after_attributes f ≡ f
after_attributes-none (leaf (as_leaf.Punct p) (group d inner rest)) e =
    none_is (is_char "#" p) (same_kind d.kind Bracket) rest (leaf (as_leaf.Punct p) (group d inner rest)) e
after_attributes-none (leaf (as_leaf.Punct p) (leaf m rest)) e = refl
after_attributes-none (leaf (as_leaf.Punct p) empty) e = refl
after_attributes-none (leaf (as_leaf.Ident p) f) e = refl
after_attributes-none (leaf (as_leaf.Literal p) f) e = refl
after_attributes-none empty e = refl
after_attributes-none (group d inner rest) e = refl

-- what follows an attribute is shorter
pub after_attribute-smaller : (f g : Forest) → after_attribute f ≡ Some g → size g < size f
after_attribute-smaller (leaf (as_leaf.Punct p) (group d inner rest)) g e =
    let same : g ≡ rest = rest_is (is_char "#" p) (same_kind d.kind Bracket) rest g e in
    omega (arith, ap size same)
after_attribute-smaller (leaf (as_leaf.Punct p) (leaf m rest)) g e = elim (is_char "#" p) as (λ b. (b >> None) ≡ Some g → size g < size (leaf (as_leaf.Punct p) (leaf m rest))) [ true ↦ λ h. cc | false ↦ λ h. cc ] e
after_attribute-smaller (leaf (as_leaf.Punct p) empty) g e = elim (is_char "#" p) as (λ b. (b >> None) ≡ Some g → size g < size (leaf (as_leaf.Punct p) empty)) [ true ↦ λ h. cc | false ↦ λ h. cc ] e
after_attribute-smaller (leaf (as_leaf.Ident p) f) g e = cc
after_attribute-smaller (leaf (as_leaf.Literal p) f) g e = cc
after_attribute-smaller empty g e = cc
after_attribute-smaller (group d inner rest) g e = cc

-- ---- attributes by their first word

abbrev attribute_if : Bool → Bool → Forest → Forest → Option (Forest × Forest)
attribute_if pound brackets inner rest = ◌>>◌ {B = Forest × Forest} pound (◌>>◌ {B = Forest × Forest} brackets (Some (inner, rest)))

-- an attribute that does not begin with the word is passed
pub other_attribute : (word : List ℕ) (f inner rest : Forest) → first_attribute f ≡ Some (inner, rest) → is_some (after_word word inner) ≡ false
    → has_attribute word f ≡ has_attribute word rest
other_attribute word empty inner rest e h = cc
other_attribute word (group d a r) inner rest e h = cc
other_attribute word (leaf (as_leaf.Ident i) r) inner rest e h = cc
other_attribute word (leaf (as_leaf.Literal l) r) inner rest e h = cc
other_attribute word (leaf (as_leaf.Punct p) empty) inner rest e h = go (is_char "#" p) e
  where
    go : (b : Bool) → ◌>>◌ {B = Forest × Forest} b None ≡ Some (inner, rest) → false ≡ has_attribute word rest
    go true e = cc
    go false e = cc
other_attribute word (leaf (as_leaf.Punct p) (leaf l r)) inner rest e h = go (is_char "#" p) e
  where
    go : (b : Bool) → ◌>>◌ {B = Forest × Forest} b None ≡ Some (inner, rest) → false ≡ has_attribute word rest
    go true e = cc
    go false e = cc
other_attribute word (leaf (as_leaf.Punct p) (group d a r)) inner rest e h = go (is_char "#" p) (same_kind d.kind Bracket) e
  where
    go : (b c : Bool) → attribute_if b c a r ≡ Some (inner, rest) → ((b && c) && (is_some (after_word word a) || has_attribute word r)) ≡ has_attribute word rest
    go true true e =
        let both : (a, r) ≡ (inner, rest) = ap (λ (o : Option (Forest × Forest)). unwrap_or o (a, r)) e in
        ap (λ (x : Forest × Forest). is_some (after_word word x.0) || has_attribute word x.1) both
        ∙ ap (λ (b : Bool). b || has_attribute word rest) h
    go true false e = cc
    go false c e = cc
