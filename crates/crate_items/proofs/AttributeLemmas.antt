-- Outer attributes: the first, and those behind it; what is found in them.
use Rattle.std.proofs.Common.{◌≡◌, Bool, true, false, Option, Some, None, List, [], ◌∷◌, ℕ, zero, suc, ◌<◌, ◌-◌, refl, ap, ◌∙◌, arith}
use Rattle.std.specs.Prelude.{◌&&◌, if◌then◌else◌, unwrap_or}
use Rattle.small_grammar.specs.Text.{◌>>◌, is_empty}
use Rattle.bridge.specs.Text.{is_char, same_kind}
use Rattle.cfg_options.proofs.PartLemmas.{cut_first}
use Rattle.cfg_options.specs.Conditions.{Options, after_part, cut_at_commas, first_attribute, first_part, or_else, predicate_value}
use Rattle.cfg_options.specs.Strings.{string_text}
use Rattle.tt_data.specs.Forest.{Forest, empty, leaf, group}
use Rattle.tt_data.specs.declared.delimiter.DelimiterKind.TheVariants.{Bracket}
use Rattle.tt_data.specs.declared.leaf.Leaf.TheVariants as as_leaf
use Rattle.crate_items.specs.Attributes.{attributes, conditional, first_found, found_behind, found_by, found_in}

-- the first of them before the others, if there is one
abbrev listed : Option (Forest × Forest) → List Forest
listed None = []
listed (Some a) = a.0 ∷ attributes a.1

attributes-first : (f : Forest) → attributes f ≡ listed (first_attribute f)
attributes-first empty = refl
attributes-first (group d a r) = refl
attributes-first (leaf (as_leaf.Ident i) r) = refl
attributes-first (leaf (as_leaf.Literal l) r) = refl
attributes-first (leaf (as_leaf.Punct p) empty) = go (is_char "#" p)
  where
    go : (b : Bool) → [] ≡ listed (◌>>◌ {B = Forest × Forest} b None)
    go true = refl
    go false = refl
attributes-first (leaf (as_leaf.Punct p) (leaf l r)) = go (is_char "#" p)
  where
    go : (b : Bool) → [] ≡ listed (◌>>◌ {B = Forest × Forest} b None)
    go true = refl
    go false = refl
attributes-first (leaf (as_leaf.Punct p) (group d a r)) = go (is_char "#" p) (same_kind d.kind Bracket)
  where
    go : (b c : Bool) → (if b && c then a ∷ attributes r else [])
        ≡ listed (◌>>◌ {B = Forest × Forest} b (◌>>◌ {B = Forest × Forest} c (Some (a, r))))
    go true true = refl
    go true false = refl
    go false c = refl

-- a piece that begins with an attribute
attributes_at : (f inner rest : Forest) → first_attribute f ≡ Some (inner, rest)
    → attributes f ≡ inner ∷ attributes rest
attributes_at f inner rest e = attributes-first f ∙ ap listed e

-- a piece that does not
no_attributes : (f : Forest) → first_attribute f ≡ None → attributes f ≡ []
no_attributes f e = attributes-first f ∙ ap listed e

-- the first that is found in an attribute of a piece
pub found_here : (find : Forest → Option Forest) (f inner rest x : Forest) → first_attribute f ≡ Some (inner, rest)
    → find inner ≡ Some x → first_found find (attributes f) ≡ Some x
found_here find f inner rest x e h =
    ap (first_found find) (attributes_at f inner rest e) ∙ ap (λ (o : Option Forest). or_else o (first_found find (attributes rest))) h

pub found_later : (find : Forest → Option Forest) (f inner rest : Forest) → first_attribute f ≡ Some (inner, rest)
    → find inner ≡ None → first_found find (attributes f) ≡ first_found find (attributes rest)
found_later find f inner rest e h =
    ap (first_found find) (attributes_at f inner rest e) ∙ ap (λ (o : Option Forest). or_else o (first_found find (attributes rest))) h

pub found_nowhere : (find : Forest → Option Forest) (f : Forest) → first_attribute f ≡ None → first_found find (attributes f) ≡ None
found_nowhere find f e = ap (first_found find) (no_attributes f e)

-- the first that is found in a part of a list
pub part_found : (find : Forest → Option Forest) (f x : Forest) → is_empty f ≡ false
    → find (first_part f) ≡ Some x → first_found find (cut_at_commas f empty) ≡ Some x
part_found find f x e h =
    ap (first_found find) (cut_first f e)
    ∙ ap (λ (o : Option Forest). or_else o (first_found find (cut_at_commas (after_part f) empty))) h

pub part_passed : (find : Forest → Option Forest) (f : Forest) → is_empty f ≡ false
    → find (first_part f) ≡ None
    → first_found find (cut_at_commas f empty) ≡ first_found find (cut_at_commas (after_part f) empty)
part_passed find f e h =
    ap (first_found find) (cut_first f e)
    ∙ ap (λ (o : Option Forest). or_else o (first_found find (cut_at_commas (after_part f) empty))) h

pub no_part : (find : Forest → Option Forest) (f : Forest) → is_empty f ≡ true → first_found find (cut_at_commas f empty) ≡ None
no_part find empty e = refl
no_part find (leaf l r) e = absurd (cc e)
no_part find (group d a r) e = absurd (cc e)

module _ (options : Options) (word : List ℕ) where
  -- behind a predicate
  pub behind_none : (find : Forest → Option Forest) (f : Forest) → is_empty f ≡ true
      → found_behind options word find (cut_at_commas f empty) ≡ None
  behind_none find empty e = refl
  behind_none find (leaf l r) e = absurd (cc e)
  behind_none find (group d a r) e = absurd (cc e)

  pub behind_first : (find : Forest → Option Forest) (f : Forest) → is_empty f ≡ false
      → found_behind options word find (cut_at_commas f empty)
      ≡ (if unwrap_or (predicate_value options string_text (first_part f)) false
      then first_found find (cut_at_commas (after_part f) empty) else None)
  behind_first find f e = ap (found_behind options word find) (cut_first f e)

  -- one level
  pub no_level : (n : ℕ) (a : Forest) → n ≡ 0 → found_in options word n a ≡ None
  unfolding found_in
  no_level zero a e = refl
  no_level (suc n) a e = absurd (cc e)

  pub next_level : (n : ℕ) (a : Forest) → 0 < n
      → found_in options word n a ≡ found_by options word (found_in options word (n - 1)) a (conditional a)
  unfolding found_in
  next_level zero a lt = absurd (omega (arith, lt))
  next_level (suc n) a lt =
      let same : n ≡ suc n - 1 = omega arith in
      ap (λ (m : ℕ). found_by options word (found_in options word m) a (conditional a)) same
