-- Without a definition keyword, no piece is a definition.
use Rattle.std.proofs.Common.{◌≡◌, List, [], ◌∷◌, ◌++◌, refl, ap, ◌∙◌, sym, Bool, true, false, if◌then◌else◌}
use Rattle.std.specs.Prelude.{Option, Some, None, not, ◌&&◌, ◌||◌, codes, is_none, option_and_then, unwrap_or}
use Rattle.std.specs.List.{list_all}
use Rattle.std.proofs.lemmas.List.Folds.{list_all-append}
use Rattle.std.proofs.lemmas.Bool.{and_parts, and_from}
use Rattle.tt_data.proofs.ForestLemmas.{walk-joined}
use Rattle.tt_data.specs.Forest.{Forest, empty, leaf, group}
use Rattle.tt_data.specs.Walk.{Step, at_leaf, closes, walk}
use Rattle.tt_data.specs.declared.delimiter.Delimiter.{Delimiter}
use Rattle.tt_data.specs.declared.delimiter.DelimiterKind.TheVariants.{Parenthesis, Bracket}
use Rattle.tt_data.specs.declared.leaf.Ident.{Ident}
use Rattle.tt_data.specs.declared.leaf.Leaf.{Leaf}
use Rattle.tt_data.specs.declared.leaf.Leaf.TheVariants as as_leaf
use Rattle.bridge.specs.Text.{same_kind, is_char, is_punct}
use Rattle.expander_model.specs.Definitions.{Definition, after_attributes, after_parenthesis, after_pub, definition_of, macro_of, macro_rules_of}
use Rattle.cfg_options.specs.Conditions.{or_else}
use Rattle.expander_model.specs.Faults.{is_definition_word}
use Rattle.expander_session.specs.Laws.{AreAllPlain, HasNoWord}
use Rattle.expander_model.specs.Pieces.{cut, pieces, put_together, separated}
use Rattle.small_grammar.specs.Text.{has_text}
use Rattle.tt.specs.Building.{alone}
use Rattle.expander_model.proofs.SplittingLemmas.{put_together-cut}

abbrev pub is_quiet : Step → Bool
is_quiet s = not (is_definition_word s)

-- of what stands side by side
parted : (xs ys : List Step) → list_all is_quiet (xs ++ ys) ≡ true → (list_all is_quiet xs ≡ true) × (list_all is_quiet ys ≡ true)
parted xs ys h = and_parts (list_all is_quiet xs) (list_all is_quiet ys) (sym (list_all-append is_quiet xs ys) ∙ h)

behind_group : (d : Delimiter) (inner rest : Forest) → HasNoWord (group d inner rest) → HasNoWord rest
behind_group d inner rest h = (parted (walk inner) (closes d.kind d.close_span ∷ walk rest) h).1

behind_leaf : (b : Bool) (rest : List Step) → (not b && list_all is_quiet rest) ≡ true → (b ≡ false) × (list_all is_quiet rest ≡ true)
behind_leaf true rest h = cc
behind_leaf false rest h = (refl, h)

neither : (a b : Bool) → (a || b) ≡ false → (a ≡ false) × (b ≡ false)
neither true b e = cc
neither false b e = (refl, e)

-- ---- a word that isn't met

no_long_word : (i : Ident) (rest : Forest) → HasNoWord (leaf (as_leaf.Ident i) rest) → has_text (codes "macro_rules") i ≡ false
no_long_word i rest h = (neither (has_text (codes "macro_rules") i) (has_text (codes "macro") i) (behind_leaf _ (walk rest) h).0).0

no_short_word : (i : Ident) (rest : Forest) → HasNoWord (leaf (as_leaf.Ident i) rest) → has_text (codes "macro") i ≡ false
no_short_word i rest h = (neither (has_text (codes "macro_rules") i) (has_text (codes "macro") i) (behind_leaf _ (walk rest) h).0).1

no_rules : (piece f : Forest) → HasNoWord f → macro_rules_of piece f ≡ None
no_rules piece empty h = refl
no_rules piece (group d inner rest) h = refl
no_rules piece (leaf (as_leaf.Punct p) rest) h = refl
no_rules piece (leaf (as_leaf.Literal l) rest) h = refl
no_rules piece (leaf (as_leaf.Ident i) rest) h = rw (no_long_word i rest h) refl

no_macro : (piece f : Forest) → HasNoWord f → macro_of piece f ≡ None
no_macro piece empty h = refl
no_macro piece (group d inner rest) h = refl
no_macro piece (leaf (as_leaf.Punct p) rest) h = refl
no_macro piece (leaf (as_leaf.Literal l) rest) h = refl
no_macro piece (leaf (as_leaf.Ident i) rest) h = rw (no_short_word i rest h) refl

-- ---- what stands before a definition

attributes_quiet : (f : Forest) → HasNoWord f → HasNoWord (after_attributes f)
attributes_quiet empty h = h
attributes_quiet (group d inner rest) h = h
attributes_quiet (leaf (as_leaf.Ident i) rest) h = h
attributes_quiet (leaf (as_leaf.Literal l) rest) h = h
attributes_quiet (leaf (as_leaf.Punct p) empty) h = h
attributes_quiet (leaf (as_leaf.Punct p) (leaf l rest)) h = h
attributes_quiet (leaf (as_leaf.Punct p) (group d inner rest)) h =
    quiet_or (is_char "#" p && same_kind d.kind Bracket) (after_attributes rest) (leaf (as_leaf.Punct p) (group d inner rest))
    (attributes_quiet rest (behind_group d inner rest h)) h
  where
    quiet_or : (b : Bool) (f g : Forest) → HasNoWord f → HasNoWord g → HasNoWord (if b then f else g)
    quiet_or true f g k h = k
    quiet_or false f g k h = h

parenthesis_quiet : (f : Forest) → HasNoWord f → HasNoWord (unwrap_or (after_parenthesis f) f)
parenthesis_quiet empty h = h
parenthesis_quiet (leaf l rest) h = h
parenthesis_quiet (group d inner rest) h = go (same_kind d.kind Parenthesis)
  where
    go : (b : Bool) → HasNoWord (unwrap_or (if b then Some rest else None) (group d inner rest))
    go true = behind_group d inner rest h
    go false = h

pub_quiet : (f : Forest) → HasNoWord f → HasNoWord (unwrap_or (after_pub f) f)
pub_quiet empty h = h
pub_quiet (group d inner rest) h = h
pub_quiet (leaf (as_leaf.Punct p) rest) h = h
pub_quiet (leaf (as_leaf.Literal l) rest) h = h
pub_quiet (leaf (as_leaf.Ident i) rest) h = go (has_text (codes "pub") i)
  where
    go : (b : Bool) → HasNoWord (unwrap_or (option_and_then (λ (g : Forest). Some (unwrap_or (after_parenthesis g) g)) (if b then Some rest else None)) (leaf (as_leaf.Ident i) rest))
    go true = parenthesis_quiet rest (behind_leaf _ (walk rest) h).1
    go false = h

-- ---- no piece is a definition

pub quiet_piece : (p : Forest) → HasNoWord p → is_none (definition_of p) ≡ true
quiet_piece p h =
    let rest : Forest = after_attributes p in
    let quiet : HasNoWord rest = attributes_quiet p h in
    ap (λ (o : Option Definition). is_none (or_else o (macro_of p (unwrap_or (after_pub rest) rest)))) (no_rules p rest quiet)
    ∙ ap is_none (no_macro p (unwrap_or (after_pub rest) rest) (pub_quiet rest quiet))

quiet_pieces : (ps : List Forest) → HasNoWord (put_together ps) → AreAllPlain ps
quiet_pieces [] h = refl
quiet_pieces (p ∷ ps) h =
    let parts = parted (walk p) (walk (put_together ps)) (ap (list_all is_quiet) (sym (walk-joined p (put_together ps))) ∙ h) in
    and_from (is_none (definition_of p)) (list_all (λ q. is_none (definition_of q)) ps) (quiet_piece p parts.0) (quiet_pieces ps parts.1)

-- trees in which no word begins a definition have none
pub quiet_cut : (f : Forest) → HasNoWord f → AreAllPlain (cut f)
quiet_cut f h = quiet_pieces (cut f) (ap (λ (g : Forest). list_all is_quiet (walk g)) (put_together-cut f) ∙ h)

-- ---- a `;` that stands alone is no word either

pub quiet_alone : (b : Bool) (l : Leaf) → is_definition_word (at_leaf (if b then alone l else l)) ≡ is_definition_word (at_leaf l)
quiet_alone true (as_leaf.Punct p) = refl
quiet_alone true (as_leaf.Ident i) = refl
quiet_alone true (as_leaf.Literal t) = refl
quiet_alone false l = refl

quiet_behind : (xs ys zs : List Step) → (list_all is_quiet ys ≡ true → list_all is_quiet zs ≡ true) → list_all is_quiet (xs ++ ys) ≡ true → list_all is_quiet (xs ++ zs) ≡ true
quiet_behind [] ys zs f h = f h
quiet_behind (x ∷ xs) ys zs f h = let parts = and_parts (is_quiet x) _ h in and_from (is_quiet x) _ parts.0 (quiet_behind xs ys zs f parts.1)

pub quiet_separated : (f : Forest) → HasNoWord f → HasNoWord (separated f)
quiet_separated empty h = refl
quiet_separated (leaf l rest) h =
    let parts = and_parts (is_quiet (at_leaf l)) _ h in
    and_from (is_quiet (at_leaf (if is_punct ";" l then alone l else l))) _ (ap not (quiet_alone (is_punct ";" l) l) ∙ parts.0) (quiet_separated rest parts.1)
quiet_separated (group d inner rest) h =
    quiet_behind (walk inner) (closes d.kind d.close_span ∷ walk rest) (closes d.kind d.close_span ∷ walk (separated rest)) (quiet_separated rest) h

-- so no piece of a text without such a word is a definition
pub quiet_plain : (f : Forest) → HasNoWord f → AreAllPlain (pieces f)
quiet_plain f h = quiet_cut (separated f) (quiet_separated f h)
