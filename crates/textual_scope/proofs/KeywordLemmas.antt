-- Trees without a definition keyword: none of their lists has a definition.
use Rattle.std.proofs.Common.{◌≡◌, List, [], ◌∷◌, ◌++◌, refl, ap, ◌∙◌, sym, Bool, true, false, if◌then◌else◌}
use Rattle.std.specs.Prelude.{Option, Some, None, not, ◌&&◌, ◌||◌, codes, option_and_then, unwrap_or}
use Rattle.std.specs.List.{list_all}
use Rattle.std.proofs.lemmas.List.Folds.{list_all-append}
use Rattle.std.proofs.lemmas.Bool.{and_parts, and_from}
use Rattle.tt_data.proofs.ForestLemmas.{walk-joined}
use Rattle.tt_data.specs.Forest.{Forest, empty, leaf, group, joined}
use Rattle.tt_data.specs.Walk.{Step, at_leaf, closes, walk}
use Rattle.tt_data.specs.declared.delimiter.Delimiter.{Delimiter}
use Rattle.tt_data.specs.declared.delimiter.DelimiterKind.TheVariants.{Parenthesis, Bracket}
use Rattle.tt_data.specs.declared.leaf.Ident.{Ident}
use Rattle.tt_data.specs.declared.leaf.Leaf.{Leaf}
use Rattle.tt_data.specs.declared.leaf.Leaf.TheVariants as as_leaf
use Rattle.bridge.specs.Text.{same_kind, is_char, is_punct}
use Rattle.expander_model.specs.Calls.{marked, unmarked}
use Rattle.expander_model.specs.Definitions.{Definition, after_attributes, after_parenthesis, after_pub, definition_of, macro_of, macro_rules_of}
use Rattle.expander_model.specs.cfg_options.Conditions.{or_else}
use Rattle.expander_model.specs.Faults.{is_definition_word}
use Rattle.expander_model.specs.Pieces.{cut, cut_from, ends_piece}
use Rattle.small_grammar.specs.Text.{has_text}
use Rattle.expander_model.specs.declared.scope_rules.ScopeRules.TheVariants.{Rust}
use Rattle.textual_scope.specs.Keywords.{HasNoKeyword}
use Rattle.textual_scope.proofs.MarkLemmas.{AllInside, inside_leaf, unmarked-marked}
use Rattle.textual_scope.proofs.PlainLemmas.{ArePlain}

abbrev is_other : Step → Bool
is_other s = not (is_definition_word s)

-- ---- parts of trees without one

both : (xs ys : List Step) → list_all is_other (xs ++ ys) ≡ true → (list_all is_other xs ≡ true) × (list_all is_other ys ≡ true)
both xs ys h = and_parts (list_all is_other xs) (list_all is_other ys) (sym (list_all-append is_other xs ys) ∙ h)

in_leaf : (l : Leaf) (rest : Forest) → HasNoKeyword (leaf l rest) → HasNoKeyword (leaf l empty) × HasNoKeyword rest
in_leaf l rest h = both (at_leaf l ∷ []) (walk rest) h

in_group : (d : Delimiter) (inner rest : Forest) → HasNoKeyword (group d inner rest) → HasNoKeyword (group d inner empty) × HasNoKeyword inner × HasNoKeyword rest
in_group d inner rest h =
    let parts = both (walk inner) (closes d.kind d.close_span ∷ walk rest) h in
    (list_all-append is_other (walk inner) (closes d.kind d.close_span ∷ []) ∙ and_from (list_all is_other (walk inner)) true parts.0 refl, parts.0, parts.1)

of_joined : (f g : Forest) → HasNoKeyword f → HasNoKeyword g → HasNoKeyword (joined f g)
of_joined f g h k =
    ap (list_all is_other) (walk-joined f g)
    ∙ list_all-append is_other (walk f) (walk g)
    ∙ and_from (list_all is_other (walk f)) (list_all is_other (walk g)) h k

-- ---- no definition begins with another word

other_word : (i : Ident) (rest : Forest) → HasNoKeyword (leaf (as_leaf.Ident i) rest)
    → (has_text (codes "macro_rules") i ≡ false) × (has_text (codes "macro") i ≡ false)
other_word i rest h = apart (has_text (codes "macro_rules") i) (has_text (codes "macro") i) (in_leaf (as_leaf.Ident i) rest h).0
  where
    apart : (a b : Bool) → (not (a || b) && true) ≡ true → (a ≡ false) × (b ≡ false)
    apart true b e = absurd (cc e)
    apart false true e = absurd (cc e)
    apart false false e = (refl, refl)

no_macro_rules : (piece f : Forest) → HasNoKeyword f → macro_rules_of piece f ≡ None
no_macro_rules piece (leaf (as_leaf.Ident i) rest) h = rw (other_word i rest h).0 refl
no_macro_rules piece (leaf (as_leaf.Punct p) rest) h = refl
no_macro_rules piece (leaf (as_leaf.Literal l) rest) h = refl
no_macro_rules piece (group d inner rest) h = refl
no_macro_rules piece empty h = refl

no_macro : (piece f : Forest) → HasNoKeyword f → macro_of piece f ≡ None
no_macro piece (leaf (as_leaf.Ident i) rest) h = rw (other_word i rest h).1 refl
no_macro piece (leaf (as_leaf.Punct p) rest) h = refl
no_macro piece (leaf (as_leaf.Literal l) rest) h = refl
no_macro piece (group d inner rest) h = refl
no_macro piece empty h = refl

one_of : (b : Bool) (f g : Forest) → HasNoKeyword f → HasNoKeyword g → HasNoKeyword (if b then f else g)
one_of true f g h k = h
one_of false f g h k = k

behind_attributes : (f : Forest) → HasNoKeyword f → HasNoKeyword (after_attributes f)
behind_attributes (leaf (as_leaf.Punct p) (group d inner rest)) h =
    one_of (is_char "#" p && same_kind d.kind Bracket) (after_attributes rest) (leaf (as_leaf.Punct p) (group d inner rest))
    (behind_attributes rest (in_group d inner rest (in_leaf (as_leaf.Punct p) (group d inner rest) h).1).2) h
behind_attributes (leaf (as_leaf.Punct p) (leaf l rest)) h = h
behind_attributes (leaf (as_leaf.Punct p) empty) h = h
behind_attributes (leaf (as_leaf.Ident i) rest) h = h
behind_attributes (leaf (as_leaf.Literal l) rest) h = h
behind_attributes (group d inner rest) h = h
behind_attributes empty h = h

behind_parenthesis : (f : Forest) → HasNoKeyword f → HasNoKeyword (unwrap_or (after_parenthesis f) f)
behind_parenthesis (group d inner rest) h =
    elim (same_kind d.kind Parenthesis) as (λ b. HasNoKeyword (unwrap_or (if b then Some rest else None) (group d inner rest)))
    [ true ↦ (in_group d inner rest h).2 | false ↦ h ]
behind_parenthesis (leaf l rest) h = h
behind_parenthesis empty h = h

behind_pub : (f : Forest) → HasNoKeyword f → HasNoKeyword (unwrap_or (after_pub f) f)
behind_pub (leaf (as_leaf.Ident i) rest) h =
    elim (has_text (codes "pub") i) as
    (λ b. HasNoKeyword (unwrap_or (option_and_then (λ (g : Forest). Some (unwrap_or (after_parenthesis g) g)) (if b then Some rest else None)) (leaf (as_leaf.Ident i) rest)))
    [ true ↦ behind_parenthesis rest (in_leaf (as_leaf.Ident i) rest h).1 | false ↦ h ]
behind_pub (leaf (as_leaf.Punct p) rest) h = h
behind_pub (leaf (as_leaf.Literal l) rest) h = h
behind_pub (group d inner rest) h = h
behind_pub empty h = h

pub no_definition : (p : Forest) → HasNoKeyword p → definition_of p ≡ None
no_definition p h =
    let rest : Forest = after_attributes p in
    let has_none : HasNoKeyword rest = behind_attributes p h in
    ap (λ (o : Option Definition). or_else o (macro_of p (unwrap_or (after_pub rest) rest))) (no_macro_rules p rest has_none)
    ∙ no_macro p (unwrap_or (after_pub rest) rest) (behind_pub rest has_none)

-- ---- the pieces of such trees, and what is inside them

one_piece : (p : Forest) (ps : List Forest) → HasNoKeyword p → ArePlain Rust HasNoKeyword ps → ArePlain Rust HasNoKeyword (p ∷ ps)
one_piece p ps h more = (no_definition p h, h, more)

plain_or : (b : Bool) (xs ys : List Forest) → ArePlain Rust HasNoKeyword xs → ArePlain Rust HasNoKeyword ys → ArePlain Rust HasNoKeyword (if b then xs else ys)
plain_or true xs ys h k = h
plain_or false xs ys h k = k

plain_from : (f begun : Forest) → HasNoKeyword begun → HasNoKeyword f → ArePlain Rust HasNoKeyword (cut_from f begun)
plain_from empty empty h k = tt
plain_from empty (leaf l begun) h k = one_piece (leaf l begun) [] h tt
plain_from empty (group d inner begun) h k = one_piece (group d inner begun) [] h tt
plain_from (leaf l rest) begun h k =
    let parts = in_leaf l rest k in
    let one : HasNoKeyword (joined begun (leaf l empty)) = of_joined begun (leaf l empty) h parts.0 in
    plain_or (is_punct ";" l) (joined begun (leaf l empty) ∷ cut rest) (cut_from rest (joined begun (leaf l empty)))
    (one_piece (joined begun (leaf l empty)) (cut rest) one (plain_from rest empty refl parts.1)) (plain_from rest (joined begun (leaf l empty)) one parts.1)
plain_from (group d inner rest) begun h k =
    let parts = in_group d inner rest k in
    let one : HasNoKeyword (joined begun (group d inner empty)) = of_joined begun (group d inner empty) h parts.0 in
    plain_or (ends_piece begun d) (joined begun (group d inner empty) ∷ cut rest) (cut_from rest (joined begun (group d inner empty)))
    (one_piece (joined begun (group d inner empty)) (cut rest) one (plain_from rest empty refl parts.2)) (plain_from rest (joined begun (group d inner empty)) one parts.2)

pub plain_pieces : (f : Forest) → HasNoKeyword f → ArePlain Rust HasNoKeyword (cut f)
plain_pieces f h = plain_from f empty refl h

pub none_inside : (f : Forest) → HasNoKeyword f → AllInside (λ a. HasNoKeyword (unmarked a)) (marked f)
none_inside empty h = tt
none_inside (leaf l rest) h = inside_leaf (λ a. HasNoKeyword (unmarked a)) l (marked rest) (none_inside rest (in_leaf l rest h).1)
none_inside (group d inner rest) h =
    let parts = in_group d inner rest h in
    (ap (λ f. list_all is_other (walk f)) (unmarked-marked inner) ∙ parts.1, none_inside rest parts.2)
