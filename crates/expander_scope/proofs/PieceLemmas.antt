-- Which pieces can be definitions, by their first trees.
use Rattle.std.proofs.Common.{◌≡◌, ◌≢◌, List, ◌∷◌, refl, sym, ap, ◌∙◌, Bool, true, false, if◌then◌else◌}
use Rattle.std.specs.Prelude.{◌&&◌, ◌||◌, Option, None, codes, unwrap_or}
use Rattle.tt_data.specs.Forest.{Forest, empty, leaf, group, joined}
use Rattle.tt_data.specs.declared.delimiter.Delimiter.{Delimiter}
use Rattle.tt_data.specs.declared.delimiter.DelimiterKind.TheVariants.{Bracket}
use Rattle.tt_data.specs.declared.leaf.Ident.{Ident}
use Rattle.tt_data.specs.declared.leaf.Leaf.TheVariants as as_leaf
use Rattle.tt_data.specs.declared.leaf.Punct.{Punct}
use Rattle.bridge.specs.Text.{is_char, same_kind}
use Rattle.small_grammar.specs.Text.{has_text}
use Rattle.expander_model.specs.Definitions.{Definition, after_attributes, after_pub, definition_of, macro_of, macro_rules_of}
use Rattle.expander_model.specs.cfg_options.Conditions.{or_else}
use Rattle.expander_model.specs.Pieces.{cut}
use Rattle.expander_model.specs.declared.begun.Begun.TheVariants.{Nothing}
use Rattle.expander_scope.specs.ListsLeft.{can_begin}
use Rattle.textual_scope.specs.FromLeft.{is_begun, piece_ahead, with_group, with_leaf}
use Rattle.expander_model.specs.PieceStates.{after_leaf, after_group}
use Rattle.textual_scope.proofs.LeftLemmas.{first-ahead, ahead-joined}

first_false : (a b : Bool) → (a || b) ≡ false → a ≡ false
first_false true b e = absurd (cc e)
first_false false b e = refl

second_false : (a b : Bool) → (a || b) ≡ false → b ≡ false
second_false true b e = absurd (cc e)
second_false false b e = e

no_rules : (piece : Forest) (i : Ident) (rest : Forest) → has_text (codes "macro_rules") i ≡ false → macro_rules_of piece (leaf (as_leaf.Ident i) rest) ≡ None
no_rules piece i rest h = rw h refl

no_single : (piece : Forest) (i : Ident) (rest : Forest) → has_text (codes "macro") i ≡ false → macro_of piece (leaf (as_leaf.Ident i) rest) ≡ None
no_single piece i rest h = rw h refl

no_pub : (i : Ident) (rest : Forest) → has_text (codes "pub") i ≡ false
    → unwrap_or (after_pub (leaf (as_leaf.Ident i) rest)) (leaf (as_leaf.Ident i) rest) ≡ leaf (as_leaf.Ident i) rest
no_pub i rest h = rw h refl

-- a word that begins no definition
word_none : (i : Ident) (rest : Forest) → can_begin (leaf (as_leaf.Ident i) rest) ≡ false → definition_of (leaf (as_leaf.Ident i) rest) ≡ None
word_none i rest e =
    let piece : Forest = leaf (as_leaf.Ident i) rest in
    let later = second_false (has_text (codes "macro_rules") i) (has_text (codes "macro") i || has_text (codes "pub") i) e in
    ap (λ (o : Option Definition). or_else o (macro_of piece (unwrap_or (after_pub piece) piece)))
    (no_rules piece i rest (first_false (has_text (codes "macro_rules") i) (has_text (codes "macro") i || has_text (codes "pub") i) e))
    ∙ ap (macro_of piece) (no_pub i rest (second_false (has_text (codes "macro") i) (has_text (codes "pub") i) later))
    ∙ no_single piece i rest (first_false (has_text (codes "macro") i) (has_text (codes "pub") i) later)

-- neither does another sign than `#`
punct_none : (p : Punct) (d : Delimiter) (inner rest : Forest) → is_char "#" p ≡ false → definition_of (leaf (as_leaf.Punct p) (group d inner rest)) ≡ None
punct_none p d inner rest e =
    let piece : Forest = leaf (as_leaf.Punct p) (group d inner rest) in
    ap (λ (f : Forest). or_else (macro_rules_of piece f) (macro_of piece (unwrap_or (after_pub f) f))) (itself (is_char "#" p) e)
  where
    itself : (b : Bool) → b ≡ false
        → (if b && same_kind d.kind Bracket then after_attributes rest else leaf (as_leaf.Punct p) (group d inner rest)) ≡ leaf (as_leaf.Punct p) (group d inner rest)
    itself true e = absurd (cc e)
    itself false e = refl

-- the first tree says whether it can
pub none_here : (p : Forest) → can_begin p ≡ false → definition_of p ≡ None
none_here empty e = refl
none_here (leaf (as_leaf.Ident i) rest) e = word_none i rest e
none_here (leaf (as_leaf.Literal l) rest) e = refl
none_here (leaf (as_leaf.Punct p) empty) e = refl
none_here (leaf (as_leaf.Punct p) (leaf l rest)) e = refl
none_here (leaf (as_leaf.Punct p) (group d inner rest)) e = punct_none p d inner rest e
none_here (group d inner rest) e = refl

same_begin : (p q : Forest) → p ≢ empty → can_begin (joined p q) ≡ can_begin p
same_begin empty q some = absurd (some refl)
same_begin (leaf (as_leaf.Ident i) p) q some = refl
same_begin (leaf (as_leaf.Literal i) p) q some = refl
same_begin (leaf (as_leaf.Punct i) p) q some = refl
same_begin (group d a p) q some = refl

some_ahead : (f : Forest) → f ≢ empty → (piece_ahead Nothing f).0 ≢ empty
some_ahead empty some = absurd (some refl)
some_ahead (leaf l rest) some =
    elim (is_begun (after_leaf Nothing l)) as (λ b. (if b then with_leaf l (piece_ahead (after_leaf Nothing l) rest) else (leaf l empty, rest)).0 ≢ empty)
    [ true ↦ λ e. absurd (cc e) | false ↦ λ e. absurd (cc e) ]
some_ahead (group d inner rest) some =
    elim (is_begun (after_group Nothing d.kind)) as (λ b. (if b then with_group d inner (piece_ahead (after_group Nothing d.kind) rest) else (group d inner empty, rest)).0 ≢ empty)
    [ true ↦ λ e. absurd (cc e) | false ↦ λ e. absurd (cc e) ]

go : (f : Forest) → f ≢ empty → can_begin f ≡ false → (p : Forest) (ps : List Forest) → cut f ≡ p ∷ ps → definition_of p ≡ None
go f some e p ps are =
    let q : Forest × Forest = piece_ahead Nothing f in
    let both : q.0 ∷ cut q.1 ≡ p ∷ ps = sym (first-ahead f some) ∙ are in
    let same : q.0 ≡ p = cc both in
    none_here p (ap can_begin (sym same) ∙ sym (same_begin q.0 q.1 (some_ahead f some)) ∙ ap can_begin (ahead-joined f Nothing) ∙ e)

-- the first piece begins with the first tree
pub none_ahead : (f : Forest) → can_begin f ≡ false → (p : Forest) (ps : List Forest) → cut f ≡ p ∷ ps → definition_of p ≡ None
none_ahead empty e p ps are = absurd (cc are)
none_ahead (leaf l rest) e p ps are = go (leaf l rest) (λ x. absurd (cc x)) e p ps are
none_ahead (group d inner rest) e p ps are = go (group d inner rest) (λ x. absurd (cc x)) e p ps are
