-- Trees added to a tree that is built, one after another.
use Rattle.std.proofs.Common.{◌≡◌, Bool, true, false, List, [], ℕ, Option, None, refl, ap, sym, ◌∙◌, if◌then◌else◌}
use Rattle.std.specs.Prelude.{Result, Ok, Err, OnOk, codes}
use Rattle.bridge.specs.ReadText.{text_top}
use Rattle.tt.specs.Building.{Builder, Building, closed, extended, opened, pushed}
use Rattle.tt.specs.Tops.{Top}
use Rattle.tt_data.proofs.ForestLemmas.{joined_assoc}
use Rattle.tt_data.specs.Flat.{joined-empty}
use Rattle.tt_data.specs.Forest.{Forest, empty, leaf, group, joined}
use Rattle.tt_data.specs.declared.delimiter.DelimiterKind.{DelimiterKind}
use Rattle.tt_data.specs.declared.delimiter.DelimiterKind.TheVariants.{Bracket}
use Rattle.tt_data.specs.declared.edition.Edition.{Edition}
use Rattle.tt_data.specs.declared.leaf.Leaf.{Leaf}
use Rattle.tt_data.specs.declared.leaf.Leaf.TheVariants as as_leaf
use Rattle.tt_data.specs.declared.delimiter.Delimiter.{Delimiter}
use Rattle.tt_data.specs.declared.span.Span.{Span}
use Rattle.tt_data.specs.fault.TtFault.{TtFault}
use Rattle.expander_model.specs.Definitions.{Definition}
use Rattle.expander_model.specs.EditionMarks.{edition_word}
use Rattle.expander_model.specs.HashedTrees.{own_top}
use Rattle.expander_sources.specs.Builds.{Adds}
use Rattle.expander_sources.specs.Homes.{Home, root_of}
use Rattle.expander_sources.specs.Picks.{arguments_at, brackets_at, first_span, groups_at, head_at, home_piece, keyword_at, marked_with, own_arguments, punct_at, word_at}

-- trees, and then more trees
pub adds_more : (old mid new : Building) (f g : Forest) → Adds old mid f → Adds mid new g → Adds old new (joined f g)
adds_more old mid new f g e h = h ∙ ap (λ (b : Building). extended b g) e ∙ (λ i. record old { here = joined_assoc old.here f g i })

-- where a last call adds them
pub adds_then : {A : Type 0} (r : Result A TtFault) (old mid new : Building) (f g : Forest) → Adds old mid f → OnOk r (Adds mid new g) → OnOk r (Adds old new (joined f g))
adds_then (Ok a) old mid new f g e h = adds_more old mid new f g e h
adds_then (Err x) old mid new f g e h = h

-- a group that is opened, filled and closed
pub adds_group : {A : Type 0} (r : Result A TtFault) (old begun inner new : Building) (kind : DelimiterKind) (at : Span) (f : Forest)
    → begun ≡ opened old kind at → Adds begun inner f → OnOk r (new ≡ closed inner at) → OnOk r (Adds old new (group (brackets_at kind at) f empty))
adds_group (Ok a) old begun inner new kind at f e h c = c ∙ ap (λ (b : Building). closed b at) (h ∙ ap (λ (b : Building). extended b f) e)
adds_group (Err x) old begun inner new kind at f e h c = c

same_added : {A : Type 0} (r : Result A TtFault) (old new : Building) (f g : Forest) → f ≡ g → OnOk r (Adds old new f) → OnOk r (Adds old new g)
same_added (Ok a) old new f g e h = h ∙ ap (extended old) e
same_added (Err x) old new f g e h = h

-- the mark of an edition
pub adds_mark : {A : Type 0} (r : Result A TtFault) (old one begun inner new : Building) (p w : Leaf) (word : List ℕ) (edition : Edition) (at : Span)
    → p ≡ punct_at 35 at → one ≡ pushed old p → begun ≡ opened one Bracket at → word ≡ edition_word edition → w ≡ word_at word at → inner ≡ pushed begun w
    → OnOk r (new ≡ closed inner at) → OnOk r (Adds old new (marked_with edition at empty))
adds_mark r old one begun inner new p w word edition at is_p first opens is_word is_w second closes =
    same_added r old new (leaf p (group (brackets_at Bracket at) (leaf w empty) empty)) (marked_with edition at empty)
    (ap (λ (l : Leaf). leaf l (group (brackets_at Bracket at) (leaf w empty) empty)) is_p
    ∙ ap (λ (l : Leaf). leaf (punct_at 35 at) (group (brackets_at Bracket at) (leaf l empty) empty)) (is_w ∙ ap (λ (t : List ℕ). word_at t at) is_word))
    (adds_then r old one new (leaf p empty) (group (brackets_at Bracket at) (leaf w empty) empty) first
    (adds_group r one begun inner new Bracket at (leaf w empty) opens second closes))

-- the keyword of a `macro_rules`
pub adds_keyword : {A : Type 0} (r : Result A TtFault) (old one new : Building) (w p : Leaf) (is_macro : Bool) (at : Span)
    → is_macro ≡ false → w ≡ word_at (codes "macro_rules") at → one ≡ pushed old w → p ≡ punct_at 33 at → OnOk r (new ≡ pushed one p)
    → OnOk r (Adds old new (keyword_at is_macro at))
adds_keyword r old one new w p is_macro at is is_w first is_p second =
    same_added r old new (leaf w (leaf p empty)) (keyword_at is_macro at)
    (ap (λ (l : Leaf). leaf l (leaf p empty)) is_w ∙ ap (λ (l : Leaf). leaf (word_at (codes "macro_rules") at) (leaf l empty)) is_p
    ∙ ap (λ (b : Bool). keyword_at b at) (sym is))
    (adds_then r old one new (leaf w empty) (leaf p empty) first second)

-- the whole definition
pub home_built : (h : Home) (key : List ℕ) (d : Definition) (root : List ℕ) → root ≡ root_of h.root → (at : Span) → at ≡ first_span d.piece
    → (top : Delimiter) → top ≡ text_top → (b : Builder) → b ≡ record { tree = record { top = top; groups = []; here = empty }; last_closed = None }
    → (one two three : Building) → Adds b.tree one (marked_with h.edition at empty) → Adds one two (head_at key d at empty) → Adds two three (groups_at root d at)
    → (t : Top) → t ≡ record { delimiter = three.top; inner = three.here } → t ≡ own_top (home_piece h key d)
home_built h key d root is_root at is_at top is_top b is_b one two three mark head groups t built =
    let whole : Adds b.tree three (joined (joined (marked_with h.edition at empty) (head_at key d at empty)) (groups_at root d at)) =
    adds_more b.tree two three (joined (marked_with h.edition at empty) (head_at key d at empty)) (groups_at root d at)
    (adds_more b.tree one two (marked_with h.edition at empty) (head_at key d at empty) mark head) groups in
    built
    ∙ ap (λ (x : Building). record { delimiter = x.top; inner = x.here }) whole
    ∙ ap (λ (x : Builder). record { delimiter = x.tree.top; inner = joined x.tree.here (joined (joined (marked_with h.edition at empty) (head_at key d at empty)) (groups_at root d at)) }) is_b
    ∙ ap (λ (x : Delimiter). record { delimiter = x; inner = joined (joined (marked_with h.edition at empty) (head_at key d at empty)) (groups_at root d at) }) is_top
    ∙ ap (λ (x : Forest). own_top (marked_with h.edition at x)) (joined_assoc (keyword_at d.is_macro at) (leaf (as_leaf.Ident (record d.name { sym = key })) empty) (groups_at root d at))
    ∙ ap (λ (r : List ℕ). own_top (marked_with h.edition at (head_at key d at (groups_at r d at)))) is_root
    ∙ ap (λ (s : Span). own_top (marked_with h.edition s (head_at key d s (groups_at (root_of h.root) d s)))) is_at

-- nothing before the body
adds_nothing : (b : Building) (f : Forest) → f ≡ empty → Adds b b f
adds_nothing b f e = (λ i. record b { here = sym (joined-empty b.here) i }) ∙ ap (extended b) (sym e)

pub adds_no_arguments : (b : Building) (root : List ℕ) (d : Definition) (at : Span) → d.arguments ≡ None → Adds b b (own_arguments root d at)
adds_no_arguments b root d at e = adds_nothing b (own_arguments root d at) (go d.is_macro)
  where
    go : (t : Bool) → (if t then arguments_at root d.arguments at else empty) ≡ empty
    go true = ap (λ (o : Option Forest). arguments_at root o at) e
    go false = refl

pub adds_no_macro : (b : Building) (root : List ℕ) (d : Definition) (at : Span) → d.is_macro ≡ false → Adds b b (own_arguments root d at)
adds_no_macro b root d at e = adds_nothing b (own_arguments root d at) (ap (λ (t : Bool). if t then arguments_at root d.arguments at else empty) e)
