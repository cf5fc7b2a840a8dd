-- Worked examples of sources and picks, by computation.
use Rattle.std.proofs.Common.{◌≡◌, ℕ, List, [], ◌∷◌, ◌++◌, Option, Some, None, map, option_map, refl}
use Rattle.std.specs.Prelude.{codes, Result, Ok, Err}
use Rattle.std.specs.Char.{encode_utf8}
use Rattle.std.specs.Str.{chars, is_utf8}
use Rattle.ucd_derived.specs.Binary.{is_xid_start, is_xid_continue}
use Rattle.ucd_derived.specs.XidContinueRanges.{xid_continue_ranges}
use Rattle.ucd_derived.specs.XidStartRanges.{xid_start_ranges}
use Rattle.ucd_table.specs.Rows.{in_ranges}
use Rattle.bridge.specs.TokenSteps.{text_reading}
use Rattle.bridge.specs.declared.reading.outcome.ReadFault.{ReadFault}
use Rattle.tt_data.specs.Forest.{Forest, empty, leaf, group}
use Rattle.tt_data.specs.declared.edition.Edition.{Edition}
use Rattle.tt_data.specs.declared.edition.Edition.TheVariants.{Edition2021}
use Rattle.tt_data.specs.declared.leaf.Leaf.TheVariants as as_leaf
use Rattle.tt_data.specs.declared.span.TextRange.{TextRange}
use Rattle.expander_model.specs.Definitions.{definition_of}
use Rattle.expander_model.specs.EditionMarks.{marked_edition}
use Rattle.expander_sources.specs.Homes.{Home, root_of}
use Rattle.expander_sources.specs.Picks.{picked, rooted_picks}
use Rattle.expander_sources.specs.Rooting.{rooted}
use Rattle.expander_sources.specs.Sources.{Item, name_of, name_range_of, range_of, source_items}

-- the trees of a text
abbrev trees : Result Forest ReadFault → Forest
trees (Ok f) = f
trees (Err fault) = empty

-- the definitions of a text, as text number 1
abbrev items : List ℕ → List Item
items text = source_items 1 (trees (text_reading text))

-- the modules around a definition, and its name
abbrev told : Item → List (List ℕ) × Option (List ℕ)
told i = (i.modules, name_of i.piece)

definitions_have_modules :
    map told (items (codes "macro_rules! a { } mod m { pub(crate) mod n { macro b { } } fn f() { } macro_rules! c(); } mod o;"))
    ≡ ([], Some (codes "a")) ∷ (codes "m" ∷ codes "n" ∷ [], Some (codes "b")) ∷ (codes "m" ∷ [], Some (codes "c")) ∷ []
unfolding chars is_utf8 is_xid_start is_xid_continue in_ranges xid_start_ranges xid_continue_ranges encode_utf8
definitions_have_modules = refl

-- where its name is, and all of it
abbrev placed : Item → Option TextRange × TextRange
placed i = (name_range_of i.piece, range_of i.piece)

definitions_are_at_their_ranges :
    map placed (items (codes "mod m { macro_rules! a(); }"))
    ≡ (Some (record { start = 21; «end» = 22 }), record { start = 8; «end» = 25 }) ∷ []
unfolding chars is_utf8 is_xid_start is_xid_continue in_ranges xid_start_ranges xid_continue_ranges encode_utf8
definitions_are_at_their_ranges = refl

-- the names in trees
abbrev names : Forest → List (List ℕ)
names empty = []
names (leaf (as_leaf.Ident i) rest) = i.sym ∷ names rest
names (leaf l rest) = names rest
names (group d inner rest) = names inner ++ names rest

crate_stands_for_its_root :
    names (rooted (root_of (codes "std")) (trees (text_reading (codes "$crate::x!{ ($crate) $y crate }"))))
    ≡ codes "$crate:std" ∷ codes "x" ∷ codes "$crate:std" ∷ codes "y" ∷ codes "crate" ∷ []
unfolding chars is_utf8 is_xid_start is_xid_continue in_ranges xid_start_ranges xid_continue_ranges encode_utf8
crate_stands_for_its_root = refl

two_dollars_stand_for_themselves :
    rooted (root_of (codes "std")) (trees (text_reading (codes "$$crate"))) ≡ trees (text_reading (codes "$$crate"))
unfolding chars is_utf8 is_xid_start is_xid_continue in_ranges xid_start_ranges xid_continue_ranges encode_utf8
two_dollars_stand_for_themselves = refl

-- what a pick defines, in which edition, and with which names in its body
abbrev defined : Forest → Option (List ℕ × (Option Edition × List (List ℕ)))
defined p = option_map (λ d. (d.name.sym, (marked_edition d.piece, names d.body))) (definition_of p)

abbrev core : Home
core = record { root = codes "core"; edition = Edition2021 }

a_pick_has_the_edition_and_the_root_of_its_crate :
    map (λ i. defined (picked (Some core) i.piece)) (items (codes "#[a] pub macro m($x:tt) { $crate::n!{} } macro_rules! o[];"))
    ≡ Some (codes "m", (Some Edition2021, codes "$crate:core" ∷ codes "n" ∷ [])) ∷ Some (codes "o", (Some Edition2021, [])) ∷ []
unfolding chars is_utf8 is_xid_start is_xid_continue in_ranges xid_start_ranges xid_continue_ranges encode_utf8
a_pick_has_the_edition_and_the_root_of_its_crate = refl

a_pick_of_the_own_crate_is_as_it_is :
    map (λ i. picked None i.piece) (items (codes "macro_rules! a { $crate }")) ≡ map (λ i. i.piece) (items (codes "macro_rules! a { $crate }"))
unfolding chars is_utf8 is_xid_start is_xid_continue in_ranges xid_start_ranges xid_continue_ranges encode_utf8
a_pick_of_the_own_crate_is_as_it_is = refl

-- what another crate hands on is looked up behind that one, and stands for its own
builtins_are_not_behind_a_root :
    map defined (rooted_picks (codes "std") (Some core) (items (codes "macro_rules! a { $crate } #[rustc_builtin_macro] macro b { }")))
    ≡ Some (codes "$crate:std::a", (Some Edition2021, codes "$crate:core" ∷ [])) ∷ []
unfolding chars is_utf8 is_xid_start is_xid_continue in_ranges xid_start_ranges xid_continue_ranges encode_utf8
builtins_are_not_behind_a_root = refl
