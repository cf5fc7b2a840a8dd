-- Worked examples, by computation: `a(,)b` under construction, and tree by tree.
use Rattle.std.proofs.Common.{◌≡◌, ℕ, ◌+◌, List, [], ◌∷◌, length, refl, codes, option_map, Some, None, true, false}
use Rattle.tt_data.specs.declared.span.Span.{Span}
use Rattle.tt_data.specs.declared.span.SyntaxContext.TheVariants.{Written}
use Rattle.tt_data.specs.declared.delimiter.Delimiter.{Delimiter}
use Rattle.tt_data.specs.declared.delimiter.DelimiterKind.TheVariants.{Parenthesis, Brace, Invisible}
use Rattle.tt_data.specs.declared.leaf.Leaf.{Leaf}
use Rattle.tt_data.specs.declared.leaf.Leaf.TheVariants as as_leaf
use Rattle.tt_data.specs.declared.leaf.Spacing.{Spacing}
use Rattle.tt_data.specs.declared.leaf.Spacing.TheVariants.{Alone, Joint, JointHidden}
use Rattle.tt_data.specs.declared.tree.TokenTree.{TokenTree}
use Rattle.tt_data.specs.declared.tree.TokenTree.TheVariants as token
use Rattle.tt_data.specs.Forest.{Forest, empty, leaf, group, preorder}
use Rattle.tt_data.specs.Names.{ident_of}
use Rattle.tt_data.specs.Walk.{at_leaf, opens, closes}
use Rattle.tt.specs.declared.top_subtree.builder.Opening.{Opening}
use Rattle.tt.specs.declared.iter.TtElement.TheVariants as element
use Rattle.tt.specs.BuilderTokens.{here_of, groups_of, begins_invisible, moved_back}
use Rattle.token_bytes.specs.TokenLists.{alone_token, has_leaf_at}
use Rattle.token_bytes.specs.Packing.{records, table_after}
use Rattle.tt.specs.Building.{Building, built, pushed, opened, closed, extended, leaves, last_alone, Reached, itself, by_open, innermost_group, count_of, most_tokens, point_of, list_in, cut_back, unwrapped_at}
use Rattle.tt.specs.Elements.{elements, first_element, first_place, first_alone, after_first, last_place, IsNext}
use Rattle.tt.specs.FirstTrees.{first_subtree, first_name, first_literal_leaf, is_among, behind_punct}
use Rattle.tt.specs.Glued.{first_glued, glued_count}
use Rattle.tt.specs.Groups.{stripped}
use Rattle.tt.specs.CursorTokens.{place_of}
use Rattle.tt.specs.Places.{Around, beginning, moved, IsEnd, first_token, innermost_head, two_leaves, steps_before, steps_after}
use Rattle.tt.specs.Relabelling.{anchors_of, by_first_use, relabelled, renamed}
use Rattle.tt.specs.Rewriting.{IsRewritten, nothing, leaf_stays, leaf_gives_way, group_stays, group_gives_way}
use Rattle.tt.specs.Texts.{displayed_text, pretty_text}
use Rattle.tt.specs.Tops.{Top, head_of, only_group, tokens_of, tree_of}

-- one byte of the text, as it was written
abbrev at : ℕ → Span
at n = record { range = record { start = n; «end» = n + 1 }; anchor = 0; ctx = Written }

abbrev name : List ℕ → ℕ → Leaf
name text n = as_leaf.Ident (ident_of text (at n))

abbrev comma : ℕ → Leaf
comma n = as_leaf.Punct (record { char = 44; spacing = Alone; span = at n })

abbrev round : ℕ → ℕ → Delimiter
round from to = record { open_span = at from; close_span = at to; kind = Parenthesis }

abbrev top : Delimiter
top = record { open_span = at 0; close_span = at 0; kind = Invisible }

-- nothing yet
abbrev start : Building
start = record { top = top; groups = []; here = empty }

-- `a(,`
abbrev unclosed : Building
unclosed = pushed (opened (pushed start (name (codes "a") 0)) Parenthesis (at 1)) (comma 2)

-- `a(,)b`
abbrev trees : Forest
trees = leaf (name (codes "a") 0) (group (round 1 3) (leaf (comma 2) empty) (leaf (name (codes "b") 4) empty))

-- a leaf, an opening, a leaf: the group is open with `a` before it, and `,` inside
unclosed_row :
    unclosed
    ≡ record {
      top = top;
      groups = record { kind = Parenthesis; open_span = at 1; before = leaf (name (codes "a") 0) empty } ∷ [];
      here = leaf (comma 2) empty;
    }
unclosed_row = refl

-- the closing makes one tree of it, and the next leaf comes after
closed_row : pushed (closed unclosed (at 3)) (name (codes "b") 4) ≡ record { top = top; groups = []; here = trees }
closed_row = refl

-- of two open groups the inner one closes, and stands inside the other
inner_first :
    closed (opened (opened start Brace (at 0)) Parenthesis (at 1)) (at 2)
    ≡ record {
      top = top;
      groups = record { kind = Brace; open_span = at 0; before = empty } ∷ [];
      here = group (round 1 2) empty empty;
    }
inner_first = refl

-- where none is open, a closing changes nothing
none_to_close : closed (pushed start (comma 0)) (at 1) ≡ pushed start (comma 0)
none_to_close = refl

none_open : innermost_group start.groups ≡ None
none_open = refl

one_open : innermost_group unclosed.groups ≡ Some (Parenthesis, at 1)
one_open = refl

last_opened : innermost_group (opened unclosed Brace (at 3)).groups ≡ Some (Brace, at 3)
last_opened = refl

-- `a`, the group's head and `,`
three_tokens : count_of unclosed ≡ 3
three_tokens = refl

-- closing adds no token
still_three : count_of (closed unclosed (at 3)) ≡ 3
still_three = refl

limit : most_tokens ≡ 4294967295
limit = refl

-- the tokens that hold it: the top and the open group count nothing yet
abbrev unclosed_tokens : List TokenTree
unclosed_tokens =
    token.Subtree (record { delimiter = top; len = 0 })
    ∷ token.Leaf (name (codes "a") 0)
    ∷ token.Subtree (record { delimiter = round 1 1; len = 0 })
    ∷ token.Leaf (comma 2)
    ∷ []

abbrev openings : List Opening
openings = record { at = record { count = 2; bytes = 49; texts = 1 }; kind = Parenthesis; open_span = at 1 } ∷ []

held_groups : groups_of unclosed_tokens openings ≡ unclosed.groups
held_groups = refl

held_here : here_of unclosed_tokens openings ≡ unclosed.here
held_here = refl

-- a point comes after more leaves, and after groups that were opened and closed past it
stands_past_leaves : cut_back (point_of unclosed) (pushed unclosed (comma 3)) ≡ Some unclosed
stands_past_leaves = refl

stands_past_groups : cut_back (point_of unclosed) (closed (pushed (opened unclosed Brace (at 3)) (comma 4)) (at 5)) ≡ Some unclosed
stands_past_groups = refl

-- so what is built after pushes that were taken back has the bytes and the table of what is built without them
abbrev bytes_of : Building → List ℕ
bytes_of b = records [] (tokens_of (built b))

abbrev table_of : Building → List (List ℕ)
table_of b = table_after [] (tokens_of (built b))

abbrev first_two : Building
first_two = pushed (pushed start (name (codes "a") 0)) (comma 1)

restored_bytes : option_map bytes_of (cut_back (point_of first_two) (pushed first_two (name (codes "b") 2))) ≡ Some (bytes_of first_two)
restored_bytes = refl

-- the top, a name and a punct
bytes_there : length (bytes_of first_two) ≡ 31 + 18 + 18
bytes_there = refl

restored_table : option_map table_of (cut_back (point_of first_two) (pushed first_two (name (codes "b") 2))) ≡ Some (codes "a" ∷ [])
restored_table = refl

-- without going back, there would be a text more
table_before : table_of (pushed first_two (name (codes "b") 2)) ≡ codes "a" ∷ codes "b" ∷ []
table_before = refl

-- it does not stand once its own group is closed, nor where the group opens only after so many tokens, nor inside a closed group
falls_with_its_group : cut_back (point_of unclosed) (closed unclosed (at 3)) ≡ None
falls_with_its_group = refl

falls_before_the_group : cut_back (record { tokens = 1; depth = 1 }) unclosed ≡ None
falls_before_the_group = refl

falls_inside_a_group : cut_back (record { tokens = 2; depth = 0 }) (closed unclosed (at 3)) ≡ None
falls_inside_a_group = refl

-- all can be taken back
to_the_start : cut_back (point_of start) (closed unclosed (at 3)) ≡ Some start
to_the_start = refl

-- `a(,` again: in the top's list stands `a` alone, and no second group is open
list_of_the_top : list_in 0 unclosed.groups unclosed.here ≡ Some ([], leaf (name (codes "a") 0) empty)
list_of_the_top = refl

no_such_list : list_in 2 unclosed.groups unclosed.here ≡ None
no_such_list = refl

-- `{}` without its closing, reached from nothing
one_reached : Reached start (opened start Brace (at 0))
one_reached = by_open start Brace (at 0) itself

-- `a` and an invisible group around `,`: the group is the third token
abbrev hidden : Building
hidden = closed (pushed (opened (pushed start (name (codes "a") 0)) Invisible (at 1)) (comma 2)) (at 2)

-- the group gives way to its contents, also where another group is open after it
dissolved : unwrapped_at (Some 2) hidden ≡ pushed (pushed start (name (codes "a") 0)) (comma 2)
dissolved = refl

dissolved_before_a_group :
    unwrapped_at (Some 2) (opened hidden Brace (at 3))
    ≡ opened (pushed (pushed start (name (codes "a") 0)) (comma 2)) Brace (at 3)
dissolved_before_a_group = refl

-- a group with brackets stays
visible_stays : unwrapped_at (Some 2) (closed unclosed (at 3)) ≡ closed unclosed (at 3)
visible_stays = refl

-- how a builder's tokens are read there: the group's own token is the third
begins_third : begins_invisible (token.Subtree (record { delimiter = top; len = 1 })) ≡ true
begins_third = refl

leaf_begins_none : begins_invisible (token.Leaf (comma 2)) ≡ false
leaf_begins_none = refl

moved_after : moved_back 1 (record { at = record { count = 2; bytes = 62; texts = 0 }; kind = Brace; open_span = at 1 }) ≡ record { at = record { count = 1; bytes = 31; texts = 0 }; kind = Brace; open_span = at 1 }
moved_after = refl

-- trees and leaves in bulk
bulk : extended start trees ≡ record { top = top; groups = []; here = trees }
bulk = refl

leaves_in_turn : leaves (comma 0 ∷ comma 1 ∷ []) ≡ leaf (comma 0) (leaf (comma 1) empty)
leaves_in_turn = refl

-- a comma that is joined to what follows
abbrev joint : ℕ → Leaf
joint n = as_leaf.Punct (record { char = 44; spacing = Joint; span = at n })

-- the last token alone changes, be it inside the last group; a name has no spacing
last_leaf : last_alone (leaf (joint 0) (leaf (joint 1) empty)) ≡ leaf (joint 0) (leaf (comma 1) empty)
last_leaf = refl

last_inside : last_alone (group (round 0 3) (leaf (joint 1) (leaf (joint 2) empty)) empty) ≡ group (round 0 3) (leaf (joint 1) (leaf (comma 2) empty)) empty
last_inside = refl

last_name : last_alone trees ≡ trees
last_name = refl

alone_in_a_list : alone_token (token.Leaf (joint 0)) ≡ token.Leaf (comma 0)
alone_in_a_list = refl

-- the tokens of a tree: its own head counts all that follow
tree_tokens : tokens_of (record { delimiter = top; inner = leaf (comma 2) empty }) ≡ token.Subtree (record { delimiter = top; len = 1 }) ∷ token.Leaf (comma 2) ∷ []
tree_tokens = refl

tree_of_tokens : tree_of (token.Subtree (record { delimiter = top; len = 1 }) ∷ token.Leaf (comma 2) ∷ []) ≡ record { delimiter = top; inner = leaf (comma 2) empty }
tree_of_tokens = refl

-- a leaf stands second there, and none first or third
leaf_second : has_leaf_at 1 (tokens_of (record { delimiter = top; inner = leaf (comma 2) empty })) ≡ true
leaf_second = refl

no_leaf_first : has_leaf_at 0 (tokens_of (record { delimiter = top; inner = leaf (comma 2) empty })) ≡ false
no_leaf_first = refl

no_leaf_third : has_leaf_at 2 (tokens_of (record { delimiter = top; inner = leaf (comma 2) empty })) ≡ false
no_leaf_third = refl

-- tree by tree: the group is one tree, with its number of tokens
elements_row :
    elements trees
    ≡ element.Leaf (name (codes "a") 0)
    ∷ element.Subtree (record { delimiter = round 1 3; len = 1 }) (leaf (comma 2) empty)
    ∷ element.Leaf (name (codes "b") 4)
    ∷ []
elements_row = refl

-- the step over the group passes what is inside
next_row :
    IsNext (group (round 1 3) (leaf (comma 2) empty) (leaf (name (codes "b") 4) empty))
    (Some (element.Subtree (record { delimiter = round 1 3; len = 1 }) (leaf (comma 2) empty)))
    (leaf (name (codes "b") 4) empty)
next_row = (refl, refl)

-- at the end nothing comes, and nothing is left
next_at_the_end : IsNext empty None empty
next_at_the_end = (refl, refl)

first_row : first_element trees ≡ Some (element.Leaf (name (codes "a") 0))
first_row = refl

-- a group begins with its opening bracket
first_place_row : first_place (group (round 1 3) (leaf (comma 2) empty) empty) ≡ Some (at 1)
first_place_row = refl

no_first_place : first_place empty ≡ None
no_first_place = refl

-- the first tree alone, and the others
first_alone_row :
    first_alone (group (round 1 3) (leaf (comma 2) empty) (leaf (name (codes "b") 4) empty))
    ≡ Some (group (round 1 3) (leaf (comma 2) empty) empty)
first_alone_row = refl

after_first_row : after_first (group (round 1 3) (leaf (comma 2) empty) (leaf (name (codes "b") 4) empty)) ≡ leaf (name (codes "b") 4) empty
after_first_row = refl

none_alone : first_alone empty ≡ None
none_alone = refl

none_after : after_first empty ≡ empty
none_after = refl

-- the last token is `b`; of `(,)` it is the comma, and of `()` the group, which ends with its closing bracket
last_place_row : last_place trees ≡ Some (at 4)
last_place_row = refl

last_place_inside : last_place (group (round 1 3) (leaf (comma 2) empty) empty) ≡ Some (at 2)
last_place_inside = refl

last_place_of_an_empty_group : last_place (group (round 1 3) empty empty) ≡ Some (at 3)
last_place_of_an_empty_group = refl

no_last_place : last_place empty ≡ None
no_last_place = refl

-- `(,)` is one group; `a(,)b`, a leaf and nothing are not
only_group_row : only_group (group (round 1 3) (leaf (comma 2) empty) empty) ≡ Some (record { delimiter = round 1 3; inner = leaf (comma 2) empty })
only_group_row = refl

not_one_group : only_group trees ≡ None
not_one_group = refl

group_and_leaf : only_group (group (round 1 3) empty (leaf (comma 4) empty)) ≡ None
group_and_leaf = refl

leaf_is_no_group : only_group (leaf (comma 2) empty) ≡ None
leaf_is_no_group = refl

-- of two invisible groups, one inside the other, one goes; round brackets stay, and so does a group with a leaf after it
stripped_once : stripped (group top (group top (leaf (comma 2) empty) empty) empty) ≡ group top (leaf (comma 2) empty) empty
stripped_once = refl

round_stays : stripped (group (round 1 3) empty empty) ≡ group (round 1 3) empty empty
round_stays = refl

not_alone_stays : stripped (group top empty (leaf (comma 2) empty)) ≡ group top empty (leaf (comma 2) empty)
not_alone_stays = refl

-- four tokens below the top
head_row : head_of (record { delimiter = top; inner = trees }) ≡ record { delimiter = top; len = 4 }
head_row = refl

-- a walk of `a(,)b`, step by step: past `a`, into the group, past the comma, out, past `b`
abbrev inside : Around
inside = record { delimiter = round 1 3; before = leaf (name (codes "a") 0) empty; after = leaf (name (codes "b") 4) empty }

past_a : moved (beginning trees) ≡ record { around = []; before = leaf (name (codes "a") 0) empty; after = after_first trees }
past_a = refl

in_group : moved (moved (beginning trees)) ≡ record { around = inside ∷ []; before = empty; after = leaf (comma 2) empty }
in_group = refl

at_its_end : moved (moved (moved (beginning trees))) ≡ record { around = inside ∷ []; before = leaf (comma 2) empty; after = empty }
at_its_end = refl

past_group :
    moved (moved (moved (moved (beginning trees))))
    ≡ record {
      around = [];
      before = leaf (name (codes "a") 0) (group (round 1 3) (leaf (comma 2) empty) empty);
      after = leaf (name (codes "b") 4) empty;
    }
past_group = refl

past_all : moved (moved (moved (moved (moved (beginning trees))))) ≡ record { around = []; before = trees; after = empty }
past_all = refl

-- the end of the walk is the end, that of the group is not
is_end : IsEnd (record { around = []; before = trees; after = empty })
is_end = (refl, refl)

not_the_end : IsEnd (record { around = inside ∷ []; before = leaf (comma 2) empty; after = empty }) → ⊥
not_the_end e = absurd cc

-- in the group, two steps of the walk are before the place and three after it; past the group, four and one
walked_in :
    steps_before (moved (moved (beginning trees))) ≡ at_leaf (name (codes "a") 0) ∷ opens Parenthesis (at 1) ∷ []
walked_in = refl

to_walk_in :
    steps_after (moved (moved (beginning trees)))
    ≡ at_leaf (comma 2) ∷ closes Parenthesis (at 3) ∷ at_leaf (name (codes "b") 4) ∷ []
to_walk_in = refl

walked_past :
    steps_before (moved (moved (moved (moved (beginning trees)))))
    ≡ at_leaf (name (codes "a") 0) ∷ opens Parenthesis (at 1) ∷ at_leaf (comma 2) ∷ closes Parenthesis (at 3) ∷ []
walked_past = refl

to_walk_past : steps_after (moved (moved (moved (moved (beginning trees))))) ≡ at_leaf (name (codes "b") 4) ∷ []
to_walk_past = refl

first_token_row : first_token (after_first trees) ≡ Some (token.Subtree (record { delimiter = round 1 3; len = 1 }))
first_token_row = refl

no_first_token : first_token empty ≡ None
no_first_token = refl

-- the head of the group that a place is in counts the comma after it
inner_head : innermost_head (moved (moved (beginning trees))) ≡ Some (record { delimiter = round 1 3; len = 1 })
inner_head = refl

no_inner_head : innermost_head (beginning trees) ≡ None
no_inner_head = refl

-- two leaves side by side; a group, and the end of a list, are no leaf
two_leaves_row : two_leaves (leaf (comma 0) (leaf (comma 1) (group top empty empty))) ≡ Some (comma 0 ∷ comma 1 ∷ [])
two_leaves_row = refl

leaf_and_group : two_leaves trees ≡ None
leaf_and_group = refl

one_leaf : two_leaves (leaf (comma 0) empty) ≡ None
one_leaf = refl

-- the tokens and two numbers that hold these places: in the group, at its end, and past it, all but the first after three tokens
held_in_group : place_of (preorder trees) 2 2 ≡ record { around = inside ∷ []; before = empty; after = leaf (comma 2) empty }
held_in_group = refl

held_at_its_end : place_of (preorder trees) 2 3 ≡ record { around = inside ∷ []; before = leaf (comma 2) empty; after = empty }
held_at_its_end = refl

held_past_group :
    place_of (preorder trees) 0 3
    ≡ record {
      around = [];
      before = leaf (name (codes "a") 0) (group (round 1 3) (leaf (comma 2) empty) empty);
      after = leaf (name (codes "b") 4) empty;
    }
held_past_group = refl

-- in `(())` the end of the inner group, of the outer one and of the list are after as many tokens
abbrev nested : Forest
nested = group (round 0 3) (group (round 1 2) empty empty) empty

inner_end :
    place_of (preorder nested) 2 2
    ≡ record {
      around = record { delimiter = round 1 2; before = empty; after = empty } ∷ record { delimiter = round 0 3; before = empty; after = empty } ∷ [];
      before = empty;
      after = empty;
    }
inner_end = refl

outer_end :
    place_of (preorder nested) 1 2
    ≡ record {
      around = record { delimiter = round 0 3; before = empty; after = empty } ∷ [];
      before = group (round 1 2) empty empty;
      after = empty;
    }
outer_end = refl

last_end : place_of (preorder nested) 0 2 ≡ record { around = []; before = nested; after = empty }
last_end = refl

-- `a +b`, where the punct is marked as joined, but not to a punct
abbrev sum : Forest
sum =
    leaf (name (codes "a") 0)
    (leaf (as_leaf.Punct (record { char = 43; spacing = JointHidden; span = at 2 })) (leaf (name (codes "b") 3) empty))

displayed_sum : displayed_text sum ≡ codes "a +b"
unfolding lib.Utf8.encode
displayed_sum = refl

pretty_sum : pretty_text sum ≡ codes "a + b"
unfolding lib.Utf8.encode
pretty_sum = refl

-- `a(,)b` has spaces around its group and none inside
displayed_group : displayed_text trees ≡ codes "a (,) b"
unfolding lib.Utf8.encode
displayed_group = refl

-- invisible brackets are no tokens: `a`, `b c` and nothing between such brackets, and `d`
displayed_invisible :
    displayed_text (leaf (name (codes "a") 0) (group top (leaf (name (codes "b") 1) (leaf (name (codes "c") 2) empty)) (group top empty (leaf (name (codes "d") 3) empty))))
    ≡ codes "a b c d"
displayed_invisible = refl

-- `a`, nothing between invisible brackets, `b`, a joined `,`, nothing between such brackets, and `c`
displayed_nothing_between :
    displayed_text
    (leaf (name (codes "a") 0)
    (group top empty (leaf (name (codes "b") 1) (leaf (as_leaf.Punct (record { char = 44; spacing = Joint; span = at 2 })) (group top empty (leaf (name (codes "c") 3) empty))))))
    ≡ codes "a b ,c"
unfolding lib.Utf8.encode
displayed_nothing_between = refl

nothing_displayed : displayed_text empty ≡ []
nothing_displayed = refl

-- `a(,)b`, where `a` and the group stay, `,` goes and `b` gives way to `a`
rewritten_row :
    IsRewritten trees
    (record { token = token.Leaf (name (codes "a") 0); put = None }
    ∷ record { token = token.Subtree (record { delimiter = round 1 3; len = 1 }); put = None }
    ∷ record { token = token.Leaf (comma 2); put = Some empty }
    ∷ record { token = token.Leaf (name (codes "b") 4); put = Some (leaf (name (codes "a") 0) empty) }
    ∷ [])
    (leaf (name (codes "a") 0) (group (round 1 3) empty (leaf (name (codes "a") 0) empty)))
rewritten_row =
    leaf_stays _ _ _ _
    (group_stays (round 1 3) _ _ _ _ (record { token = token.Leaf (comma 2); put = Some empty } ∷ []) _
    (leaf_gives_way _ _ _ _ _ nothing) (leaf_gives_way _ _ (leaf (name (codes "a") 0) empty) _ _ nothing))

-- a group that gives way is asked about once
given_way_row :
    IsRewritten (group (round 1 3) (leaf (comma 2) empty) empty)
    (record { token = token.Subtree (record { delimiter = round 1 3; len = 1 }); put = Some (leaf (comma 2) empty) } ∷ [])
    (leaf (comma 2) empty)
given_way_row = group_gives_way _ _ _ (leaf (comma 2) empty) _ _ nothing

-- a punct of this character, in front of these trees
abbrev in_front : ℕ → Spacing → Forest → Forest
in_front c spacing f = leaf (as_leaf.Punct (record { char = c; spacing = spacing; span = at 0 })) f

-- `...`, `..=`, `<<=` and `>>=` are operators of three, where the second punct is joint
three_dots_row : glued_count (in_front 46 Joint (in_front 46 Joint (in_front 46 Alone empty))) ≡ 3
three_dots_row = refl

hidden_row : glued_count (in_front 46 Joint (in_front 46 JointHidden (in_front 46 Alone empty))) ≡ 2
hidden_row = refl

shift_row : glued_count (in_front 62 JointHidden (in_front 62 Joint (in_front 61 Joint (in_front 61 Alone empty)))) ≡ 3
shift_row = refl

-- `->` is one of two, `=>` too, and what is after them is left
arrow_row : first_glued (in_front 45 Joint (in_front 62 Alone (in_front 59 Alone empty)))
    ≡ Some (record { char = 45; spacing = Joint; span = at 0 } ∷ record { char = 62; spacing = Alone; span = at 0 } ∷ [], in_front 59 Alone empty)
arrow_row = refl

-- puncts that stand apart, or make no operator, come one by one
apart_row : glued_count (in_front 61 Alone (in_front 61 Alone empty)) ≡ 1
apart_row = refl

unknown_row : glued_count (in_front 36 Joint (in_front 40 Alone empty)) ≡ 1
unknown_row = refl

name_first_row : glued_count (leaf (name (codes "a") 0) (in_front 46 Joint empty)) ≡ 0
name_first_row = refl

-- a name but `_`; a literal, as `true` is
underscore_row : first_name (leaf (name (codes "_") 0) empty) ≡ None
underscore_row = refl

name_row : first_name (leaf (name (codes "a") 0) empty) ≡ Some (ident_of (codes "a") (at 0), empty)
name_row = refl

true_row : first_literal_leaf (leaf (name (codes "true") 0) empty) ≡ Some (name (codes "true") 0, empty)
true_row = refl

not_true_row : first_literal_leaf (leaf (name (codes "truth") 0) empty) ≡ None
not_true_row = refl

-- a comma, of a comma and a semicolon, and no bar; a group with what it counts
among_row : behind_punct (is_among (codes ",;")) (in_front 44 Alone empty) ≡ Some empty
among_row = refl

not_among_row : behind_punct (is_among (codes ",;")) (in_front 124 Alone empty) ≡ None
not_among_row = refl

group_first_row : first_subtree (group (round 1 3) (leaf (comma 2) empty) empty) ≡ Some (record { delimiter = round 1 3; len = 1 }, leaf (comma 2) empty, empty)
group_first_row = refl

-- `a(,)b` with anchors 5, 0, 7, 0 and 5 at `a`, the brackets, the comma and `b`, in a top with 9 at its end
abbrev from : ℕ → ℕ → Span
from anchor n = record { range = record { start = n; «end» = n + 1 }; anchor = anchor; ctx = Written }

abbrev anchored : Top
anchored = record {
  delimiter = record { open_span = from 0 0; close_span = from 9 0; kind = Invisible };
  inner = leaf (as_leaf.Ident (ident_of (codes "a") (from 5 0)))
      (group (record { open_span = from 0 1; close_span = from 0 3; kind = Parenthesis })
      (leaf (as_leaf.Punct (record { char = 44; spacing = Alone; span = from 7 2 })) empty)
      (leaf (as_leaf.Ident (ident_of (codes "b") (from 5 4))) empty));
}

anchors_row : anchors_of anchored ≡ 5 ∷ 0 ∷ 0 ∷ 7 ∷ 5 ∷ 0 ∷ 9 ∷ []
anchors_row = refl

-- each comes once, the top's own last
first_uses_row : by_first_use (anchors_of anchored) ≡ 5 ∷ 0 ∷ 7 ∷ 9 ∷ []
first_uses_row = refl

-- entries change their anchors, and another stays
renamed_row : anchors_of (relabelled (renamed ((5, 1) ∷ (0, 5) ∷ (9, 0) ∷ [])) anchored) ≡ 1 ∷ 5 ∷ 5 ∷ 7 ∷ 1 ∷ 5 ∷ 0 ∷ []
renamed_row = refl

-- ranges and contexts stay
one_anchor_row : relabelled (λ _. 0) (record { delimiter = round 1 3; inner = leaf (comma 2) empty }) ≡ record { delimiter = round 1 3; inner = leaf (comma 2) empty }
one_anchor_row = refl
