-- Worked examples, by computation: `a ( b , ) c`, and lists that hold no forest.
use Rattle.std.proofs.Common.{◌≡◌, ℕ, ◌+◌, List, [], ◌∷◌, refl, ap, arith, codes}
use Rattle.tt_data.specs.declared.span.Span.{Span}
use Rattle.tt_data.specs.declared.span.SyntaxContext.TheVariants.{Written, Made}
use Rattle.tt_data.specs.declared.delimiter.Delimiter.{Delimiter}
use Rattle.tt_data.specs.declared.delimiter.DelimiterKind.TheVariants.{Parenthesis, Invisible}
use Rattle.tt_data.specs.declared.leaf.IdentIsRaw.TheVariants as is_raw
use Rattle.tt_data.specs.declared.leaf.Leaf.{Leaf}
use Rattle.tt_data.specs.declared.leaf.Leaf.TheVariants as as_leaf
use Rattle.tt_data.specs.declared.leaf.LitKind.TheVariants.{Byte, Integer, Float, Str, StrRaw, ByteStr, ByteStrRaw, CStr, CStrRaw, StrGuarded, Char}
use Rattle.tt_data.specs.declared.leaf.Spacing.TheVariants.{Alone}
use Rattle.tt_data.specs.declared.tree.TokenTree.{TokenTree}
use Rattle.tt_data.specs.declared.tree.TokenTree.TheVariants as token
use Rattle.tt_data.specs.Displayed.{displayed_leaf, literal_text}
use Rattle.tt_data.specs.Forest.{Forest, empty, leaf, group, joined, size, preorder, front, back, forest_of, head_of, IsPreorder, map_spans, shape}
use Rattle.tt_data.specs.declared.leaf.Literal.{Literal}
use Rattle.tt_data.specs.declared.leaf.LitKind.{LitKind}
use Rattle.tt_data.specs.Names.{ident_of}
use Rattle.tt_data.specs.Spans.{first_span_of}
use Rattle.tt_data.specs.Walk.{at_leaf, opens, closes, walk}

-- one byte of the text, as it was written
abbrev at : ℕ → Span
at n = record { range = record { start = n; «end» = n + 1 }; anchor = 0; ctx = Written }

abbrev name : List ℕ → Span → Leaf
name text span = as_leaf.Ident (ident_of text span)

abbrev literal : List ℕ → List ℕ → LitKind → Literal
literal text suffix kind = record { text = text; suffix = suffix; kind = kind; span = at 0 }

abbrev comma : Span → Leaf
comma span = as_leaf.Punct (record { char = 44; spacing = Alone; span = span })

abbrev round : Span → Span → Delimiter
round from to = record { open_span = from; close_span = to; kind = Parenthesis }

-- `a(b,)c`
abbrev flat : List TokenTree
flat =
    token.Leaf (name (codes "a") (at 0))
    ∷ head_of (round (at 1) (at 4)) 2
    ∷ token.Leaf (name (codes "b") (at 2))
    ∷ token.Leaf (comma (at 3))
    ∷ token.Leaf (name (codes "c") (at 5))
    ∷ []

abbrev trees : Forest
trees =
    leaf (name (codes "a") (at 0))
    (group (round (at 1) (at 4)) (leaf (name (codes "b") (at 2)) (leaf (comma (at 3)) empty)) (leaf (name (codes "c") (at 5)) empty))

flat_gives_trees : forest_of flat ≡ trees
flat_gives_trees = refl

trees_give_flat : preorder trees ≡ flat
trees_give_flat = refl

flat_is_preorder : IsPreorder flat
flat_is_preorder = refl

five_tokens : size trees ≡ 5
five_tokens = refl

-- how many tokens the first head of a list counts
abbrev first_count : List TokenTree → ℕ
first_count (token.Subtree s ∷ more) = s.len
first_count _ = 0

-- a head that counts more tokens than there are
too_few : IsPreorder (head_of (round (at 0) (at 1)) 1 ∷ []) → ⊥
too_few whole = let none : 0 ≡ 1 = ap first_count whole in omega (arith, none)

-- a group whose end lies inside another group
split_group : IsPreorder (head_of (round (at 0) (at 3)) 1 ∷ head_of (round (at 1) (at 2)) 1 ∷ token.Leaf (comma (at 2)) ∷ []) → ⊥
split_group whole = let none : 0 ≡ 1 = ap first_count whole in omega (arith, none)

-- an empty group is one token
empty_group : forest_of (head_of (round (at 0) (at 1)) 0 ∷ token.Leaf (comma (at 2)) ∷ []) ≡ group (round (at 0) (at 1)) empty (leaf (comma (at 2)) empty)
empty_group = refl

-- the leaf and the group are the first four tokens
first_two : front 4 trees ≡ leaf (name (codes "a") (at 0)) (group (round (at 1) (at 4)) (leaf (name (codes "b") (at 2)) (leaf (comma (at 3)) empty)) empty)
first_two = refl

last_one : back 4 trees ≡ leaf (name (codes "c") (at 5)) empty
last_one = refl

-- two tokens end inside the group, so it stays with what follows
no_cut : front 2 trees ≡ leaf (name (codes "a") (at 0)) empty
no_cut = refl

-- `,` after `a ( , )`
joined_row :
    joined (leaf (name (codes "a") (at 0)) (group (round (at 1) (at 3)) (leaf (comma (at 2)) empty) empty)) (leaf (comma (at 4)) empty)
    ≡ leaf (name (codes "a") (at 0)) (group (round (at 1) (at 3)) (leaf (comma (at 2)) empty) (leaf (comma (at 4)) empty))
joined_row = refl

walked :
    walk trees
    ≡ at_leaf (name (codes "a") (at 0))
    ∷ opens Parenthesis (at 1)
    ∷ at_leaf (name (codes "b") (at 2))
    ∷ at_leaf (comma (at 3))
    ∷ closes Parenthesis (at 4)
    ∷ at_leaf (name (codes "c") (at 5))
    ∷ []
walked = refl

-- an invisible group's brackets are steps, at their places
walked_invisible :
    walk (group (record { open_span = at 0; close_span = at 9; kind = Invisible }) (leaf (comma (at 3)) empty) empty)
    ≡ opens Invisible (at 0) ∷ at_leaf (comma (at 3)) ∷ closes Invisible (at 9) ∷ []
walked_invisible = refl

abbrev made : Span → Span
made s = record s { ctx = Made }

-- marked as made: each leaf and both brackets, and nothing else
marked :
    map_spans made trees
    ≡ leaf (name (codes "a") (made (at 0)))
    (group (round (made (at 1)) (made (at 4)))
    (leaf (name (codes "b") (made (at 2))) (leaf (comma (made (at 3))) empty))
    (leaf (name (codes "c") (made (at 5))) empty))
marked = refl

-- the same trees elsewhere have the same shape
same_shape : shape (leaf (comma (at 3)) empty) ≡ shape (leaf (comma (made (at 7))) empty)
same_shape = refl

-- a group begins with its opening bracket, and a leaf where it stands
first_of_group : first_span_of (head_of (round (at 1) (at 4)) 2) ≡ at 1
first_of_group = refl

first_of_leaf : first_span_of (token.Leaf (comma (at 3))) ≡ at 3
first_of_leaf = refl

-- `r#fn` is the raw name `fn`; `r` is a name like any other
raw_name : ident_of (codes "r#fn") (at 0) ≡ record { sym = codes "fn"; span = at 0; is_raw = is_raw.Yes }
raw_name = refl

plain_name : ident_of (codes "r") (at 0) ≡ record { sym = codes "r"; span = at 0; is_raw = is_raw.No }
plain_name = refl

-- `r#fn`, `,`, `1u8`, `'a'`, `"a"` and `br##"a"##` are displayed as they are written
displayed_name : displayed_leaf (name (codes "r#fn") (at 0)) ≡ codes "r#fn"
displayed_name = refl

displayed_comma : displayed_leaf (comma (at 0)) ≡ codes ","
unfolding lib.Utf8.encode
displayed_comma = refl

displayed_number : literal_text (literal (codes "1") (codes "u8") Integer) ≡ codes "1u8"
displayed_number = refl

displayed_char : literal_text (literal (codes "a") [] Char) ≡ codes "'a'"
displayed_char = refl

displayed_string : literal_text (literal (codes "a") (codes "x") Str) ≡ codes "\"a\"x"
displayed_string = refl

displayed_raw_string : literal_text (literal (codes "a") [] (ByteStrRaw 2)) ≡ codes "br##\"a\"##"
displayed_raw_string = refl

-- `b'a'`, `1.`, `r"a"`, `b"a"`, `c"a"` and `cr#"a"#`
displayed_byte : literal_text (literal (codes "a") [] Byte) ≡ codes "b'a'"
displayed_byte = refl

displayed_float : literal_text (literal (codes "1.") [] Float) ≡ codes "1."
displayed_float = refl

displayed_without_hashes : literal_text (literal (codes "a") [] (StrRaw 0)) ≡ codes "r\"a\""
displayed_without_hashes = refl

displayed_byte_string : literal_text (literal (codes "a") [] ByteStr) ≡ codes "b\"a\""
displayed_byte_string = refl

displayed_c_string : literal_text (literal (codes "a") [] CStr) ≡ codes "c\"a\""
displayed_c_string = refl

displayed_raw_c_string : literal_text (literal (codes "a") [] (CStrRaw 1)) ≡ codes "cr#\"a\"#"
displayed_raw_c_string = refl

-- `##"a"##x` and `#""#`
displayed_guarded_string : literal_text (literal (codes "a") (codes "x") (StrGuarded 2)) ≡ codes "##\"a\"##x"
displayed_guarded_string = refl

displayed_empty_guarded_string : literal_text (literal [] [] (StrGuarded 1)) ≡ codes "#\"\"#"
displayed_empty_guarded_string = refl

-- only one `r#` at the very beginning is none of the name
doubly_raw_name : ident_of (codes "r#r#a") (at 0) ≡ record { sym = codes "r#a"; span = at 0; is_raw = is_raw.Yes }
doubly_raw_name = refl

turned_name : ident_of (codes "#r") (at 0) ≡ record { sym = codes "#r"; span = at 0; is_raw = is_raw.No }
turned_name = refl
