-- Worked examples, by computation: what the grammar takes of the beginning of a text.
-- A reader for these examples alone reads the texts: identifiers, integers and floats, strings
-- without escapes, brackets, and puncts. A punct is joint if another follows directly.
use Rattle.std.proofs.Common.{◌≡◌, ℕ, suc, zero, ◌+◌, Bool, true, false, List, [], ◌∷◌, length, take, drop, refl, codes, Option, Some, None}
use Rattle.std.specs.Prelude.{map, ◌&&◌, ◌||◌, not, nat_eq, nat_le, if◌then◌else◌, slice_index}
use Rattle.std.specs.List.{prefix_len, list_any, starts_with}
use Prim.Native.String.{String}
use Rattle.tt_data.specs.Forest.{Forest, empty, leaf, group}
use Rattle.tt_data.specs.Names.{ident_of}
use Rattle.tt_data.specs.Spans.{no_span}
use Rattle.tt_data.specs.declared.delimiter.DelimiterKind.{DelimiterKind}
use Rattle.tt_data.specs.declared.delimiter.DelimiterKind.TheVariants.{Parenthesis, Brace, Bracket, Invisible}
use Rattle.tt_data.specs.declared.leaf.Leaf.{Leaf}
use Rattle.tt_data.specs.declared.leaf.Leaf.TheVariants as as_leaf
use Rattle.tt_data.specs.declared.leaf.LitKind.TheVariants as lit_kind
use Rattle.tt_data.specs.declared.leaf.Spacing.TheVariants.{Alone, Joint}
use Rattle.small_grammar.specs.Answer.{answer}
use Rattle.small_grammar.specs.SmallGrammar.{lifetime, arrow, arg, generics, seg, tpath, bound, type_rule, path, post, atom, operand, binop, expr, num, pat_rule, pat_top, meta_item, vis, rules}
use Rattle.small_grammar.specs.Tokens.{token_at}
use Rattle.fragment_grammar.specs.declared.fragment.PrefixEntryPoint.{PrefixEntryPoint}
use Rattle.fragment_grammar.specs.declared.fragment.PrefixEntryPoint.TheVariants as entry
use Rattle.fragment_grammar.specs.declared.fragment.Prefix.{Prefix}

abbrev is_of : String → ℕ → Bool
is_of cs c = list_any (nat_eq c) (codes cs)

abbrev is_digit : ℕ → Bool
is_digit c = nat_le 48 c && nat_le c 57

abbrev is_letter : ℕ → Bool
is_letter c = (nat_le 97 c && nat_le c 122) || ((nat_le 65 c && nat_le c 90) || is_of "_" c)

abbrev is_inside : ℕ → Bool
is_inside c = is_letter c || is_digit c

-- how many characters an identifier takes
abbrev word_size : List ℕ → ℕ
word_size cs = if starts_with nat_eq cs (codes "r#") then 2 + prefix_len is_inside (drop 2 cs) else prefix_len is_inside cs

-- how many characters a number takes: one with a point between digits is a float
abbrev fraction_size : List ℕ → ℕ
fraction_size cs =
    if starts_with nat_eq cs (codes ".") && is_digit (slice_index (drop 1 cs) 0) then 1 + prefix_len is_inside (drop 1 cs) else 0

abbrev number : List ℕ → Leaf
number cs =
    let n : ℕ = prefix_len is_inside cs in
    let m : ℕ = fraction_size (drop n cs) in
    as_leaf.Literal (record { text = take (n + m) cs; suffix = []; kind = (if nat_eq m 0 then lit_kind.Integer else lit_kind.Float); span = no_span })

abbrev number_size : List ℕ → ℕ
number_size cs = (let n : ℕ = prefix_len is_inside cs in n + fraction_size (drop n cs))

abbrev string_size : List ℕ → ℕ
string_size cs = 2 + prefix_len (λ c. not (nat_eq c 34)) (drop 1 cs)

abbrev punct : List ℕ → Leaf
punct cs =
    as_leaf.Punct (record {
      char = slice_index cs 0;
      spacing = if is_of "!#$%&*+,-./:;<=>?@^|~" (slice_index (drop 1 cs) 0) || is_of "'" (slice_index cs 0) then Joint else Alone;
      span = no_span;
    })

abbrev kind_of : ℕ → DelimiterKind
kind_of c = if is_of "(" c then Parenthesis else if is_of "{" c then Brace else Bracket

-- the trees up to a closing bracket, and the characters after it
abbrev read : ℕ → List ℕ → Forest × List ℕ
read zero cs = (empty, cs)
read (suc n) [] = (empty, [])
read (suc n) (c ∷ cs) =
    elim (is_of " " c) [
      | true ↦ read n cs
      | false ↦
          elim (is_of ")}]" c) [
            | true ↦ (empty, cs)
            | false ↦
                elim (is_of "({[" c) [
                  | true ↦
                      let inner : Forest × List ℕ = read n cs in
                      let rest : Forest × List ℕ = read n inner.1 in
                      (group (record { open_span = no_span; close_span = no_span; kind = kind_of c }) inner.0 rest.0, rest.1)
                  | false ↦ elim (is_letter c) [
                    | true ↦
                        let size : ℕ = word_size (c ∷ cs) in
                        let rest : Forest × List ℕ = read n (drop size (c ∷ cs)) in
                        (leaf (as_leaf.Ident (ident_of (take size (c ∷ cs)) no_span)) rest.0, rest.1)
                    | false ↦ elim (is_digit c) [
                      | true ↦
                          let rest : Forest × List ℕ = read n (drop (number_size (c ∷ cs)) (c ∷ cs)) in
                          (leaf (number (c ∷ cs)) rest.0, rest.1)
                      | false ↦ elim (is_of "\"" c) [
                        | true ↦
                            let size : ℕ = string_size (c ∷ cs) in
                            let rest : Forest × List ℕ = read n (drop size (c ∷ cs)) in
                            (leaf (as_leaf.Literal (record { text = take size (c ∷ cs); suffix = []; kind = lit_kind.Str; span = no_span })) rest.0, rest.1)
                        | false ↦
                            let rest : Forest × List ℕ = read n cs in
                            (leaf (punct (c ∷ cs)) rest.0, rest.1)
                      ]
                    ]
                  ]
                ]
          ]
    ]

abbrev pub trees : String → Forest
trees text = (read (suc (length (codes text))) (codes text)).0

-- the steps that are taken, none for a fault
abbrev number_of : Prefix → Option ℕ
number_of p = elim p.fault [ true ↦ None | false ↦ Some p.tokens ]

abbrev asked : PrefixEntryPoint → List (String × Option ℕ) → List (Option ℕ)
asked entry rows = map (λ r. number_of (answer entry (trees r.0))) rows

abbrev expected : List (String × Option ℕ) → List (Option ℕ)
expected rows = map (λ r. r.1) rows

abbrev expressions : List (String × Option ℕ)
expressions =
    ("3", Some 1)
    ∷ ("1 + 2", Some 3)
    ∷ ("_ ,", Some 1)
    ∷ ("const { 1 } ,", Some 4)
    ∷ ("a.0?[1]", Some 7)
    ∷ ("4 , 5", Some 1)
    ∷ ("\"literal\"", Some 1)
    ∷ ("funcall()", Some 3)
    ∷ ("future.await", Some 3)
    ∷ ("", None)
    ∷ (";", None)
    ∷ ("let x", None)
    ∷ ("-1", Some 2)
    ∷ ("!*&mut a", Some 5)
    ∷ ("&& mut a . b", Some 6)
    ∷ ("a + ;", Some 1)
    ∷ ("a as u8 < b", Some 5)
    ∷ ("a as Vec<u8> < b", Some 8)
    ∷ ("a as u8 as u16 + 1", Some 7)
    ∷ ("x . y :: < u8 > ( ) ? . z", Some 13)
    ∷ ("a :: < u8 > :: b", Some 9)
    ∷ ("a :: < u8 ;", Some 1)
    ∷ ("m ! [ a ] + 1", Some 7)
    ∷ ("S { x } . y", Some 6)
    ∷ ("unsafe { } + const { }", Some 7)
    ∷ ("const a", None)
    ∷ ("( a ) { }", Some 3)
    ∷ ("a..=b", Some 5)
    ∷ ("a .. . b", Some 1)
    ∷ ("a = b + - ! * && mut c as & u8 ..= d { } == e ! { }", Some 26)
    ∷ ("self.0.1", Some 3)
    ∷ ("r#fn + r#true", Some 3)
    ∷ ("if a", None)
    ∷ ("a <<= b >> c", Some 8)
    ∷ ("a < < b", Some 1)
    ∷ ("a . 0u8 . await", Some 5)
    ∷ ("true + false", Some 3)
    ∷ ("::a::b ! ( )", Some 9)
    ∷ ("a b", Some 1)
    ∷ ("a ... b", Some 1)
    ∷ ("a < b , c", Some 3)
    ∷ ("a as ;", Some 1)
    ∷ ("- ;", None)
    ∷ ("unsafe ( )", None)
    ∷ ("m ! a", Some 1)
    ∷ ("a . + b", Some 1)
    ∷ ("a . \"s\"", Some 1)
    ∷ ("::", None)
    ∷ ("a::+", Some 1)
    ∷ ("a + b - c * d / e % f ^ g & h | i && j || k << l >> m == n != o < p > q <= r >= s = t += u -= v *= w /= x %= y ^= z &= a |= b <<= c >>= d .. e ..= f", Some 86)
    ∷ ("a => b", Some 1)
    ∷ ("a -> b", Some 1)
    ∷ ("[ a ] . b", Some 5)
    ∷ ("{ a } + 1", Some 5)
    ∷ ("a . b :: c", Some 3)
    ∷ []

expressions-rows : asked entry.Expr expressions ≡ expected expressions
unfolding lifetime arrow arg generics seg tpath bound type_rule path post atom operand binop expr num pat_rule pat_top meta_item vis rules token_at
expressions-rows = refl

-- an invisible group fits nothing
abbrev invisible : Forest
invisible = group (record { open_span = no_span; close_span = no_span; kind = Invisible }) (trees "a") empty

nothing_invisible : number_of (answer entry.Expr invisible) ≡ None
unfolding lifetime arrow arg generics seg tpath bound type_rule path post atom operand binop expr num pat_rule pat_top meta_item vis rules token_at
nothing_invisible = refl

abbrev types : List (String × Option ℕ)
types =
    ("Vec<Vec<u8>> a", Some 7)
    ∷ ("u8", Some 1)
    ∷ ("& 'a mut T", Some 5)
    ∷ ("&&T", Some 3)
    ∷ ("*const u8", Some 3)
    ∷ ("*u8", None)
    ∷ ("* mut _", Some 3)
    ∷ ("dyn A + 'b + ?C", Some 8)
    ∷ ("impl ?Sized + ::a::b<'a>::c", Some 17)
    ∷ ("impl Fn(A) -> B + C", Some 10)
    ∷ ("fn(a) -> Vec<Vec<u8>>", Some 13)
    ∷ ("fn(a) -> ;", Some 4)
    ∷ ("F(a) -> F(b) -> c :: d", Some 16)
    ∷ ("!", Some 1)
    ∷ ("_", Some 1)
    ∷ ("(a) -> b", Some 3)
    ∷ ("[u8]", Some 3)
    ∷ ("a<'a, -1, T = u8, {1}>", Some 16)
    ∷ ("a<>", Some 3)
    ∷ ("a<b,>", Some 5)
    ∷ ("a<b,,>", Some 1)
    ∷ ("a::<<b>::c>", Some 1)
    ∷ ("a<b::<c>>", Some 9)
    ∷ ("a<b >= c", Some 4)
    ∷ ("m!{}", Some 4)
    ∷ ("'a T", None)
    ∷ ("&", None)
    ∷ ("& 'a", None)
    ∷ ("r#dyn A", Some 1)
    ∷ ("dyn", None)
    ∷ ("impl", None)
    ∷ ("a:: b ! [x] y", Some 8)
    ∷ ("fn F", None)
    ∷ ("a<b = >", Some 1)
    ∷ ("a<b, = c>", Some 1)
    ∷ ("*const ;", None)
    ∷ ("dyn A + ;", Some 2)
    ∷ ("dyn ?;", None)
    ∷ ("{a}", None)
    ∷ ("m ! a", Some 1)
    ∷ ("a<- b>", Some 1)
    ∷ ("& * const & mut T", Some 6)
    ∷ ("& * T", None)
    ∷ ("a : : b", Some 1)
    ∷ []

types-rows : asked entry.Ty types ≡ expected types
unfolding lifetime arrow arg generics seg tpath bound type_rule path post atom operand binop expr num pat_rule pat_top meta_item vis rules token_at
types-rows = refl

abbrev paths : List (String × Option ℕ)
paths =
    ("Vec<u8>", Some 4)
    ∷ ("a::b::<c>::d", Some 12)
    ∷ ("::a", Some 3)
    ∷ ("std::io::Result<()> x", Some 11)
    ∷ ("F(a) -> b :: c", Some 10)
    ∷ ("a!()", Some 1)
    ∷ ("a::", Some 1)
    ∷ ("<a>::b", None)
    ∷ ("self::Super", Some 4)
    ∷ ("crate", Some 1)
    ∷ ("_", None)
    ∷ ("a : : b", Some 1)
    ∷ ("a<b", Some 1)
    ∷ []

paths-rows : asked entry.Path paths ≡ expected paths
unfolding lifetime arrow arg generics seg tpath bound type_rule path post atom operand binop expr num pat_rule pat_top meta_item vis rules token_at
paths-rows = refl

abbrev patterns : List (String × Option ℕ)
patterns =
    ("_", Some 1)
    ∷ ("..", Some 2)
    ∷ ("1", Some 1)
    ∷ ("-1", Some 2)
    ∷ ("1..=2", Some 5)
    ∷ ("1..2", Some 4)
    ∷ ("1 ..= -2.0", Some 6)
    ∷ ("1 ..", Some 1)
    ∷ ("true", Some 1)
    ∷ ("&a", Some 2)
    ∷ ("&&mut x", Some 4)
    ∷ ("& mut", None)
    ∷ ("ref x", Some 2)
    ∷ ("ref mut x @ (a)", Some 7)
    ∷ ("mut x @ 1", Some 4)
    ∷ ("mut", None)
    ∷ ("ref r#mut", Some 2)
    ∷ ("Some(x)", Some 4)
    ∷ ("S { y }", Some 4)
    ∷ ("m![z]", Some 5)
    ∷ ("a::b::<c>(d)", Some 12)
    ∷ ("x @ y @ z | w", Some 5)
    ∷ ("[a, b]", Some 5)
    ∷ ("x @", Some 1)
    ∷ ("\"s\"", Some 1)
    ∷ ("false", Some 1)
    ∷ ("...", None)
    ∷ ("- x", None)
    ∷ ("ref", None)
    ∷ ("m ! z", Some 1)
    ∷ ("& & x @ & y @ ;", Some 6)
    ∷ ("x @ & ;", Some 1)
    ∷ ("ref x @ ;", Some 2)
    ∷ ("mut x @ - y", Some 2)
    ∷ ("{a}", None)
    ∷ ("let", None)
    ∷ []

patterns-rows : asked entry.Pat patterns ≡ expected patterns
unfolding lifetime arrow arg generics seg tpath bound type_rule path post atom operand binop expr num pat_rule pat_top meta_item vis rules token_at
patterns-rows = refl

abbrev top_patterns : List (String × Option ℕ)
top_patterns =
    ("|a|b", Some 4)
    ∷ ("a | b | c", Some 5)
    ∷ ("a | ", Some 1)
    ∷ ("a || b", Some 1)
    ∷ ("| ", None)
    ∷ ("ref mut x @ ( a ) | - 1 ..= 2.0 | Some ( x ) | S { y } | m ! [ z ] | ..", Some 33)
    ∷ []

top_patterns-rows : asked entry.PatTop top_patterns ≡ expected top_patterns
unfolding lifetime arrow arg generics seg tpath bound type_rule path post atom operand binop expr num pat_rule pat_top meta_item vis rules token_at
top_patterns-rows = refl

abbrev attributes : List (String × Option ℕ)
attributes =
    ("doc = \"x\" + 1", Some 5)
    ∷ ("cfg ( a )", Some 4)
    ∷ ("a::b", Some 4)
    ∷ ("a = ;", Some 1)
    ∷ ("a [b] c", Some 4)
    ∷ ("a {}", Some 3)
    ∷ ("= a", None)
    ∷ ("a == b", Some 1)
    ∷ []

attributes-rows : asked entry.MetaItem attributes ≡ expected attributes
unfolding lifetime arrow arg generics seg tpath bound type_rule path post atom operand binop expr num pat_rule pat_top meta_item vis rules token_at
attributes-rows = refl

abbrev blocks : List (String × Option ℕ)
blocks =
    ("{ a } b", Some 3)
    ∷ ("( a )", None)
    ∷ ("", None)
    ∷ ("a", None)
    ∷ []

blocks-rows : asked entry.Block blocks ≡ expected blocks
unfolding lifetime arrow arg generics seg tpath bound type_rule path post atom operand binop expr num pat_rule pat_top meta_item vis rules token_at
blocks-rows = refl

abbrev visibilities : List (String × Option ℕ)
visibilities =
    ("", Some 0)
    ∷ ("a", Some 0)
    ∷ ("pub", Some 1)
    ∷ ("pub(crate) a", Some 4)
    ∷ ("pub(super)", Some 4)
    ∷ ("pub(self)", Some 4)
    ∷ ("pub(in a::b)", Some 8)
    ∷ ("pub(in)", Some 4)
    ∷ ("pub(a)", Some 1)
    ∷ ("pub()", Some 1)
    ∷ ("pub[crate]", Some 1)
    ∷ ("pub(crate a)", Some 1)
    ∷ ("r#pub", Some 0)
    ∷ ("pub(r#crate)", Some 1)
    ∷ ("struct A", Some 0)
    ∷ ("pub struct B", Some 1)
    ∷ []

visibilities-rows : asked entry.Vis visibilities ≡ expected visibilities
unfolding lifetime arrow arg generics seg tpath bound type_rule path post atom operand binop expr num pat_rule pat_top meta_item vis rules token_at
visibilities-rows = refl

abbrev statements : List (String × Option ℕ)
statements =
    ("a ;", None)
    ∷ []

statements-rows : asked entry.Stmt statements ≡ expected statements
unfolding lifetime arrow arg generics seg tpath bound type_rule path post atom operand binop expr num pat_rule pat_top meta_item vis rules token_at
statements-rows = refl

abbrev items : List (String × Option ℕ)
items =
    ("fn a() {}", None)
    ∷ []

items-rows : asked entry.Item items ≡ expected items
unfolding lifetime arrow arg generics seg tpath bound type_rule path post atom operand binop expr num pat_rule pat_top meta_item vis rules token_at
items-rows = refl
