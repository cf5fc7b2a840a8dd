-- Trees that are appended to a tree under construction.
use Rattle.std.proofs.Common.{◌≡◌, ◌+◌, ◌<◌, refl, sym, ap, ◌∙◌, arith, Bool, true, false, if◌then◌else◌, ◌&&◌, Some, None}
use Rattle.std.specs.Prelude.{Result, Ok, Err}
use Rattle.std.specs.Result.{IsErrAnd}
use Rattle.tt_data.specs.fault.TtFault.{TtFault}
use Rattle.tt.specs.Building.{Building, pushed, opened, closed, extended, last_alone, count_of, most_tokens}
use Rattle.tt.proofs.Limits.{count-extended}
use Rattle.tt.proofs.LastAlone.{size-last_alone}
use Rattle.tt_data.proofs.ForestLemmas.{joined_assoc, size-joined}
use Rattle.tt_data.specs.Flat.{joined-empty}
use Rattle.tt_data.specs.Forest.{Forest, empty, leaf, group, joined, size}
use Rattle.tt_data.specs.declared.delimiter.DelimiterKind.TheVariants.{Parenthesis}
use Rattle.tt_data.specs.declared.span.Span.{Span}
use Rattle.tt_data.specs.declared.leaf.Leaf.{Leaf}
use Rattle.tt_data.specs.declared.leaf.Leaf.TheVariants as as_leaf
use Rattle.tt_data.specs.declared.leaf.Spacing.TheVariants.{Alone, Joint}
use Rattle.tt.specs.Elements.{first_alone, after_first}
use Rattle.tt_data.specs.declared.leaf.Ident.{Ident}
use Rattle.tt_data.specs.declared.leaf.Literal.{Literal}
use Rattle.tt.specs.FirstTrees.{first_leaf}
use Rattle.mbe_rules.specs.declared.parser.MetaVarKind.{MetaVarKind}
use Rattle.mbe_rules.specs.declared.parser.MetaVarKind.TheVariants as kind
use Rattle.mbe_matcher.proofs.LentLemmas.{a_leaf}
use Rattle.mbe_transcriber.specs.Filling.{stands_alone, in_parentheses, begins_generics, punct_at, colons, put_in, with_colons}
use Rattle.mbe_transcriber.specs.Putting.{begins_ident, before_more}
use Rattle.mbe_transcriber.specs.Room.{LacksRoom}

pub unsome : {A : Type 0} {a b : A} → Some a ≡ Some b → a ≡ b
unsome e = cc

-- without parentheses
pub bare : (s : Span) (f : Forest) → stands_alone f ≡ true → last_alone f ≡ in_parentheses s f
bare s f e = ap (λ b. if b then last_alone f else group (record { open_span = s; close_span = s; kind = Parenthesis }) (last_alone f) empty) (sym e)

-- with them
pub wrapped : (s : Span) (f : Forest) → stands_alone f ≡ false →
    group (record { open_span = s; close_span = s; kind = Parenthesis }) (last_alone f) empty ≡ in_parentheses s f
wrapped s f e = ap (λ b. if b then last_alone f else group (record { open_span = s; close_span = s; kind = Parenthesis }) (last_alone f) empty) (sym e)

pub bare-added : (b out : Building) (s : Span) (f : Forest) → stands_alone f ≡ true → out ≡ extended b (last_alone f) → out ≡ extended b (in_parentheses s f)
bare-added b out s f e is = is ∙ ap (extended b) (bare s f e)

pub wrapped-added : (b one two out : Building) (s : Span) (f : Forest) → stands_alone f ≡ false →
    one ≡ opened b Parenthesis s → two ≡ extended one (last_alone f) → out ≡ closed two s → out ≡ extended b (in_parentheses s f)
wrapped-added b one two out s f e first second third =
    third ∙ ap (λ t. closed t s) (second ∙ ap (λ t. extended t (last_alone f)) first) ∙ ap (extended b) (wrapped s f e)

-- ---- room

-- the tokens that there are with more trees
pub alone-lacks : (b : Building) (f : Forest) → most_tokens < count_of b + size f → LacksRoom b (last_alone f)
alone-lacks b f less = let n = size-last_alone f in omega (arith, less, n)

pub bare-lacks : (b : Building) (s : Span) (f : Forest) → stands_alone f ≡ true → LacksRoom b (last_alone f) → LacksRoom b (in_parentheses s f)
bare-lacks b s f e less = let k = ap size (bare s f e) in omega (arith, less, k)

pub full-lacks : (b : Building) (s : Span) (f : Forest) → stands_alone f ≡ false → count_of b ≡ most_tokens → LacksRoom b (in_parentheses s f)
full-lacks b s f e at_most = let k = ap size (wrapped s f e) in omega (arith, at_most, k)

pub wrapped-lacks : (b one : Building) (s : Span) (f : Forest) → stands_alone f ≡ false →
    one ≡ opened b Parenthesis s → LacksRoom one (last_alone f) → LacksRoom b (in_parentheses s f)
wrapped-lacks b one s f e first less =
    let k = ap size (wrapped s f e) in omega (arith, less, k, ap count_of first)

-- ---- a path

pub extended-more : (b : Building) (f g : Forest) → extended (extended b f) g ≡ extended b (joined f g)
extended-more b f g = ap (λ h. record b { here = h }) (joined_assoc b.here f g)

pub colons-added : (b one two : Building) (s : Span) (l m : Leaf) → l ≡ punct_at 58 Joint s → m ≡ punct_at 58 Alone s →
    one ≡ pushed b l → two ≡ pushed one m → two ≡ extended b (colons s empty)
colons-added b one two s l m e f first second =
    second ∙ ap (λ t. extended t (leaf m empty)) first ∙ extended-more b (leaf l empty) (leaf m empty)
    ∙ ap (λ x. extended b (leaf x (leaf m empty))) e ∙ ap (λ x. extended b (leaf (punct_at 58 Joint s) (leaf x empty))) f

pub colons-lack : (b one : Building) (s : Span) (l : Leaf) → one ≡ pushed b l → count_of one ≡ most_tokens → LacksRoom b (colons s empty)
colons-lack b one s l first at_most = let k = count-extended b (leaf l empty) in omega (arith, at_most, ap count_of first, k)

pub not-between : (b out : Building) (s : Span) (f rest : Forest) → (begins_ident f && begins_generics rest) ≡ false → out ≡ extended b f →
    out ≡ extended b (before_more s f rest)
not-between b out s f rest e is =
    is ∙ ap (extended b) (sym (joined-empty f) ∙ ap (λ t. joined f (if t then colons s empty else empty)) (sym e))

same-between : (s : Span) (f rest : Forest) → (begins_ident f && begins_generics rest) ≡ true → joined f (colons s empty) ≡ before_more s f rest
same-between s f rest e = ap (λ t. joined f (if t then colons s empty else empty)) (sym e)

pub between : (b one out : Building) (s : Span) (f rest : Forest) → (begins_ident f && begins_generics rest) ≡ true → one ≡ extended b f →
    out ≡ extended one (colons s empty) → out ≡ extended b (before_more s f rest)
between b one out s f rest e first second =
    second ∙ ap (λ t. extended t (colons s empty)) first ∙ extended-more b f (colons s empty) ∙ ap (extended b) (same-between s f rest e)

pub between-lacks : (b one : Building) (s : Span) (f rest : Forest) → (begins_ident f && begins_generics rest) ≡ true → one ≡ extended b f →
    LacksRoom one (colons s empty) → LacksRoom b (before_more s f rest)
between-lacks b one s f rest e first less =
    let k = size-joined f (colons s empty) in
    let n = ap size (same-between s f rest e) in
    omega (arith, less, k, n, ap count_of first, count-extended b f)

pub next-lacks : (b : Building) (s : Span) (f rest : Forest) → most_tokens < count_of b + size f → LacksRoom b (before_more s f rest)
next-lacks b s f rest less = let k = size-joined f (if begins_ident f && begins_generics rest then colons s empty else empty) in omega (arith, less, k)

-- a fault that is handed on is the one that came
pub handed : {A B : Type 0} (r : Result A TtFault) (came : TtFault) {fault : TtFault} → IsErrAnd r (λ e. e ≡ came) → r ≡ Err fault
    → ◌≡◌ {A = Result B TtFault} (Err came) (Err fault)
handed (Ok a) came is e = absurd is
handed (Err x) came is e = cc

-- one tree more
pub path-step : (s : Span) (f tree : Forest) → first_alone f ≡ Some tree →
    joined (before_more s tree (after_first f)) (with_colons s (after_first f)) ≡ with_colons s f
path-step s empty tree e = absurd (cc e)
path-step s (leaf (as_leaf.Ident i) rest) tree e = go (begins_generics rest) tree (unsome e)
  where
    go : (b : Bool) (t : Forest) → leaf (as_leaf.Ident i) empty ≡ t →
        joined (joined t (if begins_ident t && b then colons s empty else empty)) (with_colons s rest)
        ≡ leaf (as_leaf.Ident i) (if b then colons s (with_colons s rest) else with_colons s rest)
    go true t h = ap (λ x. joined (joined x (if begins_ident x && true then colons s empty else empty)) (with_colons s rest)) (sym h)
    go false t h = ap (λ x. joined (joined x (if begins_ident x && false then colons s empty else empty)) (with_colons s rest)) (sym h)
path-step s (leaf (as_leaf.Punct p) rest) tree e = ap (λ x. joined (before_more s x rest) (with_colons s rest)) (sym (unsome e))
path-step s (leaf (as_leaf.Literal l) rest) tree e = ap (λ x. joined (before_more s x rest) (with_colons s rest)) (sym (unsome e))
path-step s (group d inner rest) tree e = ap (λ x. joined (before_more s x rest) (with_colons s rest)) (sym (unsome e))

-- the trees that are left, and those before them
pub left-added : (old out more : Building) (s : Span) (f tree rest end : Forest) → first_alone f ≡ Some tree → rest ≡ after_first f →
    more ≡ extended out (before_more s tree rest) → extended out (with_colons s f) ≡ extended old end →
    extended more (with_colons s rest) ≡ extended old end
left-added old out more s f tree rest end e r is same =
    ap (λ b. extended b (with_colons s rest)) is ∙ extended-more out (before_more s tree rest) (with_colons s rest)
    ∙ ap (λ x. extended out (joined (before_more s tree x) (with_colons s x))) r ∙ ap (extended out) (path-step s f tree e) ∙ same

pub left-lacks : (old out : Building) (s : Span) (f tree rest end : Forest) → first_alone f ≡ Some tree → rest ≡ after_first f →
    extended out (with_colons s f) ≡ extended old end → LacksRoom out (before_more s tree rest) → LacksRoom old end
left-lacks old out s f tree rest end e r same less =
    let a = ap size (sym (path-step s f tree e)) in
    let b = size-joined (before_more s tree (after_first f)) (with_colons s (after_first f)) in
    let d = ap (λ x. size (before_more s tree x)) r in
    omega (arith, less, a, b, d, ap count_of same, count-extended out (with_colons s f), count-extended old end)

pub all-added : (old out : Building) (s : Span) (f end : Forest) → f ≡ empty → extended out (with_colons s f) ≡ extended old end → out ≡ extended old end
all-added old out s f end none same =
    sym (ap (λ x. record out { here = x }) (joined-empty out.here)) ∙ sym (ap (λ x. extended out (with_colons s x)) none) ∙ same

pub none-left : (f : Forest) → None ≡ first_alone f → f ≡ empty
none-left empty e = refl
none-left (leaf l rest) e = absurd (cc e)
none-left (group d inner rest) e = absurd (cc e)

pub fewer-left : (f tree rest : Forest) → first_alone f ≡ Some tree → rest ≡ after_first f → size rest < size f
fewer-left empty tree rest e r = absurd (cc e)
fewer-left (leaf l more) tree rest e r = let k = ap size r in omega (arith, k)
fewer-left (group d inner more) tree rest e r = let k = ap size r in omega (arith, k)

-- ---- a word or a literal alone

word-put : (s : Span) (k : MetaVarKind) (i : Ident) → put_in s k (leaf (as_leaf.Ident i) empty) ≡ leaf (as_leaf.Ident i) empty
word-put s kind.Expr i = refl
word-put s kind.Expr2021 i = refl
word-put s kind.Ident i = refl
word-put s kind.Tt i = refl
word-put s kind.Lifetime i = refl
word-put s kind.Literal i = refl
word-put s kind.Path i = refl
word-put s _ i = refl

literal-put : (s : Span) (k : MetaVarKind) (i : Literal) → put_in s k (leaf (as_leaf.Literal i) empty) ≡ leaf (as_leaf.Literal i) empty
literal-put s kind.Expr i = refl
literal-put s kind.Expr2021 i = refl
literal-put s kind.Ident i = refl
literal-put s kind.Tt i = refl
literal-put s kind.Lifetime i = refl
literal-put s kind.Literal i = refl
literal-put s kind.Path i = refl
literal-put s _ i = refl

pub a_word_put : (f : Forest) (x : Leaf × Forest) (i : Ident) (s : Span) (k : MetaVarKind) → first_leaf f ≡ Some x → x.1 ≡ empty → x.0 ≡ as_leaf.Ident i →
    put_in s k f ≡ leaf x.0 empty
a_word_put f x i s k e none is = rw (a_leaf f x e, none, is) (word-put s k i)

pub a_literal_put : (f : Forest) (x : Leaf × Forest) (i : Literal) (s : Span) (k : MetaVarKind) → first_leaf f ≡ Some x → x.1 ≡ empty → x.0 ≡ as_leaf.Literal i →
    put_in s k f ≡ leaf x.0 empty
a_literal_put f x i s k e none is = rw (a_leaf f x e, none, is) (literal-put s k i)
