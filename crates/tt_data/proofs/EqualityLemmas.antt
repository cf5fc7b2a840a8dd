-- Equality by `==` is that of values.
use Rattle.std.proofs.Common.{rules, ◌≡◌, ◌↔◌, ◌∙◌, Bool, true, ap, refl, sym, nat_eq, List, ℕ, ◌++◌, length, take, drop, arith, length-append}
use Rattle.std.proofs.Math.Seq.{take-append_seam, drop-append_seam}
use Rattle.std.proofs.lemmas.Bool.{false≢true, eqb-true}
use Rattle.std.specs.Cmp.{first_so, second_so}
use Rattle.std.specs.Cmp.Lexicographic.{pointwise}
use Rattle.tt_data.specs.declared.leaf.Leaf.{Leaf}
use Rattle.tt_data.specs.declared.leaf.Leaf.TheVariants as leaf
use Rattle.tt_data.specs.declared.leaf.Literal.{Literal}
use Rattle.tt_data.specs.declared.tree.TokenTree.{TokenTree}
use Rattle.tt_data.specs.declared.tree.TokenTree.TheVariants as token
use Rattle.tt_data.specs.contracts.delimiter.DelimiterPartialEq.TheImpl as of_delimiter
use Rattle.tt_data.specs.contracts.delimiter.DelimiterKindPartialEq.TheImpl as of_delimiter_kind
use Rattle.tt_data.specs.contracts.leaf.IdentPartialEq.TheImpl as of_ident
use Rattle.tt_data.specs.contracts.leaf.LeafPartialEq.TheImpl as of_leaf
use Rattle.tt_data.specs.contracts.leaf.LitKindPartialEq.TheImpl as of_kind
use Rattle.tt_data.specs.contracts.leaf.LiteralPartialEq.TheImpl as of_literal
use Rattle.tt_data.specs.contracts.leaf.PunctPartialEq.TheImpl as of_punct
use Rattle.tt_data.specs.contracts.delimiter.DelimiterEq.TheImpl.Laws as delimiter_laws
use Rattle.tt_data.specs.contracts.leaf.LiteralEq.TheImpl.Laws as literal_laws
use Rattle.tt_data.specs.contracts.tree.SubtreeEq.TheImpl.Laws as subtree_laws
use Rattle.tt_data.specs.contracts.span.SpanPartialEq.TheImpl as of_span
use Rattle.tt_data.specs.contracts.tree.SubtreePartialEq.TheImpl as of_subtree
use Rattle.tt_data.specs.contracts.tree.TokenTreePartialEq.TheImpl as of_token

-- a test that is true exactly of a value and itself
abbrev pub IsEquality : {A : Type 0} → (A → A → Bool) → Type 0
IsEquality {A} E = (a b : A) → (E a b ≡ true) ↔ (a ≡ b)

pub spans : IsEquality of_span.ghosts.eq
spans a b = search rules

pub kinds : IsEquality of_kind.ghosts.eq
kinds a b = search rules

pub puncts : IsEquality of_punct.ghosts.eq
puncts a b = search rules

pub idents : IsEquality of_ident.ghosts.eq
idents a b = search rules

delimiter_kinds : IsEquality of_delimiter_kind.ghosts.eq
delimiter_kinds a b = search rules

delimiters : IsEquality of_delimiter.ghosts.eq
delimiters a b = (
  λ e.
      let rest = second_so (of_span.ghosts.eq a.open_span b.open_span) _ e in
      let opens : a.open_span ≡ b.open_span = (spans _ _).0 (first_so (of_span.ghosts.eq a.open_span b.open_span) _ e) in
      let closes : a.close_span ≡ b.close_span = (spans _ _).0 (first_so (of_span.ghosts.eq a.close_span b.close_span) _ rest) in
      let kind : a.kind ≡ b.kind = (delimiter_kinds _ _).0 (second_so (of_span.ghosts.eq a.close_span b.close_span) _ rest) in
      ap (λ s. record { open_span = s; close_span = a.close_span; kind = a.kind }) opens
      ∙ ap (λ s. record { open_span = b.open_span; close_span = s; kind = a.kind }) closes
      ∙ ap (λ k. record { open_span = b.open_span; close_span = b.close_span; kind = k }) kind,
  λ e. rw (← e) (delimiter_laws.laws-law.refl a),
)

pub heads : IsEquality of_subtree.ghosts.eq
heads a b = (
  λ e.
      let delimiter : a.delimiter ≡ b.delimiter = (delimiters _ _).0 (first_so (of_delimiter.ghosts.eq a.delimiter b.delimiter) _ e) in
      let len : a.len ≡ b.len = eqb-true _ _ (second_so (of_delimiter.ghosts.eq a.delimiter b.delimiter) _ e) in
      ap (λ d. record { delimiter = d; len = a.len }) delimiter ∙ ap (λ n. record { delimiter = b.delimiter; len = n }) len,
  λ e. rw (← e) (subtree_laws.laws-law.refl a),
)

-- a literal's parts in turn
parts_same : (a b : Literal) → a.text ≡ b.text → a.suffix ≡ b.suffix → a.kind ≡ b.kind → a.span ≡ b.span → a ≡ b
parts_same a b t n k s =
    ap (λ x. record a { text = x }) t ∙ ap (λ x. record { text = b.text; suffix = x; kind = a.kind; span = a.span }) n
    ∙ ap (λ x. record { text = b.text; suffix = b.suffix; kind = x; span = a.span }) k
    ∙ ap (λ x. record { text = b.text; suffix = b.suffix; kind = b.kind; span = x }) s

texts : (a b : List ℕ) → pointwise nat_eq a b ≡ true → a ≡ b
texts a b e = search rules

-- two texts that are cut as long before their ends have the same parts
cut_alike : (x y u v : List ℕ) → x ++ y ≡ u ++ v → length y ≡ length v → (x ≡ u) × (y ≡ v)
cut_alike x y u v same long =
    let at : length x ≡ length u = omega (arith, ap length same, length-append x y, length-append u v) in (
      sym (take-append_seam x y) ∙ ap (take (length x)) same ∙ ap (λ n. take n (u ++ v)) at ∙ take-append_seam u v,
      sym (drop-append_seam x y) ∙ ap (drop (length x)) same ∙ ap (λ n. drop n (u ++ v)) at ∙ drop-append_seam u v,
    )

literal_same : (a b : Literal) → of_literal.ghosts.eq a b ≡ true → a ≡ b
literal_same a b e =
    let all : a.text ++ a.suffix ≡ b.text ++ b.suffix = texts _ _ (first_so (pointwise nat_eq (a.text ++ a.suffix) (b.text ++ b.suffix)) _ e) in
    let rest = second_so _ _ e in
    let more = second_so _ _ rest in
    let cut = cut_alike a.text a.suffix b.text b.suffix all (eqb-true _ _ (first_so _ _ rest)) in
    parts_same a b cut.0 cut.1 ((kinds a.kind b.kind).0 (first_so _ _ more)) ((spans a.span b.span).0 (second_so _ _ more))

literal_self : (a b : Literal) → a ≡ b → of_literal.ghosts.eq a b ≡ true
literal_self a b e = rw (← e) (literal_laws.laws-law.refl a)

pub literals : IsEquality of_literal.ghosts.eq
literals a b = (literal_same a b, literal_self a b)

leaf_same : (a b : Leaf) → of_leaf.ghosts.eq a b ≡ true → a ≡ b
leaf_same (leaf.Literal a) (leaf.Literal b) e = ap leaf.Literal (literal_same a b e)
leaf_same (leaf.Punct a) (leaf.Punct b) e = ap leaf.Punct ((puncts a b).0 e)
leaf_same (leaf.Ident a) (leaf.Ident b) e = ap leaf.Ident ((idents a b).0 e)
leaf_same (leaf.Literal a) (leaf.Punct b) e = absurd (false≢true e)
leaf_same (leaf.Literal a) (leaf.Ident b) e = absurd (false≢true e)
leaf_same (leaf.Punct a) (leaf.Literal b) e = absurd (false≢true e)
leaf_same (leaf.Punct a) (leaf.Ident b) e = absurd (false≢true e)
leaf_same (leaf.Ident a) (leaf.Literal b) e = absurd (false≢true e)
leaf_same (leaf.Ident a) (leaf.Punct b) e = absurd (false≢true e)

leaf_self : (a : Leaf) → of_leaf.ghosts.eq a a ≡ true
leaf_self (leaf.Literal a) = (literals a a).1 refl
leaf_self (leaf.Punct a) = (puncts a a).1 refl
leaf_self (leaf.Ident a) = (idents a a).1 refl

pub leaves : IsEquality of_leaf.ghosts.eq
leaves a b = (leaf_same a b, λ e. rw (← e) (leaf_self a))

token_same : (a b : TokenTree) → of_token.ghosts.eq a b ≡ true → a ≡ b
token_same (token.Leaf a) (token.Leaf b) e = ap token.Leaf (leaf_same a b e)
token_same (token.Subtree a) (token.Subtree b) e = ap token.Subtree ((heads a b).0 e)
token_same (token.Leaf a) (token.Subtree b) e = absurd (false≢true e)
token_same (token.Subtree a) (token.Leaf b) e = absurd (false≢true e)

token_self : (a : TokenTree) → of_token.ghosts.eq a a ≡ true
token_self (token.Leaf a) = leaf_self a
token_self (token.Subtree a) = (heads a a).1 refl

pub tokens : IsEquality of_token.ghosts.eq
tokens a b = (token_same a b, λ e. rw (← e) (token_self a))
