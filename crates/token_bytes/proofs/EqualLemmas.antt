-- Lists are equal exactly where their bytes and tables are.
use Rattle.std.proofs.Common.{◌≡◌, ◌↔◌, ◌∙◌, ap, sym, refl, ℕ, suc, ◌≤◌, List, [], ◌∷◌, ◌++◌, length, length-append, drop, arith, Bool, true, false, nat_eq}
use Rattle.std.specs.Cmp.Lexicographic.{pointwise, bytes_decides, pointwise_decides}
use Rattle.tt_data.specs.contracts.tree.TokenTreePartialEq.TheImpl as of_token
use Rattle.tt_data.proofs.EqualityLemmas.{tokens}
use Rattle.tt_data.specs.declared.tree.TokenTree.{TokenTree}
use Rattle.tt_data.specs.declared.leaf.Leaf.TheVariants as as_leaf
use Rattle.tt_data.specs.declared.tree.TokenTree.TheVariants as token
use Rattle.token_bytes.specs.Marks.{record_size}
use Rattle.token_bytes.specs.Packed.{ArePacked}
use Rattle.token_bytes.specs.Packing.{number_in, record_of, records, table_after, tokens_in, with_token}
use Rattle.token_bytes.specs.Records.{first_size, text_of}
use Rattle.token_bytes.proofs.MarkLemmas.{bytes_size}
use Rattle.token_bytes.proofs.PackingLemmas.{past-record, tokens_back}

both : (x y : Bool) → (x ≡ true → y ≡ true) → (y ≡ true → x ≡ true) → x ≡ y
both true y f g = sym (f refl)
both false true f g = g refl
both false false f g = refl

-- a test that is true exactly of equal lists gives what `==` does, token by token
pub same_lists : (same : Bool) (a b : List TokenTree) → (same ≡ true → a ≡ b) → (a ≡ b → same ≡ true) → same ≡ pointwise of_token.ghosts.eq a b
same_lists same a b f g =
    both same (pointwise of_token.ghosts.eq a b)
    (λ e. (pointwise_decides tokens a b).1 (f e))
    (λ e. g ((pointwise_decides tokens a b).0 e))

-- what two stores tell of their tokens
pub by_parts : (a b : List TokenTree) (n k : ℕ) (bytes other : List ℕ) (table texts : List (List ℕ)) (same : Bool)
    → tokens_in n table bytes ≡ a → tokens_in k texts other ≡ b → ArePacked a bytes table → ArePacked b other texts → n ≡ k
    → (same ≡ true) ↔ ((bytes ≡ other) × (table ≡ texts)) → same ≡ pointwise of_token.ghosts.eq a b
by_parts a b n k bytes other table texts same first second packed packing counts test =
    same_lists same a b
    (λ e.
    let parts = test.0 e in
    sym first ∙ ap (λ i. tokens_in i table bytes) counts ∙ ap (λ l. tokens_in k l bytes) parts.1 ∙ ap (tokens_in k texts) parts.0 ∙ second)
    (λ e. test.1 (
      packed.bytes_are ∙ ap (records []) e ∙ sym packing.bytes_are,
      packed.table_is ∙ ap (table_after []) e ∙ sym packing.table_is,
    ))

-- the test of two stores
pub by_test : (a b : List ℕ) (l r : List (List ℕ)) (same : Bool) → pointwise nat_eq a b ≡ true → same ≡ pointwise (pointwise nat_eq) l r
    → (same ≡ true) ↔ ((a ≡ b) × (l ≡ r))
by_test a b l r same bytes test = (
  λ e. ((bytes_decides a b).0 bytes, (pointwise_decides bytes_decides l r).0 (sym test ∙ e)),
  λ parts. test ∙ (pointwise_decides bytes_decides l r).1 parts.1,
)

size_least : (t : TokenTree) → 1 ≤ record_size t
size_least (token.Subtree s) = omega arith
size_least (token.Leaf (as_leaf.Punct p)) = omega arith
size_least (token.Leaf (as_leaf.Ident i)) = omega arith
size_least (token.Leaf (as_leaf.Literal l)) = omega arith

some_bytes : (table : List (List ℕ)) (t : TokenTree) (more : List ℕ) → 1 ≤ length (record_of table t ++ more)
some_bytes table t more = omega (arith, length-append (record_of table t) more, bytes_size (number_in (text_of t) table) t, size_least t)

-- equal records are of as many tokens
same_count : (table texts : List (List ℕ)) (a b : List TokenTree) → records table a ≡ records texts b → length a ≡ length b
same_count table texts [] [] e = refl
same_count table texts [] (u ∷ us) e =
    absurd (omega (arith, ap length e, some_bytes texts u (records (with_token (text_of u) texts) us)))
same_count table texts (t ∷ ts) [] e =
    absurd (omega (arith, ap length e, some_bytes table t (records (with_token (text_of t) table) ts)))
same_count table texts (t ∷ ts) (u ∷ us) e =
    let one : List ℕ = records (with_token (text_of t) table) ts in
    let two : List ℕ = records (with_token (text_of u) texts) us in
    let behind : one ≡ two = sym (past-record table t one) ∙ ap (λ (l : List ℕ). drop (first_size l) l) e ∙ past-record texts u two in
    ap suc (same_count (with_token (text_of t) table) (with_token (text_of u) texts) ts us behind)

-- two lists are the same exactly where their bytes and their tables are
pub same_stored : (a b : List TokenTree) → ((records [] a ≡ records [] b) × (table_after [] a ≡ table_after [] b)) ↔ (a ≡ b)
same_stored a b = (
  λ parts.
      sym (tokens_back a) ∙ ap (λ n. tokens_in n (table_after [] a) (records [] a)) (same_count [] [] a b parts.0)
      ∙ ap (λ l. tokens_in (length b) l (records [] a)) parts.1 ∙ ap (tokens_in (length b) (table_after [] b)) parts.0
      ∙ tokens_back b,
  λ e. (ap (records []) e, ap (table_after []) e),
)
