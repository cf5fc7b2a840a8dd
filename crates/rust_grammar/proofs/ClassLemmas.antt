-- A token does not fit where the class of the first tree is not one of its classes.
use Rattle.std.proofs.Common.{◌≡◌, ℕ, suc, zero, ◌+◌, ◌*◌, ◌%◌, ◌≤◌, min, Bool, true, false, not, ◌&&◌, ◌||◌, List, [], ◌∷◌, length, get_or, refl, sym, ap, subst, arith, Option, Some, None}
use Rattle.std.specs.Prelude.{nat_eq}
use Rattle.std.specs.Int.{bit_at}
use Rattle.std.proofs.lemmas.Bool.{and_parts, ltb-true, eqb-true}
use Rattle.std.proofs.lemmas.Slice.Eq.{bytes_eq-Decides}
use Rattle.tt_data.specs.Delimiters.{same_kind}
use Rattle.tt_data.specs.Forest.{Forest, empty, leaf, group, joined}
use Rattle.tt_data.specs.declared.delimiter.DelimiterKind.{DelimiterKind}
use Rattle.tt_data.specs.declared.delimiter.DelimiterKind.TheVariants.{Parenthesis, Brace, Bracket, Invisible}
use Rattle.tt_data.specs.declared.edition.Edition.{Edition}
use Rattle.tt_data.specs.declared.leaf.Ident.{Ident}
use Rattle.tt_data.specs.declared.leaf.Leaf.TheVariants as as_leaf
use Rattle.tt_data.specs.declared.leaf.LitKind.{LitKind}
use Rattle.tt_data.specs.declared.leaf.Punct.{Punct}
use Rattle.tt.proofs.GluedLemmas.{punct_trees, glued-in_front, glued-one}
use Rattle.tt.specs.FirstTrees.{first_ident}
use Rattle.tt.specs.Glued.{is_alone, characters, glued_at}
use Rattle.small_grammar.specs.Text.{◌>>=◌, ◌>>◌, is_raw_name, has_text, same_text}
use Rattle.small_grammar.specs.Tokens.{ident_where, literal_where, group_where, puncts_in_turn, operator_of, operator_where, passing, same_operator, spells, is_one_of_words, is_restriction, is_place}
use Rattle.small_grammar.specs.Tokens as small
use Rattle.small_grammar.specs.declared.units.Operator.{Operator}
use Rattle.small_grammar.specs.declared.units.Operator.TheVariants.{One, Two, Three}
use Rattle.rust_grammar.specs.Classes.{ident_class, sign_class, group_class, class_of}
use Rattle.rust_grammar.specs.Starts.{has_class, has_classes, has_signs, has_token}
use Rattle.rust_grammar.specs.Table.{set_texts, word_text, token_of}
use Rattle.rust_grammar.specs.Tokens.{token_at, is_const_bracket, is_lone_const}
use Rattle.rust_grammar.specs.declared.node.Token.TheVariants as as_token
use Rattle.rust_grammar.specs.declared.node.Token as coded
use Rattle.rust_grammar.specs.declared.table.TheConstants.{IDENTS}

-- what a failed test gives
blocked : (b : Bool) (o : Option Forest) → (b ≡ true → ⊥) → (b >> o) ≡ None
blocked true o never = absurd (never refl)
blocked false o never = refl

kinds_same : (k l : DelimiterKind) → same_kind k l ≡ true → k ≡ l
kinds_same Parenthesis Parenthesis e = refl
kinds_same Parenthesis Brace e = absurd cc
kinds_same Parenthesis Bracket e = absurd cc
kinds_same Parenthesis Invisible e = absurd cc
kinds_same Brace Parenthesis e = absurd cc
kinds_same Brace Brace e = refl
kinds_same Brace Bracket e = absurd cc
kinds_same Brace Invisible e = absurd cc
kinds_same Bracket Parenthesis e = absurd cc
kinds_same Bracket Brace e = absurd cc
kinds_same Bracket Bracket e = refl
kinds_same Bracket Invisible e = absurd cc
kinds_same Invisible Parenthesis e = absurd cc
kinds_same Invisible Brace e = absurd cc
kinds_same Invisible Bracket e = absurd cc
kinds_same Invisible Invisible e = refl

-- the first character of an operator
abbrev first_of : Operator → ℕ
first_of (One a) = a
first_of (Two a b) = a
first_of (Three a b c) = a

module _ (m : ℕ) where
  clash : (c : ℕ) → has_class m c ≡ true → bit_at m c ≡ 0 → ⊥
  clash c has none = (let h = ltb-true 0 (bit_at m c) has in omega (arith, h, none))

  member : (xs : List ℕ) (k d : ℕ) → has_class m d ≡ true → has_classes m xs ≡ true → has_class m (get_or xs k d) ≡ true
  member [] k d has all = has
  member (x ∷ xs) zero d has all = (and_parts (has_class m x) (has_classes m xs) all).0
  member (x ∷ xs) (suc k) d has all = member xs k d has (and_parts (has_class m x) (has_classes m xs) all).1

  any_ident : (text : List ℕ) → (has_class m 6 && has_classes m IDENTS) ≡ true → has_class m (ident_class text) ≡ true
  any_ident [] has = (and_parts (has_class m 6) (has_classes m IDENTS) has).0
  any_ident (b ∷ bs) has =
      let parts = and_parts (has_class m 6) (has_classes m IDENTS) has in
      member IDENTS (min (length bs) 15 * 32 + b % 32) 6 parts.0 parts.1

  ident-out : (passes : Ident → Bool) → ((i : Ident) → passes i ≡ true → has_class m (ident_class i.sym) ≡ true) → (f : Forest) → bit_at m (class_of f) ≡ 0 → ident_where passes f ≡ None
  ident-out passes only empty out = refl
  ident-out passes only (leaf (as_leaf.Ident i) rest) out = blocked (passes i) (Some rest) (λ holds. clash (ident_class i.sym) (only i holds) out)
  ident-out passes only (leaf (as_leaf.Punct p) rest) out = refl
  ident-out passes only (leaf (as_leaf.Literal l) rest) out = refl
  ident-out passes only (group d inner rest) out = refl

  literal-out : (passes : LitKind → Bool) → has_class m 1 ≡ true → (f : Forest) → bit_at m (class_of f) ≡ 0 → literal_where passes f ≡ None
  literal-out passes has empty out = refl
  literal-out passes has (leaf (as_leaf.Ident i) rest) out = refl
  literal-out passes has (leaf (as_leaf.Punct p) rest) out = refl
  literal-out passes has (leaf (as_leaf.Literal l) rest) out = absurd (clash 1 has out)
  literal-out passes has (group d inner rest) out = refl

  group-out : (passes : DelimiterKind → Forest → Bool) → ((k : DelimiterKind) (inner : Forest) → passes k inner ≡ true → has_class m (group_class k) ≡ true) → (f : Forest) →
      bit_at m (class_of f) ≡ 0 → group_where passes f ≡ None
  group-out passes only empty out = refl
  group-out passes only (leaf (as_leaf.Ident i) rest) out = refl
  group-out passes only (leaf (as_leaf.Punct p) rest) out = refl
  group-out passes only (leaf (as_leaf.Literal l) rest) out = refl
  group-out passes only (group d inner rest) out = blocked (passes d.kind inner) (Some rest) (λ holds. clash (group_class d.kind) (only d.kind inner holds) out)

  -- a sign that has this character
  as_sign : (a c : ℕ) → nat_eq a c ≡ true → has_class m (sign_class c) ≡ true → has_class m (sign_class a) ≡ true
  as_sign a c same has = subst (λ x. has_class m (sign_class x) ≡ true) (sym (eqb-true a c same)) has

  puncts-out : (c : ℕ) (cs : List ℕ) → has_class m (sign_class c) ≡ true → (f : Forest) → bit_at m (class_of f) ≡ 0 → puncts_in_turn (c ∷ cs) f ≡ None
  puncts-out c [] has empty out = refl
  puncts-out c [] has (leaf (as_leaf.Ident i) rest) out = refl
  puncts-out c [] has (leaf (as_leaf.Punct p) rest) out = blocked (nat_eq p.char c) (Some rest) (λ holds. clash (sign_class p.char) (as_sign p.char c holds has) out)
  puncts-out c [] has (leaf (as_leaf.Literal l) rest) out = refl
  puncts-out c [] has (group d inner rest) out = refl
  puncts-out c (e ∷ cs) has empty out = refl
  puncts-out c (e ∷ cs) has (leaf (as_leaf.Ident i) rest) out = refl
  puncts-out c (e ∷ cs) has (leaf (as_leaf.Punct p) rest) out =
      blocked (nat_eq p.char c && not (is_alone p.spacing)) (puncts_in_turn (e ∷ cs) rest)
      (λ holds. clash (sign_class p.char) (as_sign p.char c (and_parts (nat_eq p.char c) (not (is_alone p.spacing)) holds).0 has) out)
  puncts-out c (e ∷ cs) has (leaf (as_leaf.Literal l) rest) out = refl
  puncts-out c (e ∷ cs) has (group d inner rest) out = refl

  -- ---- operators

  module _ (passes : Operator → Bool) (only : (op : Operator) → passes op ≡ true → has_class m (sign_class (first_of op)) ≡ true) where
    head_blocked : (op : Operator) (c : ℕ) (g : Forest) → first_of op ≡ c → bit_at m (sign_class c) ≡ 0 → (passes op >> Some g) ≡ None
    head_blocked op c g same out =
        blocked (passes op) (Some g) (λ holds. clash (sign_class c) (subst (λ x. has_class m (sign_class x) ≡ true) same (only op holds)) out)

    glued-out : (p : Punct) (rest g : Forest) (ps : List Punct) → 1 ≤ length ps → leaf (as_leaf.Punct p) rest ≡ joined (punct_trees ps) g → bit_at m (sign_class p.char) ≡ 0 →
        passing passes (operator_of (characters ps) >>= λ op. Some (op, g)) ≡ None
    glued-out p rest g [] one e out = absurd (omega (arith, one))
    glued-out p rest g (q ∷ []) one e out = head_blocked (One q.char) p.char g (let same : p ≡ q = cc in ap (λ x. x.char) (sym same)) out
    glued-out p rest g (q ∷ r ∷ []) one e out = head_blocked (Two q.char r.char) p.char g (let same : p ≡ q = cc in ap (λ x. x.char) (sym same)) out
    glued-out p rest g (q ∷ r ∷ s ∷ []) one e out = head_blocked (Three q.char r.char s.char) p.char g (let same : p ≡ q = cc in ap (λ x. x.char) (sym same)) out
    glued-out p rest g (q ∷ r ∷ s ∷ t ∷ ps) one e out = refl

    operator-out : (f : Forest) → bit_at m (class_of f) ≡ 0 → operator_where passes f ≡ None
    operator-out empty out = refl
    operator-out (leaf (as_leaf.Ident i) rest) out = refl
    operator-out (leaf (as_leaf.Punct p) rest) out =
        glued-out p rest (glued_at p rest).1 (glued_at p rest).0 (glued-one p rest) (sym (glued-in_front p rest)) out
    operator-out (leaf (as_leaf.Literal l) rest) out = refl
    operator-out (group d inner rest) out = refl

  same-first : (o op : Operator) → same_operator o op ≡ true → has_class m (sign_class (first_of o)) ≡ true → has_class m (sign_class (first_of op)) ≡ true
  same-first (One a) (One b) same has = subst (λ x. has_class m (sign_class x) ≡ true) (eqb-true a b same) has
  same-first (One a) (Two b d) same has = absurd cc
  same-first (One a) (Three b d f) same has = absurd cc
  same-first (Two a c) (One b) same has = absurd cc
  same-first (Two a c) (Two b d) same has = subst (λ x. has_class m (sign_class x) ≡ true) (eqb-true a b (and_parts (nat_eq a b) (nat_eq c d) same).0) has
  same-first (Two a c) (Three b d f) same has = absurd cc
  same-first (Three a c e) (One b) same has = absurd cc
  same-first (Three a c e) (Two b d) same has = absurd cc
  same-first (Three a c e) (Three b d f) same has =
      subst (λ x. has_class m (sign_class x) ≡ true) (eqb-true a b (and_parts (nat_eq a b) (nat_eq c d && nat_eq e f) same).0) has

  spelled : (w : List ℕ) (ws : List (List ℕ)) (op : Operator) → has_signs m (w ∷ ws) ≡ true → spells w op ≡ true → has_class m (sign_class (first_of op)) ≡ true
  spelled [] ws op has holds = absurd cc
  spelled (a ∷ []) ws op has holds = same-first (One a) op holds (and_parts (has_class m (sign_class a)) (has_signs m ws) has).0
  spelled (a ∷ b ∷ []) ws op has holds = same-first (Two a b) op holds (and_parts (has_class m (sign_class a)) (has_signs m ws) has).0
  spelled (a ∷ b ∷ c ∷ []) ws op has holds = same-first (Three a b c) op holds (and_parts (has_class m (sign_class a)) (has_signs m ws) has).0
  spelled (a ∷ b ∷ c ∷ d ∷ w) ws op has holds = absurd cc

  signs-behind : (w : List ℕ) (ws : List (List ℕ)) → has_signs m (w ∷ ws) ≡ true → has_signs m ws ≡ true
  signs-behind [] ws has = has
  signs-behind (c ∷ cs) ws has = (and_parts (has_class m (sign_class c)) (has_signs m ws) has).1

  either : (a b : Bool) {P : Type 0} → (a || b) ≡ true → (a ≡ true → P) → (b ≡ true → P) → P
  either true b e p q = p refl
  either false b e p q = q e

  one_of-only : (texts : List (List ℕ)) (op : Operator) → has_signs m texts ≡ true → is_one_of_words texts op ≡ true → has_class m (sign_class (first_of op)) ≡ true
  one_of-only [] op has holds = absurd cc
  one_of-only (w ∷ []) op has holds = spelled w [] op has holds
  one_of-only (w ∷ v ∷ ws) op has holds =
      either (spells w op) (is_one_of_words (v ∷ ws) op) holds (λ here. spelled w (v ∷ ws) op has here)
      (λ later. one_of-only (v ∷ ws) op (signs-behind w (v ∷ ws) has) later)

  -- ---- tokens

  word-only : (text : List ℕ) (i : Ident) → has_class m (ident_class text) ≡ true → has_text text i ≡ true → has_class m (ident_class i.sym) ≡ true
  word-only text i has holds =
      let same : i.sym ≡ text = (bytes_eq-Decides i.sym text).0 (and_parts (not (is_raw_name i)) (same_text i.sym text) holds).1 in
      subst (λ x. has_class m (ident_class x) ≡ true) (sym same) has

  kind-only : (k l : DelimiterKind) → k ≡ l → has_class m (group_class l) ≡ true → has_class m (group_class k) ≡ true
  kind-only k l same has = subst (λ x. has_class m (group_class x) ≡ true) (sym same) has

  -- the classes of a token's first trees are in the set, and that of this tree is not
  pub token-out : (ed : Edition) (t : coded.Token) (f : Forest) → has_token m t ≡ true → bit_at m (class_of f) ≡ 0 → token_at ed (token_of t) f ≡ None
  unfolding token_at small.token_at
  token-out ed (as_token.Word k) f has out = ident-out (has_text (word_text k)) (λ i holds. word-only (word_text k) i has holds) f out
  token-out ed as_token.Name f has out = ident-out _ (λ i holds. any_ident i.sym has) f out
  token-out ed as_token.Identifier f has out = ident-out (λ i. true) (λ i holds. any_ident i.sym has) f out
  token-out ed as_token.Literal f has out = literal-out _ has f out
  token-out ed as_token.Number f has out = literal-out _ has f out
  token-out ed (as_token.Group kind) f has out = group-out (λ k inner. same_kind kind k) (λ k inner holds. kind-only k kind (sym (kinds_same kind k holds)) has) f out
  token-out ed as_token.Restriction f has out =
      group-out is_restriction (λ k inner holds. kind-only k Parenthesis (kinds_same k Parenthesis (and_parts (same_kind k Parenthesis) (is_place (first_ident inner)) holds).0) has) f out
  token-out ed as_token.ConstBracket f has out =
      group-out is_const_bracket (λ k inner holds. kind-only k Bracket (kinds_same k Bracket (and_parts (same_kind k Bracket) (is_lone_const (first_ident inner)) holds).0) has) f out
  token-out ed (as_token.Punct c) f has out = puncts-out c [] has f out
  token-out ed (as_token.TwoPuncts c d) f has out = puncts-out c (d ∷ []) has f out
  token-out ed (as_token.OneOf k) f has out = operator-out (is_one_of_words (set_texts k)) (λ op holds. one_of-only (set_texts k) op has holds) f out
